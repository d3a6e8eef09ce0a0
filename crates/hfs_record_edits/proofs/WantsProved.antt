-- The laws of this crate.
use Rattle.std.proofs.Common.{◌≡◌, ℕ, ◌<◌, ◌≤◌, Bool, true, false, cond, ltb, refl, subst, arith, Some, None}
use Rattle.std.specs.Prelude.{IfSome, Option}
use Rattle.hfs_model.specs.Forks.{blocks}
use Rattle.std.proofs.lemmas.Bool.{ltb-true, ltb-false}
use Rattle.std.specs.Int.{div_ceil}
use Rattle.hfs_record_edits.proofs.Needs.{need-none}
use Rattle.hfs_record_edits.specs.Need.{extents_need}
use Rattle.hfs_model.specs.declared.journal.Want.{Want}
use Rattle.hfs_model.specs.declared.journal.Want.TheVariants as want
use Rattle.hfs_record_edits.specs.declared.room.Supply.{Supply}
use Rattle.hfs_record_edits.specs.declared.room.Growth.{Growth}
use Rattle.hfs_record_edits.specs.Wants.{want_of, IsWantOfNodes, IsForkWant, IsGrowthOf, ForkWantsAreTold, IsSetEofWant, SetEofWantsAreTold, IsWriteForkWant, WriteForkWantsAreTold, length_written}

nothing-below : (free k : ℕ) → free < k → k ≡ 0 → ⊥
nothing-below free k less none = omega arith

no-records : (n d r free : ℕ) → free < extents_need n d r → n ≡ 0 → ⊥
no-records n d r free less none = nothing-below free (extents_need 0 d r) (subst (λ (k : ℕ). free < extents_need k d r) none less) (need-none d r)

pub some-records : (n d r free : ℕ) → free < extents_need n d r → 1 ≤ n
some-records n d r free less = elim (ltb 0 n) as (λ (b : Bool). ltb 0 n ≡ b → 1 ≤ n) [
  | true ↦ λ e. let some : 0 < n = ltb-true 0 n e in omega arith
  | false ↦ λ e. let most : n ≤ 0 = ltb-false 0 n e in absurd (no-records n d r free less (omega arith))
] refl

pub fork_wants_are_told : ForkWantsAreTold
fork_wants_are_told most s g fits = elim (ltb s.blocks g.blocks) as (λ (b : Bool). ltb s.blocks g.blocks ≡ b → IfSome (cond b (Some (want.Room s.blocks g.blocks)) (cond (ltb s.nodes (extents_need g.records s.depth s.records)) (Some (want.ExtentNodes s.nodes s.depth)) None)) (IsForkWant most)) [
  | true ↦ λ few. (ltb-true _ _ few, fits.blocks)
  | false ↦ λ room. elim (ltb s.nodes (extents_need g.records s.depth s.records)) as (λ (b : Bool). ltb s.nodes (extents_need g.records s.depth s.records) ≡ b → IfSome (cond b (Some (want.ExtentNodes s.nodes s.depth)) None) (IsForkWant most)) [
    | true ↦ λ few.
        let wanting = ltb-true _ _ few in
        (g.records, s.records, record { some = some-records g.records s.depth s.records s.nodes wanting; few = fits.records; empty = fits.empty; wanting = wanting })
    | false ↦ λ enough. tt
  ] refl
] refl

-- one fact more of what is there
with_fact : {A : Type 0} (o : Option A) (F : Type 0) (P : A → Type 0) → F → IfSome o P → IfSome o (λ x. F × P x)
with_fact None F P f p = tt
with_fact (Some x) F P f p = (f, p)

pub set_eof_wants_are_told : SetEofWantsAreTold
set_eof_wants_are_told size v dir name fork length now s g done fits = with_fact (want_of s g) _ (IsForkWant (blocks size length)) done (fork_wants_are_told (blocks size length) s g fits)

pub write_fork_wants_are_told : WriteForkWantsAreTold
write_fork_wants_are_told size v dir name fork offset bytes now s g done fits =
    let most = blocks size (length_written v dir name fork offset bytes) in
    with_fact (want_of s g) _ (IsForkWant most) done (fork_wants_are_told most s g fits)
