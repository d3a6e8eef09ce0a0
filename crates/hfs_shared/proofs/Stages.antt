-- What the entries of a journal made of an image, with one entry more, and where none of them writes a fork.
use Rattle.std.proofs.Common.{◌≡◌, ◌≢◌, ℕ, suc, ◌&&◌, Bool, true, false, ℤ, pos, List, [], ◌∷◌, ◌++◌, append-nil, refl, sym, ap, ◌∙◌, subst, arith}
use Rattle.std.specs.Ordering.{int_eq}
use Rattle.hfs_model.specs.declared.journal.Entry.{Entry}
use Rattle.hfs_model.specs.Step.{is_writing}
use Rattle.hfs_shared.specs.Stages.{Stage, HasMade, HaveMade, writes_fork, NoneWrites}

pub stages_more : (journal : List Entry) (e : Entry) (old middle new : Stage) → HaveMade old journal middle → HasMade e middle new → HaveMade old (journal ++ e ∷ []) new
stages_more [] e old middle new made one =
    let same : old ≡ middle = sym made in
    (new, subst (λ (s : Stage). HasMade e s new) made one, refl)
stages_more (x ∷ xs) e old middle new made one = (made.0, made.1, stages_more xs e made.0 middle new made.2 one)

apart : (z : ℤ) → int_eq z (pos 0) ≡ false → z ≢ pos 0
apart z other same = let zero : int_eq (pos 0) (pos 0) ≡ false = ap (λ (x : ℤ). int_eq x (pos 0)) (sym same) ∙ other in absurd (cc zero)

-- an entry that writes no fork leaves the blocks that were written
one_leaves : (e : Entry) (old new : Stage) → writes_fork e ≡ false → HasMade e old new → new.written ≡ old.written
one_leaves e old new other m = elim (is_writing e.call) as (λ (b : Bool). is_writing e.call ≡ b → new.written ≡ old.written) [
  | true ↦ λ writes.
      let code : int_eq e.code (pos 0) ≡ false = ap (λ (b : Bool). b && int_eq e.code (pos 0)) (sym writes) ∙ other in
      ap (λ (s : Stage). s.written) (m.refused (apart e.code code))
  | false ↦ λ reads.
      ap (λ (s : Stage). s.written) (sym m.ends)
      ∙ m.wrote.joined
      ∙ ap (λ (l : List ℕ). m.before.written ++ l) (m.wrote.none reads)
      ∙ append-nil m.before.written
      ∙ ap (λ (s : Stage). s.written) m.begins
] refl

pub none_written : (journal : List Entry) (old new : Stage) → NoneWrites journal → HaveMade old journal new → new.written ≡ old.written
none_written [] old new none made = ap (λ (s : Stage). s.written) made
none_written (e ∷ es) old new none made =
    none_written es made.0 new (λ k d below. none (suc k) d (omega (arith, below))) made.2 ∙ one_leaves e old made.0 (none 0 e (omega arith)) made.1
