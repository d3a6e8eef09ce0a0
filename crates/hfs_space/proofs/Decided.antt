-- What the tests on extents say.
use Rattle.std.proofs.Common.{◌≡◌, ℕ, zero, suc, ◌+◌, ◌*◌, ◌<◌, ◌≤◌, ◌⊎◌, Bool, true, false, cond, not, List, [], ◌∷◌, refl, sym, inl, inr, arith}
use Rattle.std.specs.Bool.{Decides}
use Rattle.std.specs.List.{All}
use Rattle.std.proofs.lemmas.Bool.{true≢false}
use Rattle.std.proofs.lemmas.Bool.Decides.{Decides-and, Decides-or, Decides-like, Decides-eqb, Decides-ltb}
use Rattle.std.proofs.lemmas.List.Elements.{All-head, All-tail}
use Rattle.hfs_fields.specs.declared.mdb.Mdb.{Mdb}
use Rattle.hfs_fields.specs.declared.extent.Extent.{Extent}
use Rattle.hfs_fields.specs.declared.key.CatKey.{CatKey}
use Rattle.hfs_fields.specs.declared.key.ExtKey.{ExtKey}
use Rattle.hfs_fields.specs.Each.{Each}
use Rattle.hfs_fields.proofs.ElementLemmas.{each-at}
use Rattle.hfs_fields.proofs.ScanLemmas.{all_decides}
use Rattle.hfs_space.specs.Extents.{Overflow, block_total, record_extents, IsExtentWithin, AreExtentsWithin}
use Rattle.hfs_space.specs.Owners.{Fork, forks_of, extents_in, is_bad_blocks, goes_on_with}
use Rattle.hfs_space.specs.Sound.{IsTreeFile, IsForkSound, IsOverflowSound}
use Rattle.hfs_space.specs.Faults.{is_extent_within, are_extents_within, is_tree_file, is_fork_right, are_forks_right, is_overflow_right}
use Rattle.hfs_fields.proofs.DecisionLemmas.{itself, Decides-leb}

Decides-if : (b x y : Bool) (P Q : Type 0) → Decides x P → Decides y Q → Decides (cond b x y) ((b ≡ true → P) × (not b ≡ true → Q))
Decides-if true x y P Q p q = (λ e. (λ _. p.0 e, λ no. absurd (true≢false (sym no))), λ h. p.1 (h.0 refl))
Decides-if false x y P Q p q = (λ e. (λ no. absurd (true≢false (sym no)), λ _. q.0 e), λ h. q.1 (h.1 refl))

-- ---- extents in the volume

none_or_within : (count end n : ℕ) → (0 < count → end ≤ n) → (count ≡ 0) ⊎ (end ≤ n)
none_or_within zero end n h = inl refl
none_or_within (suc count) end n h = inr (h (omega arith))

within_or_none : (count end n : ℕ) → (count ≡ 0) ⊎ (end ≤ n) → 0 < count → end ≤ n
within_or_none count end n h some = elim h as (λ _. end ≤ n) [
  | inl none ↦ absurd (omega (arith, none))
  | inr le ↦ le
]

extent_decides : (n : ℕ) (e : Extent) → Decides (is_extent_within n e) (IsExtentWithin n e)
extent_decides n e = Decides-like _ (within_or_none e.count (e.first + e.count) n) (none_or_within e.count (e.first + e.count) n)
    (Decides-or _ _ (Decides-eqb e.count 0) (Decides-leb (e.first + e.count) n))

pub all_from_each : {X : Type 0} (P : X → Type 0) (xs : List X) → Each P xs → All P xs
all_from_each P xs h = λ k d lt. each-at P xs k d h lt

pub each_from_all : {X : Type 0} (P : X → Type 0) (xs : List X) → All P xs → Each P xs
each_from_all P [] h = tt
each_from_all P (x ∷ xs) h = (All-head P x xs h, each_from_all P xs (All-tail P x xs h))

pub within_decides : (n : ℕ) (extents : List Extent) → Decides (are_extents_within n extents) (AreExtentsWithin n extents)
within_decides n extents = Decides-like _ (all_from_each (IsExtentWithin n) extents) (each_from_all (IsExtentWithin n) extents)
    (all_decides (is_extent_within n) (IsExtentWithin n) (extent_decides n) extents)

-- ---- files, forks and records

pub tree_file_decides : (mdb : Mdb) (extents : List Extent) (size : ℕ) → Decides (is_tree_file mdb extents size) (IsTreeFile mdb extents size)
unfolding is_tree_file
tree_file_decides mdb extents size = Decides-like _ (λ h. record { within = h.0.0; room = h.0.1; node = h.1 }) (λ (h : IsTreeFile mdb extents size). ((h.within, h.room), h.node))
    (Decides-and _ _
    (Decides-and _ _ (within_decides mdb.allocation_blocks extents) (Decides-leb size (block_total extents * mdb.allocation_block_size)))
    (Decides-leb 512 size))

pub fork_decides : (mdb : Mdb) (overflow : Overflow) (f : Fork) → Decides (is_fork_right mdb overflow f) (IsForkSound mdb overflow f)
unfolding is_fork_right
fork_decides mdb overflow f = Decides-like _ (λ h. record { within = h.0; room = h.1 }) (λ (h : IsForkSound mdb overflow f). (h.within, h.room))
    (Decides-and _ _ (within_decides mdb.allocation_blocks (extents_in overflow f)) (Decides-leb f.len (block_total (extents_in overflow f) * mdb.allocation_block_size)))

pub forks_decide : (mdb : Mdb) (overflow : Overflow) (r : CatKey × List ℕ) → Decides (are_forks_right mdb overflow r) (Each (IsForkSound mdb overflow) (forks_of r))
forks_decide mdb overflow r = all_decides (is_fork_right mdb overflow) (IsForkSound mdb overflow) (fork_decides mdb overflow) (forks_of r)

pub overflow_decides : (mdb : Mdb) (overflow : Overflow) (forks : List Fork) (r : ExtKey × List ℕ) → Decides (is_overflow_right mdb overflow forks r) (IsOverflowSound mdb overflow forks r)
unfolding is_overflow_right
overflow_decides mdb overflow forks r = Decides-like _ (λ h. record { some = h.0; bad = h.1.0; used = h.1.1 }) (λ (h : IsOverflowSound mdb overflow forks r). (h.some, (h.bad, h.used)))
    (Decides-and _ _ (Decides-ltb 0 (block_total (record_extents r.1)))
    (Decides-if (is_bad_blocks r) _ _ _ _ (within_decides mdb.allocation_blocks (record_extents r.1)) (itself (goes_on_with overflow forks r))))
