-- The blocks of a file that are there.
use Rattle.std.proofs.Common.{◌≡◌, ℕ, suc, zero, ◌+◌, ◌-◌, ◌<◌, ◌≤◌, Bool, true, false, ◌&&◌, not, ◌==◌, if◌then◌else◌, List, [], ◌∷◌, ◌++◌, map, length, drop, Option, Some, None, slice_index_or, refl, sym, ap, ◌∙◌, arith, append_assoc, inl, inr}
use Rattle.std.specs.List.{range_with_len}
use Rattle.std.proofs.lemmas.List.{append-nil, get_or_past, drop_all}
use Rattle.std.proofs.lemmas.List.FromFn.{get_or-map-range_with_len, length-map-range_with_len}
use Rattle.std.proofs.lemmas.Bool.{and_parts, cases_lt}
use Rattle.std.proofs.lemmas.Bool.Decides.{nat_tests}
use Rattle.hfs_fields.specs.declared.mdb.Mdb.{Mdb}
use Rattle.hfs_fields.specs.declared.extent.Extent.{Extent}
use Rattle.hfs_space.specs.Extents.{extent_blocks}
use Rattle.hfs_remains.specs.Allocation.{is_there}
use Rattle.hfs_remains.specs.TreeFiles.{FileBlocks, first_there, mark_of, TakesBlock, MarkThere, AreThere}

-- ---- marks

none-beyond : (total : ℕ) (mdb : Mdb) (b : ℕ) → mdb.allocation_blocks ≤ b → is_there total mdb b ≡ false
unfolding is_there
none-beyond total mdb b beyond = grind (arith, nat_tests)

pub marks-tell : (total : ℕ) (mdb : Mdb) (marks : List Bool) (n : ℕ) → marks ≡ map (is_there total mdb) (range_with_len 0 n) → mdb.allocation_blocks ≤ n → MarkThere total mdb marks
marks-tell total mdb marks n is all b =
    elim (cases_lt b n) [
      | inl lt ↦ ap (λ (l : List Bool). mark_of l b) is ∙ get_or-map-range_with_len (is_there total mdb) 0 n b b false lt (omega arith)
      | inr ge ↦
          ap (λ (l : List Bool). mark_of l b) is
          ∙ get_or_past (map (is_there total mdb) (range_with_len 0 n)) b false (omega (arith, length-map-range_with_len (is_there total mdb) 0 n))
          ∙ sym (none-beyond total mdb b (omega arith))
    ]

pub few-marks : (total : ℕ) (mdb : Mdb) (marks : List Bool) (n : ℕ) → marks ≡ map (is_there total mdb) (range_with_len 0 n) → length marks ≡ n
few-marks total mdb marks n is = ap (λ (l : List Bool). length l) is ∙ length-map-range_with_len (is_there total mdb) 0 n

-- ---- taking blocks

range-front : (first count i b : ℕ) (behind : List ℕ) → i < count → b ≡ first + i
    → b ∷ (range_with_len (first + (i + 1)) (count - (i + 1)) ++ behind) ≡ range_with_len (first + i) (count - i) ++ behind
range-front first count i b behind within is =
    let next : first + (i + 1) ≡ first + i + 1 = omega arith in
    let left : suc (count - (i + 1)) ≡ count - i = omega arith in
    (λ t. is t ∷ (range_with_len (next t) (count - (i + 1)) ++ behind)) ∙ ap (λ (n : ℕ). range_with_len (first + i) n ++ behind) left

-- one more block of a range
pub step-takes : (old file : FileBlocks) (old_marks marks new_marks : List Bool) (taken : Option ℕ) (first count i b : ℕ) (behind : List ℕ)
    → i < count → b ≡ first + i
    → TakesBlock b marks new_marks taken
    → ((behind : List ℕ) → file ++ first_there (mark_of marks) (range_with_len (first + i) (count - i) ++ behind) ≡ old ++ first_there (mark_of old_marks) (range_with_len first count ++ behind))
    → (file ++ taken ∷ []) ++ first_there (mark_of new_marks) (range_with_len (first + (i + 1)) (count - (i + 1)) ++ behind) ≡ old ++ first_there (mark_of old_marks) (range_with_len first count ++ behind)
step-takes old file old_marks marks new_marks taken first count i b behind within is takes before =
    append_assoc file (taken ∷ []) (first_there (mark_of new_marks) (range_with_len (first + (i + 1)) (count - (i + 1)) ++ behind))
    ∙ ap (λ (l : FileBlocks). file ++ l) (takes (range_with_len (first + (i + 1)) (count - (i + 1)) ++ behind))
    ∙ ap (λ (l : List ℕ). file ++ first_there (mark_of marks) l) (range-front first count i b behind within is)
    ∙ before behind

-- ---- each is there

cons-there : (there : ℕ → Bool) (c : ℕ) (taken left : FileBlocks)
    → ((i b : ℕ) → slice_index_or taken i None ≡ Some b → there b ≡ true)
    → ((i b : ℕ) → slice_index_or left i None ≡ Some b → there b ≡ true)
    → (t : Bool) → there c ≡ t → (i b : ℕ) → slice_index_or (if t then Some c ∷ taken else None ∷ left) i None ≡ Some b → there b ≡ true
cons-there there c taken left of_taken of_left true is zero b e = let same : c ≡ b = cc in ap there (sym same) ∙ is
cons-there there c taken left of_taken of_left true is (suc i) b e = of_taken i b e
cons-there there c taken left of_taken of_left false is zero b e = cc
cons-there there c taken left of_taken of_left false is (suc i) b e = of_left i b e

pub there-first : (there : ℕ → Bool) (bs : List ℕ) (i b : ℕ) → slice_index_or (first_there there bs) i None ≡ Some b → there b ≡ true
there-first there [] i b e = cc
there-first there (c ∷ bs) i b e =
    cons-there there c (first_there (λ k. there k && not (k == c)) bs) (first_there there bs)
    (λ i b e. (and_parts (there b) (not (b == c)) (there-first (λ k. there k && not (k == c)) bs i b e)).0) (there-first there bs)
    (there c) refl i b e

pub files-there : (total : ℕ) (mdb : Mdb) (extents : List Extent) (marks : List Bool) (file : FileBlocks) (n : ℕ) → length extents ≤ n
    → file ++ first_there (mark_of marks) (extent_blocks (drop n extents)) ≡ first_there (is_there total mdb) (extent_blocks extents)
    → AreThere total mdb file
files-there total mdb extents marks file n all is =
    let ended : first_there (mark_of marks) (extent_blocks (drop n extents)) ≡ [] = ap (λ (l : List Extent). first_there (mark_of marks) (extent_blocks l)) (drop_all n extents all) in
    let whole : file ≡ first_there (is_there total mdb) (extent_blocks extents) = sym (append-nil file) ∙ ap (λ (l : FileBlocks). file ++ l) (sym ended) ∙ is in
    λ i b e. there-first (is_there total mdb) (extent_blocks extents) i b (ap (λ (l : FileBlocks). slice_index_or l i None) (sym whole) ∙ e)
