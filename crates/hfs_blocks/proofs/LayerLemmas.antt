-- Lemmas about the definitions of specs/Layers.antt.
use Rattle.std.specs.Prelude.{◌≡◌, ℕ, ◌<◌, Bool, true, false, List, [], length, Some, None, nat_eq, if◌then◌else◌, unwrap_or, refl}
use Rattle.std.proofs.Common.{sym, ap, ◌∙◌, subst, cond, eqb-true}
use Rattle.hfs_blocks.specs.Layers.{Changes, changes, AreWithin, with_change, over}

-- the blocks, with b as the one of number n
abbrev pub with_block : (ℕ → List ℕ) → ℕ → List ℕ → ℕ → List ℕ
with_block blocks n b k = if nat_eq n k then b else blocks k

-- a block that is put into a patch whose blocks are within
pub AreWithin-with_change : (changes : Changes) (n : ℕ) (b : List ℕ) (count : ℕ) → n < count → length b ≡ 512 → AreWithin changes count → AreWithin (with_change changes n b) count
AreWithin-with_change changes n b count low whole within k c found = by (nat_eq n k) refl
  where
    by : (t : Bool) → nat_eq n k ≡ t → (k < count) × (length c ≡ 512)
    by true same =
        let e : Some b ≡ Some c = sym (ap (λ t. cond t (Some b) (changes k)) same) ∙ found in
        let bc : b ≡ c = cc in
        (subst (λ x. x < count) (eqb-true n k same) low, subst (λ (x : List ℕ). length x ≡ 512) bc whole)
    by false other = within k c (sym (ap (λ t. cond t (Some b) (changes k)) other) ∙ found)

-- a patch without blocks has none that isn't within
pub AreWithin-nothing : (count : ℕ) → AreWithin (changes []) count
AreWithin-nothing count n b found = absurd (none_some found)
  where
    none_some : None ≡ Some b → ⊥
    none_some e = cc

-- a block that is put into a patch is put over what the patch was laid over
pub over-with_change : (changes : Changes) (below : ℕ → List ℕ) (n : ℕ) (b : List ℕ) → over (with_change changes n b) below ≡ with_block (over changes below) n b
over-with_change changes below n b i k = by (nat_eq n k) i
  where
    by : (t : Bool) → unwrap_or (if t then Some b else changes k) (below k) ≡ (if t then b else unwrap_or (changes k) (below k))
    by true = refl
    by false = refl
