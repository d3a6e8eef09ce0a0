-- The check of space.
use Rattle.std.proofs.Common.{◌≡◌, ◌≢◌, ℕ, zero, suc, ◌+◌, ◌<◌, ◌≤◌, ◌⊎◌, Bool, true, false, cond, eqb, List, [], ◌∷◌, refl, ◌∙◌, ap, subst, inl, inr, arith, Some, None}
use Rattle.std.specs.Prelude.{◌↔◌}
use Rattle.std.specs.Bool.{Decides, IsTrue}
use Rattle.std.specs.List.{range_with_len}
use Rattle.std.proofs.lemmas.Bool.{eqb-true, eq-eqb}
use Rattle.std.proofs.lemmas.Bool.Decides.{Decides-and, Decides-or, Decides-eqb}
use Rattle.std.proofs.lemmas.List.Sums.{sum_by-cons}
use Rattle.std.proofs.lemmas.List.FromFn.{length-range_with_len, get_or-range_with_len}
use Rattle.hfs_fields.specs.declared.mdb.Mdb.{Mdb}
use Rattle.hfs_fields.specs.Each.{Each}
use Rattle.hfs_fields.proofs.ElementLemmas.{each-at}
use Rattle.hfs_btree.specs.Sound.{IsOther, IsDistinct}
use Rattle.hfs_fields.proofs.ScanLemmas.{check}
use Rattle.hfs_space.proofs.NumberLemmas.{owners-cons}
use Rattle.hfs_space.specs.Bitmap.{is_used, clear_count}
use Rattle.hfs_space.specs.Owners.{owners, is_block_sound}
use Rattle.hfs_space.specs.Sound.{IsSpaceSound}
use Rattle.hfs_space.specs.Faults.{block_fault, free_fault, space_fault}
use Rattle.hfs_space.proofs.LawTypes.{AreBlocksWithin}
use Rattle.hfs_fields.proofs.DecisionLemmas.{itself}
use Rattle.hfs_fields.proofs.TwoFaultLemmas.{neither, both_none}

-- ---- blocks from one number on

pub each-range : (P : ℕ → Type 0) (a n : ℕ) → ((b : ℕ) → a ≤ b → b < a + n → P b) → Each P (range_with_len a n)
each-range P a zero h = tt
each-range P a (suc n) h = (h a (omega arith) (omega arith), each-range P (a + 1) n (λ b le lt. h b (omega arith) (omega arith)))

pub distinct-range : (a n : ℕ) → IsDistinct (range_with_len a n)
distinct-range a zero = tt
distinct-range a (suc n) = (each-range (IsOther a) (a + 1) n (λ k low high same. omega arith), distinct-range (a + 1) n)

range-each : (P : ℕ → Type 0) (n : ℕ) → Each P (range_with_len 0 n) → (b : ℕ) → b < n → P b
range-each P n h b lt =
    subst P (get_or-range_with_len 0 n b 0 lt ∙ (let e : 0 + b ≡ b = omega arith in e))
    (each-at P (range_with_len 0 n) b 0 h (omega (arith, length-range_with_len 0 n)))

-- ---- how many own a block

owners-same : (o : ℕ) (os : List ℕ) → owners (o ∷ os) o ≡ 1 + owners os o
owners-same o os = owners-cons o os o ∙ ap (λ (t : Bool). cond t 1 0 + owners os o) (eq-eqb o o refl)

owners-more : (o : ℕ) (os : List ℕ) (b : ℕ) → owners os b ≤ owners (o ∷ os) b
owners-more o os b = omega (arith, owners-cons o os b)

-- ---- blocks that somebody owns

pub each-owned : (P : ℕ → Type 0) (os : List ℕ) → ((b : ℕ) → 1 ≤ owners os b → P b) → Each P os
each-owned P [] h = tt
each-owned P (o ∷ os) h = (h o (omega (arith, owners-same o os)), each-owned P os (λ b own. h b (omega (arith, owners-more o os b))))

pub owned-each : (P : ℕ → Type 0) (os : List ℕ) (b : ℕ) → Each P os → 1 ≤ owners os b → P b
owned-each P [] b h own = absurd (omega arith)
owned-each P (o ∷ os) b h own = elim (eqb o b) as (λ t. eqb o b ≡ t → P b) [
  | true ↦ λ e. subst P (eqb-true o b e) h.0
  | false ↦ λ e. owned-each P os b h.1 (omega (arith, owners-cons o os b ∙ ap (λ (t : Bool). cond t 1 0 + owners os b) e))
] refl

-- ---- none is owned twice

none_from_others : (o : ℕ) (os : List ℕ) → Each (λ m. m ≢ o) os → owners os o ≡ 0
none_from_others o [] h = refl
none_from_others o (m ∷ os) h = elim (eqb m o) as (λ t. eqb m o ≡ t → owners (m ∷ os) o ≡ 0) [
  | true ↦ λ e. absurd (h.0 (eqb-true m o e))
  | false ↦ λ e. owners-cons m os o ∙ ap (λ (t : Bool). cond t 1 0 + owners os o) e ∙ (let rest = none_from_others o os h.1 in omega arith)
] refl

others_from_none : (o : ℕ) (os : List ℕ) → owners os o ≡ 0 → Each (λ m. m ≢ o) os
others_from_none o os none = each-owned (λ m. m ≢ o) os (λ b own same. absurd (omega (arith, own, none, ap (owners os) same)))

pub distinct-once : (os : List ℕ) → IsDistinct os → (b : ℕ) → owners os b ≤ 1
distinct-once [] h b = omega arith
distinct-once (o ∷ os) h b = elim (eqb o b) as (λ t. eqb o b ≡ t → owners (o ∷ os) b ≤ 1) [
  | true ↦ λ e. omega (arith, none_from_others o os h.0, owners-same o os, ap (owners (o ∷ os)) (eqb-true o b e))
  | false ↦ λ e. omega (arith, distinct-once os h.1 b, owners-cons o os b ∙ ap (λ (t : Bool). cond t 1 0 + owners os b) e)
] refl

once-distinct : (os : List ℕ) → ((b : ℕ) → 1 ≤ owners os b → owners os b ≤ 1) → IsDistinct os
once-distinct [] h = tt
once-distinct (o ∷ os) h = (
  others_from_none o os (omega (arith, owners-same o os, h o (omega (arith, owners-same o os)))),
  once-distinct os (λ b own. omega (arith, owners-more o os b, h b (omega (arith, owners-more o os b)))),
)

-- ---- the check

module _ (blocks : ℕ → List ℕ) (mdb : Mdb) (owned : List ℕ) where
  abbrev IsMarked : ℕ → Type 0
  IsMarked b = IsTrue (is_used blocks mdb.bitmap_start b)

  abbrev IsBlockSound : ℕ → Type 0
  IsBlockSound b = (owners owned b ≡ 0) ⊎ ((owners owned b ≡ 1) × IsMarked b)

  block_decides : (b : ℕ) → Decides (is_block_sound blocks mdb owned b) (IsBlockSound b)
  unfolding is_block_sound
  block_decides b = Decides-or _ _ (Decides-eqb (owners owned b) 0) (Decides-and _ _ (Decides-eqb (owners owned b) 1) (itself (is_used blocks mdb.bitmap_start b)))

  once : (b : ℕ) → IsBlockSound b → owners owned b ≤ 1
  once b h = elim h as (λ _. owners owned b ≤ 1) [ inl none ↦ omega (arith, none) | inr one ↦ omega (arith, one.0) ]

  marked : (b : ℕ) → IsBlockSound b → 1 ≤ owners owned b → IsMarked b
  marked b h own = elim h as (λ _. IsMarked b) [ inl none ↦ absurd (omega (arith, none)) | inr one ↦ one.1 ]

  sound : (n b : ℕ) → owners owned b ≡ n → n ≤ 1 → (1 ≤ owners owned b → IsMarked b) → IsBlockSound b
  sound zero b is le mark = inl is
  sound (suc n) b is le mark = inr (let one : owners owned b ≡ 1 = omega arith in (one, mark (omega arith)))

  counted : free_fault blocks mdb ≡ None → mdb.free_blocks ≡ clear_count blocks mdb.bitmap_start mdb.allocation_blocks
  counted is = elim (eqb mdb.free_blocks (clear_count blocks mdb.bitmap_start mdb.allocation_blocks))
      as (λ t. eqb mdb.free_blocks (clear_count blocks mdb.bitmap_start mdb.allocation_blocks) ≡ t → cond t None (Some mdb.allocation_blocks) ≡ None → mdb.free_blocks ≡ clear_count blocks mdb.bitmap_start mdb.allocation_blocks) [
        | true ↦ λ e _. eqb-true _ _ e
        | false ↦ λ e some. absurd (let no : Some mdb.allocation_blocks ≡ None = some in cc)
      ] refl is

  pub no_space_fault : AreBlocksWithin mdb owned → (space_fault blocks mdb owned ≡ None) ↔ IsSpaceSound blocks mdb owned
  unfolding space_fault
  no_space_fault within =
      let n = mdb.allocation_blocks in
      let each = check (is_block_sound blocks mdb owned) IsBlockSound block_decides (range_with_len 0 n) in
      let below = λ (b : ℕ) (own : 1 ≤ owners owned b). owned-each (λ o. o < n) owned b within own in (
        λ is.
            let both = neither (block_fault blocks mdb owned) (free_fault blocks mdb) is in
            let at = range-each IsBlockSound n (each.0 both.0) in
            record {
              once = once-distinct owned (λ b own. once b (at b (below b own)));
              marked = each-owned IsMarked owned (λ b own. marked b (at b (below b own)) own);
              counted = counted both.1;
            },
        λ h.
            both_none _ _
            (each.1 (each-range IsBlockSound 0 n (λ b le lt. sound (owners owned b) b refl (distinct-once owned h.once b) (owned-each IsMarked owned b h.marked))))
            (ap (λ (t : Bool). cond t None (Some n)) (eq-eqb _ _ h.counted)),
      )
