-- How many own each block.
use Rattle.std.proofs.Common.{◌≡◌, ℕ, suc, zero, ◌+◌, ◌<◌, Bool, true, ◌||◌, List, [], ◌∷◌, ◌++◌, length, set, take, Option, Some, None, slice_index_or, refl, sym, ap, ◌∙◌, arith, append_assoc, subst, inl, inr}
use Rattle.std.specs.Prelude.{count_by, min, nat_lt, nat_le, cond}
use Rattle.std.specs.List.{list_any}
use Rattle.std.specs.Option.{IfSome}
use Rattle.std.proofs.lemmas.Bool.{and_parts, ltb-true, cases_eq, eq-eqb, ne_eqb}
use Rattle.std.proofs.lemmas.List.{append-nil, length-set, get_or-set_same, get_or-set_other, take_more}
use Rattle.std.proofs.lemmas.List.Sums.{sum_by-append, sum_by-cons}
use Rattle.hfs_fields.specs.declared.mdb.Mdb.{Mdb}
use Rattle.hfs_remains.specs.Allocation.{is_there}
use Rattle.hfs_remains.specs.TreeFiles.{FileBlocks, AreThere}
use Rattle.hfs_remains.specs.CatalogRecords.{is_block}
use Rattle.hfs_remains_forks.specs.Owners.{owners, is_shared, count_at, is_counted_shared, AreWithin, CountOwners, AddsOwners}

-- ---- within the directory's blocks

within-directory : (total : ℕ) (mdb : Mdb) (b : ℕ) → is_there total mdb b ≡ true → b < mdb.allocation_blocks
unfolding is_there
within-directory total mdb b there = ltb-true b mdb.allocation_blocks (and_parts (nat_lt b mdb.allocation_blocks) _ there).0

-- blocks that are there are the directory's
pub within-there : (total : ℕ) (mdb : Mdb) (places : FileBlocks) (n : ℕ) → n ≡ mdb.allocation_blocks → AreThere total mdb places → AreWithin n places
within-there total mdb places n is there i b e = let below = within-directory total mdb b (there i b e) in omega (arith, below, is)

pub within-at : (o : Option ℕ) (n : ℕ) → ((b : ℕ) → o ≡ Some b → b < n) → IfSome o (λ b. b < n)
within-at None n within = tt
within-at (Some b) n within = within b refl

-- the first of these
pub taken-at : (places : FileBlocks) (n i b : ℕ) → slice_index_or (take n places) i None ≡ Some b → slice_index_or places i None ≡ Some b
taken-at [] zero i b e = cc
taken-at [] (suc n) i b e = cc
taken-at (place ∷ places) zero i b e = cc
taken-at (place ∷ places) (suc n) zero b e = e
taken-at (place ∷ places) (suc n) (suc i) b e = taken-at places n i b e

-- ---- one owner more

abbrev one_if : Bool → ℕ
one_if b = cond b 1 0

count-more : (b : ℕ) (used : FileBlocks) (place : Option ℕ) → count_by (is_block b) (used ++ place ∷ []) ≡ count_by (is_block b) used + one_if (is_block b place)
count-more b used place =
    let own = λ (p : Option ℕ). one_if (is_block b p) in
    sum_by-append own used (place ∷ []) ∙ omega (arith, sum_by-cons own place [])

pub add-none : (counts : List ℕ) → AddsOwners (None ∷ []) counts counts
add-none counts = record {
  same = refl;
  more = λ used counted b lt. counted b lt ∙ ap (min 2) (omega (arith, count-more b used None));
}

add-at : (counts new : List ℕ) (c : ℕ) → c < length counts → new ≡ set counts c (min 2 (count_at counts c + 1)) → (used : FileBlocks) → CountOwners used counts
    → (b : ℕ) → b < length counts → count_at new b ≡ owners (used ++ Some c ∷ []) b
add-at counts new c within is used counted b lt =
    elim (cases_eq c b) [
      | inl same ↦
          let there : one_if (is_block b (Some c)) ≡ 1 = ap one_if (eq-eqb c b same) in
          let put : count_at new c ≡ min 2 (count_at counts c + 1) = ap (λ (l : List ℕ). count_at l c) is ∙ get_or-set_same counts c (min 2 (count_at counts c + 1)) 0 within in
          let here : count_at new b ≡ count_at new c = ap (count_at new) (sym same) in
          let before : count_at counts c ≡ min 2 (count_by (is_block b) used) = ap (count_at counts) same ∙ counted b lt in
          omega (arith, count-more b used (Some c), there, put, here, before)
      | inr other ↦
          let there : one_if (is_block b (Some c)) ≡ 0 = ap one_if (ne_eqb c b other) in
          let put : count_at new b ≡ count_at counts b = ap (λ (l : List ℕ). count_at l b) is ∙ get_or-set_other counts c b (min 2 (count_at counts c + 1)) 0 (λ e. other (sym e)) in
          omega (arith, count-more b used (Some c), there, put, counted b lt)
    ]

pub add-some : (counts new : List ℕ) (c : ℕ) → c < length counts → new ≡ set counts c (min 2 (count_at counts c + 1)) → AddsOwners (Some c ∷ []) counts new
add-some counts new c within is =
    let same : length new ≡ length counts = ap (λ (l : List ℕ). length l) is ∙ length-set counts c (min 2 (count_at counts c + 1)) in
    record {
      same = same;
      more = λ used counted b lt. add-at counts new c within is used counted b (omega (arith, same, lt));
    }

-- ---- more owners, one row of blocks after the other

pub add-nothing : (counts : List ℕ) → AddsOwners [] counts counts
add-nothing counts = record {
  same = refl;
  more = λ used counted b lt. counted b lt ∙ ap (λ (l : FileBlocks). owners l b) (sym (append-nil used));
}

pub add-both : (first second : FileBlocks) (old mid new : List ℕ) → AddsOwners first old mid → AddsOwners second mid new → AddsOwners (first ++ second) old new
add-both first second old mid new one two = record {
  same = two.same ∙ one.same;
  more = λ used counted b lt. two.more (used ++ first) (one.more used counted) b lt ∙ ap (λ (l : FileBlocks). owners l b) (append_assoc used first second);
}

pub add-same : (places others : FileBlocks) (old new : List ℕ) → places ≡ others → AddsOwners places old new → AddsOwners others old new
add-same places others old new is adds = subst (λ (l : FileBlocks). AddsOwners l old new) is adds

-- one block more of a row
pub step-places : (places : FileBlocks) (i : ℕ) (place : Option ℕ) (old mid new : List ℕ) → i < length places → place ≡ slice_index_or places i None
    → AddsOwners (take i places) old mid → AddsOwners (place ∷ []) mid new → AddsOwners (take (i + 1) places) old new
step-places places i place old mid new within is before more =
    let next : take (i + 1) places ≡ take i places ++ place ∷ [] = take_more places i None within ∙ ap (λ (x : Option ℕ). take i places ++ x ∷ []) (sym is) in
    add-same (take i places ++ place ∷ []) (take (i + 1) places) old new (sym next) (add-both (take i places) (place ∷ []) old mid new before more)

-- ---- shared blocks

pub shared-is : (used : FileBlocks) (counts : List ℕ) → CountOwners used counts → (places : FileBlocks) → AreWithin (length counts) places
    → list_any (is_counted_shared counts) places ≡ list_any (is_shared used) places
shared-is used counts counted [] within = refl
shared-is used counts counted (place ∷ places) within =
    (λ t. one place (within 0) t || shared-is used counts counted places (λ i b e. within (suc i) b e) t)
  where
    one : (place : Option ℕ) → ((b : ℕ) → place ≡ Some b → b < length counts) → is_counted_shared counts place ≡ is_shared used place
    one None below = refl
    one (Some b) below = ap (λ (n : ℕ). nat_le 2 n) (counted b (below b refl))
