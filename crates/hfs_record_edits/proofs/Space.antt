-- Who owns the blocks of a volume whose catalog has changed.
use Rattle.std.proofs.Common.{◌≡◌, ℕ, ◌+◌, ◌<◌, ◌≤◌, Bool, true, false, cond, eqb, List, [], ◌∷◌, ◌++◌, refl, sym, ◌∙◌, ap, subst, arith}
use Rattle.std.specs.List.{flat_map, sum_by, range_with_len}
use Rattle.std.proofs.lemmas.Grind.{flat_map-append}
use Rattle.std.proofs.lemmas.Bool.{eqb-true, eq-eqb, ne_eqb}
use Rattle.std.proofs.lemmas.List.Sums.{sum_by-cons}
use Rattle.hfs_fields.specs.declared.mdb.Mdb.{Mdb}
use Rattle.hfs_fields.specs.declared.extent.Extent.{Extent}
use Rattle.hfs_fields.specs.Each.{Each}
use Rattle.hfs_btree.specs.Sound.{IsDistinct, IsOther}
use Rattle.hfs_space.proofs.OwnedOnce.{distinct-once}
use Rattle.hfs_space.proofs.OwnedLemmas.{blocks-append}
use Rattle.hfs_space.specs.Extents.{Overflow, extent_blocks}
use Rattle.hfs_space.specs.Owners.{Fork, forks_of, catalog_fork, all_forks, extents_in, bad_extents, owned_extents, owned_blocks, owners}
use Rattle.hfs_space.specs.Bitmap.{is_used, clear_count}
use Rattle.hfs_space.specs.Sound.{IsSpaceSound}
use Rattle.hfs_catalog.specs.Records.{Record, Catalog}
use Rattle.hfs_record_edits.specs.Swaps.{one_if}
use Rattle.hfs_space.proofs.OwnerLemmas.{append}

-- ---- numbers that stand in a list

pub cons : (b x : ℕ) (xs : List ℕ) → owners (x ∷ xs) b ≡ one_if (eqb x b) + owners xs b
cons b x xs = sum_by-cons (λ (o : ℕ). cond (eqb o b) 1 0) x xs

pub one : (b : Bool) → b ≡ true → ◌≡◌ {A = ℕ} (one_if b) 1
one b e = ap one_if e

pub no : (b : Bool) → b ≡ false → ◌≡◌ {A = ℕ} (one_if b) 0
no b e = ap one_if e

pub none_other : (b : ℕ) (xs : List ℕ) → Each (IsOther b) xs → owners xs b ≡ 0
none_other b [] h = refl
none_other b (x ∷ xs) h = omega (arith, cons b x xs, no (eqb x b) (ne_eqb x b h.0), none_other b xs h.1)

others : (b : ℕ) (xs : List ℕ) → owners xs b ≡ 0 → Each (IsOther b) xs
others b [] e = tt
others b (x ∷ xs) e = (
  λ (same : x ≡ b). absurd (omega (arith, e, cons b x xs, one (eqb x b) (eq-eqb x b same))),
  others b xs (omega (arith, e, cons b x xs)),
)

pub distinct_owned : (xs : List ℕ) → ((b : ℕ) → owners xs b ≤ 1) → IsDistinct xs
distinct_owned [] h = tt
distinct_owned (x ∷ xs) h = (
  others x xs (omega (arith, h x, cons x x xs, one (eqb x x) (eq-eqb x x refl))),
  distinct_owned xs (λ b. omega (arith, h b, cons b x xs)),
)

-- a fact of each number that stands there
pub each_owned : (P : ℕ → Type 0) (xs : List ℕ) → ((b : ℕ) → 0 < owners xs b → P b) → Each P xs
each_owned P [] h = tt
each_owned P (x ∷ xs) h = (
  h x (omega (arith, cons x x xs, one (eqb x x) (eq-eqb x x refl))),
  each_owned P xs (λ b some. h b (omega (arith, cons b x xs, some))),
)

pub owned_each : (P : ℕ → Type 0) (xs : List ℕ) → Each P xs → (b : ℕ) → 0 < owners xs b → P b
owned_each P [] h b some = absurd (omega arith)
owned_each P (x ∷ xs) h b some = elim (eqb x b) as (λ (t : Bool). eqb x b ≡ t → P b) [
  | true ↦ λ e. subst P (eqb-true x b e) h.0
  | false ↦ λ e. owned_each P xs h.1 b (omega (arith, some, cons b x xs, no (eqb x b) e))
] refl

-- ---- the blocks of forks

module _ (mdb : Mdb) (overflow : Overflow) (b : ℕ) where
  -- how often a record's forks have the block
  abbrev pub forks_have : List Fork → ℕ
  forks_have forks = owners (extent_blocks (flat_map (extents_in overflow) forks)) b

  abbrev pub record_has : Record → ℕ
  record_has r = forks_have (forks_of r)

  -- how often the trees' files and the bad blocks have it
  abbrev pub others_have : ℕ
  others_have = owners (extent_blocks (extents_in overflow (catalog_fork mdb))) b + (owners (extent_blocks mdb.extents_file) b + owners (extent_blocks (bad_extents overflow)) b)

  forks_parts : (fs gs : List Fork) → forks_have (fs ++ gs) ≡ forks_have fs + forks_have gs
  forks_parts fs gs = ap (λ l. owners (extent_blocks l) b) (flat_map-append (extents_in overflow) fs gs) ∙ blocks-append (flat_map (extents_in overflow) fs) (flat_map (extents_in overflow) gs) b

  catalog_has : (catalog : Catalog) → forks_have (flat_map forks_of catalog) ≡ sum_by record_has catalog
  catalog_has [] = refl
  catalog_has (r ∷ rest) = omega (arith, forks_parts (forks_of r) (flat_map forks_of rest), catalog_has rest, sum_by-cons record_has r rest)

  pub owners_sum : (catalog : Catalog) → owners (owned_blocks mdb overflow catalog) b ≡ others_have + sum_by record_has catalog
  unfolding owned_blocks owned_extents
  owners_sum catalog =
      let forks = flat_map (extents_in overflow) (all_forks mdb catalog) in
      omega (
        arith,
        blocks-append (forks ++ mdb.extents_file) (bad_extents overflow) b,
        blocks-append forks mdb.extents_file b,
        blocks-append (extents_in overflow (catalog_fork mdb)) (flat_map (extents_in overflow) (flat_map forks_of catalog)) b,
        catalog_has catalog,
      )

-- ---- the space

-- who owns a block owned it before, and the bitmap is as it was
pub space_same : (blocks after : ℕ → List ℕ) (old new : Mdb) (owned now_owned : List ℕ) → ((b : ℕ) → owners now_owned b ≡ owners owned b)
    → ((b : ℕ) → 0 < owners owned b → is_used after new.bitmap_start b ≡ is_used blocks old.bitmap_start b) → clear_count after new.bitmap_start new.allocation_blocks ≡ clear_count blocks old.bitmap_start old.allocation_blocks
    → new.free_blocks ≡ old.free_blocks → IsSpaceSound blocks old owned → IsSpaceSound after new now_owned
space_same blocks after old new owned now_owned same bits clear free h = record {
  once = distinct_owned now_owned (λ b. omega (arith, same b, distinct-once owned h.once b));
  marked = each_owned _ now_owned (λ b some. let before : 0 < owners owned b = omega (arith, same b, some) in bits b before ∙ owned_each _ owned h.marked b before);
  counted = free ∙ h.counted ∙ sym clear;
}

-- some blocks have lost their one owner and their marks
pub space_fewer : (blocks after : ℕ → List ℕ) (old new : Mdb) (owned now_owned : List ℕ) (freed : ℕ → ℕ) → ((b : ℕ) → owners now_owned b + freed b ≡ owners owned b)
    → ((b : ℕ) → freed b ≡ 0 → is_used after new.bitmap_start b ≡ is_used blocks old.bitmap_start b) → new.free_blocks ≡ clear_count after new.bitmap_start new.allocation_blocks
    → IsSpaceSound blocks old owned → IsSpaceSound after new now_owned
space_fewer blocks after old new owned now_owned freed fewer bits free h = record {
  once = distinct_owned now_owned (λ b. omega (arith, fewer b, distinct-once owned h.once b));
  marked = each_owned _ now_owned (λ b some.
      let none : freed b ≡ 0 = omega (arith, some, fewer b, distinct-once owned h.once b) in
      bits b none ∙ owned_each _ owned h.marked b (omega (arith, fewer b, some)));
  counted = free;
}
