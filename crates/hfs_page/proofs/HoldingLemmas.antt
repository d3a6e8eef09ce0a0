-- The extents of a volume without files, one row behind the other.
use Rattle.std.proofs.Common.{◌≡◌, ℕ, ◌+◌, ◌≤◌, List, [], ◌∷◌, ◌++◌, length, drop, refl, sym, ap, ◌∙◌, arith, length-append}
use Rattle.std.specs.List.{flat_map}
use Rattle.hfs_fields.specs.declared.extent.Extent.{Extent}
use Rattle.hfs_fields.specs.declared.mdb.Mdb.{Mdb}
use Rattle.hfs_space.specs.Extents.{Overflow}
use Rattle.hfs_space.specs.Owners.{bad_extents, catalog_fork, extents_in, owned_extents}

drop-front : {A : Type 0} (xs ys : List A) (n : ℕ) → n ≡ length xs → drop n (xs ++ ys) ≡ ys
drop-front [] ys n e = ap (λ k. drop k ys) e
drop-front (x ∷ xs) ys n e = ap (λ k. drop k (x ∷ xs ++ ys)) e ∙ drop-front xs ys (length xs) refl

module _ (mdb : Mdb) (overflow : Overflow) where
  -- the extents before those of the bad blocks
  abbrev front : List Extent
  front = flat_map (extents_in overflow) (catalog_fork mdb ∷ []) ++ mdb.extents_file

  front-length : length front ≡ length (extents_in overflow (catalog_fork mdb)) + length mdb.extents_file
  front-length =
      let a = length-append (flat_map (extents_in overflow) (catalog_fork mdb ∷ [])) mdb.extents_file in
      let b = length-append (extents_in overflow (catalog_fork mdb)) [] in
      omega (arith, a, b)

  all-owned : owned_extents mdb overflow [] ≡ front ++ bad_extents overflow
  unfolding owned_extents
  all-owned = refl

  module _ (catalog owned : List Extent) (n : ℕ) where
    pub bad-behind : catalog ≡ extents_in overflow (catalog_fork mdb) → owned ≡ owned_extents mdb overflow [] → n ≡ length catalog + length mdb.extents_file → drop n owned ≡ bad_extents overflow
    bad-behind same is at =
        let e : n ≡ length front = at ∙ ap (λ (c : List Extent). length c + length mdb.extents_file) same ∙ sym front-length in
        ap (drop n) (is ∙ all-owned) ∙ drop-front front (bad_extents overflow) n e

    pub bad-within : catalog ≡ extents_in overflow (catalog_fork mdb) → owned ≡ owned_extents mdb overflow [] → n ≡ length catalog + length mdb.extents_file → n ≤ length owned
    bad-within same is at =
        let e : n ≡ length front = at ∙ ap (λ (c : List Extent). length c + length mdb.extents_file) same ∙ sym front-length in
        let l = ap length (is ∙ all-owned) ∙ length-append front (bad_extents overflow) in
        omega (arith, e, l)
