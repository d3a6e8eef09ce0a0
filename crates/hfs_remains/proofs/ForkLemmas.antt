-- The records that a fork goes on with, one after the other.
use Rattle.std.proofs.Common.{◌≡◌, ◌≢◌, ℕ, zero, suc, ◌+◌, ◌-◌, ◌<◌, ◌≤◌, Bor, ltb, length, get_or, slice_index_or, inl, inr, Bool, true, false, ◌==◌, if◌then◌else◌, List, [], ◌∷◌, ◌++◌, Option, Some, None, refl, sym, ap, ◌∙◌, arith, append_assoc}
use Rattle.std.specs.Prelude.{nat_lt, find}
use Rattle.std.specs.Option.{option_map_or, option_copied, is_some, IfSome}
use Rattle.std.proofs.lemmas.List.{append-nil, get_or_past}
use Rattle.std.proofs.lemmas.Bool.{cases_lt, le-ltb, lt-ltb, ne_eqb, eq-eqb}
use Rattle.hfs_catalog.proofs.Indexed.{found_get, found_none}
use Rattle.hfs_fields.specs.declared.extent.Extent.{Extent}
use Rattle.hfs_fields.specs.declared.key.ExtKey.{ExtKey}
use Rattle.hfs_space.specs.Extents.{Overflow, block_total, record_extents}
use Rattle.hfs_remains.specs.OverflowRecords.{has_key, record_at, further, fork_extents, TellsPlaces}

module _ (records : Overflow) (file fork wanted : ℕ) where
  abbrev behind : ℕ → ℕ → Bool → Option (ExtKey × List ℕ) → List Extent
  behind most block wants r =
      if wants then option_map_or (λ (r : ExtKey × List ℕ). if block_total (record_extents r.1) == 0 then [] else record_extents r.1 ++ further records file fork wanted most (block + block_total (record_extents r.1))) r [] else []

  further-suc : (most block : ℕ) → further records file fork wanted (suc most) block ≡ behind most block (nat_lt block wanted) (record_at records file fork block)
  unfolding further
  further-suc most block = refl

  further-zero : (block : ℕ) → further records file fork wanted zero block ≡ []
  unfolding further
  further-zero block = refl

  -- enough blocks
  pub further-full : (most block : ℕ) → wanted ≤ block → further records file fork wanted most block ≡ []
  further-full zero block full = further-zero block
  further-full (suc most) block full = further-suc most block ∙ ap (λ (b : Bool). behind most block b (record_at records file fork block)) (le-ltb block wanted full)

  no-record : (most block : ℕ) (wants : Bool) → behind most block wants None ≡ []
  no-record most block true = refl
  no-record most block false = refl

  -- no record
  pub further-none : (most block : ℕ) → record_at records file fork block ≡ None → further records file fork wanted most block ≡ []
  further-none zero block none = further-zero block
  further-none (suc most) block none = further-suc most block ∙ ap (behind most block (nat_lt block wanted)) none ∙ no-record most block (nat_lt block wanted)

  -- no record is left to be read
  pub further-ended : (most block : ℕ) → most ≡ 0 → further records file fork wanted most block ≡ []
  further-ended most block ended = ap (λ (n : ℕ). further records file fork wanted n block) ended ∙ further-zero block

  abbrev with_total : ℕ → ℕ → List Extent → Bool → List Extent
  with_total most block extents empty = if empty then [] else extents ++ further records file fork wanted most (block + block_total extents)

  found : (most block : ℕ) (r : ExtKey × List ℕ) → block < wanted → record_at records file fork block ≡ Some r
      → further records file fork wanted (suc most) block ≡ with_total most block (record_extents r.1) (block_total (record_extents r.1) == 0)
  found most block r wants is = further-suc most block ∙ (λ t. behind most block (lt-ltb block wanted wants t) (is t))

  -- a record without a block
  pub further-empty : (most block : ℕ) (r : ExtKey × List ℕ) → block < wanted → record_at records file fork block ≡ Some r → block_total (record_extents r.1) ≡ 0
      → further records file fork wanted (suc most) block ≡ []
  further-empty most block r wants is empty = found most block r wants is ∙ ap (with_total most block (record_extents r.1)) (eq-eqb _ _ empty)

  -- a record with blocks
  pub further-more : (most block : ℕ) (r : ExtKey × List ℕ) → block < wanted → record_at records file fork block ≡ Some r → block_total (record_extents r.1) ≢ 0
      → further records file fork wanted (suc most) block ≡ record_extents r.1 ++ further records file fork wanted most (block + block_total (record_extents r.1))
  further-more most block r wants is some = found most block r wants is ∙ ap (with_total most block (record_extents r.1)) (ne_eqb _ _ some)

  -- one more record, with blocks
  pub step : (most block more : ℕ) (r : ExtKey × List ℕ) (old new all : List Extent) → 0 < most → block < wanted → record_at records file fork block ≡ Some r
      → more ≡ block_total (record_extents r.1) → more ≢ 0 → new ≡ old ++ record_extents r.1
      → old ++ further records file fork wanted most block ≡ all → new ++ further records file fork wanted (most - 1) (block + more) ≡ all
  step most block more r old new all left wants is total some added before =
      let less : suc (most - 1) ≡ most = omega arith in
      (λ t. added t ++ further records file fork wanted (most - 1) (block + total t))
      ∙ append_assoc old (record_extents r.1) (further records file fork wanted (most - 1) (block + block_total (record_extents r.1)))
      ∙ ap (λ (l : List Extent). old ++ l) (sym (further-more (most - 1) block r wants is (λ e. some (total ∙ e))))
      ∙ ap (λ (n : ℕ). old ++ further records file fork wanted n block) less
      ∙ before

  -- a record without a block, where one is left to be read
  pub stop-empty : (most block more : ℕ) (r : ExtKey × List ℕ) → 0 < most → block < wanted → record_at records file fork block ≡ Some r
      → more ≡ block_total (record_extents r.1) → more ≡ 0 → further records file fork wanted most block ≡ []
  stop-empty most block more r left wants is total none =
      let less : most ≡ suc (most - 1) = omega arith in
      ap (λ (n : ℕ). further records file fork wanted n block) less ∙ further-empty (most - 1) block r wants is (sym total ∙ none)

  -- nothing is left
  pub all-made : (most block : ℕ) (made first : List Extent) → further records file fork wanted most block ≡ []
      → made ++ further records file fork wanted most block ≡ first ++ further records file fork wanted 65536 (block_total first)
      → made ≡ fork_extents records file fork wanted first
  unfolding fork_extents
  all-made most block made first none is = sym (append-nil made) ∙ ap (λ (l : List Extent). made ++ l) (sym none) ∙ is

-- ---- the places of records

module _ (records : Overflow) (file fork : ℕ) (places : List (Option ℕ)) (tells : TellsPlaces records file fork places) where
  pub place-none : (block : ℕ) → slice_index_or places block None ≡ None → record_at records file fork block ≡ None
  place-none block none =
      elim (cases_lt block 65536) [
        | inl lt ↦ ap (λ (b : Bool). if b then find (has_key file fork block) records else None) (lt-ltb block 65536 lt) ∙ found_none (has_key file fork block) 0 records (sym (tells block lt) ∙ none)
        | inr ge ↦ ap (λ (b : Bool). if b then find (has_key file fork block) records else None) (le-ltb block 65536 ge)
      ]

  pub place-some : (block i : ℕ) (o : Option (Bor (ExtKey × List ℕ))) → length places ≡ 65536 → slice_index_or places block None ≡ Some i
      → is_some o ≡ ltb i (length records) → IfSome o (λ x. x.now ≡ get_or records i x.now) → option_copied o ≡ record_at records file fork block
  place-some block i o long some there at =
      elim (cases_lt block 65536) [
        | inl lt ↦
            found_get (has_key file fork block) records i o (sym (tells block lt) ∙ some) there at
            ∙ ap (λ (b : Bool). if b then find (has_key file fork block) records else None) (sym (lt-ltb block 65536 lt))
        | inr ge ↦ absurd (let past : slice_index_or places block None ≡ None = get_or_past places block None (omega arith) in cc)
      ]

-- one more place that is none
pub none-push : (places : List (Option ℕ)) → ((block : ℕ) → slice_index_or places block None ≡ None) → (block : ℕ) → slice_index_or (places ++ None ∷ []) block None ≡ None
none-push [] none zero = refl
none-push [] none (suc block) = refl
none-push (place ∷ places) none zero = none zero
none-push (place ∷ places) none (suc block) = none-push places (λ block. none (suc block)) block
