-- Where the records of the extents tree stand in order, the first blocks of a fork are the same whether it is followed as far as it wants or in one walk.
use Rattle.std.proofs.Common.{◌≡◌, ℕ, zero, suc, ◌+◌, ◌-◌, ◌<◌, ◌≤◌, Bool, if◌then◌else◌, List, [], ◌∷◌, ◌++◌, take, length, Option, Some, None, refl, sym, ap, ◌∙◌, arith, inl, inr}
use Rattle.std.specs.Prelude.{find}
use Rattle.std.specs.List.{range_with_len}
use Rattle.std.specs.Option.{option_map}
use Rattle.std.proofs.lemmas.Bool.{cases_lt, lt-ltb, le-ltb}
use Rattle.std.proofs.lemmas.List.Concat.{flat_map-append}
use Rattle.hfs_fields.specs.declared.extent.Extent.{Extent}
use Rattle.hfs_fields.specs.declared.key.ExtKey.{ExtKey}
use Rattle.hfs_fields.specs.Keys.{ext_cmp}
use Rattle.hfs_btree.specs.Pairs.{Rises}
use Rattle.hfs_space.specs.Extents.{Overflow, block_total, extent_blocks, record_extents, extents_from, fork_extents as whole_extents}
use Rattle.hfs_space.proofs.GoingOn.{not_found, past_keys}
use Rattle.hfs_remains.specs.OverflowRecords.{has_key, record_at, further, fork_extents}
use Rattle.hfs_remains.proofs.ForkLemmas.{further-none, further-empty, further-more, further-ended}
use Rattle.hfs_remains.proofs.OnwardLemmas.{body-of, at-key, goes-on}
use Rattle.hfs_remains_forks.proofs.BlockLemmas.{blocks-counted}

take-none : (k : ℕ) (xs : List ℕ) → k ≡ 0 → take k xs ≡ []
take-none zero [] none = refl
take-none zero (x ∷ xs) none = refl
take-none (suc k) xs none = absurd (omega (arith, none))

-- behind the same numbers
front-alike : (front xs ys : List ℕ) (k : ℕ) → take (k - length front) xs ≡ take (k - length front) ys → take k (front ++ xs) ≡ take k (front ++ ys)
front-alike [] xs ys k same =
    let all : k - 0 ≡ k = omega arith in
    ap (λ (n : ℕ). take n xs) (sym all) ∙ same ∙ ap (λ (n : ℕ). take n ys) all
front-alike (x ∷ front) xs ys zero same = refl
front-alike (x ∷ front) xs ys (suc k) same =
    let less : k - length front ≡ suc k - suc (length front) = omega arith in
    ap (λ (l : List ℕ). x ∷ l) (front-alike front xs ys k (ap (λ (n : ℕ). take n xs) less ∙ same ∙ ap (λ (n : ℕ). take n ys) (sym less)))

abbrev blocks-of : Extent → List ℕ
blocks-of e = range_with_len e.first e.count

module _ (records : Overflow) (rises : Rises ext_cmp records) (file fork wanted : ℕ) where
  behind-same : (most block k : ℕ) → 65536 ≤ block + most → k ≤ wanted - block
      → take k (extent_blocks (further records file fork wanted most block)) ≡ take k (extent_blocks (extents_from records file fork block))
  behind-same zero block k enough few =
      ap (λ (l : List Extent). take k (extent_blocks l)) (further-ended records file fork wanted zero block refl ∙ sym (past_keys records rises file fork block (omega (arith, enough))))
  behind-same (suc most) block k enough few =
      elim (cases_lt block wanted) [
        | inr full ↦
            let none : k ≡ 0 = omega (arith, few, full) in
            take-none k (extent_blocks (further records file fork wanted (suc most) block)) none ∙ sym (take-none k (extent_blocks (extents_from records file fork block)) none)
        | inl wants ↦
            elim (cases_lt block 65536) [
              | inl short ↦ by wants short (find (has_key file fork block) records) refl (λ more some. behind-same most (block + more) (k - more) (omega (arith, enough, some)) (omega (arith, few)))
              | inr past ↦
                  let none : record_at records file fork block ≡ None = ap (λ (b : Bool). if b then find (has_key file fork block) records else None) (le-ltb block 65536 past) in
                  ap (λ (l : List Extent). take k (extent_blocks l)) (further-none records file fork wanted (suc most) block none ∙ sym (past_keys records rises file fork block past))
            ]
      ]
    where
      with-blocks : block < wanted → block < 65536 → (r : ExtKey × List ℕ) → find (has_key file fork block) records ≡ Some r
          → ((more : ℕ) → 0 < more → take (k - more) (extent_blocks (further records file fork wanted most (block + more))) ≡ take (k - more) (extent_blocks (extents_from records file fork (block + more))))
          → (n : ℕ) → block_total (record_extents r.1) ≡ n
          → take k (extent_blocks (further records file fork wanted (suc most) block)) ≡ take k (extent_blocks (extents_from records file fork block))
      with-blocks wants short r there on zero total =
          ap (λ (l : List Extent). take k (extent_blocks l))
          (further-empty records file fork wanted most block r wants (at-key records rises file fork block short ∙ there) total ∙ sym (goes-on records rises file fork block r short there zero total))
      with-blocks wants short r there on (suc n) total =
          let own = record_extents r.1 in
          let more = block_total own in
          let left = further records file fork wanted most (block + more) in
          let right = extents_from records file fork (block + more) in
          let some : 0 < more = omega (arith, total) in
          let count : more ≡ length (extent_blocks own) = blocks-counted own in
          let rest : take (k - length (extent_blocks own)) (extent_blocks left) ≡ take (k - length (extent_blocks own)) (extent_blocks right) =
          ap (λ (n : ℕ). take (k - n) (extent_blocks left)) (sym count) ∙ on more some ∙ ap (λ (n : ℕ). take (k - n) (extent_blocks right)) count in
          ap (λ (l : List Extent). take k (extent_blocks l)) (further-more records file fork wanted most block r wants (at-key records rises file fork block short ∙ there) (λ e. absurd (omega (arith, some, e))))
          ∙ ap (take k) (flat_map-append blocks-of own left)
          ∙ front-alike (extent_blocks own) (extent_blocks left) (extent_blocks right) k rest
          ∙ sym (ap (take k) (flat_map-append blocks-of own right))
          ∙ sym (ap (λ (l : List Extent). take k (extent_blocks l))
          (goes-on records rises file fork block r short there (suc n) total ∙ ap (λ (b : Bool). if b then own ++ right else []) (lt-ltb 0 (suc n) (omega arith))))

      by : block < wanted → block < 65536 → (o : Option (ExtKey × List ℕ)) → find (has_key file fork block) records ≡ o
          → ((more : ℕ) → 0 < more → take (k - more) (extent_blocks (further records file fork wanted most (block + more))) ≡ take (k - more) (extent_blocks (extents_from records file fork (block + more))))
          → take k (extent_blocks (further records file fork wanted (suc most) block)) ≡ take k (extent_blocks (extents_from records file fork block))
      by wants short None none on =
          ap (λ (l : List Extent). take k (extent_blocks l))
          (further-none records file fork wanted (suc most) block (at-key records rises file fork block short ∙ none)
          ∙ sym (not_found records rises file fork block (body-of file fork block records ∙ ap (option_map (λ (q : ExtKey × List ℕ). q.1)) none)))
      by wants short (Some r) there on = with-blocks wants short r there on (block_total (record_extents r.1)) refl

  -- the first blocks of a fork
  pub front-same : (first : List Extent) → take wanted (extent_blocks (fork_extents records file fork wanted first)) ≡ take wanted (extent_blocks (whole_extents records file fork first))
  unfolding fork_extents whole_extents
  front-same first =
      let count : block_total first ≡ length (extent_blocks first) = blocks-counted first in
      let left = further records file fork wanted 65536 (block_total first) in
      let right = extents_from records file fork (block_total first) in
      ap (take wanted) (flat_map-append blocks-of first left)
      ∙ front-alike (extent_blocks first) (extent_blocks left) (extent_blocks right) wanted
      (behind-same 65536 (block_total first) (wanted - length (extent_blocks first)) (omega arith) (omega (arith, count)))
      ∙ sym (ap (take wanted) (flat_map-append blocks-of first right))
