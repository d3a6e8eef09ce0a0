-- Where the records of the extents tree stand in order, a fork goes on with the same extents whether it is followed key by key or in one walk.
use Rattle.std.proofs.Common.{◌≡◌, ℕ, zero, suc, ◌+◌, ◌<◌, ◌≤◌, Bool, true, false, cond, ◌&&◌, ◌==◌, if◌then◌else◌, List, [], ◌∷◌, ◌++◌, length, Option, Some, None, refl, sym, ap, ◌∙◌, arith, inl, inr}
use Rattle.std.specs.Prelude.{nat_lt, find}
use Rattle.std.specs.Option.{option_map}
use Rattle.std.specs.declared.cmp.Ordering.{Ordering}
use Rattle.std.specs.declared.cmp.Ordering.TheVariants.{Less, Equal, Greater}
use Rattle.std.specs.Ordering.{nat_cmp, is_eq, ordering_then}
use Rattle.std.proofs.lemmas.Bool.{cases_lt, eq-eqb, ne_eqb, lt-ltb, le-leb, lt-leb}
use Rattle.std.proofs.lemmas.Cmp.{ranked, by_ranked}
use Rattle.hfs_fields.specs.Mdb.{extents_at}
use Rattle.hfs_fields.specs.declared.extent.Extent.{Extent}
use Rattle.hfs_fields.specs.declared.key.ExtKey.{ExtKey}
use Rattle.hfs_fields.specs.Keys.{ext_cmp}
use Rattle.hfs_btree.specs.Pairs.{Rises, lookup}
use Rattle.hfs_space.specs.Extents.{Overflow, block_total, record_extents, extents_from, fork_extents as whole_extents}
use Rattle.hfs_space.proofs.GoingOn.{not_found, past_keys, too_short, no_block, some_block}
use Rattle.hfs_remains.specs.OverflowRecords.{has_key, record_at, further, fork_extents}
use Rattle.hfs_remains.proofs.ForkLemmas.{further-full, further-none, further-empty, further-more, further-ended}

-- ---- one key

abbrev pub key-of : ℕ → ℕ → ℕ → ExtKey
key-of file fork block = record { fork = fork; file = file; block = block }

then-both : (a b : Ordering) → is_eq (ordering_then a b) ≡ (is_eq a && is_eq b)
then-both Less b = refl
then-both Equal b = refl
then-both Greater b = refl

same-number : (x y : ℕ) → is_eq (nat_cmp x y) ≡ (y == x)
same-number x y =
    by_ranked (x < y) (x ≡ y) (y < x) (nat_cmp x y) (ranked x y (nat_cmp x y) refl)
    (λ less h. ap is_eq less ∙ sym (ne_eqb y x (λ e. absurd (omega (arith, h, e)))))
    (λ equal h. ap is_eq equal ∙ sym (eq-eqb y x (sym h)))
    (λ greater h. ap is_eq greater ∙ sym (ne_eqb y x (λ e. absurd (omega (arith, h, e)))))

and_over : (a b c : Bool) → (a && (b && c)) ≡ (a && b && c)
and_over true b c = refl
and_over false b c = refl

tied-is : (file fork block : ℕ) (r : ExtKey × List ℕ) → is_eq (ext_cmp (key-of file fork block) r.0) ≡ has_key file fork block r
tied-is file fork block r =
    then-both (nat_cmp file r.0.file) (ordering_then (nat_cmp fork r.0.fork) (nat_cmp block r.0.block))
    ∙ ap (λ (b : Bool). is_eq (nat_cmp file r.0.file) && b) (then-both (nat_cmp fork r.0.fork) (nat_cmp block r.0.block))
    ∙ (λ t. same-number file r.0.file t && (same-number fork r.0.fork t && same-number block r.0.block t))
    ∙ and_over (r.0.file == file) (r.0.fork == fork) (r.0.block == block)

pub body-of : (file fork block : ℕ) (records : Overflow) → lookup ext_cmp (key-of file fork block) records ≡ option_map (λ r. r.1) (find (has_key file fork block) records)
body-of file fork block [] = refl
body-of file fork block (r ∷ records) =
    ap (λ (b : Bool). if b then Some r.1 else lookup ext_cmp (key-of file fork block) records) (tied-is file fork block r)
    ∙ by (has_key file fork block r) (body-of file fork block records)
  where
    by : (b : Bool) → lookup ext_cmp (key-of file fork block) records ≡ option_map (λ r. r.1) (find (has_key file fork block) records)
        → (if b then Some r.1 else lookup ext_cmp (key-of file fork block) records) ≡ option_map (λ (q : ExtKey × List ℕ). q.1) (cond b (Some r) (find (has_key file fork block) records))
    by true rest = refl
    by false rest = rest

-- ---- all keys

module _ (records : Overflow) (rises : Rises ext_cmp records) (file fork : ℕ) where
  pub at-key : (block : ℕ) → block < 65536 → record_at records file fork block ≡ find (has_key file fork block) records
  at-key block short = ap (λ (b : Bool). if b then find (has_key file fork block) records else None) (lt-ltb block 65536 short)

  module _ (block : ℕ) (r : ExtKey × List ℕ) (short : block < 65536) (there : find (has_key file fork block) records ≡ Some r) where
    pub body-is : lookup ext_cmp (key-of file fork block) records ≡ Some r.1
    body-is = body-of file fork block records ∙ ap (option_map (λ (q : ExtKey × List ℕ). q.1)) there

    -- what a record goes on with, by how many blocks it has
    pub goes-on : (n : ℕ) → block_total (record_extents r.1) ≡ n
        → extents_from records file fork block ≡ (if nat_lt 0 n then record_extents r.1 ++ extents_from records file fork (block + block_total (record_extents r.1)) else [])
    goes-on n total =
        elim (cases_lt (length r.1) 12) [
          | inl few ↦
              let none : record_extents r.1 ≡ [] = ap (λ (b : Bool). if b then extents_at 0 r.1 else []) (lt-leb 12 (length r.1) few) in
              let zero-is : n ≡ 0 = sym total ∙ ap block_total none in
              too_short records rises file fork block r.1 body-is (λ long. absurd (omega (arith, few, long)))
              ∙ sym (ap (λ (k : ℕ). if nat_lt 0 k then record_extents r.1 ++ extents_from records file fork (block + block_total (record_extents r.1)) else []) zero-is)
          | inr long ↦ by n total long (ap (λ (b : Bool). if b then extents_at 0 r.1 else []) (le-leb 12 (length r.1) long))
        ]
      where
        by : (n : ℕ) → block_total (record_extents r.1) ≡ n → 12 ≤ length r.1 → record_extents r.1 ≡ extents_at 0 r.1
            → extents_from records file fork block ≡ (if nat_lt 0 n then record_extents r.1 ++ extents_from records file fork (block + block_total (record_extents r.1)) else [])
        by zero total long same = no_block records rises file fork block r.1 body-is long short (sym (ap block_total same) ∙ total)
        by (suc n) total long same =
            let some : 0 < block_total (extents_at 0 r.1) = omega (arith, sym (ap block_total same) ∙ total) in
            some_block records rises file fork block r.1 body-is long short some
            ∙ (λ t. sym same t ++ extents_from records file fork (block + block_total (sym same t)))
            ∙ sym (ap (λ (b : Bool). if b then record_extents r.1 ++ extents_from records file fork (block + block_total (record_extents r.1)) else []) (lt-ltb 0 (suc n) (omega arith)))

  pub onward : (most block : ℕ) → 65536 ≤ block + most → further records file fork 65536 most block ≡ extents_from records file fork block
  onward zero block enough = further-ended records file fork 65536 zero block refl ∙ sym (past_keys records rises file fork block (omega (arith, enough)))
  onward (suc most) block enough =
      elim (cases_lt block 65536) [
        | inl short ↦ by short (find (has_key file fork block) records) refl (λ more some. onward most (block + more) (omega (arith, enough, some)))
        | inr past ↦ further-full records file fork 65536 (suc most) block past ∙ sym (past_keys records rises file fork block past)
      ]
    where
      with-blocks : block < 65536 → (r : ExtKey × List ℕ) → find (has_key file fork block) records ≡ Some r
          → ((more : ℕ) → 0 < more → further records file fork 65536 most (block + more) ≡ extents_from records file fork (block + more))
          → (n : ℕ) → block_total (record_extents r.1) ≡ n → further records file fork 65536 (suc most) block ≡ extents_from records file fork block
      with-blocks short r there on zero total = further-empty records file fork 65536 most block r short (at-key block short ∙ there) total ∙ sym (goes-on block r short there zero total)
      with-blocks short r there on (suc n) total =
          further-more records file fork 65536 most block r short (at-key block short ∙ there) (λ e. absurd (omega (arith, total, e)))
          ∙ ap (λ (l : List Extent). record_extents r.1 ++ l) (on (block_total (record_extents r.1)) (omega (arith, total)))
          ∙ sym (goes-on block r short there (suc n) total
          ∙ ap (λ (b : Bool). if b then record_extents r.1 ++ extents_from records file fork (block + block_total (record_extents r.1)) else []) (lt-ltb 0 (suc n) (omega arith)))

      by : block < 65536 → (o : Option (ExtKey × List ℕ)) → find (has_key file fork block) records ≡ o
          → ((more : ℕ) → 0 < more → further records file fork 65536 most (block + more) ≡ extents_from records file fork (block + more))
          → further records file fork 65536 (suc most) block ≡ extents_from records file fork block
      by short None none on =
          further-none records file fork 65536 (suc most) block (at-key block short ∙ none)
          ∙ sym (not_found records rises file fork block (body-of file fork block records ∙ ap (option_map (λ (q : ExtKey × List ℕ). q.1)) none))
      by short (Some r) there on = with-blocks short r there on (block_total (record_extents r.1)) refl

  -- a fork that wants all blocks that it can have
  pub all-extents : (first : List Extent) → fork_extents records file fork 65536 first ≡ whole_extents records file fork first
  unfolding fork_extents whole_extents
  all-extents first = ap (λ (l : List Extent). first ++ l) (onward 65536 (block_total first) (omega arith))
