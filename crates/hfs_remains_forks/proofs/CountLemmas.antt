-- How many blocks a fork has, by the sums of its chain.
use Rattle.std.proofs.Common.{◌≡◌, ◌≢◌, ℕ, zero, suc, ◌+◌, ◌<◌, ◌≤◌, Bool, true, false, ◌&&◌, ◌==◌, nat_lt, if◌then◌else◌, Bor, ltb, List, [], length, get_or, Option, Some, None, refl, sym, ap, ◌∙◌, arith, inl, inr}
use Rattle.std.specs.Prelude.{find}
use Rattle.std.specs.List.{position_from}
use Rattle.std.specs.Option.{option_map_or, option_copied, is_some, IfSome}
use Rattle.std.proofs.lemmas.Bool.{cases_lt, cases_eq, eqb-true, eq-eqb, ne_eqb, le-leb, lt-leb}
use Rattle.std.proofs.lemmas.List.{get_or-map, get_or_default}
use Rattle.std.proofs.lemmas.List.Sums.{sum_by-append}
use Rattle.hfs_fields.specs.declared.extent.Extent.{Extent}
use Rattle.hfs_fields.specs.declared.key.ExtKey.{ExtKey}
use Rattle.hfs_catalog.proofs.Indexed.{found_get, found_is, found_none}
use Rattle.hfs_space.specs.Extents.{Overflow, block_total, record_extents}
use Rattle.hfs_remains.specs.OverflowRecords.{has_key, record_at, further, fork_extents}
use Rattle.hfs_remains.proofs.ForkLemmas.{further-none, further-ended, further-empty, further-more}
use Rattle.hfs_remains_places.specs.Chains.{place_at}
use Rattle.hfs_remains_places.proofs.FolderLemmas.{position-holds}
use Rattle.hfs_remains_forks.specs.Chains.{own_blocks, record_place, next_place, owns_of, nexts_of, number_at, blocks_in, at_most}
use Rattle.hfs_remains_forks.proofs.SumLemmas.{blocks_in-zero, blocks_in-suc}

-- ---- no more than are wanted

pub at_most-full : (wanted n : ℕ) → wanted ≤ n → at_most wanted n ≡ wanted
at_most-full wanted n full = ap (λ (b : Bool). if b then wanted else n) (le-leb wanted n full)

pub at_most-few : (wanted n : ℕ) → n < wanted → at_most wanted n ≡ n
at_most-few wanted n few = ap (λ (b : Bool). if b then wanted else n) (lt-leb wanted n few)

-- ---- records by their places

abbrev none_such : ExtKey × List ℕ
none_such = (record { fork = 0; file = 0; block = 0 }, [])

record IsFound (records : Overflow) (file fork block i : ℕ) (r : ExtKey × List ℕ) : Type 0 where
  within : i < length records
  stands : r ≡ get_or records i none_such
  found : record_at records file fork block ≡ Some r
  file_is : r.0.file ≡ file
  fork_is : r.0.fork ≡ fork
  block_is : r.0.block ≡ block

placed : (records : Overflow) (file fork block i : ℕ) → record_place records file fork block ≡ Some i → (nat_lt block 65536 ≡ true) × (position_from (has_key file fork block) 0 records ≡ Some i)
unfolding record_place
placed records file fork block i is = by (nat_lt block 65536) is
  where
    by : (b : Bool) → (if b then position_from (has_key file fork block) 0 records else None) ≡ Some i → (b ≡ true) × (position_from (has_key file fork block) 0 records ≡ Some i)
    by true e = (refl, e)
    by false e = cc

pub placed-none : (records : Overflow) (file fork block : ℕ) → record_place records file fork block ≡ None → record_at records file fork block ≡ None
unfolding record_place
placed-none records file fork block is = by (nat_lt block 65536) is
  where
    by : (b : Bool) → (if b then position_from (has_key file fork block) 0 records else None) ≡ None → (if b then find (has_key file fork block) records else None) ≡ None
    by true e = found_none (has_key file fork block) 0 records e
    by false e = refl

pub placed-some : (records : Overflow) (file fork block i : ℕ) (o : Option (Bor (ExtKey × List ℕ))) → record_place records file fork block ≡ Some i
    → is_some o ≡ ltb i (length records) → IfSome o (λ x. x.now ≡ get_or records i x.now) → option_copied o ≡ record_at records file fork block
placed-some records file fork block i o is there at =
    let place = placed records file fork block i is in
    found_get (has_key file fork block) records i o place.1 there at
    ∙ ap (λ (b : Bool). if b then find (has_key file fork block) records else None) (sym place.0)

key-parts : (r : ExtKey × List ℕ) (file fork block : ℕ) → has_key file fork block r ≡ true → (r.0.file ≡ file) × ((r.0.fork ≡ fork) × (r.0.block ≡ block))
key-parts r file fork block is = by (r.0.file == file) (r.0.fork == fork) (r.0.block == block) refl refl refl is
  where
    by : (a b c : Bool) → (r.0.file == file) ≡ a → (r.0.fork == fork) ≡ b → (r.0.block == block) ≡ c → (a && b && c) ≡ true → (r.0.file ≡ file) × ((r.0.fork ≡ fork) × (r.0.block ≡ block))
    by true true true x y z e = (eqb-true r.0.file file x, (eqb-true r.0.fork fork y, eqb-true r.0.block block z))
    by true true false x y z e = cc
    by true false c x y z e = cc
    by false b c x y z e = cc

is-found : (records : Overflow) (file fork block i : ℕ) → record_place records file fork block ≡ Some i → IsFound records file fork block i (get_or records i none_such)
is-found records file fork block i is =
    let place = placed records file fork block i is in
    let at = position-holds (has_key file fork block) 0 records i place.1 in
    let same : at.m ≡ i = omega (arith, at.place) in
    let r : ExtKey × List ℕ = get_or records i none_such in
    let within : i < length records = omega (arith, at.within, same) in
    let holds : has_key file fork block r ≡ true = ap (λ (j : ℕ). has_key file fork block (get_or records j none_such)) (sym same) ∙ at.holds none_such in
    let parts = key-parts r file fork block holds in
    record {
      within = within;
      stands = refl;
      found =
          ap (λ (b : Bool). if b then find (has_key file fork block) records else None) place.0
          ∙ sym (found_is (has_key file fork block) records i r place.1 (get_or_default records i none_such r within));
      file_is = parts.0;
      fork_is = parts.1.0;
      block_is = parts.1.1;
    }

own-at : (records : Overflow) (i : ℕ) → i < length records → number_at (owns_of records) i ≡ own_blocks (get_or records i none_such)
unfolding owns_of
own-at records i within = get_or-map own_blocks records i none_such 0 within

next-at : (records : Overflow) (i : ℕ) → i < length records → place_at (nexts_of records) i ≡ next_place records (get_or records i none_such)
unfolding nexts_of
next-at records i within = get_or-map (next_place records) records i none_such None within

-- ---- the count

module _ (records : Overflow) (file fork wanted : ℕ) where
  -- what a fork goes on with from a block on, by the sums
  abbrev summed_from : ℕ → ℕ → ℕ
  summed_from most block = option_map_or (blocks_in (owns_of records) (nexts_of records) most) (record_place records file fork block) 0

  none-more : (o : Option ℕ) → option_map_or (blocks_in (owns_of records) (nexts_of records) zero) o 0 ≡ 0
  none-more None = refl
  none-more (Some j) = blocks_in-zero (owns_of records) (nexts_of records) j

  abbrev Counted : ℕ → Type 0
  Counted most = (block : ℕ) → at_most wanted (block + block_total (further records file fork wanted most block)) ≡ at_most wanted (block + summed_from most block)

  more : (most : ℕ) → Counted most → (block i : ℕ) → block < wanted → (r : ExtKey × List ℕ) → IsFound records file fork block i r → own_blocks r ≢ 0
      → at_most wanted (block + block_total (further records file fork wanted (suc most) block)) ≡ at_most wanted (block + blocks_in (owns_of records) (nexts_of records) (suc most) i)
  more most before block i wants r is some =
      let own : number_at (owns_of records) i ≡ own_blocks r = own-at records i is.within ∙ ap own_blocks (sym is.stands) in
      let next : place_at (nexts_of records) i ≡ record_place records file fork (block + own_blocks r) =
      next-at records i is.within ∙ ap (next_place records) (sym is.stands)
      ∙ ap (λ (b : Bool). if b then None else record_place records r.0.file r.0.fork (r.0.block + own_blocks r)) (ne_eqb (own_blocks r) 0 some)
      ∙ (λ t. record_place records (is.file_is t) (is.fork_is t) (is.block_is t + own_blocks r)) in
      let sum : blocks_in (owns_of records) (nexts_of records) (suc most) i ≡ own_blocks r + summed_from most (block + own_blocks r) =
      blocks_in-suc (owns_of records) (nexts_of records) most i ∙ (λ t. own t + option_map_or (blocks_in (owns_of records) (nexts_of records) most) (next t) 0) in
      let left : block_total (further records file fork wanted (suc most) block) ≡ own_blocks r + block_total (further records file fork wanted most (block + own_blocks r)) =
      ap block_total (further-more records file fork wanted most block r wants is.found some)
      ∙ sum_by-append (λ (e : Extent). e.count) (record_extents r.1) (further records file fork wanted most (block + own_blocks r)) in
      ap (at_most wanted) (omega (arith, left))
      ∙ before (block + own_blocks r)
      ∙ ap (at_most wanted) (omega (arith, sum))

  empty : (most block i : ℕ) → block < wanted → (r : ExtKey × List ℕ) → IsFound records file fork block i r → own_blocks r ≡ 0
      → at_most wanted (block + block_total (further records file fork wanted (suc most) block)) ≡ at_most wanted (block + blocks_in (owns_of records) (nexts_of records) (suc most) i)
  empty most block i wants r is none =
      let own : number_at (owns_of records) i ≡ 0 = own-at records i is.within ∙ ap own_blocks (sym is.stands) ∙ none in
      let next : place_at (nexts_of records) i ≡ None =
      next-at records i is.within ∙ ap (next_place records) (sym is.stands)
      ∙ ap (λ (b : Bool). if b then None else record_place records r.0.file r.0.fork (r.0.block + own_blocks r)) (eq-eqb (own_blocks r) 0 none) in
      let sum : blocks_in (owns_of records) (nexts_of records) (suc most) i ≡ 0 =
      blocks_in-suc (owns_of records) (nexts_of records) most i ∙ (λ t. own t + option_map_or (blocks_in (owns_of records) (nexts_of records) most) (next t) 0) in
      ap (λ (n : ℕ). at_most wanted (block + n)) (ap block_total (further-empty records file fork wanted most block r wants is.found none) ∙ sym sum)

  by-place : (most : ℕ) → Counted most → (block : ℕ) → block < wanted → (o : Option ℕ) → record_place records file fork block ≡ o
      → at_most wanted (block + block_total (further records file fork wanted (suc most) block)) ≡ at_most wanted (block + option_map_or (blocks_in (owns_of records) (nexts_of records) (suc most)) o 0)
  by-place most before block wants None is = ap (λ (l : List Extent). at_most wanted (block + block_total l)) (further-none records file fork wanted (suc most) block (placed-none records file fork block is))
  by-place most before block wants (Some i) is =
      let found = is-found records file fork block i is in
      elim (cases_eq (own_blocks (get_or records i none_such)) 0) [
        | inl none ↦ empty most block i wants (get_or records i none_such) found none
        | inr some ↦ more most before block i wants (get_or records i none_such) found some
      ]

  pub counted : (most : ℕ) → Counted most
  counted zero block =
      ap (λ (n : ℕ). at_most wanted (block + n))
      (ap block_total (further-ended records file fork wanted zero block refl) ∙ sym (none-more (record_place records file fork block)))
  counted (suc most) block =
      elim (cases_lt block wanted) [
        | inl wants ↦ by-place most (counted most) block wants (record_place records file fork block) refl
        | inr full ↦
            at_most-full wanted (block + block_total (further records file fork wanted (suc most) block)) (omega (arith, full))
            ∙ sym (at_most-full wanted (block + summed_from (suc most) block) (omega (arith, full)))
      ]

  -- the blocks of the first extents, and those of the records
  pub count-is : (first : List Extent) → at_most wanted (block_total (fork_extents records file fork wanted first)) ≡ at_most wanted (block_total first + summed_from 65536 (block_total first))
  unfolding fork_extents
  count-is first =
      ap (at_most wanted) (sum_by-append (λ (e : Extent). e.count) first (further records file fork wanted 65536 (block_total first)))
      ∙ counted 65536 (block_total first)

  pub count-full : (first : List Extent) → wanted ≤ block_total first → at_most wanted (block_total (fork_extents records file fork wanted first)) ≡ wanted
  count-full first full = count-is first ∙ at_most-full wanted (block_total first + summed_from 65536 (block_total first)) (omega (arith, full))

  pub count-none : (first : List Extent) → block_total first < wanted → record_place records file fork (block_total first) ≡ None
      → at_most wanted (block_total (fork_extents records file fork wanted first)) ≡ block_total first
  count-none first few none =
      let nothing : summed_from 65536 (block_total first) ≡ 0 = ap (λ (o : Option ℕ). option_map_or (blocks_in (owns_of records) (nexts_of records) 65536) o 0) none in
      count-is first ∙ ap (at_most wanted) (omega (arith, nothing)) ∙ at_most-few wanted (block_total first) few

  pub count-some : (first : List Extent) (i sum : ℕ) → record_place records file fork (block_total first) ≡ Some i → sum ≡ blocks_in (owns_of records) (nexts_of records) 65536 i
      → at_most wanted (block_total (fork_extents records file fork wanted first)) ≡ at_most wanted (block_total first + sum)
  count-some first i sum some is =
      let same : summed_from 65536 (block_total first) ≡ sum = ap (λ (o : Option ℕ). option_map_or (blocks_in (owns_of records) (nexts_of records) 65536) o 0) some ∙ sym is in
      count-is first ∙ ap (at_most wanted) (omega (arith, same))
