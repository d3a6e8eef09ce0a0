-- No byte of a sound volume's image lies in two runs of forks.
use Rattle.std.proofs.Common.{◌≡◌, inl, inr, ⊎_elim, ℕ, zero, suc, ◌+◌, ◌-◌, ◌*◌, ◌/◌, ◌%◌, ◌<◌, ◌≤◌, Bool, true, false, cond, ◌&&◌, leb, ltb, eqb, get_or, length, drop, take, List, [], ◌∷◌, ◌++◌, Option, Some, None, refl, ◌∙◌, ap, subst, arith}
use Rattle.std.specs.List.{cons_option, flat_map, range_with_len, sum_by}
use Rattle.std.specs.List.Sorted.{IsNonDecreasingBy, IsPermutation}
use Rattle.std.proofs.lemmas.Bool.{le-leb, lt-ltb, leb-true, ltb-true, cases_lt, cases_Bool, and_parts, eqb-false}
use Rattle.std.proofs.lemmas.List.{get_or-take, get_or-drop, length-take-le, length-drop}
use Rattle.std.proofs.lemmas.List.Sums.{sum_by-cons, sum_by-append, sum_by-take-drop, get_or-le-sum_by}
use Rattle.std.proofs.lemmas.List.Sorted.{sum_by-IsPermutation, Contains-permutation, IsPermutation-sym}
use Rattle.std.proofs.Math.Nat.{add-mul, mul-le-mul_left, mul-le-mul_right}
use Rattle.hfs_blocks.specs.Blocks.{block_at}
use Rattle.hfs_space.proofs.OwnedOnce.{distinct-once}
use Rattle.hfs_catalog.specs.Records.{Catalog, Record}
use Rattle.hfs_check.specs.Parts.{Blocks, catalog_in, mdb_in, overflow_in, owned_in}
use Rattle.hfs_check.specs.Sound.{IsSound}
use Rattle.hfs_fields.specs.declared.extent.Extent.{Extent}
use Rattle.hfs_fields.specs.declared.file_record.FileRecord.{FileRecord}
use Rattle.hfs_fields.specs.declared.mdb.Mdb.{Mdb}
use Rattle.hfs_fields.specs.Records.{is_file, file_record_of}
use Rattle.hfs_call_patches.proofs.Rooms.{room_left, within_each}
use Rattle.hfs_space.proofs.OwnedLemmas.{length-blocks, blocks-cons, blocks-append}
use Rattle.hfs_model.specs.declared.call.Fork.{Fork}
use Rattle.hfs_model.specs.declared.call.Fork.TheVariants.{DataFork, ResFork}
use Rattle.hfs_model.proofs.Members.{contains_from_in, in_from_contains}
use Rattle.hfs_fields.specs.Each.{Each}
use Rattle.hfs_fields.specs.Members.{In}
use Rattle.hfs_fields.proofs.ElementLemmas.{each-append}
use Rattle.hfs_fields.proofs.MemberLemmas.{each_in}
use Rattle.hfs_put_sources.specs.declared.fork_run.ForkRun.{ForkRun}
use Rattle.hfs_space.specs.Extents.{AreExtentsWithin, Overflow, block_total, extent_blocks}
use Rattle.hfs_space.specs.Forks.{blocks_each, run_in}
use Rattle.hfs_space.specs.Owners.{Fork as OwnedFork, forks_of_file, owned_blocks, owners}
use Rattle.hfs_space.specs.Sound.{IsForkSound}
use Rattle.hfs_volume.specs.Sharing.{file_extents}
use Rattle.hfs_volume.proofs.Owned.{forks_have, owners_in, owners_sum, record_has, sum_in}
use Rattle.hfs_put.specs.ForkRuns.{AreRunsApart, file_runs, fork_runs_of, record_runs, runs_from}
use Rattle.hfs_volume.proofs.OwnedStay.{range_in}

-- ---- members, whatever the order

pub in_permutation : (xs ys : List ForkRun) (x : ForkRun) → IsPermutation xs ys → In x xs → In x ys
in_permutation xs ys x same i =
    let there = Contains-permutation xs ys x same (contains_from_in xs x i) in
    in_from_contains ys x there.0 there.1 there.2

pub each_permutation : (P : ForkRun → Type 0) (xs ys : List ForkRun) → IsPermutation xs ys → Each P xs → Each P ys
each_permutation P xs ys same h = each_of ys (λ y i. each_in P xs y h (in_permutation ys xs y (IsPermutation-sym xs ys same) i))
  where
    each_of : (zs : List ForkRun) → ((z : ForkRun) → In z zs → P z) → Each P zs
    each_of [] f = tt
    each_of (z ∷ zs) f = (f z (inl refl), each_of zs (λ y i. f y (inr i)))

-- ---- how many runs have a byte

-- the byte is one of the run's
abbrev pub has_byte : ℕ → ForkRun → Bool
has_byte x run = leb run.place x && ltb x (run.place + run.len)

abbrev pub one_for : ℕ → ForkRun → ℕ
one_for x run = cond (has_byte x run) 1 0

-- the allocation block of a byte
abbrev pub block_of : Mdb → ℕ → ℕ
block_of mdb x = (x / 512 - mdb.allocation_start) / blocks_each mdb

-- a quotient lies between two numbers where what is divided lies between their multiples
quotient_low : (each f z : ℕ) → 0 < each → f * each ≤ z → f ≤ z / each
quotient_low each f z some low = ⊎_elim
    (λ (less : z / each < f).
    let next : (z / each + 1) * each ≤ f * each = mul-le-mul_right each (omega (arith, less)) in
    let sum : (z / each + 1) * each ≡ z / each * each + 1 * each = add-mul (z / each) 1 each in
    let blocks-cons : z / each * each + z % each ≡ z = omega arith in
    absurd (omega (arith, next, sum, blocks-cons, low)))
    (λ more. more)
    (cases_lt (z / each) f)

quotient_high : (each k z : ℕ) → 0 < each → z < k * each → z / each < k
quotient_high each k z some high = ⊎_elim
    (λ (less : z / each < k). less)
    (λ more.
    let most : k * each ≤ z / each * each = mul-le-mul_right each more in
    let blocks-cons : z / each * each + z % each ≡ z = omega arith in
    absurd (omega (arith, most, blocks-cons, high)))
    (cases_lt (z / each) k)

module _ (mdb : Mdb) (some : 0 < blocks_each mdb) (item : ℕ) (fork : Fork) (x : ℕ) where
  abbrev each : ℕ
  each = blocks_each mdb

  abbrev run_of : ℕ → Extent → ForkRun
  run_of before e = record {
    place = 512 * (run_in mdb e).first;
    len = 512 * (run_in mdb e).count;
    item = item;
    fork = fork;
    offset = 512 * (before * blocks_each mdb);
  }

  has-block : (before : ℕ) (e : Extent) → has_byte x (run_of before e) ≡ true → 0 < owners (range_with_len e.first e.count) (block_of mdb x)
  has-block before e has =
      let run = run_of before e in
      let tests = and_parts (leb run.place x) (ltb x (run.place + run.len)) has in
      let low : run.place ≤ x = leb-true run.place x tests.0 in
      let high : x < run.place + run.len = ltb-true x (run.place + run.len) tests.1 in
      let y = x / 512 in
      let from : mdb.allocation_start + e.first * each ≤ y = omega (arith, low) in
      let to : y < mdb.allocation_start + e.first * each + e.count * each = omega (arith, high) in
      let z = y - mdb.allocation_start in
      let z_low : e.first * each ≤ z = omega (arith, from) in
      let sum : (e.first + e.count) * each ≡ e.first * each + e.count * each = add-mul e.first e.count each in
      let z_high : z < (e.first + e.count) * each = omega (arith, sum, from, to) in
      owners_in (block_of mdb x) (range_with_len e.first e.count)
      (range_in e.first e.count (block_of mdb x) (quotient_low each e.first z some z_low) (quotient_high each (e.first + e.count) z some z_high))

  one-extent : (before : ℕ) (e : Extent) → one_for x (run_of before e) ≤ owners (range_with_len e.first e.count) (block_of mdb x)
  one-extent before e = elim (cases_Bool (has_byte x (run_of before e))) [
    | inl has ↦
        let one : one_for x (run_of before e) ≡ 1 = ap (λ (t : Bool). cond t 1 0) has in
        let owned = has-block before e has in
        omega (arith, one, owned)
    | inr not ↦ let none : one_for x (run_of before e) ≡ 0 = ap (λ (t : Bool). cond t 1 0) not in omega (arith, none)
  ]

  pub runs_have : (before : ℕ) (es : List Extent) → sum_by (one_for x) (runs_from mdb item fork before es) ≤ owners (extent_blocks es) (block_of mdb x)
  unfolding runs_from
  runs_have before [] = omega arith
  runs_have before (e ∷ es) = by (eqb e.count 0) (runs_have (before + e.count) es)
    where
      by : (t : Bool) → sum_by (one_for x) (runs_from mdb item fork (before + e.count) es) ≤ owners (extent_blocks es) (block_of mdb x)
          → sum_by (one_for x) (cons_option (cond t None (Some (run_of before e))) (runs_from mdb item fork (before + e.count) es)) ≤ owners (extent_blocks (e ∷ es)) (block_of mdb x)
      by true rest = let all = blocks-cons e es (block_of mdb x) in omega (arith, rest, all)
      by false rest =
          let all = blocks-cons e es (block_of mdb x) in
          let own = one-extent before e in
          let sum = sum_by-cons (one_for x) (run_of before e) (runs_from mdb item fork (before + e.count) es) in
          omega (arith, rest, all, own, sum)

  pub runs_some : (before : ℕ) (es : List Extent) → Each (λ (run : ForkRun). 0 < run.len) (runs_from mdb item fork before es)
  unfolding runs_from
  runs_some before [] = tt
  runs_some before (e ∷ es) = by (eqb e.count 0) refl (runs_some (before + e.count) es)
    where
      by : (t : Bool) → eqb e.count 0 ≡ t → Each (λ (run : ForkRun). 0 < run.len) (runs_from mdb item fork (before + e.count) es)
          → Each (λ (run : ForkRun). 0 < run.len) (cons_option (cond t None (Some (run_of before e))) (runs_from mdb item fork (before + e.count) es))
      by true none rest = rest
      by false has rest =
          let count : 0 < e.count = omega (arith, eqb-false e.count 0 has) in
          let product : 1 * each ≤ e.count * each = mul-le-mul_right each count in
          (omega (arith, product, some), rest)

-- ---- the forks of a sound volume's files

module _ (image : List ℕ) (sound : IsSound image) where
  abbrev blocks : Blocks
  blocks = block_at image

  abbrev mdb : Mdb
  mdb = mdb_in blocks

  abbrev overflow : Overflow
  overflow = overflow_in blocks

  pub each_some : 0 < blocks_each mdb
  each_some = let least = sound.blocks.mdb.least_size in omega (arith, least)

  -- both forks of a file have no block more often than it is owned
  both_have : (file : FileRecord) (b : ℕ)
      → owners (extent_blocks (file_extents blocks DataFork file)) b + owners (extent_blocks (file_extents blocks ResFork file)) b ≡ forks_have mdb overflow b (forks_of_file file)
  unfolding file_extents forks_of_file
  both_have file b = omega (
    arith,
    blocks-append (file_extents blocks DataFork file) (file_extents blocks ResFork file ++ []) b,
    blocks-append (file_extents blocks ResFork file) [] b,
  )

  once : (b : ℕ) → sum_by (record_has mdb overflow b) (catalog_in blocks) ≤ 1
  unfolding owned_in
  once b = omega (arith, owners_sum mdb overflow b (catalog_in blocks), distinct-once (owned_blocks mdb overflow (catalog_in blocks)) sound.blocks.space.once b)

  record_is : (r : Record) (b : ℕ) → is_file r.1 ≡ true → record_has mdb overflow b r ≡ forks_have mdb overflow b (forks_of_file (file_record_of r.1))
  record_is r b file = ap (λ (t : Bool). forks_have mdb overflow b (cond t (forks_of_file (file_record_of r.1)) [])) file

  module _ (place_of : ℕ → Option ℕ) (x : ℕ) where
    abbrev count : List ForkRun → ℕ
    count runs = sum_by (one_for x) runs

    file_have : (place : Option ℕ) (file : FileRecord) → count (file_runs blocks place file) ≤ forks_have mdb overflow (block_of mdb x) (forks_of_file file)
    file_have None file = omega arith
    file_have (Some place) file =
        let first = runs_have mdb each_some place DataFork x 0 (file_extents blocks DataFork file) in
        let second = runs_have mdb each_some place ResFork x 0 (file_extents blocks ResFork file) in
        let sum = sum_by-append (one_for x) (fork_runs_of blocks place DataFork file) (fork_runs_of blocks place ResFork file) in
        let both = both_have file (block_of mdb x) in
        omega (arith, first, second, sum, both)

    record_have : (r : Record) → count (record_runs blocks place_of r) ≤ record_has mdb overflow (block_of mdb x) r
    record_have r = by (is_file r.1) refl
      where
        by : (t : Bool) → is_file r.1 ≡ t → count (cond t (file_runs blocks (place_of (file_record_of r.1).id) (file_record_of r.1)) []) ≤ record_has mdb overflow (block_of mdb x) r
        by true file =
            let own = file_have (place_of (file_record_of r.1).id) (file_record_of r.1) in
            let same = record_is r (block_of mdb x) file in
            omega (arith, own, same)
        by false none = omega arith

    records_have : (rs : Catalog) → count (flat_map (record_runs blocks place_of) rs) ≤ sum_by (record_has mdb overflow (block_of mdb x)) rs
    records_have [] = omega arith
    records_have (r ∷ rs) =
        let sum = sum_by-append (one_for x) (record_runs blocks place_of r) (flat_map (record_runs blocks place_of) rs) in
        let cons = sum_by-cons (record_has mdb overflow (block_of mdb x)) r rs in
        let own = record_have r in
        let rest = records_have rs in
        omega (arith, sum, cons, own, rest)

    pub all_once : count (flat_map (record_runs blocks place_of) (catalog_in blocks)) ≤ 1
    all_once = let all = records_have (catalog_in blocks) in let most = once (block_of mdb x) in omega (arith, all, most)

  -- ---- each run has bytes

  file_some : (place : Option ℕ) (file : FileRecord) → Each (λ (run : ForkRun). 0 < run.len) (file_runs blocks place file)
  file_some None file = tt
  file_some (Some place) file =
      each-append (λ (run : ForkRun). 0 < run.len) (fork_runs_of blocks place DataFork file) (fork_runs_of blocks place ResFork file)
      (runs_some mdb each_some place DataFork 0 0 (file_extents blocks DataFork file)) (runs_some mdb each_some place ResFork 0 0 (file_extents blocks ResFork file))

  record_some : (place_of : ℕ → Option ℕ) (r : Record) → Each (λ (run : ForkRun). 0 < run.len) (record_runs blocks place_of r)
  record_some place_of r = by (is_file r.1)
    where
      by : (t : Bool) → Each (λ (run : ForkRun). 0 < run.len) (cond t (file_runs blocks (place_of (file_record_of r.1).id) (file_record_of r.1)) [])
      by true = file_some (place_of (file_record_of r.1).id) (file_record_of r.1)
      by false = tt

  pub all_some : (place_of : ℕ → Option ℕ) (rs : Catalog) → Each (λ (run : ForkRun). 0 < run.len) (flat_map (record_runs blocks place_of) rs)
  all_some place_of [] = tt
  all_some place_of (r ∷ rs) =
      each-append (λ (run : ForkRun). 0 < run.len) (record_runs blocks place_of r) (flat_map (record_runs blocks place_of) rs) (record_some place_of r) (all_some place_of rs)

  -- ---- a fork has no more blocks than the volume

  forks_in : (r : Record) → In r (catalog_in blocks) → is_file r.1 ≡ true → Each (IsForkSound mdb overflow) (forks_of_file (file_record_of r.1))
  forks_in r there file =
      subst (λ (fs : List OwnedFork). Each (IsForkSound mdb overflow) fs) (ap (λ (t : Bool). cond t (forks_of_file (file_record_of r.1)) []) file)
      (each_in _ (catalog_in blocks) r sound.blocks.forks.files there)

  within : (file : FileRecord) → Each (IsForkSound mdb overflow) (forks_of_file file) → (fork : Fork) → AreExtentsWithin mdb.allocation_blocks (file_extents blocks fork file)
  unfolding file_extents forks_of_file
  within file h DataFork = h.0.within
  within file h ResFork = h.1.0.within

  fork_once : (r : Record) → In r (catalog_in blocks) → is_file r.1 ≡ true → (fork : Fork) (b : ℕ) → owners (extent_blocks (file_extents blocks fork (file_record_of r.1))) b ≤ 1
  fork_once r there file DataFork b =
      let both = both_have (file_record_of r.1) b in let own = record_is r b file in let sum = sum_in mdb overflow b (catalog_in blocks) r there in let most = once b in
      omega (arith, both, own, sum, most)
  fork_once r there file ResFork b =
      let both = both_have (file_record_of r.1) b in let own = record_is r b file in let sum = sum_in mdb overflow b (catalog_in blocks) r there in let most = once b in
      omega (arith, both, own, sum, most)

  pub fork_few : (r : Record) → In r (catalog_in blocks) → is_file r.1 ≡ true → (fork : Fork) → block_total (file_extents blocks fork (file_record_of r.1)) ≤ mdb.allocation_blocks
  fork_few r there file fork =
      let es = file_extents blocks fork (file_record_of r.1) in
      let every : ℕ → Bool = λ b. true in
      let left = room_left every mdb.allocation_blocks (extent_blocks es) (fork_once r there file fork)
      (λ b some. within_each mdb.allocation_blocks b es (within (file_record_of r.1) (forks_in r there file) fork) some) (λ b some. refl) in
      let same = length-blocks es in
      omega (arith, left, same)

  -- fewer than a number of 32 bits counts
  pub blocks-few : (r : Record) → In r (catalog_in blocks) → is_file r.1 ≡ true → (fork : Fork) → block_total (file_extents blocks fork (file_record_of r.1)) < 4294967296
  blocks-few r there file fork =
      let few = fork_few r there file fork in
      let area = sound.blocks.mdb.area in
      let most = sound.len.most in
      let product : mdb.allocation_blocks * 1 ≤ mdb.allocation_blocks * blocks_each mdb = mul-le-mul_left mdb.allocation_blocks each_some in
      omega (arith, few, area, most, product)

-- ---- runs in order

two-places : (f : ForkRun → ℕ) (xs : List ForkRun) (i j : ℕ) (d : ForkRun) → i < j → j < length xs → f (get_or xs i d) + f (get_or xs j d) ≤ sum_by f xs
two-places f xs i j d less lt =
    let front = get_or-le-sum_by f (take j xs) i d (let long = length-take-le j xs (omega (arith, lt)) in omega (arith, less, long)) in
    let back = get_or-le-sum_by f (drop j xs) 0 d (let long = length-drop j xs in omega (arith, lt, long)) in
    let all = sum_by-take-drop f xs j in
    let one = ap f (get_or-take j xs i d less) in
    let two = ap f (get_or-drop j xs 0 d ∙ ap (λ k. get_or xs k d) (let e : j + 0 ≡ j = omega arith in e)) in
    omega (arith, front, back, all, one, two)

has : (x : ℕ) (run : ForkRun) → run.place ≤ x → x < run.place + run.len → one_for x run ≡ 1
has x run low high = ap (λ (t : Bool). cond t 1 0) (ap (λ b. b && ltb x (run.place + run.len)) (le-leb run.place x low) ∙ lt-ltb x (run.place + run.len) high)

each_at : (P : ForkRun → Type 0) (xs : List ForkRun) (i : ℕ) (d : ForkRun) → i < length xs → Each P xs → P (get_or xs i d)
each_at P [] i d lt h = absurd (omega (arith, lt))
each_at P (x ∷ xs) zero d lt h = h.0
each_at P (x ∷ xs) (suc i) d lt h = each_at P xs i d (omega (arith, lt)) h.1

pub sorted_apart : (xs ys : List ForkRun) → IsPermutation xs ys → IsNonDecreasingBy (λ (run : ForkRun). run.place) ys → Each (λ (run : ForkRun). 0 < run.len) xs
    → ((x : ℕ) → sum_by (one_for x) xs ≤ 1) → AreRunsApart ys
sorted_apart xs ys same order some once i j d less lt =
    let a = get_or ys i d in
    let b = get_or ys j d in
    let first : a.place ≤ b.place = order i j d (omega (arith, less)) lt in
    let long : 0 < b.len = each_at (λ (run : ForkRun). 0 < run.len) ys j d lt (each_permutation (λ (run : ForkRun). 0 < run.len) xs ys same some) in
    elim (cases_lt b.place (a.place + a.len)) [
      | inr apart ↦ apart
      | inl meet ↦
          let here : one_for b.place a ≡ 1 = has b.place a first meet in
          let there : one_for b.place b ≡ 1 = has b.place b (omega arith) (omega (arith, long)) in
          let both = two-places (one_for b.place) ys i j d less lt in
          let sums = sum_by-IsPermutation (one_for b.place) xs ys same in
          let most : sum_by (one_for b.place) xs ≤ 1 = once b.place in
          absurd (omega (arith, here, there, both, sums, most))
    ]
