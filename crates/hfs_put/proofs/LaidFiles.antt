-- Where the runs of a list's files lie, and what stands in the blocks of these files when their bytes are laid in the runs.
use Rattle.std.proofs.Common.{◌≡◌, inl, inr, ⊎_elim, ℕ, suc, ◌+◌, ◌*◌, ◌/◌, ◌%◌, ◌<◌, ◌≤◌, Bool, true, cond, List, [], ◌∷◌, length, map, drop, slice_get, Option, Some, is_some, refl, sym, ap, subst, ◌∙◌, arith}
use Rattle.std.specs.Prelude.{◌-◌, ◌&&◌}
use Rattle.std.proofs.lemmas.Bool.{cases_lt}
use Rattle.std.proofs.Math.Nat.{add-mul, mul_assoc, mul_comm, mul-le-mul_right}
use Rattle.hfs_fields.specs.Records.{is_file, item_id, dir_record_of, file_record_of}
use Rattle.hfs_fields.specs.declared.extent.Extent.{Extent}
use Rattle.hfs_fields.specs.declared.file_record.FileRecord.{FileRecord}
use Rattle.hfs_fields.specs.declared.mdb.Mdb.{Mdb}
use Rattle.hfs_fields.specs.Each.{Each}
use Rattle.hfs_fields.specs.Members.{In}
use Rattle.hfs_fields.proofs.MemberLemmas.{each_in, in-left, in-right}
use Rattle.hfs_blocks.specs.Blocks.{block_at, run_of}
use Rattle.hfs_btree.specs.Sound.{IsOther}
use Rattle.hfs_model.specs.declared.call.Fork.{Fork}
use Rattle.hfs_model.specs.declared.call.Fork.TheVariants.{DataFork, ResFork}
use Rattle.hfs_space.specs.declared.fork_kind.ForkKind.TheVariants.{Data, Resource}
use Rattle.hfs_space.specs.Extents.{AreExtentsWithin, IsExtentWithin, block_total}
use Rattle.hfs_space.specs.ForkLaws.{block_numbers}
use Rattle.hfs_space.specs.Forks.{blocks_each, run_in}
use Rattle.hfs_space.specs.Owners.{forks_of_file}
use Rattle.hfs_space.specs.Sound.{IsForkSound}
use Rattle.hfs_space.proofs.Decided.{each_from_all}
use Rattle.hfs_catalog.proofs.FileRecords.{not-dir}
use Rattle.hfs_catalog.specs.Records.{Record}
use Rattle.hfs_check.specs.Parts.{Blocks, mdb_in, overflow_in, catalog_in}
use Rattle.hfs_check.specs.Sound.{AreBlocksSound}
use Rattle.hfs_image.specs.Laws.{blocks_of_fork}
use Rattle.hfs_call_patches.proofs.Overflows.{flat_in}
use Rattle.hfs_volume.specs.Mounted.{fork_record}
use Rattle.hfs_volume.specs.Sharing.{file_extents}
use Rattle.hfs_volume.proofs.OwnedStay.{each_of, range_in}
use Rattle.hfs_put.specs.ForkRuns.{fork_runs_of, IsForkRun, HaveForksOf, AreRunsApart, AreForkRuns}
use Rattle.hfs_put.specs.Laying.{item_of}
use Rattle.hfs_put_plan.specs.Laws.{AreTheirs}
use Rattle.hfs_put_plan.specs.Put.{Arrival, came}
use Rattle.hfs_put_plan.specs.WithForks.{FileForks, forks_of}
use Rattle.hfs_put_sources.specs.declared.fork_run.ForkRun.{ForkRun}
use Rattle.hfs_put.specs.Forks.{file_blocks, record_blocks, blocks_of_files, has_forks, OfTheirFiles, AreLongAs, HoldBytes, HoldForks, AreForksLaid}
use Rattle.hfs_put.specs.LaidRuns.{fork_bytes}
use Rattle.hfs_put.proofs.Filled.{pad, pad-whole}
use Rattle.hfs_put.proofs.FilesAt.{arrival-at, forks_for, same-forks, somewhere}
use Rattle.hfs_put.proofs.LaidAt.{AreApart, IsOutside, Holds}
use Rattle.hfs_put.proofs.RunBlocks.{IsRunOf, is-run, fork-joined}

-- ---- runs apart, as they stand in the list

pub apart-in-turn : (runs : List ForkRun) → AreRunsApart runs → AreApart runs
apart-in-turn [] apart = tt
apart-in-turn (run ∷ runs) apart = (
  each_from_all (λ (r : ForkRun). run.place + run.len ≤ r.place) runs (λ k d lt. apart 0 (suc k) d (omega arith) (omega (arith, lt))),
  apart-in-turn runs (λ i j d lt within. apart (suc i) (suc j) d (omega (arith, lt)) (omega (arith, within))),
)

-- ---- members

in-numbers : (mdb : Mdb) (es : List Extent) (e : Extent) (n : ℕ) → In e es → In n (run_of (run_in mdb e)) → In n (block_numbers mdb es)
in-numbers mdb [] e n i j = absurd i
in-numbers mdb (x ∷ es) e n i j = ⊎_elim
    (λ (here : x ≡ e). in-left n (run_of (run_in mdb x)) (block_numbers mdb es) (subst (λ (y : Extent). In n (run_of (run_in mdb y))) (sym here) j))
    (λ (there : In e es). in-right n (run_of (run_in mdb x)) (block_numbers mdb es) (in-numbers mdb es e n there j))
    i

-- ---- the list on a volume

module _ (total : ℕ) (blocks : Blocks) (sound : AreBlocksSound total blocks) (arrivals : List Arrival) (ids : List ℕ)
    (theirs : AreTheirs (came arrivals ids []) arrivals ids) (runs : List ForkRun) (are : AreForkRuns blocks (map item_of arrivals) ids runs) where
  abbrev mdb : Mdb
  mdb = mdb_in blocks

  abbrev forks : List FileForks
  forks = came arrivals ids []

  item-id : (r : Record) → is_file r.1 ≡ true → item_id r.1 ≡ (file_record_of r.1).id
  item-id r file = ap (λ (b : Bool). cond b (dir_record_of r.1).id (file_record_of r.1).id) (not-dir r.1 file)

  -- ---- a fork's extents

  record IsSoundFork (file : FileRecord) (fork : Fork) : Type 0 where
    within : AreExtentsWithin mdb.allocation_blocks (file_extents blocks fork file)
    room : (fork_record fork file).1.length ≤ block_total (file_extents blocks fork file) * mdb.allocation_block_size

  sound-fork : (r : Record) → In r (catalog_in blocks) → is_file r.1 ≡ true → (fork : Fork) → IsSoundFork (file_record_of r.1) fork
  unfolding file_extents forks_of_file
  sound-fork r there file fork = by fork
    where
      both : Each (IsForkSound mdb (overflow_in blocks)) (forks_of_file (file_record_of r.1))
      both = subst (λ (b : Bool). Each (IsForkSound mdb (overflow_in blocks)) (cond b (forks_of_file (file_record_of r.1)) [])) file
          (each_in _ (catalog_in blocks) r sound.forks.files there)

      by : (fork : Fork) → IsSoundFork (file_record_of r.1) fork
      by DataFork = record { within = both.0.within; room = both.0.room }
      by ResFork = record { within = both.1.0.within; room = both.1.0.room }

  fork-numbers : (file : FileRecord) (fork : Fork) → Each (λ n. In n (file_blocks blocks file)) (block_numbers mdb (file_extents blocks fork file))
  unfolding file_extents blocks_of_fork
  fork-numbers file DataFork = each_of _ (block_numbers mdb (file_extents blocks DataFork file)) (λ n i.
      in-left n (blocks_of_fork blocks file.id Data file.«data») (blocks_of_fork blocks file.id Resource file.resource) i)
  fork-numbers file ResFork = each_of _ (block_numbers mdb (file_extents blocks ResFork file)) (λ n i.
      in-right n (blocks_of_fork blocks file.id Data file.«data») (blocks_of_fork blocks file.id Resource file.resource) i)

  -- ---- where the runs lie

  run-inside : (e : Extent) → e.first + e.count ≤ mdb.allocation_blocks → (run_in mdb e).first + (run_in mdb e).count ≤ total
  run-inside e fits =
      let sum : (e.first + e.count) * blocks_each mdb ≡ e.first * blocks_each mdb + e.count * blocks_each mdb = add-mul e.first e.count (blocks_each mdb) in
      let most : (e.first + e.count) * blocks_each mdb ≤ mdb.allocation_blocks * blocks_each mdb = mul-le-mul_right (blocks_each mdb) fits in
      let area : mdb.allocation_start + mdb.allocation_blocks * blocks_each mdb ≤ total = sound.mdb.area in
      omega (arith, sum, most, area)

  module _ (run : ForkRun) (of : IsForkRun blocks (map item_of arrivals) ids run) where
    abbrev es : List Extent
    es = file_extents blocks run.fork (file_record_of of.r.1)

    pub at-run : IsRunOf mdb run.item run.fork es run
    at-run = is-run mdb run.item run.fork 0 es run of.extents

    pub inside : run.place + run.len ≤ 512 * total
    inside =
        let at = at-run in
        let within = each_from_all (IsExtentWithin mdb.allocation_blocks) es (sound-fork of.r of.there of.kind run.fork).within in
        let fits = run-inside at.e (each_in (IsExtentWithin mdb.allocation_blocks) es at.e within at.there at.some) in
        omega (arith, at.place, at.len, fits)

    theirs-too : has_forks forks (item_id of.r.1) ≡ true
    theirs-too =
        ap (has_forks forks) (item-id of.r of.kind)
        ∙ ap is_some (arrival-at forks arrivals ids theirs run.item (file_record_of of.r.1).id of.place).are

    among-files : (n : ℕ) → In n (run_of (run_in mdb at-run.e)) → In n (blocks_of_files (has_forks forks) blocks)
    among-files n i =
        let here = in-numbers mdb es at-run.e n at-run.there i in
        flat_in (record_blocks (has_forks forks) blocks) (catalog_in blocks) of.r n of.there
        (subst (λ (b : Bool). In n (cond b (file_blocks blocks (file_record_of of.r.1)) [])) (sym (λ j. of.kind j && theirs-too j))
        (each_in (λ m. In m (file_blocks blocks (file_record_of of.r.1))) (block_numbers mdb es) n (fork-numbers (file_record_of of.r.1) run.fork) here))

    outside : (n : ℕ) → Each (IsOther n) (blocks_of_files (has_forks forks) blocks) → IsOutside (512 * n) 512 run
    outside n apart = ⊎_elim
        (λ (before : n < (run_in mdb at-run.e).first). inl (omega (arith, before, at-run.place)))
        (λ from. ⊎_elim
        (λ (here : n < (run_in mdb at-run.e).first + (run_in mdb at-run.e).count).
        absurd (each_in (IsOther n) (blocks_of_files (has_forks forks) blocks) n apart
        (among-files n (range_in (run_in mdb at-run.e).first (run_in mdb at-run.e).count n from here)) refl))
        (λ behind. inr (omega (arith, behind, at-run.place, at-run.len)))
        (cases_lt n ((run_in mdb at-run.e).first + (run_in mdb at-run.e).count)))
        (cases_lt n (run_in mdb at-run.e).first)

  -- ---- an image whose runs hold the bytes

  module _ (old new : List ℕ) (len : length new ≡ length old) (all-hold : Each (Holds arrivals new) runs)
      (elsewhere : (n : ℕ) → Each (IsOutside (512 * n) 512) runs → block_at new n ≡ block_at old n) (long : OfTheirFiles forks AreLongAs (catalog_in blocks)) where
    -- a fork of a file
    module _ (r : Record) (there : In r (catalog_in blocks)) (file : is_file r.1 ≡ true) (place : ℕ) (have : HaveForksOf blocks place (file_record_of r.1) runs)
        (a : Arrival) (at : slice_get arrivals place ≡ Some a) where
      abbrev f : FileRecord
      f = file_record_of r.1

      fork-holds : (fork : Fork) → Each (Holds arrivals new) (fork_runs_of blocks place fork f)
      fork-holds fork = each_of _ (fork_runs_of blocks place fork f) (λ run i.
          each_in _ runs run all-hold (each_in (λ x. In x runs) (fork_runs_of blocks place fork f) run (have fork) i))

      size-is : mdb.allocation_block_size ≡ 512 * blocks_each mdb
      size-is = by mdb.allocation_block_size sound.mdb.whole_size
        where
          by : (n : ℕ) → n % 512 ≡ 0 → n ≡ 512 * (n / 512)
          by n whole = omega (arith, whole)

      room-is : (n : ℕ) → n * mdb.allocation_block_size ≡ 512 * (n * blocks_each mdb)
      room-is n = ap (λ (k : ℕ). n * k) size-is ∙ sym (mul_assoc n 512 (blocks_each mdb)) ∙ ap (λ (k : ℕ). k * blocks_each mdb) (mul_comm n 512) ∙ mul_assoc 512 n (blocks_each mdb)

      held : (fork : Fork) → length (fork_bytes (Some a) fork) ≡ (fork_record fork f).1.length
          → HoldBytes (block_at new) (block_numbers mdb (file_extents blocks fork f)) (fork_bytes (Some a) fork)
      held fork len =
          let extents = file_extents blocks fork f in
          let n = 512 * (block_total extents * blocks_each mdb) in
          let bytes = fork_bytes (Some a) fork in
          let fits : length bytes ≤ n = omega (arith, len, (sound-fork r there file fork).room, room-is (block_total extents)) in
          record {
            zeros = n - length bytes;
            are = fork-joined mdb arrivals place fork new 0 extents (fork-holds fork)
                ∙ ap (λ (o : Option Arrival). pad n (drop (512 * (0 * blocks_each mdb)) (fork_bytes o fork))) at
                ∙ ap (λ (k : ℕ). pad n (drop k bytes)) (let none : 512 * (0 * blocks_each mdb) ≡ 0 = omega arith in none)
                ∙ pad-whole n (n - length bytes) bytes (omega (arith, fits));
          }

    both-held : (r : Record) → In r (catalog_in blocks) → is_file r.1 ≡ true → (own : FileForks) → forks_of forks (item_id r.1) ≡ Some own
        → HoldForks blocks (block_at new) (file_record_of r.1) own
    unfolding file_extents blocks_of_fork
    both-held r there file own some =
        let f = file_record_of r.1 in
        let named : forks_of forks f.id ≡ Some own = ap (forks_of forks) (sym (item-id r file)) ∙ some in
        let somewhere_at = somewhere arrivals ids f.id own named in
        let have = each_in _ (catalog_in blocks) r are.all there file somewhere_at.0 somewhere_at.1 in
        let arrival = arrival-at forks arrivals ids theirs have.0 f.id have.1 in
        let same : own ≡ forks_for f.id arrival.a = same-forks own (forks_for f.id arrival.a) (sym named ∙ arrival.are) in
        let lens : AreLongAs f own = each_in _ (catalog_in blocks) r long there file own some in
        record {
          data_fork = subst (λ (x : FileForks). HoldBytes (block_at new) (blocks_of_fork blocks f.id Data f.«data») x.data_fork) (sym same)
              (held r there file have.0 have.2 arrival.a arrival.there DataFork (ap (λ (x : FileForks). length x.data_fork) (sym same) ∙ lens.0));
          resource_fork = subst (λ (x : FileForks). HoldBytes (block_at new) (blocks_of_fork blocks f.id Resource f.resource) x.resource_fork) (sym same)
              (held r there file have.0 have.2 arrival.a arrival.there ResFork (ap (λ (x : FileForks). length x.resource_fork) (sym same) ∙ lens.1));
        }

    pub are-laid : AreForksLaid forks blocks old new
    are-laid = record {
      len = len;
      hold = each_of _ (catalog_in blocks) both-held;
      others = λ n apart. elsewhere n (each_of _ runs (λ run i. outside run (each_in _ runs run are.only i) n apart));
    }
