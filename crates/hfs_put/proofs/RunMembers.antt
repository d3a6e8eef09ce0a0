-- Which runs of forks there are.
use Rattle.std.proofs.Common.{◌≡◌, inl, inr, ⊎_elim, ℕ, ◌+◌, ◌*◌, Bool, true, false, cond, true≢false, eqb, List, [], ◌∷◌, Option, Some, None, IsSome, refl, sym, subst}
use Rattle.std.specs.List.{cons_option, flat_map}
use Rattle.std.specs.List.Sorted.{IsPermutation}
use Rattle.hfs_blocks.specs.Blocks.{block_at}
use Rattle.hfs_catalog.specs.Records.{Catalog, Record}
use Rattle.hfs_check.specs.Parts.{Blocks, catalog_in, mdb_in}
use Rattle.hfs_check.specs.Sound.{IsSound}
use Rattle.hfs_fields.specs.declared.extent.Extent.{Extent}
use Rattle.hfs_fields.specs.declared.file_record.FileRecord.{FileRecord}
use Rattle.hfs_fields.specs.declared.mdb.Mdb.{Mdb}
use Rattle.hfs_fields.specs.Records.{is_file, file_record_of}
use Rattle.hfs_model.specs.declared.call.Fork.{Fork}
use Rattle.hfs_model.specs.declared.call.Fork.TheVariants.{DataFork, ResFork}
use Rattle.hfs_record_edits.proofs.FromLawful.{each_of}
use Rattle.hfs_put_plan.specs.declared.items.PutItem.{PutItem}
use Rattle.hfs_fields.specs.Each.{Each}
use Rattle.hfs_fields.specs.Members.{In}
use Rattle.hfs_fields.proofs.MemberLemmas.{each_in, in-left, in-right}
use Rattle.hfs_fields.proofs.ElementLemmas.{each-append}
use Rattle.hfs_put_sources.specs.declared.fork_run.ForkRun.{ForkRun}
use Rattle.hfs_put.specs.ForkRuns.{AreFilePlaces, AreForkRuns, ArePlacesInOrder, HaveFileOf, IsFileAt, IsForkRun, file_runs, fork_runs_of, record_runs, runs_from}
use Rattle.hfs_space.specs.Forks.{blocks_each, run_in}
use Rattle.hfs_volume.specs.Sharing.{file_extents}
use Rattle.hfs_put.proofs.RunsApart.{all_once, all_some, each_permutation, in_permutation, sorted_apart}

-- ---- the runs of a fork are of that fork

abbrev IsOf : ℕ → Fork → ForkRun → Type 0
IsOf item fork run = (run.item ≡ item) × (run.fork ≡ fork)

runs-of : (mdb : Mdb) (item : ℕ) (fork : Fork) (before : ℕ) (es : List Extent) → Each (IsOf item fork) (runs_from mdb item fork before es)
unfolding runs_from
runs-of mdb item fork before [] = tt
runs-of mdb item fork before (e ∷ es) = by (eqb e.count 0) (runs-of mdb item fork (before + e.count) es)
  where
    by : (t : Bool) → Each (IsOf item fork) (runs_from mdb item fork (before + e.count) es) → Each (IsOf item fork)
        (cons_option (cond t None (Some (record {
          place = 512 * (run_in mdb e).first;
          len = 512 * (run_in mdb e).count;
          item = item;
          fork = fork;
          offset = 512 * (before * blocks_each mdb);
        }))) (runs_from mdb item fork (before + e.count) es))
    by true rest = rest
    by false rest = ((refl, refl), rest)

-- ---- of the files of a list

module _ (blocks : Blocks) (items : List PutItem) (ids : List ℕ) (place_of : ℕ → Option ℕ) (places : AreFilePlaces items ids place_of) where
  fork-only : (r : Record) → In r (catalog_in blocks) → is_file r.1 ≡ true → (place : ℕ) → place_of (file_record_of r.1).id ≡ Some place → (fork : Fork)
      → Each (IsForkRun blocks items ids) (fork_runs_of blocks place fork (file_record_of r.1))
  fork-only r there file place is fork =
      let runs = fork_runs_of blocks place fork (file_record_of r.1) in
      each_of (IsForkRun blocks items ids) runs (λ run i.
      let own = each_in (IsOf place fork) runs run (runs-of (mdb_in blocks) place fork 0 (file_extents blocks fork (file_record_of r.1))) i in
      record {
        r = r;
        there = there;
        kind = file;
        place = subst (λ (n : ℕ). IsFileAt items ids n (file_record_of r.1).id) (sym own.0) (places.only (file_record_of r.1).id place is);
        extents = subst (λ (n : ℕ). In run (fork_runs_of blocks n run.fork (file_record_of r.1))) (sym own.0)
            (subst (λ (f : Fork). In run (fork_runs_of blocks place f (file_record_of r.1))) (sym own.1) i);
      })

  record-only : (r : Record) → In r (catalog_in blocks) → Each (IsForkRun blocks items ids) (record_runs blocks place_of r)
  record-only r there = by (is_file r.1) refl
    where
      by-place : is_file r.1 ≡ true → (o : Option ℕ) → place_of (file_record_of r.1).id ≡ o → Each (IsForkRun blocks items ids) (file_runs blocks o (file_record_of r.1))
      by-place file None none = tt
      by-place file (Some place) is =
          each-append (IsForkRun blocks items ids) (fork_runs_of blocks place DataFork (file_record_of r.1)) (fork_runs_of blocks place ResFork (file_record_of r.1))
          (fork-only r there file place is DataFork) (fork-only r there file place is ResFork)

      by : (t : Bool) → is_file r.1 ≡ t → Each (IsForkRun blocks items ids) (cond t (file_runs blocks (place_of (file_record_of r.1).id) (file_record_of r.1)) [])
      by true file = by-place file (place_of (file_record_of r.1).id) refl
      by false none = tt

  all-only : (rs : Catalog) → ((r : Record) → In r rs → In r (catalog_in blocks)) → Each (IsForkRun blocks items ids) (flat_map (record_runs blocks place_of) rs)
  all-only [] there = tt
  all-only (r ∷ rs) there =
      each-append (IsForkRun blocks items ids) (record_runs blocks place_of r) (flat_map (record_runs blocks place_of) rs)
      (record-only r (there r (inl refl))) (all-only rs (λ q i. there q (inr i)))

  in-flat : (rs : Catalog) (r : Record) (run : ForkRun) → In r rs → In run (record_runs blocks place_of r) → In run (flat_map (record_runs blocks place_of) rs)
  in-flat [] r run there i = absurd there
  in-flat (q ∷ rs) r run there i = ⊎_elim
      (λ (e : q ≡ r). in-left run (record_runs blocks place_of q) (flat_map (record_runs blocks place_of) rs) (subst (λ (s : Record). In run (record_runs blocks place_of s)) (sym e) i))
      (λ (later : In r rs). in-right run (record_runs blocks place_of q) (flat_map (record_runs blocks place_of) rs) (in-flat rs r run later i))
      there

  some-place : (o : Option ℕ) → IsSome o → (place : ℕ) × (o ≡ Some place)
  some-place None h = absurd (true≢false (sym h))
  some-place (Some place) h = (place, refl)

  in-file : (place : ℕ) (file : FileRecord) (fork : Fork) (run : ForkRun) → In run (fork_runs_of blocks place fork file) → In run (file_runs blocks (Some place) file)
  in-file place file DataFork run i = in-left run (fork_runs_of blocks place DataFork file) (fork_runs_of blocks place ResFork file) i
  in-file place file ResFork run i = in-right run (fork_runs_of blocks place DataFork file) (fork_runs_of blocks place ResFork file) i

  in-record : (r : Record) (place : ℕ) (run : ForkRun) → is_file r.1 ≡ true → place_of (file_record_of r.1).id ≡ Some place
      → In run (file_runs blocks (Some place) (file_record_of r.1)) → In run (record_runs blocks place_of r)
  in-record r place run file is i =
      subst (λ (t : Bool). In run (cond t (file_runs blocks (place_of (file_record_of r.1).id) (file_record_of r.1)) [])) (sym file)
      (subst (λ (o : Option ℕ). In run (file_runs blocks o (file_record_of r.1))) (sym is) i)

  has-file : (runs : List ForkRun) → IsPermutation (flat_map (record_runs blocks place_of) (catalog_in blocks)) runs → (r : Record) → In r (catalog_in blocks)
      → HaveFileOf blocks items ids runs r
  has-file runs same r there file at is_at =
      let found = some-place (place_of (file_record_of r.1).id) (places.some (file_record_of r.1).id at is_at) in (
        found.0,
        places.only (file_record_of r.1).id found.0 found.1,
        λ fork.
            each_of (λ (run : ForkRun). In run runs) (fork_runs_of blocks found.0 fork (file_record_of r.1)) (λ run i.
            in_permutation (flat_map (record_runs blocks place_of) (catalog_in blocks)) runs run same
            (in-flat (catalog_in blocks) r run there (in-record r found.0 run file found.1 (in-file found.0 (file_record_of r.1) fork run i)))),
      )

pub fork_runs_are : (image : List ℕ) (items : List PutItem) (ids : List ℕ) (place_of : ℕ → Option ℕ) (runs sorted : List ForkRun) → IsSound image → AreFilePlaces items ids place_of
    → runs ≡ flat_map (record_runs (block_at image) place_of) (catalog_in (block_at image)) → ArePlacesInOrder runs sorted → AreForkRuns (block_at image) items ids sorted
fork_runs_are image items ids place_of runs sorted sound places are order =
    let blocks = block_at image in
    let all = flat_map (record_runs blocks place_of) (catalog_in blocks) in
    let same : IsPermutation all sorted = subst (λ (l : List ForkRun). IsPermutation l sorted) are order.same in
    record {
      only = each_permutation (IsForkRun blocks items ids) all sorted same (all-only blocks items ids place_of places (catalog_in blocks) (λ r i. i));
      all = each_of (HaveFileOf blocks items ids sorted) (catalog_in blocks) (has-file blocks items ids place_of places sorted same);
      apart = sorted_apart all sorted same order.order (all_some image sound place_of (catalog_in blocks)) (all_once image sound place_of);
    }
