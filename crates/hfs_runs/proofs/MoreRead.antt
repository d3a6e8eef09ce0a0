-- More blocks of a volume that were read leave its working blocks as they are.
use Rattle.std.proofs.Common.{◌≡◌, ⊎_elim, ℕ, zero, suc, ◌+◌, ◌<◌, List, [], ◌∷◌, ◌++◌, length, get_or, Option, IsSome, refl, sym, ap, subst, ◌∙◌, arith}
use Rattle.std.specs.List.{flat_map}
use Rattle.std.proofs.lemmas.Bool.{cases_eq}
use Rattle.std.proofs.lemmas.List.Concat.{flat_map-cons}
use Rattle.hfs_fields.specs.declared.file_record.FileRecord.{FileRecord}
use Rattle.hfs_fields.specs.Each.{Each}
use Rattle.hfs_fields.specs.Members.{In}
use Rattle.hfs_fields.proofs.ElementLemmas.{each-append, each-mono}
use Rattle.hfs_fields.proofs.MemberLemmas.{each_in}
use Rattle.hfs_blocks.specs.declared.run.Run.{Run}
use Rattle.hfs_blocks.specs.Blocks.{run_of}
use Rattle.hfs_space.specs.declared.fork_kind.ForkKind.TheVariants.{Data, Resource}
use Rattle.hfs_space.specs.Extents.{Overflow}
use Rattle.hfs_space.specs.Extents.{fork_extents, fork_byte}
use Rattle.hfs_space.specs.ForkLaws.{block_numbers}
use Rattle.hfs_space.specs.TreeKeys.{overflow_of}
use Rattle.hfs_catalog.specs.Records.{Catalog}
use Rattle.hfs_check.specs.Parts.{mdb_in, overflow_in, catalog_in}
use Rattle.hfs_scripts.specs.declared.lines.ScriptLine.{ScriptLine}
use Rattle.hfs_runs.specs.NamedForks.{AreAmong, HaveNamedForks, HasNamedForks, OfNamed, blocks_of_runs, file_blocks}
use Rattle.hfs_runs.proofs.ForkPlaces.{of-named}
use Rattle.hfs_blocks.specs.Layers.{Numbered, changes, AreWithin}
use Rattle.hfs_fields.specs.declared.mdb.Mdb.{Mdb}
use Rattle.hfs_check.specs.declared.trees.VolumeTrees.{VolumeTrees}
use Rattle.hfs_source.specs.Sparse.{sparse, HasEach, HasGrown, StaysOf}
use Rattle.hfs_source.proofs.SparseLemmas.{each-grown, each-same}
use Rattle.hfs_image.specs.Needed.{AgreeOn}
use Rattle.hfs_copy.specs.Opened.{IsWorking}
use Rattle.hfs_copy.specs.Working.{working_blocks}
use Rattle.hfs_copy.proofs.SameWork as work
use Rattle.hfs_copy.proofs.SameTrees.{trees-same}
use Rattle.hfs_image.proofs.Gathered.{of-later}

module _ (known later : Option (List ℕ)) (total count : ℕ) (old new : Numbered) (mdb : Mdb) (trees : VolumeTrees) (is : IsWorking known total old count mdb trees)
    (grown : HasGrown old new) where
  pub agree : AgreeOn (working_blocks total (sparse old)) (sparse old) (sparse new)
  agree = each-same old new grown (working_blocks total (sparse old)) is.working

  pub working-later : later ≡ known → StaysOf later old new → (AreWithin (changes old) total → AreWithin (changes new) total) → IsWorking known total new count mdb trees
  working-later same stays keeps = record {
    whole = is.whole;
    working = subst (λ (ns : List ℕ). HasEach new ns) (sym (work.working-is total (sparse old) (sparse new) agree))
        (each-grown old new grown (working_blocks total (sparse old)) is.working);
    within = keeps is.within;
    of = of-later known old new is.of (subst (λ (o : Option (List ℕ)). StaysOf o old new) same stays);
    sound = work.sound-is total (sparse old) (sparse new) agree is.sound;
    directory = is.directory ∙ sym (work.mdb-is total (sparse old) (sparse new) agree);
    trees = trees-same total (sparse old) (sparse new) trees (work.mdb-is total (sparse old) (sparse new) agree) (work.file-is total (sparse old) (sparse new) agree) is.trees;
  }

  overflow-later : overflow_in (sparse new) ≡ overflow_in (sparse old)
  unfolding overflow_in
  overflow-later = ap overflow_of (work.extents-is total (sparse old) (sparse new) agree)

  -- what these lines name was read
  pub named-read : (lines : List ScriptLine) (numbers : List ℕ) → HaveNamedForks (sparse old) lines numbers → HasEach new numbers → HasNamedForks (sparse new) lines new
  named-read lines numbers named has = subst P (λ i. (sym records i, sym directory i, sym overflow-later i)) here
    where
      records : catalog_in (sparse new) ≡ catalog_in (sparse old)
      records = work.records-are total (sparse old) (sparse new) agree

      directory : mdb_in (sparse new) ≡ mdb_in (sparse old)
      directory = work.mdb-is total (sparse old) (sparse new) agree

      P : Catalog × Mdb × Overflow → Type 0
      P parts = Each (λ (line : ScriptLine). OfNamed parts.0 (λ (file : FileRecord). HasEach new
          (block_numbers parts.1 (fork_extents parts.2 file.id (fork_byte Data) file.«data».extents)
          ++ block_numbers parts.1 (fork_extents parts.2 file.id (fork_byte Resource) file.resource.extents))) line.call) lines

      here : P (catalog_in (sparse old), mdb_in (sparse old), overflow_in (sparse old))
      here =
          each-mono (λ (line : ScriptLine). OfNamed (catalog_in (sparse old)) (λ (file : FileRecord). AreAmong (file_blocks (sparse old) file) numbers) line.call)
          (λ (line : ScriptLine). OfNamed (catalog_in (sparse old)) (λ (file : FileRecord). HasEach new (file_blocks (sparse old) file)) line.call) lines
          (λ line p. of-named (catalog_in (sparse old)) (λ (file : FileRecord). AreAmong (file_blocks (sparse old) file) numbers)
          (λ (file : FileRecord). HasEach new (file_blocks (sparse old) file)) line.call
          (λ file among. each-mono (λ n. In n numbers) (λ n. IsSome (changes new n)) (file_blocks (sparse old) file) (λ n i. each_in (λ m. IsSome (changes new m)) numbers n has i) among) p)
          named

-- ---- run by run

pub each-run : (P : ℕ → Type 0) (runs : List Run) → ((i : ℕ) (none : Run) → i < length runs → Each P (run_of (get_or runs i none))) → Each P (blocks_of_runs runs)
each-run P [] h = tt
each-run P (run ∷ runs) h =
    subst (λ (ns : List ℕ). Each P ns) (sym (flat_map-cons run_of run runs))
    (each-append P (run_of run) (blocks_of_runs runs) (h 0 run (omega arith)) (each-run P runs (λ i none lt. h (suc i) none (omega (arith, lt)))))

pub one-run-more : (old new : Numbered) → HasGrown old new → (runs : List Run) (i : ℕ) (item : Run) → i < length runs → HasEach new (run_of (get_or runs i item))
    → ((k : ℕ) (none : Run) → k < i → HasEach old (run_of (get_or runs k none)))
    → (k : ℕ) (none : Run) → k < i + 1 → HasEach new (run_of (get_or runs k none))
one-run-more old new grown runs i item within here before k none lt = ⊎_elim
    (λ (same : k ≡ i).
    subst (λ (r : Run). HasEach new (run_of r)) (sym (ap (λ (n : ℕ). get_or runs n none) same ∙ get_or-any runs i none item within)) here)
    (λ (other : k ≡ i → ⊥). each-grown old new grown (run_of (get_or runs k none)) (before k none (omega (arith, lt, other))))
    (cases_eq k i)
  where
    get_or-any : (xs : List Run) (n : ℕ) (d e : Run) → n < length xs → get_or xs n d ≡ get_or xs n e
    get_or-any [] n d e lt = absurd (omega (arith, lt))
    get_or-any (x ∷ xs) zero d e lt = refl
    get_or-any (x ∷ xs) (suc n) d e lt = get_or-any xs n d e (omega (arith, lt))
