-- What a run over a copy made, of each image that has what was read.
use Rattle.std.proofs.Common.{◌≡◌, ◌⊎◌, ℕ, ◌/◌, ◌<◌, ◌≤◌, Bool, true, false, List, [], ◌∷◌, ◌++◌, length, Option, Some, None, Result, Ok, Err, IfErr, IsErrAnd, inl, inr, refl, sym, ap, subst, ◌∙◌, true≢false}
use Rattle.std.specs.Prelude.{IfNone, IfSome, MatchOption}
use Rattle.std.specs.List.{flat_map}
use Rattle.hfs_fields.specs.declared.mdb.Mdb.{Mdb}
use Rattle.hfs_fields.specs.Records.{is_file, item_id, file_record_of}
use Rattle.hfs_fields.specs.Each.{Each}
use Rattle.hfs_fields.specs.Members.{In}
use Rattle.hfs_fields.proofs.ElementLemmas.{each-append, each-mono}
use Rattle.hfs_fields.proofs.MemberLemmas.{each_in}
use Rattle.hfs_blocks.specs.declared.run.Run.{Run}
use Rattle.hfs_blocks.specs.Blocks.{block_at, block_count, run_of}
use Rattle.hfs_blocks.specs.Layers.{Numbered, changes, AreWithin}
use Rattle.hfs_catalog.specs.Records.{Record, Catalog}
use Rattle.hfs_check.specs.declared.trees.VolumeTrees.{VolumeTrees}
use Rattle.hfs_check.specs.Agree.{AgreesBut}
use Rattle.hfs_check.specs.Parts.{mdb_in, catalog_in}
use Rattle.hfs_check.specs.Sound.{IsSound, IsImageLength}
use Rattle.hfs_check.specs.VolumeOf.{volume_in, volume_of}
use Rattle.hfs_source.specs.Sparse.{sparse, IsOf}
use Rattle.hfs_volume.specs.Image.{ImageValue, copy_of, patched}
use Rattle.hfs_volume.proofs.CopyLemmas.{length-copy}
use Rattle.hfs_copy.specs.Opened.{IsWorking}
use Rattle.hfs_copy.specs.Working.{CarriesOverBut}
use Rattle.hfs_copy.proofs.Copies.{directory-copy}
use Rattle.hfs_copy.proofs.SameWork as work
use Rattle.hfs_scripts.specs.declared.lines.ScriptLine.{ScriptLine}
use Rattle.hfs_runs.specs.declared.script_fault.ScriptFault.{ScriptFault}
use Rattle.hfs_runs.specs.declared.script_fault.ScriptFault.TheVariants as run
use Rattle.hfs_runs.specs.Runs.{AreLinesRun, IsStartFault}
use Rattle.hfs_runs.specs.Tellings.{ToldReplies}
use Rattle.hfs_copy.specs.GivenBack.{AreChangedZeros, AreFreeIn, AreKeptOf, IsChangedZeros, IsFreeBlock, IsGivenBack}
use Rattle.hfs_copy.specs.Keeping.{AreKept, LieIn}
use Rattle.hfs_runs.specs.NamedForks.{AreAmong, AreForksOf, AreIdsOf, AreScriptFiles, HasForksOf, HasMet, HasNamedForks, IsForkBlock, IsScriptFile, file_blocks}
use Rattle.hfs_runs.specs.Naming.{line_calls, read_forks}
use Rattle.hfs_runs.specs.NeededRuns.{AreLinesRunOver, CarriesForks, IsOwnZeros, IsRunOver}
use Rattle.hfs_runs.specs.declared.made_files.ScriptFiles.{ScriptFiles}
use Rattle.hfs_runs.proofs.ForkPlaces.{among-left, item-id}
use Rattle.hfs_runs.proofs.ForksOfLines.{catalog-copy, keeps, keeps-named, lines-alike}
use Rattle.hfs_copy.proofs.KeptBlocks.{runs-below}
use Rattle.hfs_runs.proofs.KeptWorking.{carries, kept-within, laid-alike}
use Rattle.hfs_runs.proofs.MadeFiles.{kept-met, script-kept}
use Rattle.hfs_runs.proofs.MadeForks.{file-given}

-- want of memory is why a run was not begun
pub passed-on : {T : Type 0} (lines : List ScriptLine) (r : Result T ScriptFault) (P : ScriptFault → Type 0) → ((fault : ScriptFault) → P fault → fault ≡ run.Memory) → IsErrAnd r P
    → IfErr r (IsStartFault lines)
passed-on lines (Ok x) P memory h = tt
passed-on lines (Err fault) P memory h = inr (memory fault h)

-- what lies in the volume as it is now lies in it as it was mounted
pub among-base : (copy : List ℕ) (lines : List ScriptLine) (volume : ImageValue) (text : List ℕ) (all shown : Bool) (told : ToldReplies) → AreLinesRun copy lines volume text all shown told
    → (runs : List Run) → LieIn (block_count volume.current) runs → LieIn (block_count volume.base) runs
among-base copy lines volume text all shown told ran runs within =
    subst (λ (n : ℕ). LieIn n runs) (ap (λ (n : ℕ). n / 512) (ran.agrees.len ∙ ap (λ (bytes : List ℕ). length bytes) (sym ran.base_is))) within

-- where the forks lie
pub lie-in : (copy : List ℕ) (lines : List ScriptLine) (volume : ImageValue) (text : List ℕ) (all shown : Bool) (told : ToldReplies) → AreLinesRun copy lines volume text all shown told
    → (files : Option ScriptFiles) (forks : List Run)
    → IfSome files (λ (f : ScriptFiles).
    AreForksOf (block_at volume.current) (IsScriptFile f) (block_count volume.current) (catalog_in (block_at volume.current)) forks)
    → IfNone files (forks ≡ []) → LieIn (block_count volume.base) forks
lie-in copy lines volume text all shown told ran None forks made none = subst (LieIn (block_count volume.base)) (sym none) tt
lie-in copy lines volume text all shown told ran (Some files) forks made none = among-base copy lines volume text all shown told ran forks made.within

-- of no blocks none are of zeros
none-zeros : (volume : ImageValue) (zeros : List ℕ) → AreChangedZeros volume [] zeros → zeros ≡ []
none-zeros volume [] are = refl
none-zeros volume (n ∷ zeros) are = absurd are.each.0.0

module _ (read : Numbered) (len count : ℕ) (mdb : Mdb) (trees : VolumeTrees) (is : IsWorking None (len / 512) read count mdb trees) (sound : IsSound (copy_of read len))
    (lines : List ScriptLine) (volume : ImageValue) (text : List ℕ) (all shown : Bool) (told : ToldReplies) (ran : AreLinesRun (copy_of read len) lines volume text all shown told)
    (forks free : List Run) (kept : Numbered) (kept-makes : patched kept volume.base ≡ volume.current)
    (kept-of : AreKeptOf volume (flat_map run_of forks) (flat_map run_of free) kept) where
  abbrev copy : List ℕ
  copy = copy_of read len

  abbrev among : List ℕ
  among = flat_map run_of forks ++ kept-of.zeros

  right : IsImageLength len
  right = subst IsImageLength (length-copy read len is.within) sound.len

  makes : patched kept copy ≡ volume.current
  makes = sym (ap (patched kept) ran.base_is) ∙ kept-makes

  are : AreKept (block_count copy) among (block_at copy) (block_at volume.current) kept
  are = subst (λ (base : List ℕ). AreKept (block_count base) among (block_at base) (block_at volume.current) kept) ran.base_is kept-of.kept

  abbrev over : AreLinesRunOver (copy_of read len) lines kept text all shown told
  over = record { volume = volume; ran = ran; makes = sym makes }

  -- where no line reads or writes a fork
  pub over-none : read_forks lines ≡ false → forks ≡ [] → free ≡ [] → IsRunOver read len lines kept text all shown told × AreWithin (changes kept) (len / 512)
  over-none unused none none-free = (
    record {
      over = over;
      keep = λ id. false;
      zeros = among;
      own = subst (Each (IsOwnZeros (λ id. false) volume)) (sym nothing) tt;
      none = λ e. nothing;
      carried = carries read len count mdb trees is sound volume.current volume.written among kept makes ran.agrees within are;
      forks = λ image long of used named. absurd (true≢false (sym used ∙ unused));
    },
    kept-within read len count mdb trees is sound volume.current volume.written among kept makes ran.agrees within are,
  )
    where
      nothing : among ≡ []
      nothing =
          λ i. flat_map run_of (none i)
          ++ none-zeros volume kept-of.zeros (subst (λ (runs : List Run). AreChangedZeros volume (flat_map run_of runs) kept-of.zeros) none-free kept-of.are) i

      within : Each (λ n. n < block_count (copy_of read len)) among
      within = subst (Each (λ n. n < block_count (copy_of read len))) (sym nothing) tt

  -- where one does
  module _ (files : ScriptFiles) (of-files : AreScriptFiles (sparse read) lines files)
      (of-forks : AreForksOf (block_at volume.current) (IsScriptFile files) (block_count volume.current) (catalog_in (block_at volume.current)) forks)
      (of-free : AreFreeIn (block_at volume.current) (block_count volume.current) free) where
    below : (runs : List Run) → LieIn (block_count volume.current) runs → Each (λ n. n < block_count copy) (flat_map run_of runs)
    below runs within = runs-below (block_count copy) runs (subst (λ (n : ℕ). LieIn n runs) (ap (λ (n : ℕ). n / 512) ran.agrees.len) within)

    within-copy : Each (λ n. n < block_count copy) among
    within-copy =
        each-append (λ n. n < block_count copy) (flat_map run_of forks) kept-of.zeros (below forks of-forks.within)
        (each-mono (λ n. In n (flat_map run_of free) × IsChangedZeros volume n) (λ n. n < block_count copy) kept-of.zeros
        (λ n h. each_in (λ m. m < block_count copy) (flat_map run_of free) n (below free of-free.within) h.0) kept-of.are.each)

    abbrev keep : ℕ → Bool
    keep = keeps (line_calls lines) (volume_of copy)

    next-is : files.next ≡ (volume_of copy).next_id
    unfolding volume_of volume_in
    next-is = of-files.next ∙ sym (ap (λ (m : Mdb). m.next_id) (directory-copy read len is.within is.working is.sound right))

    ids : AreIdsOf (catalog_in (block_at copy)) files.ids.entries lines
    ids = subst (λ (c : Catalog). AreIdsOf c files.ids.entries lines) (sym (catalog-copy read len count mdb trees is right)) of-files.ids

    is-script-file : (id : ℕ) → 16 ≤ id → keep id ≡ true → IsScriptFile files id
    is-script-file id least kept_one =
        subst (λ (n : ℕ). (n ≤ id) ⊎ HasMet files.ids.entries id) (sym next-is) (kept-met copy sound files.ids.entries lines ids.have id least kept_one)

    has : (r : Record) → In r (catalog_in (block_at volume.current)) → is_file r.1 ≡ true → keep (item_id r.1) ≡ true
        → AreAmong (file_blocks (block_at volume.current) (file_record_of r.1)) among
    has r there file kept_one =
        let least = file-given (block_count volume.current) (block_at volume.current) ran.agrees.sound.blocks r there file in
        among-left (file_blocks (block_at volume.current) (file_record_of r.1)) (flat_map run_of forks) kept-of.zeros
        (each_in (HasForksOf (block_at volume.current) (IsScriptFile files) (flat_map run_of forks)) (catalog_in (block_at volume.current)) r of-forks.has there file
        (subst (IsScriptFile files) (item-id r.1 file) (is-script-file (item_id r.1) least kept_one)))

    -- a block of zeros is one of a fork of a file that is kept, or went back
    own-fork : (n : ℕ) → IsForkBlock (block_at volume.current) (IsScriptFile files) n → IsOwnZeros keep volume n
    own-fork n of = inl (of.0, of.1, record { file = of.2.file; kept = script-kept copy sound lines files next-is ids (file_record_of of.0.1).id of.2.kept; has = of.2.has })

    own-free : (n : ℕ) → In n (flat_map run_of free) × IsChangedZeros volume n → IsOwnZeros keep volume n
    own-free n h = inr (record { free = each_in (IsFreeBlock (block_at volume.current)) (flat_map run_of free) n of-free.free h.0; zeros = h.1 })

    own : Each (IsOwnZeros keep volume) among
    own =
        each-append (IsOwnZeros keep volume) (flat_map run_of forks) kept-of.zeros
        (each-mono (IsForkBlock (block_at volume.current) (IsScriptFile files)) (IsOwnZeros keep volume) (flat_map run_of forks) own-fork of-forks.only)
        (each-mono (λ n. In n (flat_map run_of free) × IsChangedZeros volume n) (IsOwnZeros keep volume) kept-of.zeros own-free kept-of.are.each)

    pub over-some : IsRunOver read len lines kept text all shown told × AreWithin (changes kept) (len / 512)
    over-some = (
      record {
        over = over;
        keep = keep;
        zeros = among;
        own = own;
        none = λ e. absurd (true≢false (sym of-files.used ∙ e));
        carried = carries read len count mdb trees is sound volume.current volume.written among kept makes ran.agrees within-copy are;
        forks = λ image long of read_so named. record {
          named = keeps-named (line_calls lines) (volume_of copy);
          alike = lines-alike read len count mdb trees is right lines named image long of;
          laid = laid-alike read len count mdb trees is sound volume.current volume.written among kept makes ran.agrees within-copy are image long of keep has;
        };
      },
      kept-within read len count mdb trees is sound volume.current volume.written among kept makes ran.agrees within-copy are,
    )

  -- in both cases
  pub run-over : (files : Option ScriptFiles) → MatchOption files (read_forks lines ≡ false) (AreScriptFiles (sparse read) lines)
      → IfSome files (λ (f : ScriptFiles).
      AreForksOf (block_at volume.current) (IsScriptFile f) (block_count volume.current) (catalog_in (block_at volume.current)) forks)
      → IfNone files (forks ≡ []) → AreFreeIn (block_at volume.current) (block_count volume.current) free → IfNone files (free ≡ [])
      → IsRunOver read len lines kept text all shown told × AreWithin (changes kept) (len / 512)
  run-over None unused made none free-in none-free = over-none unused none none-free
  run-over (Some files) of-files made none free-in none-free = over-some files of-files made free-in
