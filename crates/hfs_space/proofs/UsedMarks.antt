-- The marks of the records that forks go on with, fork after fork.
use Rattle.std.proofs.Common.{◌≡◌, ℕ, ◌+◌, ◌<◌, ◌≤◌, Bool, true, false, ◌||◌, List, [], ◌∷◌, ◌++◌, length, take, drop, get_or, refl, sym, ap, ◌∙◌, arith, append-nil}
use Rattle.std.proofs.lemmas.List.{take_all, take_more, drop_all}
use Rattle.std.proofs.lemmas.List.Concat.{flat_map-append}
use Rattle.std.proofs.lemmas.List.Folds.{list_any-append}
use Rattle.hfs_fields.specs.declared.mdb.Mdb.{Mdb}
use Rattle.hfs_fields.specs.declared.file_record.FileRecord.{FileRecord}
use Rattle.hfs_space.specs.declared.files.CatalogFile.{CatalogFile}
use Rattle.hfs_space.specs.Extents.{Overflow}
use Rattle.hfs_space.specs.Owners.{Fork, forks_of_file, catalog_fork, goes_on_with}
use Rattle.hfs_space.specs.Runs.{has_key_in, run_of_fork, AddsMarks, AddsUses, AreMarks, forks_in, forks_with}
use Rattle.hfs_space.proofs.RunSteps.{Record}

or_assoc : (a b c : Bool) → ((a || b) || c) ≡ (a || (b || c))
or_assoc true b c = refl
or_assoc false b c = refl

or_false : (a : Bool) → (a || false) ≡ a
or_false true = refl
or_false false = refl

module _ (overflow : Overflow) where
  uses-append : (fs gs : List Fork) (r : Record) → goes_on_with overflow (fs ++ gs) r ≡ (goes_on_with overflow fs r || goes_on_with overflow gs r)
  unfolding goes_on_with
  uses-append fs gs r = list_any-append _ fs gs

  pub adds-nothing : (marks : List Bool) → AddsUses overflow [] marks marks
  unfolding goes_on_with
  adds-nothing marks k d b lt = sym (or_false (get_or marks k b))

  pub adds-both : (fs gs : List Fork) (old mid new : List Bool) → AddsUses overflow fs old mid → AddsUses overflow gs mid new → AddsUses overflow (fs ++ gs) old new
  adds-both fs gs old mid new first second k d b lt =
      second k d b lt ∙ ap (λ t. t || goes_on_with overflow gs (get_or overflow k d)) (first k d b lt)
      ∙ or_assoc (get_or old k b) _ _ ∙ ap (λ t. get_or old k b || t) (sym (uses-append fs gs (get_or overflow k d)))

  adds-one : (f : Fork) (old new : List Bool) → AddsMarks overflow (run_of_fork f.file f.fork f.first overflow) old new → AddsUses overflow (f ∷ []) old new
  unfolding goes_on_with
  adds-one f old new adds k d b lt = adds k d b lt ∙ ap (λ t. get_or old k b || t) (sym (or_false (has_key_in (run_of_fork f.file f.fork f.first overflow) (get_or overflow k d))))

  pub adds-file : (f : FileRecord) (old mid new : List Bool) → AddsMarks overflow (run_of_fork f.id 0 f.«data».extents overflow) old mid
      → AddsMarks overflow (run_of_fork f.id 255 f.resource.extents overflow) mid new → AddsUses overflow (forks_of_file f) old new
  unfolding forks_of_file
  adds-file f old mid new first second =
      adds-both (record { file = f.id; fork = 0; len = f.«data».length; first = f.«data».extents } ∷ []) (record { file = f.id; fork = 255; len = f.resource.length; first = f.resource.extents } ∷ []) old mid new
      (adds-one (record { file = f.id; fork = 0; len = f.«data».length; first = f.«data».extents }) old mid first)
      (adds-one (record { file = f.id; fork = 255; len = f.resource.length; first = f.resource.extents }) mid new second)

  adds-same : (fs gs : List Fork) (old new : List Bool) → fs ≡ gs → AddsUses overflow fs old new → AddsUses overflow gs old new
  adds-same fs gs old new same adds k d b lt = adds k d b lt ∙ ap (λ l. get_or old k b || goes_on_with overflow l (get_or overflow k d)) same

  one_more : (files : List CatalogFile) (i : ℕ) (d : CatalogFile) → i < length files → forks_in (take (i + 1) files) ≡ forks_in (take i files) ++ forks_of_file (get_or files i d).file
  one_more files i d lt =
      ap forks_in (take_more files i d lt) ∙ flat_map-append (λ (f : CatalogFile). forks_of_file f.file) (take i files) (get_or files i d ∷ [])
      ∙ ap (λ l. forks_in (take i files) ++ l) (append-nil (forks_of_file (get_or files i d).file))

  pub adds-more : (files : List CatalogFile) (i : ℕ) (d : CatalogFile) (old mid new : List Bool) → i < length files → AddsUses overflow (forks_in (take i files)) old mid
      → AddsUses overflow (forks_of_file (get_or files i d).file) mid new → AddsUses overflow (forks_in (take (i + 1) files)) old new
  adds-more files i d old mid new lt first second =
      adds-same _ _ old new (sym (one_more files i d lt)) (adds-both (forks_in (take i files)) (forks_of_file (get_or files i d).file) old mid new first second)

  pub adds-all : (files : List CatalogFile) (i : ℕ) (old new : List Bool) → length files ≤ i → AddsUses overflow (forks_in (take i files)) old new → AddsUses overflow (forks_in files) old new
  adds-all files i old new le adds = adds-same _ _ old new (ap forks_in (take_all i files le)) adds

  pub adds-catalog : (mdb : Mdb) (files : List CatalogFile) (old mid new : List Bool) → AddsMarks overflow (run_of_fork 4 0 mdb.catalog_file overflow) old mid
      → AddsUses overflow (forks_in files) mid new → AddsUses overflow (forks_with mdb files) old new
  unfolding catalog_fork
  adds-catalog mdb files old mid new first second = adds-both (catalog_fork mdb ∷ []) (forks_in files) old mid new (adds-one (catalog_fork mdb) old mid first) second

  pub are-marks : (forks : List Fork) (old new : List Bool) → ((k : ℕ) (b : Bool) → k < length overflow → get_or old k b ≡ false) → AddsUses overflow forks old new → AreMarks overflow forks new
  are-marks forks old new none adds k d b lt = adds k d b lt ∙ ap (λ t. t || goes_on_with overflow forks (get_or overflow k d)) (none k b lt)

-- a whole Vec that was written through a slice has what the slice has
pub written : (n : ℕ) (new items : List Bool) → length new ≡ length items → n ≡ length items → take n (new ++ drop (length new) items) ≡ new
written n new items long is =
    ap (λ l. take n (new ++ l)) (drop_all (length new) items (omega arith)) ∙ ap (take n) (append-nil new) ∙ take_all n new (omega arith)
