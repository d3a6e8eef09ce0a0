-- What is kept of an item besides its forks: what the Finder keeps, the lock, and dates.
use Rattle.std.specs.Prelude.{ℕ, Bool, false, List, ◌++◌, replicate, Option, Some, None}
use Rattle.hfs_encodings.specs.declared.incoming_apple_double.AppleDoubleFile.{AppleDoubleFile}
use Rattle.hfs_encodings.specs.declared.incoming_apple_double.FileDates.{FileDates}
use Rattle.hfs_encodings.specs.declared.incoming_macbinary.MacBinaryFile.{MacBinaryFile}
use Rattle.hfs_put_plan.specs.declared.facts.ItemFacts.{ItemFacts}
use Rattle.hfs_put_plan.specs.declared.facts.ToldFacts.{ToldFacts}

-- where only the time of a file is known: made and changed then, and never backed up
abbrev pub file_time : ℕ → FileDates
file_time modified = record { created = modified; modified = modified; backup = 0 }

-- ---- what a bag says counts before all else

abbrev pub told_dates : Option ToldFacts → FileDates → FileDates
told_dates (Some told) dates = told.dates
told_dates None dates = dates

abbrev pub told_lock : Option ToldFacts → Bool → Bool
told_lock (Some told) locked = told.locked
told_lock None locked = locked

-- ---- by an AppleDouble file, which has no lock

-- zeros where there is none
abbrev pub double_finder : Option AppleDoubleFile → List ℕ
double_finder (Some double) = double.finder
double_finder None = replicate 32 0

-- the dates that were given, or those of this time
abbrev pub double_told : Option FileDates → ℕ → FileDates
double_told (Some dates) modified = dates
double_told None modified = file_time modified

abbrev pub double_dates : Option AppleDoubleFile → ℕ → FileDates
double_dates (Some double) modified = double_told double.dates modified
double_dates None modified = file_time modified

abbrev pub double_facts : Option ToldFacts → Option AppleDoubleFile → ℕ → ItemFacts
double_facts told double modified = record { finder = double_finder double; locked = told_lock told false; dates = told_dates told (double_dates double modified) }

-- ---- by a MacBinary file, which has no date of a backup

-- its header has the first half of what the Finder keeps
abbrev pub macbinary_finder : List ℕ → List ℕ
macbinary_finder info = info ++ replicate 16 0

abbrev pub macbinary_facts : Option ToldFacts → MacBinaryFile → ItemFacts
macbinary_facts told file = record {
  finder = macbinary_finder file.finder_info;
  locked = told_lock told file.locked;
  dates = told_dates told (record { created = file.created; modified = file.modified; backup = 0 });
}
