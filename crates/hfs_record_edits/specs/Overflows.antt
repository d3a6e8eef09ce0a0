-- The records of the extents tree by the file that they are of.
use Rattle.std.specs.Prelude.{◌≡◌, ℕ, Bool, true, not, ◌==◌, List, Option, MatchOption, filter}
use Rattle.hfs_fields.specs.declared.key.ExtKey.{ExtKey}
use Rattle.hfs_fields.specs.Keys.{ext_cmp}
use Rattle.hfs_fields.specs.Each.{Each}
use Rattle.hfs_btree.specs.Pairs.{lookup}
use Rattle.hfs_btree_edits.specs.Conditions.{IsThere}
use Rattle.hfs_space.specs.Extents.{Overflow}

-- the record is of another file
abbrev pub is_of_other : ℕ → ExtKey × List ℕ → Bool
is_of_other file r = not (r.0.file == file)

-- the records of other files
abbrev pub without_file : ℕ → Overflow → Overflow
without_file file overflow = filter (is_of_other file) overflow

-- the file has none of the records
abbrev pub AreOfOthers : ℕ → Overflow → Type 0
AreOfOthers file overflow = Each (λ r. is_of_other file r ≡ true) overflow

-- the key is one of the file's, and one of the records has it
pub record IsKeyOf (file : ℕ) (key : ExtKey) (overflow : Overflow) : Type 0 where
  pub own : key.file ≡ file
  pub there : IsThere (lookup ext_cmp key overflow)

-- what is found is a key of the file's, or nothing where it has none of the records
abbrev pub FindsKeyOf : ℕ → Overflow → Option ExtKey → Type 0
FindsKeyOf file overflow found = MatchOption found (AreOfOthers file overflow) (λ key. IsKeyOf file key overflow)
