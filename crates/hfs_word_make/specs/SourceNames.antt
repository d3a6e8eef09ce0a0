-- The name that a new volume gets by what is put on it.
use Rattle.std.specs.Prelude.{◌≡◌, ℕ, IsTrue, if◌then◌else◌, List, [], ◌∷◌, Option, Some, None, Result, MatchResult, chars}
use Rattle.std.specs.Path.{path_file_name}
use Rattle.std.specs.Str.{is_utf8}
use Rattle.hfs_put_sources.specs.Tags.{name_told}
use Rattle.hfs_format.specs.Plan.{is_volume_name}
use Rattle.hfs_encodings.specs.Names.{given_name}
use Rattle.hfs_encodings.specs.Spelled.{host_letters, plain_letters}
use Rattle.hfs_format.specs.Names.{item_letters}
use Rattle.hfs_format.specs.declared.make_fault.MakeFault.{MakeFault}
use Rattle.hfs_format.specs.declared.make_fault.MakeFault.TheVariants.{BadName}
use Rattle.hfs_format.specs.declared.volume_name.VolumeName.{VolumeName}
use Rattle.hfs_put_plan.specs.declared.entries.EntryKind.{EntryKind}
use Rattle.hfs_put_plan.specs.declared.entries.EntryKind.TheVariants.{File, Folder, Other}
use Rattle.hfs_put_sources.specs.declared.entry.Look.{Look}
use Rattle.hfs_put_sources.specs.Trees.{Tree}

-- these letters, where a volume has such a name; else that is the fault
abbrev pub IsReadAs : Option (List ℕ) → Result VolumeName MakeFault → Type 0
IsReadAs letters read = MatchResult read (λ name. letters ≡ Some name.name)
    (λ fault. (fault ≡ BadName) × ((name : List ℕ) → letters ≡ Some name → ¬ (IsTrue (is_volume_name name))))

-- by the plain text of a disk's name, where it is text
unfoldable pub plain_name : List ℕ → Option (List ℕ)
plain_name text = if is_utf8 text then item_letters (given_name (plain_letters (chars text))) else None

-- by the last part of a path
abbrev pub part_name : Option (List ℕ) → Option (List ℕ)
part_name (Some part) = item_letters (given_name (host_letters (chars part)))
part_name None = None

-- of a folder; a file gives none
abbrev pub look_name : EntryKind → List ℕ → Option (List ℕ)
look_name Folder source = part_name (path_file_name source)
look_name (File len) source = None
look_name Other source = None

abbrev pub target_name : Option Look → List ℕ → Option (List ℕ)
target_name (Some look) source = look_name look.kind source
target_name None source = None

-- what a bag says about its disk counts before its own name
abbrev pub source_name : Option (List ℕ) → Tree → List ℕ → Option (List ℕ)
source_name (Some text) host source = plain_name text
source_name None host source = target_name (host.target source) source

-- of one source alone
abbrev pub found_name : Tree → List (List ℕ) → Option (List ℕ)
found_name host [] = None
found_name host (source ∷ []) = source_name (name_told host source) host source
found_name host (source ∷ other ∷ more) = None
