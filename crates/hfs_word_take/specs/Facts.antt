-- What a bag tells of its image.
use Rattle.std.specs.Prelude.{ℕ, Bool, true, false, ◌==◌, if◌then◌else◌, List, [], ◌++◌, codes, Option, None, Some, unwrap_or}
use Rattle.std.specs.Fmt.{decimal}
use Rattle.std.specs.Path.{path_file_name}
use Rattle.hfs_commands.specs.Paths.{path_text}
use Rattle.hfs_commands.specs.Volumes.{container_text, name_text}
use Rattle.hfs_source.specs.declared.ranges.FoundRange.{FoundRange}

-- the last part of the image's path, as paths are printed
abbrev pub image_name : List ℕ → List ℕ
image_name path = path_text (unwrap_or (path_file_name path) path)

-- the name of a volume, if there is one
abbrev pub told_name : Option (List ℕ) → List ℕ
told_name None = []
told_name (Some name) = name_text name

-- whether the sum of a disk copy is right
abbrev pub told_sum : Option Bool → List ℕ
told_sum None = []
told_sum (Some true) = codes " sum right"
told_sum (Some false) = codes " sum wrong"

-- what is told where there is no volume
abbrev pub told_missing : Option (List ℕ) → List ℕ
told_missing None = codes " no volume"
told_missing (Some name) = []

-- how many raw sectors have no user data, where there are some
unfoldable pub told_others : ℕ → List ℕ
told_others others = if others == 0 then [] else codes " other mode " ++ decimal others

-- where the volume lies: number, how it lies, first byte, bytes, name, what is told of its sum, how many raw sectors have no user data
unfoldable pub volume_text : ℕ → FoundRange → Option (List ℕ) → Option Bool → ℕ → List ℕ
volume_text number found name sum others =
    decimal number ++ codes " " ++ container_text found.container ++ codes " " ++ decimal found.range.start ++ codes " " ++ decimal found.range.len ++ codes " "
    ++ told_name name ++ told_sum sum ++ told_missing name ++ told_others others
