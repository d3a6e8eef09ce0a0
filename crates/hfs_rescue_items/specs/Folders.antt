-- The folder of a number, in which the items lie whose parent has it.
use Rattle.std.specs.Prelude.{ℕ, ◌==◌, if◌then◌else◌, List, Option, None, Some}
use Rattle.hfs_catalog.specs.Indexes.{is_place}
use Rattle.hfs_remains_places.specs.declared.things.Thing.{Thing}
use Rattle.hfs_remains_places.specs.Folders.{place_of, thing_at}
use Rattle.hfs_remains_places.specs.Paths.{root_of}

-- the place of the folder of a number: the first that has it, and of the number 2 the root
abbrev pub home_of : List Thing → ℕ → Option ℕ
home_of things number = if number == 2 then root_of things else place_of things number

abbrev pub home_if : List Thing → ℕ → Option ℕ → Option ℕ
home_if things k None = None
home_if things k (Some number) = if is_place (home_of things number) k then Some number else None

-- the number whose folder thing k is; none of a file, and of a folder whose number an earlier one has
abbrev pub home_number : List Thing → ℕ → Option ℕ
home_number things k = home_if things k (thing_at things k).folder
