-- The extents of a volume with what their blocks are used for.
use Rattle.std.specs.Prelude.{◌≡◌, ℕ, ◌==◌, if◌then◌else◌, List, [], ◌∷◌, ◌++◌, map, Some, None}
use Rattle.std.specs.List.{flat_map}
use Rattle.std.proofs.Common.{Vec, Global}
use Rattle.hfs_fields.specs.declared.extent.Extent.{Extent}
use Rattle.hfs_fields.specs.declared.key.CatKey.{CatKey}
use Rattle.hfs_fields.specs.declared.mdb.Mdb.{Mdb}
use Rattle.hfs_fields.specs.Records.{is_file}
use Rattle.hfs_btree.specs.Pairs.{Pairs}
use Rattle.hfs_space.specs.declared.files.CatalogFile.{CatalogFile}
use Rattle.hfs_space.specs.declared.fork_kind.ForkKind.TheVariants.{Data, Resource}
use Rattle.hfs_space.specs.Extents.{Overflow, fork_byte, fork_extents}
use Rattle.hfs_space.specs.Owners.{bad_extents, catalog_fork, extents_in}
use Rattle.hfs_space.specs.Runs.{file_at, files_in}
use Rattle.hfs_page.specs.declared.parts.FileFork.{FileFork}
use Rattle.hfs_page.specs.declared.parts.Holding.{Holding}
use Rattle.hfs_page.specs.declared.parts.Part.{Part}
use Rattle.hfs_page.specs.declared.parts.Part.TheVariants.{BadBlocks, ExtentsTree, Catalog, LaterExtents, FirstExtents}

-- extents that are no file's
abbrev pub all_held : Part → List Extent → List Holding
all_held part extents = map (λ (e : Extent). record { extent = e; used = record { part = part; fork = None } }) extents

-- an extent of a file's fork
abbrev pub held_by : Part → FileFork → Extent → Holding
held_by part fork e = record { extent = e; used = record { part = part; fork = Some fork } }

-- the part of the extents after one of so many blocks: after the first that has a block all are later ones
abbrev pub part_behind : Part → ℕ → Part
part_behind part count = if count == 0 then part else LaterExtents

-- the extents of a fork, of which the next one is of this part
abbrev pub held_from : Part → FileFork → List Extent → List Holding
held_from part fork [] = []
held_from part fork (e ∷ es) = held_by part fork e ∷ held_from (part_behind part e.count) fork es

-- the extents of a fork, of which the file's record has these first ones
abbrev pub fork_holdings : Overflow → FileFork → List Extent → List Holding
fork_holdings overflow fork first = held_from FirstExtents fork (fork_extents overflow fork.file (fork_byte fork.kind) first)

-- of both forks of a file
abbrev pub file_holdings : Overflow → CatalogFile → List Holding
file_holdings overflow f =
    fork_holdings overflow (record { number = f.number; file = f.file.id; kind = Data }) f.file.«data».extents
    ++ fork_holdings overflow (record { number = f.number; file = f.file.id; kind = Resource }) f.file.resource.extents

-- of the record of this number, whose body this is
abbrev pub record_holdings : Overflow → ℕ → List ℕ → List Holding
record_holdings overflow number body = if is_file body then file_holdings overflow (file_at number body) else []

-- of a volume: the bad blocks, the extents tree, the catalog, and the forks of all files
unfoldable pub volume_holdings : Mdb → Overflow → Pairs CatKey → List Holding
volume_holdings mdb overflow catalog =
    all_held BadBlocks (bad_extents overflow) ++ all_held ExtentsTree mdb.extents_file ++ all_held Catalog (extents_in overflow (catalog_fork mdb))
    ++ flat_map (file_holdings overflow) (files_in 0 catalog)

-- after the old ones these were added
abbrev pub AddsHoldings : Vec Holding Global → Vec Holding Global → List Holding → Type 0
AddsHoldings old new more = new.items ≡ old.items ++ more
