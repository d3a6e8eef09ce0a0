-- What holds of the definitions. Each statement is what a function of src/laws.rt ensures.
use Rattle.std.specs.Prelude.{◌≡◌, ℕ, ◌≤◌, List}
use Rattle.std.specs.Option.{option_map}
use Rattle.std.specs.FinMap as finite
use Rattle.hfs_model.specs.Children.{children}
use Rattle.hfs_model.specs.Children as model
use Rattle.hfs_model.specs.Lawful.{AreLawful}
use Rattle.hfs_catalog.specs.Records.{Catalog, item_with, valence_of}
use Rattle.hfs_catalog.specs.Sound.{IsSoundCatalog}
use Rattle.hfs_catalog.specs.Items.{Contents, item_of, items_in, entry_of}
use Rattle.hfs_catalog.proofs.ItemsLaws.{children_in}
use Rattle.hfs_catalog.specs.Lookups.{child_named}

-- ---- the items

-- the item of an ID is that of the record with it
abbrev pub ItemsAreRecords : Type 0
ItemsAreRecords =
    (contents : Contents) (catalog : Catalog) (id : ℕ)
    → finite.get (items_in contents catalog) id ≡ option_map (item_of contents catalog) (item_with catalog id)

-- a sound catalog holds a lawful volume
abbrev pub SoundIsLawful : Type 0
SoundIsLawful = (contents : Contents) (next : ℕ) (catalog : Catalog) → 16 ≤ next → IsSoundCatalog next catalog → AreLawful (items_in contents catalog) next

-- the records under a folder, in the catalog's order, are its children in name order
abbrev pub RecordsAreChildren : Type 0
RecordsAreChildren =
    (contents : Contents) (next : ℕ) (catalog : Catalog) → 16 ≤ next → IsSoundCatalog next catalog → (dir : ℕ)
    → children_in contents catalog dir ≡ children (finite.entries (items_in contents catalog)) dir

-- ---- the queries of a volume, on its items, are those of the catalog

-- the item of an ID
abbrev pub EntriesAreRecords : Type 0
EntriesAreRecords =
    (contents : Contents) (catalog : Catalog) (id : ℕ)
    → model.entry_at (finite.entries (items_in contents catalog)) id ≡ option_map (entry_of contents catalog) (item_with catalog id)

-- a folder's child of a name
abbrev pub NamedAreRecords : Type 0
NamedAreRecords =
    (contents : Contents) (next : ℕ) (catalog : Catalog) → IsSoundCatalog next catalog → (dir : ℕ) (name : List ℕ)
    → model.child_named (finite.entries (items_in contents catalog)) dir name ≡ option_map (entry_of contents catalog) (child_named catalog dir name)

-- the number of a folder's children
abbrev pub ValencesAreCounted : Type 0
ValencesAreCounted =
    (contents : Contents) (next : ℕ) (catalog : Catalog) → 16 ≤ next → IsSoundCatalog next catalog → (dir : ℕ)
    → model.valence (finite.entries (items_in contents catalog)) dir ≡ valence_of catalog dir
