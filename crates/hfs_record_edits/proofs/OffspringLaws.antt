-- That an item lies in another, found on records: by the chain of parents, upwards. The statement is what a function of
-- src/moves.rt ensures.
use Rattle.std.specs.Prelude.{◌≡◌, ℕ, zero, suc, ◌+◌, ◌≤◌, Bool, false, ◌||◌, ◌==◌, length}
use Rattle.std.specs.Option.{option_map_or}
use Rattle.hfs_catalog.specs.Records.{Catalog}
use Rattle.hfs_catalog.specs.Parents.{parent_in}
use Rattle.hfs_model.specs.Children.{entries_of}
use Rattle.hfs_model.specs.Choices.{lies_in}
use Rattle.hfs_check.specs.Parts.{Blocks, mdb_in, catalog_in}
use Rattle.hfs_check.specs.Sound.{AreBlocksSound}
use Rattle.hfs_check.specs.VolumeOf.{volume_in}

-- whether up stands at most n parents above id
abbrev pub lies_by_parents : Catalog → ℕ → ℕ → ℕ → Bool
lies_by_parents catalog zero id up = id == up
lies_by_parents catalog (suc n) id up = (id == up) || option_map_or (λ (parent : ℕ). lies_by_parents catalog n parent up) (parent_in catalog id) false

-- as many steps as there are items are enough, and more find no more
abbrev pub OffspringByParents : Type 0
OffspringByParents =
    (total n id up : ℕ) (old : Blocks) → AreBlocksSound total old → (mdb_in old).files + (mdb_in old).folders + 1 ≤ n
    → lies_in (entries_of (volume_in old)) (length (entries_of (volume_in old))) id up ≡ lies_by_parents (catalog_in old) n id up
