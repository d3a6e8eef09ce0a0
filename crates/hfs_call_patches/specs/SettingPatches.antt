-- Patches that set an item's record: each makes the step of its call, wherever that chooses the item.
use Rattle.std.specs.Prelude.{ℕ, Bool, List, Result}
use Rattle.hfs_fields.specs.declared.key.CatKey.{CatKey}
use Rattle.hfs_fields.specs.declared.dir_record.DirRecord.{DirRecord}
use Rattle.hfs_fields.specs.declared.file_record.FileRecord.{FileRecord}
use Rattle.hfs_blocks.specs.Layers.{Numbered}
use Rattle.hfs_check.specs.Parts.{Blocks}
use Rattle.hfs_model.specs.declared.settings.ItemSettings.{ItemSettings}
use Rattle.hfs_call_patches.specs.FileIds.{MakesCreateFileId, MakesDeleteFileId}
use Rattle.hfs_call_patches.specs.Patches.{GivesPatch}
use Rattle.hfs_call_patches.specs.Settings.{MakesSetFInfo, MakesSetFileInfo, MakesSetFolderInfo, MakesSetLock}

-- the first half of a file's Finder bytes is set
abbrev pub SetsFInfo : {E : Type 0} → Result Numbered E → CatKey → FileRecord → List ℕ → ℕ → Blocks → Type 0
SetsFInfo result key file info now blocks = GivesPatch result blocks (MakesSetFInfo key file info now)

-- a file's dates and Finder bytes are set
abbrev pub SetsFileInfo : {E : Type 0} → Result Numbered E → CatKey → FileRecord → ItemSettings → ℕ → Blocks → Type 0
SetsFileInfo result key file set now blocks = GivesPatch result blocks (MakesSetFileInfo key file set now)

-- a folder's dates and Finder bytes are set
abbrev pub SetsFolderInfo : {E : Type 0} → Result Numbered E → CatKey → DirRecord → ItemSettings → ℕ → Blocks → Type 0
SetsFolderInfo result key folder set now blocks = GivesPatch result blocks (MakesSetFolderInfo key folder set now)

-- a file is locked, or unlocked
abbrev pub SetsLock : {E : Type 0} → Result Numbered E → Bool → CatKey → FileRecord → ℕ → Blocks → Type 0
SetsLock result locked key file now blocks = GivesPatch result blocks (MakesSetLock locked key file now)

-- a file gets a thread
abbrev pub CreatesFileId : {E : Type 0} → Result Numbered E → CatKey → FileRecord → ℕ → Blocks → Type 0
CreatesFileId result key file now blocks = GivesPatch result blocks (MakesCreateFileId key file now)

-- a file's thread goes
abbrev pub DeletesFileId : {E : Type 0} → Result Numbered E → CatKey → FileRecord → ℕ → Blocks → Type 0
DeletesFileId result key file now blocks = GivesPatch result blocks (MakesDeleteFileId key file now)
