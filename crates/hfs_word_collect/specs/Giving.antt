-- Rows on their way to a taker.
use Rattle.std.specs.Prelude.{◌≡◌, ℕ, suc, Bool, true, false, List, [], ◌∷◌, ◌++◌, length}
use Rattle.hfs_model.specs.declared.call.Fork.TheVariants.{DataFork, ResFork}
use Rattle.hfs_model.specs.declared.reply.Info.{Info}
use Rattle.hfs_model.specs.Volume.{Entry}
use Rattle.hfs_items.specs.ToldRows.{ToldRow}
use Rattle.hfs_source.specs.Images.{OfEach}
use Rattle.hfs_model.specs.Children.{entries_of}
use Rattle.hfs_check.specs.VolumeOf.{volume_of}
use Rattle.hfs_database.specs.Taken.{TakenRow}
use Rattle.hfs_word_collect.specs.declared.digests.ForkDigests.{ForkDigests}
use Rattle.hfs_word_collect.specs.Items.{fork_digest, item_row, item_rows_from}

-- the digests of both forks of an item
pub record AreDigests (taken : Bool) (es : List Entry) (info : Info) (found : ForkDigests) : Type 0 where
  pub data_fork : found.data_fork ≡ fork_digest taken es info DataFork
  pub resource_fork : found.resource_fork ≡ fork_digest taken es info ResFork

-- what these names lead to, and what is told of it
abbrev pub told_row : List (List ℕ) → Info → ToldRow
told_row names info = record { path = names; info = info }

-- the row of an item of the volume with these bytes came to those that were given
abbrev pub GivesItem : Bool → ℕ → ToldRow → List TakenRow → List TakenRow → List ℕ → Type 0
GivesItem taken number row old new bytes = new ≡ old ++ item_row taken (entries_of (volume_of bytes)) number row ∷ []

-- what was given and the rows that are to come are as before
abbrev pub GoesOn : Bool → ℕ → ℕ → List ToldRow → List ToldRow → List TakenRow → List TakenRow → List ℕ → Type 0
GoesOn taken before after rows left old new bytes =
    new ++ item_rows_from taken (entries_of (volume_of bytes)) after left ≡ old ++ item_rows_from taken (entries_of (volume_of bytes)) before rows

-- the first of the rows was given, where there is one
abbrev pub GivesNext : Bool → (List ℕ → Type 0) → ℕ → ℕ → Bool → List ToldRow → List ToldRow → List TakenRow → List TakenRow → Type 0
GivesNext taken Holds before after true rows left old new = OfEach Holds (GoesOn taken before after rows left old new) × (length rows ≡ suc (length left))
GivesNext taken Holds before after false rows left old new = (new ≡ old) × (rows ≡ [])
