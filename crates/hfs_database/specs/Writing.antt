-- The page of a collection, by what its database answers.
use Rattle.std.specs.Prelude.{◌≡◌, ◌⊎◌, ℕ, List, [], Option}
use Rattle.std.specs.Io.KnownBytes.{Appends}
use Rattle.sqlite.specs.Held.{Held, state}
use Rattle.sqlite.specs.Store.{Ghosts}
use Rattle.sqlite_value.specs.Order.{Row}
use Rattle.hfs_database.specs.declared.fault.DatabaseFault.{DatabaseFault}
use Rattle.hfs_database.specs.declared.fault.DatabaseFault.TheVariants.{NoMemory}
use Rattle.hfs_database.specs.declared.listing.Listing.{Listing}
use Rattle.hfs_database.specs.declared.listing.Listing.TheVariants.{Volumes, Copies}
use Rattle.hfs_database.specs.Faults.{FailsToAnswer}
use Rattle.hfs_database.specs.Listing.{IsListed, listing_text}
use Rattle.hfs_texts.specs.Writing.{AppendsFront}
use Rattle.hfs_database.specs.declared.collection_texts.CollectionTexts.{CollectionTexts}
use Rattle.hfs_database.specs.Pages.{collection_page}

-- the page of the volumes and the contents that the database listed, one listing after the other
pub record IsPage {S : Type 0} (g : Ghosts S) (old new : Held S) (texts : CollectionTexts) (page : List ℕ) : Type 0 where
  pub asked : Held S
  pub volumes : List Row
  pub contents : List Row
  pub lists_volumes : IsListed (state g old) (state g asked) Volumes volumes
  pub lists_contents : IsListed (state g asked) (state g new) Copies contents
  pub is : page ≡ collection_page texts volumes contents

-- such a page was written
abbrev pub WritesPage : {S : Type 0} → Ghosts S → Held S → Held S → CollectionTexts → Option (List ℕ) → Option (List ℕ) → Type 0
WritesPage g old new texts before after = (page : List ℕ) × IsPage g old new texts page × Appends before after page

-- a part of such a page was written, from its beginning on
abbrev pub WritesPageFront : {S : Type 0} → Ghosts S → Held S → Held S → CollectionTexts → Option (List ℕ) → Option (List ℕ) → Type 0
WritesPageFront g old new texts before after = (page : List ℕ) × IsPage g old new texts page × AppendsFront before after page

-- the database was asked for a listing, and answered an error that has this fault
abbrev pub FailsToList : {S : Type 0} → Ghosts S → Held S → Held S → Listing → DatabaseFault → Type 0
FailsToList g old new listing fault = FailsToAnswer (state g old) (state g new) (listing_text listing) [] fault

-- the volumes were listed, and after them the contents were not, for this fault
pub record IsUnlistedAfter {S : Type 0} (g : Ghosts S) (old new : Held S) (fault : DatabaseFault) : Type 0 where
  pub asked : Held S
  pub volumes : List Row
  pub lists_volumes : IsListed (state g old) (state g asked) Volumes volumes
  pub unlisted : FailsToList g asked new Copies fault

-- why there is no page: the volumes were not listed, or after them the contents were not, or memory was refused
abbrev pub HasNoPage : {S : Type 0} → Ghosts S → Held S → Held S → DatabaseFault → Type 0
HasNoPage g old new fault = FailsToList g old new Volumes fault ⊎ (IsUnlistedAfter g old new fault ⊎ (fault ≡ NoMemory))
