-- The history of what is published, as plain data, and its rule.
use Rattle.std.specs.Prelude.{◌≡◌, ℕ, ◌+◌, true, List, [], ◌∷◌, ◌++◌, length}
use Rattle.logbook.specs.Pages.{Cell, Step, View, Book}
use Rattle.hfs_shared.specs.declared.item.Item.{Item}
use Rattle.hfs_shared.specs.declared.item.Item.TheVariants.{Opening, Change}
use Rattle.hfs_model.specs.declared.call.Call.{Call}
use Rattle.hfs_model.specs.Volume.{Volume}

-- a beginning of a history, by the history's name
pub record Known : Type 0 where
  pub book : Book
  pub list : List Item

abbrev pub known : Book → List Item → Known
known b l = record { book = b; list = l }

-- a beginning with one change more
abbrev pub with_change : Known → Call → Known
with_change k c = known k.book (k.list ++ Change c ∷ [])

-- the opening alone
abbrev pub opened : Volume → List Item
opened v = Opening v ∷ []

-- the one word is the number of changes, which all members but the first are
pub record IsKept (cells : List Cell) (log : List Item) : Type 0 where
  pub changes : ℕ
  pub words : cells ≡ (changes, true) ∷ []
  pub counted : length log ≡ changes + 1

-- the item was added to all that had been seen, where the number found is the one expected
abbrev pub Adds : Step Item → View Item ℕ → ℕ → View Item ℕ → Type 0
Adds s v found w = found ≡ s.old → w.0 ≡ v.0 ++ s.ask ∷ []
