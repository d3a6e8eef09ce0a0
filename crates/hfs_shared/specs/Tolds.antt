-- What a caller is given, as plain data.
use Rattle.std.specs.Prelude.{ℕ, List}
use Rattle.logbook.specs.Pages.{Book}
use Rattle.hfs_shared.specs.declared.item.Item.{Item}
use Rattle.hfs_shared.specs.Histories.{Known}

-- a list that was published, how many entries of the journal it covers, and how many there were
pub record ToldState : Type 0 where
  pub book : Book
  pub list : List Item
  pub shown : ℕ
  pub made : ℕ

abbrev pub told : Known → ℕ → ℕ → ToldState
told f s m = record { book = f.book; list = f.list; shown = s; made = m }
