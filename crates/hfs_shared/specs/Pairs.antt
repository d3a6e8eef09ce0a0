-- The writer's side of the pair of copies, as plain data.
use Rattle.std.specs.Prelude.{◌≡◌, ℕ, List, [], ◌∷◌, ◌++◌, fold, length, All, Option, Some, None}
use mathlib.Core.List.{IsPrefix}
use Rattle.logbook.specs.Pages.{Book}
use Rattle.hfs_shared.specs.declared.item.Item.{Item}
use Rattle.hfs_shared.specs.declared.item.Item.TheVariants.{Change}
use Rattle.hfs_shared.specs.declared.published.Published.{Published}
use Rattle.hfs_shared.specs.declared.published.Change as op
use Rattle.hfs_model.specs.declared.call.Call.{Call}
use Rattle.hfs_model.specs.declared.journal.Entry.{Entry}
use Rattle.hfs_model.specs.Volume.{Volume}
use Rattle.hfs_check.specs.VolumeOf.{volume_of}
use Rattle.hfs_volume.specs.Image.{ImageValue}
use Rattle.hfs_shared.specs.Histories.{Known, known, opened}
use Rattle.hfs_shared.specs.Journals.{changes}
use Rattle.hfs_shared.specs.Lists.{absorb, shown, IsGood, Sits}

-- the history's name, the list with all changes that were added, and the one that is published
pub record PairState : Type 0 where
  pub book : Book
  pub all : List Item
  pub shown : List Item

abbrev pub pair : Book → List Item → List Item → PairState
pair b a s = record { book = b; all = a; shown = s }

-- the pair with these members after all that were added
abbrev pub with_added : PairState → List Item → PairState
with_added p items = pair p.book (p.all ++ items) p.shown

-- the pair with this change after all that were added
abbrev pub with_call : PairState → Call → PairState
with_call p c = with_added p (Change c ∷ [])

-- the pair with the entry's change after all that were added, if that is an accepted one
abbrev pub with_entry : PairState → Entry → PairState
with_entry p e = with_added p (changes (e ∷ []))

-- the pair with all that was added published
abbrev pub with_all_shown : PairState → PairState
with_all_shown p = pair p.book p.all p.all

-- a pair over the volume, of which the opening alone was added and is published
abbrev pub IsOpened : Volume → PairState → Type 0
IsOpened v p = p ≡ pair p.book (opened v) (opened v)

-- so many viewers, each of which has seen this list
abbrev pub HaveSeen : ℕ → Known → List Known → Type 0
HaveSeen count f seen = (length seen ≡ count) × All (λ k. k ≡ f) seen

-- so many viewers, each of which has seen the opening alone
abbrev pub SawOpening : ℕ → Book → Volume → List Known → Type 0
SawOpening count b v seen = HaveSeen count (known b (opened v)) seen

-- and that is of the volume as its image is now
abbrev pub SawOpeningOf : ℕ → Book → ImageValue → List Known → Type 0
SawOpeningOf count b image seen = SawOpening count b (volume_of image.current) seen

abbrev pub pair_state : Known → Published → PairState
pair_state f x = pair f.book f.list x.front.list

-- the change that is owed, if there is one
abbrev pub owed_list : Option op.Change → List op.Change
owed_list None = []
owed_list (Some x) = x ∷ []

-- the copy that readers are to take
abbrev pub whole : Known → Published
whole f = record { rows = shown f.list; front = f }

-- the published copy and what is pending make the whole
pub record IsPair (f : Known) (head : Book) (x : Published) (pending : List op.Change) (owed : Option op.Change) : Type 0 where
  pub head_is : head ≡ f.book
  pub book_is : x.front.book ≡ f.book
  pub good : IsGood x
  pub begins : IsPrefix x.front.list f.list
  pub makes : fold absorb x (pending ++ owed_list owed) ≡ whole f

-- of a list that nobody reads: what is published begins it
pub record IsUnread (f : Known) (head : Book) (s : Known) : Type 0 where
  pub head_is : head ≡ f.book
  pub book_is : s.book ≡ f.book
  pub begins : IsPrefix s.list f.list

-- the opening is published
pub record Opens (f : Known) (x : Published) (pending : List op.Change) (v : Option Known) : Type 0 where
  pub shows : x ≡ whole f
  pub none : pending ≡ []
  pub sits : Sits f v
