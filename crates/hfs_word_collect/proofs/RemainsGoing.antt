-- Rows of items that remain, one after the other.
use Rattle.std.proofs.Common.{◌≡◌, ◌∙◌, ℕ, ◌+◌, ◌<◌, ◌≤◌, Bool, List, [], ◌∷◌, ◌++◌, length, drop, get_or, append-nil, append_assoc, Option, Some, None, slice_index_or, ap, subst, sym}
use Rattle.std.proofs.lemmas.List.{drop_all, drop_more}
use Rattle.hfs_remains.specs.declared.catalog.FoundRecord.{FoundRecord}
use Rattle.hfs_rescue_items.specs.Found.{names_at, path_at, told}
use Rattle.hfs_fields.specs.declared.mdb.Mdb.{Mdb}
use Rattle.hfs_model.specs.declared.reply.Info.{Info}
use Rattle.hfs_space.specs.declared.fork_kind.ForkKind.TheVariants.{Data, Resource}
use Rattle.hfs_remains_forks.specs.Images.{FoundImage}
use Rattle.hfs_database.specs.declared.value.RowValue.{RowValue}
use Rattle.hfs_database.specs.declared.value.Table.TheVariants.{Item}
use Rattle.hfs_database.specs.Taken.{TakenRow, IsBeginning, row_of}
use Rattle.hfs_database.proofs.GivenLemmas.{begins_before}
use Rattle.hfs_word_collect.specs.declared.remains.ForkTold.{ForkTold}
use Rattle.hfs_word_collect.specs.Remains.{remains_row, remains_rows_from, remains_values, told_fork, told_values}

module _ (taken : Bool) (f : FoundImage) (items : List FoundRecord) (all : List TakenRow) where
  -- what was given, and the rows that are still to come, make the whole
  abbrev pub RemainsLeft : ℕ → List TakenRow → Type 0
  RemainsLeft i given = given ++ remains_rows_from taken f i (drop i items) ≡ all

  pub remains_next : (i : ℕ) (item : FoundRecord) (given new : List TakenRow) → i < length items → item ≡ get_or items i item → RemainsLeft i given → new ≡ given ++ remains_row taken f i (told item) → RemainsLeft (i + 1) new
  remains_next i item given new within is so added =
      ap (λ (front : List TakenRow). front ++ remains_rows_from taken f (i + 1) (drop (i + 1) items)) added
      ∙ append_assoc given (remains_row taken f i (told item)) (remains_rows_from taken f (i + 1) (drop (i + 1) items))
      ∙ ap (λ (rest : List FoundRecord). given ++ remains_rows_from taken f i rest) (ap (λ (first : FoundRecord). first ∷ drop (i + 1) items) is ∙ sym (drop_more items i item within)) ∙ so

  pub remains_last : (i : ℕ) (given : List TakenRow) → length items ≤ i → RemainsLeft i given → given ≡ all
  remains_last i given end so = sym (append-nil given) ∙ ap (λ (rest : List FoundRecord). given ++ remains_rows_from taken f i rest) (sym (drop_all i items end)) ∙ so

  -- what was given so far begins the whole
  pub remains_begin : (i : ℕ) (given : List TakenRow) → RemainsLeft i given → IsBeginning given all
  remains_begin i given so = record { rest = remains_rows_from taken f i (drop i items); all_is = so }

  -- and so does what begins with the next item
  pub remains_part : (i : ℕ) (item : FoundRecord) (given new : List TakenRow) → i < length items → item ≡ get_or items i item → RemainsLeft i given
      → IsBeginning new (given ++ remains_row taken f i (told item)) → IsBeginning new all
  remains_part i item given new within is so begin =
      subst (IsBeginning new)
      (append_assoc given (remains_row taken f i (told item)) (remains_rows_from taken f (i + 1) (drop (i + 1) items))
      ∙ ap (λ (rest : List FoundRecord). given ++ remains_rows_from taken f i rest) (ap (λ (first : FoundRecord). first ∷ drop (i + 1) items) is ∙ sym (drop_more items i item within)) ∙ so)
      (begins_before new (given ++ remains_row taken f i (told item)) (remains_rows_from taken f (i + 1) (drop (i + 1) items)) begin)

-- ---- the row of an item

-- none, where its record tells nothing
pub none_told : (taken : Bool) (f : FoundImage) (i : ℕ) (o : Option Info) (old new : List TakenRow) → o ≡ None → new ≡ old → new ≡ old ++ remains_row taken f i o
none_told taken f i o old new none same = same ∙ sym (append-nil old) ∙ ap (λ (told : Option Info). old ++ remains_row taken f i told) (sym none)

pub row_told : (taken : Bool) (f : FoundImage) (i : ℕ) (o : Option Info) (info : Info) (values : List RowValue) (old new : List TakenRow) → o ≡ Some info → values ≡ told_values taken f i info
    → new ≡ old ++ row_of Item values ∷ [] → new ≡ old ++ remains_row taken f i o
row_told taken f i o info values old new some is added =
    added ∙ ap (λ (told : List RowValue). old ++ row_of Item told ∷ []) is ∙ ap (λ (told : Option Info). old ++ remains_row taken f i told) (sym some)

-- what was refused with the row of an item
pub row_part : (taken : Bool) (f : FoundImage) (i : ℕ) (o : Option Info) (info : Info) (values : List RowValue) (old new : List TakenRow) → o ≡ Some info → values ≡ told_values taken f i info
    → IsBeginning new (old ++ row_of Item values ∷ []) → IsBeginning new (old ++ remains_row taken f i o)
row_part taken f i o info values old new some is begin =
    subst (IsBeginning new) (ap (λ (told : List RowValue). old ++ row_of Item told ∷ []) is ∙ ap (λ (told : Option Info). old ++ remains_row taken f i told) (sym some)) begin

-- the values by their parts
pub values_told : (taken : Bool) (f : FoundImage) (i : ℕ) (info : Info) (values : List RowValue) (names : List (List ℕ)) (mdb : Mdb) (path : List ℕ) (d r : ForkTold) → values ≡ remains_values i names path info d r
    → names ≡ names_at f.things mdb i → f.mdb ≡ mdb → path ≡ path_at f.things i
    → d ≡ told_fork taken f Data (slice_index_or f.shares i None) → r ≡ told_fork taken f Resource (slice_index_or f.shares i None) → values ≡ told_values taken f i info
values_told taken f i info values names mdb path d r is names_are mdb_is path_is d_is r_is =
    is ∙ (λ k. remains_values i ((names_are ∙ ap (λ (m : Mdb). names_at f.things m i) (sym mdb_is)) k) (path_is k) info (d_is k) (r_is k))
