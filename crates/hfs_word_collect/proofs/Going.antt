-- Rows of items that are given one after the other.
use Rattle.std.proofs.Common.{◌≡◌, ◌∙◌, ℕ, ◌+◌, Bool, List, [], ◌∷◌, ◌++◌, append-nil, refl, ap, subst, sym}
use Rattle.hfs_model.specs.Children.{entries_of}
use Rattle.hfs_check.specs.VolumeOf.{volume_of}
use Rattle.hfs_items.specs.ToldRows.{ToldRow}
use Rattle.hfs_database.specs.Taken.{TakenRow, IsBeginning}
use Rattle.hfs_database.proofs.GivenLemmas.{begins_more}
use Rattle.hfs_word_collect.specs.Items.{item_row, item_rows_from}
use Rattle.hfs_word_collect.specs.Giving.{GoesOn}

module _ (bytes : List ℕ) (taken : Bool) where
  -- before the first
  pub goes_first : (rows : List ToldRow) (given : List TakenRow) → GoesOn taken 0 0 rows rows given given bytes
  goes_first rows given = refl

  -- behind one more
  pub goes_next : (before now : ℕ) (rows left rest : List ToldRow) (start old new : List TakenRow) → GoesOn taken 0 before rows left start old bytes → GoesOn taken before now left rest old new bytes
      → GoesOn taken 0 now rows rest start new bytes
  goes_next before now rows left rest start old new goes gives = gives ∙ goes

  -- behind the last
  pub goes_last : (now : ℕ) (rows left : List ToldRow) (start old new : List TakenRow) → GoesOn taken 0 now rows left start old bytes → left ≡ [] → new ≡ old
      → new ≡ start ++ item_rows_from taken (entries_of (volume_of bytes)) 0 rows
  goes_last now rows left start old new goes none same =
      same ∙ sym (append-nil old) ∙ ap (λ (rest : List ToldRow). old ++ item_rows_from taken (entries_of (volume_of bytes)) now rest) (sym none) ∙ goes

  -- what begins the rows that are to come begins the whole
  pub goes_part : (now : ℕ) (rows left : List ToldRow) (start old new : List TakenRow) → GoesOn taken 0 now rows left start old bytes
      → IsBeginning new (old ++ item_rows_from taken (entries_of (volume_of bytes)) now left) → IsBeginning new (start ++ item_rows_from taken (entries_of (volume_of bytes)) 0 rows)
  goes_part now rows left start old new goes begin = subst (IsBeginning new) goes begin

  -- what begins with the next row begins with all that are to come
  pub next_part : (now : ℕ) (rows left : List ToldRow) (row : ToldRow) (old new : List TakenRow) → rows ≡ row ∷ left
      → IsBeginning new (old ++ item_row taken (entries_of (volume_of bytes)) now row ∷ []) → IsBeginning new (old ++ item_rows_from taken (entries_of (volume_of bytes)) now rows)
  next_part now rows left row old new first begin =
      subst (λ (all : List ToldRow). IsBeginning new (old ++ item_rows_from taken (entries_of (volume_of bytes)) now all)) (sym first)
      (begins_more new old (item_rows_from taken (entries_of (volume_of bytes)) (now + 1) left) (item_row taken (entries_of (volume_of bytes)) now row) begin)
