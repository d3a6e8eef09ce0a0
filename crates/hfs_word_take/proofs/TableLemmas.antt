-- Pieces of the table that are read.
use Rattle.std.proofs.Common.{◌≡◌, ℕ, suc, ◌+◌, ◌≤◌, Bool, true, false, List, [], ◌++◌, length, refl, sym, ap, ◌∙◌, arith, length-append}
use Rattle.hfs_items.specs.ToldRows.{ToldRow}
use Rattle.std.specs.Prelude.{codes}
use Rattle.std.specs.List.{join_by}
use Rattle.hfs_model.proofs.Facts.{true_false}
use Rattle.hfs_table.specs.Columns.{column_name, columns}
use Rattle.hfs_table.specs.Lines.{bag_head}
use Rattle.hfs_word_take.specs.Items.{rows_text, table_text}
use Rattle.hfs_bag.specs.Forks.{ReadsOn}
use Rattle.hfs_word_take.specs.Reading.{AddsRow}

-- bytes that were read, and those that are left
pub reads_on : (piece old new : List ℕ) → old ≡ piece ++ new → (piece ≡ [] → new ≡ []) → ReadsOn piece old new
reads_on piece old new is none = record {
  bytes = is;
  none = none;
}

-- a row more came
pub row_more : (more : Bool) (whole piece piece' : List ℕ) (rows left : List ToldRow) → piece ++ rows_text rows ≡ whole → AddsRow more piece piece' rows left → more ≡ true
    → piece' ++ rows_text left ≡ whole
row_more true whole piece piece' rows left so added is = sym added.0 ∙ so
row_more false whole piece piece' rows left so added is = absurd (true_false false is refl)

pub rows_fewer : (more : Bool) (piece piece' : List ℕ) (rows left : List ToldRow) → AddsRow more piece piece' rows left → more ≡ true → suc (length left) ≡ length rows
rows_fewer true piece piece' rows left added is = sym added.1
rows_fewer false piece piece' rows left added is = absurd (true_false false is refl)

-- no row is left
pub rows_done : (more : Bool) (whole piece piece' : List ℕ) (rows left : List ToldRow) → piece ++ rows_text rows ≡ whole → AddsRow more piece piece' rows left → more ≡ false
    → ReadsOn piece' whole (rows_text left)
rows_done true whole piece piece' rows left so added is = absurd (true_false true refl is)
rows_done false whole piece piece' rows left so added is =
    let all : whole ≡ piece' ++ rows_text left = sym so ∙ (λ i. sym added.0 i ++ rows_text ((added.1 ∙ sym added.2) i)) in
    reads_on piece' whole (rows_text left) all (λ e. ap rows_text added.2)

-- the piece is whole
pub rows_read : (whole piece : List ℕ) (left : List ToldRow) → piece ++ rows_text left ≡ whole → 65536 ≤ length piece → ReadsOn piece whole (rows_text left)
rows_read whole piece left so long = reads_on piece whole (rows_text left) (sym so) (λ e. absurd (omega (arith, ap length e, long)))

-- the head ends with a line's end
head-some : bag_head ≡ [] → ⊥
unfolding bag_head
head-some e =
    let some : length (codes ",bag_path\r\n") ≡ 11 = refl in
    absurd (omega (arith, some, ap length e, length-append (join_by column_name (codes ",") columns) (codes ",bag_path\r\n")))

-- the head was read
pub head_read : (piece : List ℕ) (rows : List ToldRow) → piece ≡ [] ++ bag_head → ReadsOn piece (table_text rows) (rows_text rows)
unfolding table_text
head_read piece rows is = reads_on piece (table_text rows) (rows_text rows) (ap (λ (l : List ℕ). l ++ rows_text rows) (sym is)) (λ e. absurd (head-some (sym is ∙ e)))

-- so many bytes were read that fewer are left
pub text_fewer : (piece old new : List ℕ) → ReadsOn piece old new → length old ≡ length piece + length new
text_fewer piece old new reads = ap length reads.bytes ∙ length-append piece new
