-- Pieces of tables that are read.
use Rattle.std.proofs.Common.{◌≡◌, ℕ, ◌+◌, ◌≤◌, List, [], ◌∷◌, ◌++◌, length, refl, sym, ap, ◌∙◌, append_assoc, length-append, arith}
use Rattle.hfs_remains.specs.declared.catalog.FoundRecord.{FoundRecord}
use Rattle.hfs_table.specs.Columns.{column_name, columns}
use Rattle.hfs_table.specs.Lines.{bag_head}
use Rattle.std.specs.Prelude.{codes}
use Rattle.std.specs.List.{join_by}
use Rattle.hfs_rescue_items.specs.Lines.{lines_of}
use Rattle.hfs_rescue_items.specs.declared.table_lines.Lines.{Lines}
use Rattle.hfs_bag.specs.Forks.{ReadsOn}
use Rattle.hfs_rescue_items.specs.Reading.{ReadsLines, lines_rest}

-- a line more came
pub line_more : (line : ℕ → FoundRecord → List ℕ) (whole piece piece' : List ℕ) (i i' : ℕ) (item : FoundRecord) (items behind : List FoundRecord)
    → piece ++ lines_of line i items ≡ whole → items ≡ item ∷ behind → piece' ≡ piece ++ line i item → i' ≡ i + 1 → piece' ++ lines_of line i' behind ≡ whole
line_more line whole piece piece' i i' item items behind so first pushed next =
    ap (λ (xs : List ℕ). xs ++ lines_of line i' behind) pushed
    ∙ append_assoc piece (line i item) (lines_of line i' behind)
    ∙ ap (λ (n : ℕ). piece ++ (line i item ++ lines_of line n behind)) (omega (arith, next))
    ∙ ap (λ (xs : List FoundRecord). piece ++ lines_of line i xs) (sym first) ∙ so

-- what was read is as much less to read
pub lines_fewer : (piece old new : List ℕ) → ReadsOn piece old new → length old ≡ length piece + length new
lines_fewer piece old new reads = ap length reads.bytes ∙ length-append piece new

-- no line is left
pub lines_none : (line : ℕ → FoundRecord → List ℕ) (piece : List ℕ) (old new : Lines) → piece ++ lines_rest line new ≡ lines_rest line old → new.items.now ≡ [] → ReadsLines line piece old new
lines_none line piece old new so none = record { bytes = sym so; none = λ e. ap (lines_of line new.next) none }

-- the piece is whole
pub lines_whole : (line : ℕ → FoundRecord → List ℕ) (piece : List ℕ) (old new : Lines) → piece ++ lines_rest line new ≡ lines_rest line old → 65536 ≤ length piece → ReadsLines line piece old new
lines_whole line piece old new so long = record { bytes = sym so; none = λ e. absurd (omega (arith, ap length e, long)) }

-- the head ends with a line's end
head-some : bag_head ≡ [] → ⊥
unfolding bag_head
head-some e =
    let some : length (codes ",bag_path\r\n") ≡ 11 = refl in
    absurd (omega (arith, some, ap length e, length-append (join_by column_name (codes ",") columns) (codes ",bag_path\r\n")))

-- the head was read
pub head_read : (piece rest : List ℕ) → piece ≡ [] ++ bag_head → ReadsOn piece (bag_head ++ rest) rest
head_read piece rest is = record { bytes = ap (λ (xs : List ℕ). xs ++ rest) (sym is); none = λ e. absurd (head-some (sym is ∙ e)) }
