-- The head is the first piece.
use Rattle.std.proofs.Common.{Bool, List, ℕ, ◌++◌, sym, ap, subst, ◌∙◌}
use Rattle.hfs_table.specs.Lines.{bag_head}
use Rattle.hfs_word_take.specs.Items.{rows_text}
use Rattle.hfs_bag.specs.Forks.{ReadsOn}
use Rattle.hfs_word_take.specs.Reading.{table_rest}
use Rattle.hfs_word_take.proofs.TableLemmas.{head_read}
use Rattle.hfs_word_take.proofs.table_reading.read_table.Goals as goal

pub returns : goal.returns
returns c =
    let rows = c.args.table.now.rows.left in
    subst (λ (begun : Bool). ReadsOn c.push_bag_head.new.text.items (table_rest begun rows) (rows_text rows)) (sym c.if-table.false)
    (head_read c.push_bag_head.new.text.items rows (c.in_ok-push_bag_head.ensures ∙ ap (λ (xs : List ℕ). xs ++ bag_head) c.clear.ensures.items))
