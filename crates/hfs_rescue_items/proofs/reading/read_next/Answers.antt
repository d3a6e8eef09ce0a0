-- The head is the first piece of the table.
use Rattle.std.proofs.Common.{◌≡◌, ◌+◌, true, OnOk, List, ℕ, length, ◌++◌, sym, ap, subst, ◌∙◌}
use Rattle.hfs_table.specs.Lines.{bag_head}
use Rattle.hfs_rescue_items.specs.Lines.{item_line}
use Rattle.hfs_rescue_items.specs.declared.reading.Reading.{Reading}
use Rattle.hfs_bag.specs.Forks.{ReadsOn, fork_rest}
use Rattle.hfs_source.specs.Images.{OfEach}
use Rattle.hfs_rescue_items.specs.Reading.{lines_rest, reading_left, reading_rest}
use Rattle.hfs_rescue_items.proofs.LineLemmas.{head_read, lines_fewer}
use Rattle.hfs_rescue_items.proofs.reading.read_next.Goals as goal

pub returns-in_ok-push_table_head-in-Table-clause-read : goal.returns-in_ok-push_table_head-in-Table-clause-read
returns-in_ok-push_table_head-in-Table-clause-read g c =
    let found = c.args.found.now in
    let rest = lines_rest (item_line found) c.in-Table.lines in
    let piece = c.push_table_head.new.piece.items in
    λ image h. subst (λ (r : Reading). ReadsOn piece (reading_rest image found r) rest) (sym c.in-Table.is)
    (head_read piece rest (c.in_ok-push_table_head-in-Table.ensures.head ∙ ap (λ (xs : List ℕ). xs ++ bag_head) c.clear.ensures.items))

pub returns-in_ok-push_table_head-in-Table-clause-fewer : goal.returns-in_ok-push_table_head-in-Table-clause-fewer
returns-in_ok-push_table_head-in-Table-clause-fewer g c =
    let found = c.args.found.now in
    let rest = lines_rest (item_line found) c.in-Table.lines in
    let piece = c.push_table_head.new.piece.items in
    subst (λ (r : Reading). reading_left found r ≡ length piece + length rest) (sym c.in-Table.is)
    (lines_fewer piece (bag_head ++ rest) rest
    (head_read piece rest (c.in_ok-push_table_head-in-Table.ensures.head ∙ ap (λ (xs : List ℕ). xs ++ bag_head) c.clear.ensures.items)))

-- and the next bytes of a fork are those that its reader gives
pub returns-in-Fork-clause-read : goal.returns-in-Fork-clause-read
returns-in-Fork-clause-read g c =
    let found = c.args.found.now in
    subst (λ (r : Reading). OnOk c.read_fork.result (OfEach (g.S.BlockSource.Holds c.read_fork.new.source)
    (λ (image : List ℕ). ReadsOn c.read_fork.new.piece.items (reading_rest image found r) (fork_rest true image c.read_fork.new.fork)))) (sym c.in-Fork.is) (c.read_fork.ensures.read true)
