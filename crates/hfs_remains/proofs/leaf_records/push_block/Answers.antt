use Rattle.std.proofs.Common.{◌≡◌, ◌+◌, List, ◌++◌, sym, ap, ◌∙◌, arith, append_assoc}
use Rattle.std.specs.List.{flat_map, range_with_len}
use Rattle.std.proofs.lemmas.List.{append-nil}
use Rattle.hfs_remains.specs.TreeFiles.{nodes_of}
use Rattle.hfs_remains.specs.LeafRecords.{records_at}
use Rattle.hfs_remains.specs.declared.leaf_records.LeafRecord.{LeafRecord}
use Rattle.hfs_remains.proofs.RangeLemmas.{flat-more}
use Rattle.hfs_remains.proofs.LeafLemmas.{block-missing}
use Rattle.hfs_remains.proofs.leaf_records.push_block.Goals as goal

pub returns-in_default : goal.returns-in_default
returns-in_default g c =
    let nodes = c.args.nodes.now in
    let none = sym c.block_at.ensures ∙ c.in_default.is in
    sym (append-nil c.args.records.now.items)
    ∙ ap (λ (l : List LeafRecord). c.args.records.now.items ++ l)
    (sym (block-missing (g.B.Blocks.blocks nodes.blocks.now) nodes.mdb.now nodes.file.now c.args.old c.args.place (omega (arith, nodes.size)) none))

pub loop-i-preserved : goal.loop-i-preserved
loop-i-preserved g c =
    let nodes = nodes_of (g.B.Blocks.blocks c.args.nodes.now.blocks.now) c.args.nodes.now.mdb.now c.args.nodes.now.file.now in
    let f = records_at nodes c.args.old in
    let first = c.first_of-first.result in
    let here : first + c.loop-i.i ≡ first + c.from.result = omega (arith, c.from.ensures) in
    c.in_ok-push_node.ensures
    ∙ ap (λ (l : List LeafRecord). l ++ f (first + c.from.result)) c.loop-i.invariant
    ∙ append_assoc c.args.records.now.items (flat_map f (range_with_len first c.loop-i.i)) (f (first + c.from.result))
    ∙ ap (λ (l : List LeafRecord). c.args.records.now.items ++ l) (sym (flat-more f first c.loop-i.i (first + c.from.result) here))
