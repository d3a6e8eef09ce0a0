use Rattle.std.proofs.Common.{◌≡◌, ◌<◌, ap, sym, subst, ◌∙◌, ℕ, List, [], length, get_or}
use Rattle.std.specs.List.{flat_map}
use Rattle.hfs_fields.proofs.OutcomeLemmas.{on_ok}
use Rattle.hfs_btree.specs.Tree.{Store}
use Rattle.hfs_blocks.specs.declared.run.Run.{Run}
use Rattle.hfs_blocks.specs.Blocks.{run_of, nodes_in}
use Rattle.hfs_repair.proofs.Openings.{some-node}
use Rattle.hfs_repair.proofs.Pushed.{chained, some-block, record-start, header-numbers}
use Rattle.hfs_repair.proofs.header_numbers.push_header_numbers.Goals as goal

pub read-requires : goal.read-requires
read-requires g c =
    let blocks = g.B.Blocks.blocks c.args.blocks.now in
    let some = some-node g.K.Key c.requires.right.0 _ _ c.requires.right.1 in
    subst (λ (runs : List Run). 0 < length (nodes_in blocks runs)) (sym c.deref.ensures.value) some

pub block_of-requires-clause-within : goal.block_of-requires-clause-within
block_of-requires-clause-within g c =
    let blocks = g.B.Blocks.blocks c.args.blocks.now in
    let some = some-node g.K.Key c.requires.right.0 _ _ c.requires.right.1 in
    some-block blocks c.deref-2.result.now (subst (λ (runs : List Run). 0 < length (nodes_in blocks runs)) (sym c.deref-2.ensures.value) some)

pub returns : goal.returns
returns g c =
    let blocks = g.B.Blocks.blocks c.args.blocks.now in
    let runs = c.args.tree.now.runs.items in
    let numbers : List ℕ = flat_map run_of runs in
    let nodes : Store = nodes_in blocks runs in
    let block : c.block_of.result ≡ get_or numbers 0 0 = c.block_of.ensures.number ∙ ap (λ (rs : List Run). get_or (flat_map run_of rs) 0 0) c.deref-2.ensures.value in
    let bytes : c.read.new.into ≡ get_or nodes 0 [] = c.read.ensures ∙ ap (λ (rs : List Run). get_or (nodes_in blocks rs) 0 []) c.deref.ensures.value in
    let start = record-start numbers nodes 0 0 c.block_of.result c.u16_at.result c.read.new.into block bytes c.u16_at.ensures in
    let both = header-numbers g.K.Key c.requires.right.0 numbers nodes c.args.tree.now.counts c.requires.right.1 c.args.records c.args.free _ start in
    on_ok c.push_long-2.result _ _ (λ second. chained _ _ _ _ _ _ second c.in_ok-push_long.ensures both) c.push_long-2.ensures
