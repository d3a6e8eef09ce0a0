use Rattle.std.proofs.Common.{◌≡◌, ◌<◌, ap, sym, subst, ◌∙◌, List, [], length, get_or, arith}
use Rattle.std.specs.List.{flat_map}
use Rattle.hfs_blocks.specs.declared.run.Run.{Run}
use Rattle.hfs_blocks.specs.Blocks.{run_of, nodes_in}
use Rattle.hfs_btree_edits.proofs.WrittenLemmas.{node_within as block-of-node}
use Rattle.hfs_repair.proofs.LeafValences.{reading-end, reading-within, reading-entries, reading-some, reading-few, reading-next}
use Rattle.hfs_repair.proofs.valences.push_valences.Goals as goal

pub read-requires : goal.read-requires
read-requires g c =
    let blocks = g.B.Blocks.blocks c.args.blocks.now in
    subst (λ (runs : List Run). c.loop-n.n < length (nodes_in blocks runs)) (sym c.deref.ensures.value)
    (reading-within _ _ _ c.requires.right.1.structure _ _ _ _ c.loop-n.invariant c.loop-n-test.true)

pub block_of-block-requires-clause-within : goal.block_of-block-requires-clause-within
block_of-block-requires-clause-within g c =
    let blocks = g.B.Blocks.blocks c.args.blocks.now in
    block-of-node blocks c.deref-in-loop-n.result.now c.loop-n.n
    (subst (λ (runs : List Run). c.loop-n.n < length (nodes_in blocks runs)) (sym c.deref-in-loop-n.ensures.value)
    (reading-within _ _ _ c.requires.right.1.structure _ _ _ _ c.loop-n.invariant c.loop-n-test.true))

pub push_leaf-requires-clause-leaf : goal.push_leaf-requires-clause-leaf
push_leaf-requires-clause-leaf g c =
    let blocks = g.B.Blocks.blocks c.args.blocks.now in
    let bytes : c.read.new.into ≡ get_or (nodes_in blocks c.args.tree.now.runs.items) c.loop-n.n [] = c.read.ensures ∙ ap (λ (rs : List Run). get_or (nodes_in blocks rs) c.loop-n.n []) c.deref.ensures.value in
    reading-entries _ _ _ c.requires.right.1.structure _ _ _ _ c.loop-n.invariant c.loop-n-test.true c.read.new.into bytes

pub overflow_add-before : goal.overflow_add-before
overflow_add-before g c =
    let blocks = g.B.Blocks.blocks c.args.blocks.now in
    let bytes : c.read.new.into ≡ get_or (nodes_in blocks c.args.tree.now.runs.items) c.loop-n.n [] = c.read.ensures ∙ ap (λ (rs : List Run). get_or (nodes_in blocks rs) c.loop-n.n []) c.deref.ensures.value in
    let few = reading-few _ _ _ c.requires.right.1.structure _ _ _ _ c.loop-n.invariant c.loop-n-test.true c.read.new.into bytes in
    let same = c.requires.right.1.records in
    let small = c.requires.right.1.small in
    let count = c.count_in-before.ensures in
    omega arith

pub loop-n-smaller : goal.loop-n-smaller
loop-n-smaller g c =
    let blocks = g.B.Blocks.blocks c.args.blocks.now in
    let bytes : c.read.new.into ≡ get_or (nodes_in blocks c.args.tree.now.runs.items) c.loop-n.n [] = c.read.ensures ∙ ap (λ (rs : List Run). get_or (nodes_in blocks rs) c.loop-n.n []) c.deref.ensures.value in
    let few = reading-few _ _ _ c.requires.right.1.structure _ _ _ _ c.loop-n.invariant c.loop-n-test.true c.read.new.into bytes in
    let some = reading-some _ _ _ c.requires.right.1.structure _ _ _ _ c.loop-n.invariant c.loop-n-test.true c.read.new.into bytes in
    let count = c.count_in-before.ensures in
    omega arith

pub loop-n-preserved : goal.loop-n-preserved
loop-n-preserved g c =
    let blocks = g.B.Blocks.blocks c.args.blocks.now in
    let bytes : c.read.new.into ≡ get_or (nodes_in blocks c.args.tree.now.runs.items) c.loop-n.n [] = c.read.ensures ∙ ap (λ (rs : List Run). get_or (nodes_in blocks rs) c.loop-n.n []) c.deref.ensures.value in
    let block : c.block_of-block.result ≡ get_or (flat_map run_of c.args.tree.now.runs.items) c.loop-n.n 0 = c.block_of-block.ensures.number ∙ ap (λ (rs : List Run). get_or (flat_map run_of rs) c.loop-n.n 0) c.deref-in-loop-n.ensures.value in
    let next = reading-next _ _ _ c.requires.right.1.structure _ _ _ _ c.loop-n.invariant c.loop-n-test.true c.read.new.into bytes c.block_of-block.result _ block c.in_ok-push_leaf.ensures in
    rw (c.forward_in-n.ensures, c.count_in-before.ensures) next

pub returns : goal.returns
returns g c = reading-end _ _ _ c.requires.right.1.structure _ _ _ _ c.loop-n.invariant c.loop-n-test.false
