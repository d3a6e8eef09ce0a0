use Rattle.std.proofs.Common.{◌≤◌, ℕ, List, set, subst, sym}
use Rattle.std.specs.Prelude.{OnOk}
use Rattle.hfs_btree.specs.declared.node.Descriptor.{Descriptor}
use Rattle.hfs_btree.specs.Node.{descriptor_of, node_from, size_of}
use Rattle.hfs_btree_edits.specs.Stored.{HasStored}
use Rattle.hfs_btree_edits.proofs.stored.store_replaced.Goals as goal

pub store_row-requires-clause-fits : goal.store_row-requires-clause-fits
store_row-requires-clause-fits g c =
    let P : List ℕ → Type 0 = λ bs. size_of (set c.args.node.now.records c.args.place bs) ≤ 496 in
    subst P (sym c.as_slice-bytes.ensures.value) c.requires.fits

pub returns-clause-stored : goal.returns-clause-stored
returns-clause-stored g c =
    let Is : Descriptor → List ℕ → Type 0 = λ d bs.
    OnOk c.store_row.result (HasStored c.args.n (node_from d (set c.args.node.now.records c.args.place bs)) (g.S.Nodes.nodes c.args.nodes.now) (g.S.Nodes.nodes c.store_row.new.nodes)) in
    subst (λ (bs : List ℕ). Is (descriptor_of c.args.node.now) bs) c.as_slice-bytes.ensures.value
    (subst (λ (d : Descriptor). Is d c.as_slice-bytes.result.now) c.descriptor-head.ensures c.store_row.ensures.stored)
