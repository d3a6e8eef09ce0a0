use Rattle.std.proofs.Common.{◌≡◌, ℕ, ◌-◌, List, ap, sym, ◌∙◌, subst}
use Rattle.std.specs.Prelude.{true}
use Rattle.hfs_btree.specs.declared.header.Header.{Header}
use Rattle.hfs_fields.specs.Each.{Each}
use Rattle.hfs_btree.specs.Search.{leaf_under, child_for}
use Rattle.hfs_btree.proofs.DecodedLemmas.{records-read}
use Rattle.hfs_btree.proofs.DescentLemmas.{root-way, way-within, way-some, index-entries, leaf-step, leaf-end}
use Rattle.hfs_btree.proofs.RisingWays.{IsOnRisingWay, on-way, rising-root, rising-next, rising-read}
use Rattle.hfs_btree.proofs.search.descend.Goals as goal

pub read-requires : goal.read-requires
read-requires g c =
    let nodes = g.N.Nodes.nodes c.args.nodes.now in
    rw c.requires.header (way-within g.K.Key nodes _ _ (root-way g.K.Key nodes c.requires.sound.structure c.requires.some))

pub loop-below-init : goal.loop-below-init
loop-below-init g c =
    let nodes = g.N.Nodes.nodes c.args.nodes.now in
    let W : Header → Type 0 = λ h. IsOnRisingWay g.K.Key nodes (h.depth - 1) h.root in
    record {
      same = ap (λ (h : Header). leaf_under g.K.Key nodes c.args.key.now (h.depth - 1) h.root) c.requires.header;
      at = subst W (sym c.requires.header) (rising-root g.K.Key nodes c.requires.sound c.requires.some);
      bytes = c.read.ensures;
    }

pub child_by_halves-n-requires-clause-some : goal.child_by_halves-n-requires-clause-some
child_by_halves-n-requires-clause-some g c =
    let nodes = g.N.Nodes.nodes c.args.nodes.now in
    rw (records-read nodes c.loop-below.n c.loop-below.bytes c.loop-below.invariant.bytes) (way-some g.K.Key nodes c.loop-below.below c.loop-below.n (on-way g.K.Key nodes _ _ c.loop-below.invariant.at))

pub child_by_halves-n-requires-clause-index : goal.child_by_halves-n-requires-clause-index
child_by_halves-n-requires-clause-index g c =
    let nodes = g.N.Nodes.nodes c.args.nodes.now in
    let P : List (List ℕ) → Type 0 = λ es. Each (λ e. g.K.Key.is_index e ≡ true) es in
    subst P (sym (records-read nodes c.loop-below.n c.loop-below.bytes c.loop-below.invariant.bytes))
    (index-entries g.K.Key nodes c.loop-below.below c.loop-below.n c.loop-below-test.true (on-way g.K.Key nodes _ _ c.loop-below.invariant.at))

pub child_by_halves-n-requires-clause-rising : goal.child_by_halves-n-requires-clause-rising
child_by_halves-n-requires-clause-rising g c =
    rising-read g.K.Key (g.N.Nodes.nodes c.args.nodes.now) g.met.K.Key.total c.args.key.now c.loop-below.below c.loop-below.n c.loop-below.bytes c.loop-below-test.true c.loop-below.invariant.at c.loop-below.invariant.bytes

pub read-requires-in-loop-below : goal.read-requires-in-loop-below
read-requires-in-loop-below g c =
    let nodes = g.N.Nodes.nodes c.args.nodes.now in
    let i = c.loop-below.invariant in
    way-within g.K.Key nodes _ _ (on-way g.K.Key nodes _ _ (rising-next g.K.Key nodes c.args.key.now _ _ _ _ c.loop-below-test.true i.at i.bytes c.child_by_halves-n.ensures))

pub loop-below-preserved : goal.loop-below-preserved
loop-below-preserved g c =
    let nodes = g.N.Nodes.nodes c.args.nodes.now in
    let i = c.loop-below.invariant in
    let child = c.child_by_halves-n.ensures ∙ ap (child_for g.K.Key c.args.key.now) (records-read nodes c.loop-below.n c.loop-below.bytes i.bytes) in
    record {
      same =
          ap (leaf_under g.K.Key nodes c.args.key.now (c.loop-below.below - 1)) child
          ∙ leaf-step g.K.Key nodes c.args.key.now c.loop-below.below c.loop-below.n c.loop-below-test.true
          ∙ i.same;
      at = rising-next g.K.Key nodes c.args.key.now _ _ _ _ c.loop-below-test.true i.at i.bytes c.child_by_halves-n.ensures;
      bytes = c.read-in-loop-below.ensures;
    }

pub returns-clause-leaf : goal.returns-clause-leaf
returns-clause-leaf g c =
    let nodes = g.N.Nodes.nodes c.args.nodes.now in
    sym (leaf-end g.K.Key nodes c.args.key.now c.loop-below.below c.loop-below.n c.loop-below-test.false) ∙ c.loop-below.invariant.same
