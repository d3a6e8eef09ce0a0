use Rattle.std.proofs.Common.{ℕ, ◌-◌, List, [], ◌∷◌, length, ap, sym, ◌∙◌, subst, arith, length-append}
use Rattle.hfs_btree_removal.specs.declared.down.Step.{Step}
use Rattle.hfs_btree.specs.declared.header.Header.{Header}
use Rattle.hfs_btree.specs.Search.{leaf_under}
use Rattle.hfs_btree.specs.Header.{header_in}
use Rattle.hfs_btree_removal.specs.Ways.{Leads}
use Rattle.hfs_btree.proofs.DescentLemmas.{IsOnWay, root-way, way-within, way-for, leaf-step, leaf-end}
use Rattle.hfs_btree_removal.proofs.WaySteps.{leads-more, step-entries, step-some, step-is, step-child, step-for, way-entries, way-there, way-leaf, way-equal}
use Rattle.hfs_btree_removal.proofs.down.steps_to.Goals as goal

pub read-requires : goal.read-requires
read-requires g c =
    let nodes = g.N.Nodes.nodes c.args.nodes.now in
    rw c.requires.header (way-within g.K.Key nodes _ _ (root-way g.K.Key nodes c.requires.sound.structure c.requires.some))

pub loop-below-init : goal.loop-below-init
loop-below-init g c =
    let nodes = g.N.Nodes.nodes c.args.nodes.now in
    let W : Header → Type 0 = λ h. IsOnWay g.K.Key nodes (h.depth - 1) h.root in
    let none = ap (λ (ss : List Step). length ss) c.in_ok-steps.ensures.items in
    let deep = ap (λ (h : Header). h.depth) c.requires.header in
    let P : List Step → Type 0 = λ ss. Leads g.K.Key nodes (header_in nodes).root ss c.args.header.now.root in
    record {
      same = ap (λ (h : Header). leaf_under g.K.Key nodes c.args.key.now (h.depth - 1) h.root) c.requires.header;
      way = subst W (sym c.requires.header) (root-way g.K.Key nodes c.requires.sound.structure c.requires.some);
      bytes = c.read.ensures;
      leads = subst P (sym c.in_ok-steps.ensures.items) (sym (ap (λ (h : Header). h.root) c.requires.header));
      long = (let some = c.requires.some in omega arith);
    }

pub branch_in-branch-requires-clause-whole : goal.branch_in-branch-requires-clause-whole
branch_in-branch-requires-clause-whole g c =
    let nodes = g.N.Nodes.nodes c.args.nodes.now in
    step-entries g.K.Key nodes c.args.key.now c.loop-below.below c.loop-below.n c.loop-below-test.true c.loop-below.invariant.way c.loop-below.bytes c.loop-below.invariant.bytes

pub branch_in-branch-requires-clause-some : goal.branch_in-branch-requires-clause-some
branch_in-branch-requires-clause-some g c =
    let nodes = g.N.Nodes.nodes c.args.nodes.now in
    step-some g.K.Key nodes c.args.key.now c.loop-below.below c.loop-below.n c.loop-below-test.true c.loop-below.invariant.way c.loop-below.bytes c.loop-below.invariant.bytes

pub read-requires-in-loop-below : goal.read-requires-in-loop-below
read-requires-in-loop-below g c =
    let nodes = g.N.Nodes.nodes c.args.nodes.now in
    rw (step-for g.K.Key nodes c.args.key.now c.loop-below.below c.loop-below.n c.loop-below-test.true c.loop-below.invariant.way c.loop-below.bytes c.loop-below.invariant.bytes c.branch_in-branch.result.place c.branch_in-branch.ensures.place c.branch_in-branch.result.child c.branch_in-branch.ensures.child)
    (way-within g.K.Key nodes _ _ (way-for g.K.Key nodes c.args.key.now c.loop-below.below c.loop-below.n c.loop-below-test.true c.loop-below.invariant.way))

pub loop-below-preserved : goal.loop-below-preserved
loop-below-preserved g c =
    let nodes = g.N.Nodes.nodes c.args.nodes.now in
    let child = step-for g.K.Key nodes c.args.key.now c.loop-below.below c.loop-below.n c.loop-below-test.true c.loop-below.invariant.way c.loop-below.bytes c.loop-below.invariant.bytes c.branch_in-branch.result.place c.branch_in-branch.ensures.place c.branch_in-branch.result.child c.branch_in-branch.ensures.child in
    let W : ℕ → Type 0 = λ m. IsOnWay g.K.Key nodes (c.loop-below.below - 1) m in
    let P : List Step → Type 0 = λ ss. Leads g.K.Key nodes (header_in nodes).root ss c.branch_in-branch.result.child in
    let step : Step = record { node = c.loop-below.n; place = c.branch_in-branch.result.place; count = c.branch_in-branch.result.count } in
    record {
      same =
          ap (leaf_under g.K.Key nodes c.args.key.now (c.loop-below.below - 1)) child
          ∙ leaf-step g.K.Key nodes c.args.key.now c.loop-below.below c.loop-below.n c.loop-below-test.true
          ∙ c.loop-below.invariant.same;
      way = subst W (sym child) (way-for g.K.Key nodes c.args.key.now c.loop-below.below c.loop-below.n c.loop-below-test.true c.loop-below.invariant.way);
      bytes = c.read-in-loop-below.ensures;
      leads = subst P (sym c.in_ok-push.ensures.items)
          (leads-more g.K.Key nodes c.loop-below.steps.items (header_in nodes).root c.loop-below.n step c.branch_in-branch.result.child c.loop-below.invariant.leads
          (step-is g.K.Key nodes c.args.key.now c.loop-below.below c.loop-below.n c.loop-below-test.true c.loop-below.invariant.way c.loop-below.bytes c.loop-below.invariant.bytes c.branch_in-branch.result.place c.branch_in-branch.ensures.place c.branch_in-branch.result.count c.branch_in-branch.ensures.count) (step-child g.K.Key nodes c.args.key.now c.loop-below.below c.loop-below.n c.loop-below-test.true c.loop-below.invariant.way c.loop-below.bytes c.loop-below.invariant.bytes c.branch_in-branch.result.place c.branch_in-branch.ensures.place c.branch_in-branch.result.child c.branch_in-branch.ensures.child));
      long =
          (let e = ap (λ (ss : List Step). length ss) c.in_ok-push.ensures.items in
          let f = c.loop-below.invariant.long in
          let some = c.loop-below-test.true in
          omega (arith, length-append c.loop-below.steps.items (step ∷ [])));
    }

pub place_of-place-requires-clause-leaf : goal.place_of-place-requires-clause-leaf
place_of-place-requires-clause-leaf g c =
    let nodes = g.N.Nodes.nodes c.args.nodes.now in
    way-entries g.K.Key nodes g.met.K.Key.total c.args.key.now c.requires.sound c.requires.some c.loop-below.n (sym (leaf-end g.K.Key nodes c.args.key.now c.loop-below.below c.loop-below.n c.loop-below-test.false) ∙ c.loop-below.invariant.same) c.loop-below.bytes c.loop-below.invariant.bytes

pub place_of-place-requires-clause-there : goal.place_of-place-requires-clause-there
place_of-place-requires-clause-there g c =
    let nodes = g.N.Nodes.nodes c.args.nodes.now in
    way-there g.K.Key nodes g.met.K.Key.total c.args.key.now c.requires.sound c.requires.some c.loop-below.n (sym (leaf-end g.K.Key nodes c.args.key.now c.loop-below.below c.loop-below.n c.loop-below-test.false) ∙ c.loop-below.invariant.same) c.loop-below.bytes c.loop-below.invariant.bytes c.requires.there

pub returns : goal.returns
returns g c =
    let nodes = g.N.Nodes.nodes c.args.nodes.now in
    record {
      above = c.loop-below.steps.items;
      last = record { node = c.loop-below.n; place = c.place_of-place.result; count = c.count_in-count.result };
      split = c.in_ok-push-2.ensures.items;
      long = (let e = c.loop-below.invariant.long in let none = c.loop-below-test.false in omega arith);
      leads = c.loop-below.invariant.leads;
      leaf = way-leaf g.K.Key nodes g.met.K.Key.total c.args.key.now c.requires.sound c.requires.some c.loop-below.n (sym (leaf-end g.K.Key nodes c.args.key.now c.loop-below.below c.loop-below.n c.loop-below-test.false) ∙ c.loop-below.invariant.same) c.loop-below.bytes c.loop-below.invariant.bytes c.place_of-place.result c.count_in-count.result c.place_of-place.ensures.within c.count_in-count.ensures;
      equal = way-equal g.K.Key nodes g.met.K.Key.total c.args.key.now c.requires.sound c.requires.some c.loop-below.n (sym (leaf-end g.K.Key nodes c.args.key.now c.loop-below.below c.loop-below.n c.loop-below-test.false) ∙ c.loop-below.invariant.same) c.loop-below.bytes c.loop-below.invariant.bytes c.place_of-place.result _ c.place_of-place.ensures.equal;
    }
