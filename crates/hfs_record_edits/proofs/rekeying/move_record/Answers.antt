use Rattle.std.proofs.Common.{◌∙◌, List, ℕ, sym, ap, subst}
use Rattle.std.specs.Ordering.{is_eq}
use Rattle.hfs_fields.proofs.OutcomeLemmas.{on_ok}
use Rattle.hfs_fields.specs.Keys.{cat_cmp}
use Rattle.hfs_btree.specs.Pairs.{lookup}
use Rattle.hfs_btree_edits.specs.Conditions.{IsNoLonger}
use Rattle.hfs_catalog.specs.Tree.{catalog_of}
use Rattle.hfs_record_edits.specs.RecordEdits.{RecordCame, RecordSet}
use Rattle.hfs_record_edits.proofs.ItemSteps.{equal_no_longer, moved_in_place, root_between, absent_between, moved_along}
use Rattle.hfs_record_edits.proofs.rekeying.move_record.Goals as goal

pub set-requires-clause-there : goal.set-requires-clause-there
set-requires-clause-there g c =
    let old = g.N.Nodes.nodes c.args.nodes.now in
    let found = sym c.in_ok-body.ensures in
    subst (λ (b : List ℕ). IsNoLonger b (lookup cat_cmp c.args.to.now (catalog_of old))) (sym c.deref.ensures.value)
    (equal_no_longer c.args.from.now c.args.to.now old c.in-Some.body.items (rw c.in-Some.is at found) (ap is_eq (sym c.compare-order.ensures) ∙ sym c.is_eq.ensures ∙ c.if-is_eq.true))

pub returns-then-is_eq-clause-moved : goal.returns-then-is_eq-clause-moved
returns-then-is_eq-clause-moved g c =
    let old = g.N.Nodes.nodes c.args.nodes.now in
    let new = g.N.Nodes.nodes c.set.new.nodes in
    let found = sym c.in_ok-body.ensures in
    on_ok c.set.result _ _
    (λ h. moved_in_place c.args.from.now c.args.to.now old c.in-Some.body.items (rw c.in-Some.is at found) (ap is_eq (sym c.compare-order.ensures) ∙ sym c.is_eq.ensures ∙ c.if-is_eq.true) new
    (subst (λ (b : List ℕ). RecordSet (c.args.to.now, b) old new) c.deref.ensures.value h))
    c.set.ensures.set

pub put-requires-clause-root : goal.put-requires-clause-root
put-requires-clause-root g c =
    let old = g.N.Nodes.nodes c.args.nodes.now in
    let found = sym c.in_ok-body.ensures in
    root_between c.args.from.now c.args.to.now old c.in-Some.body.items (rw c.in-Some.is at found) (g.N.Nodes.nodes c.take.new.nodes) c.in_ok-take.ensures.went c.requires.low c.requires.root

pub put-requires-clause-absent : goal.put-requires-clause-absent
put-requires-clause-absent g c =
    let old = g.N.Nodes.nodes c.args.nodes.now in
    let found = sym c.in_ok-body.ensures in
    absent_between c.args.from.now c.args.to.now old c.in-Some.body.items (rw c.in-Some.is at found) (g.N.Nodes.nodes c.take.new.nodes) c.in_ok-take.ensures.went (c.requires.absent (ap is_eq (sym c.compare-order.ensures) ∙ sym c.is_eq.ensures ∙ c.if-is_eq.false))

pub returns-clause-moved : goal.returns-clause-moved
returns-clause-moved g c =
    let old = g.N.Nodes.nodes c.args.nodes.now in
    let middle = g.N.Nodes.nodes c.take.new.nodes in
    let new = g.N.Nodes.nodes c.put.new.nodes in
    let found = sym c.in_ok-body.ensures in
    on_ok c.put.result _ _
    (λ h. moved_along c.args.from.now c.args.to.now old c.in-Some.body.items (rw c.in-Some.is at found) middle c.in_ok-take.ensures.went (ap is_eq (sym c.compare-order.ensures) ∙ sym c.is_eq.ensures ∙ c.if-is_eq.false) new
    (subst (λ (b : List ℕ). RecordCame (c.args.to.now, b) middle new) c.deref-2.ensures.value h))
    c.put.ensures.came
