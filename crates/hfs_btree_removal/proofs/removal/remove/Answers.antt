use Rattle.std.proofs.Common.{◌≡◌, ◌≤◌, ◌+◌, List, [], length, sym, subst}
use Rattle.hfs_fields.proofs.OutcomeLemmas.{on_ok}
use Rattle.hfs_btree_removal.specs.declared.down.Step.{Step}
use Rattle.hfs_btree_removal.specs.Removal.{KeepsSound, GainsNothing}
use Rattle.hfs_btree.specs.Header.{header_in, depth_of, free_nodes, tree_content}
use Rattle.hfs_fields.specs.Each.{Each}
use Rattle.hfs_btree_removal.specs.Removal.{HasLowered}
use Rattle.hfs_btree.specs.Tree.{Store, records_in}
use Rattle.hfs_btree_removal.specs.Ways.{IsWayTo}
use Rattle.hfs_btree_removal.proofs.RemoveWhole.{on_both, removed-all, one-level, removed-last}
use Rattle.hfs_btree_removal.proofs.removal.remove.Goals as goal

pub returns-in-Some-clause-removed : goal.returns-in-Some-clause-removed
returns-in-Some-clause-removed g c =
    let old : Store = g.S.Nodes.nodes c.args.nodes.now in
    let low : Store = g.S.Nodes.nodes c.lower_root.new.nodes in
    let mid : Store = g.S.Nodes.nodes c.take_out.new.nodes in
    let new : Store = g.S.Nodes.nodes c.lower_root-in-Some.new.nodes in
    let W : List Step → Type 0 = λ ss. IsWayTo g.K.Key low c.args.key.now ss in
    on_ok c.lower_root-in-Some.result _ _
    (λ h. removed-all g.K.Key old low mid new c.args.key.now c.deref-in-Some.result.now c.requires.sound c.in_ok-lower_root.ensures.lowered (subst W (sym c.deref-in-Some.ensures.value) c.in_ok-steps.ensures) c.in_ok-take_out-in-Some.ensures.out h.0 h.1)
    (on_both c.lower_root-in-Some.result (HasLowered g.K.Key mid new) (2 ≤ depth_of new → 2 ≤ length (records_in new (header_in new).root))
    c.lower_root-in-Some.ensures.lowered c.lower_root-in-Some.ensures.root)

pub drop_root-requires-clause-one : goal.drop_root-requires-clause-one
drop_root-requires-clause-one g c =
    let low : Store = g.S.Nodes.nodes c.lower_root.new.nodes in
    let O : List Step → Type 0 = λ ss. Each (λ (s : Step). s.count ≤ 1) ss in
    one-level g.K.Key low c.in_ok-lower_root.ensures.root c.args.key.now c.in_ok-steps.steps.items c.in_ok-steps.ensures (subst O c.deref.ensures.value c.in-None.ensures)

pub returns-clause-removed : goal.returns-clause-removed
returns-clause-removed g c =
    let old : Store = g.S.Nodes.nodes c.args.nodes.now in
    let low : Store = g.S.Nodes.nodes c.lower_root.new.nodes in
    let new : Store = g.S.Nodes.nodes c.drop_root.new.nodes in
    let O : List Step → Type 0 = λ ss. Each (λ (s : Step). s.count ≤ 1) ss in
    let A : Type 0 = KeepsSound g.K.Key low new in
    let B : Type 0 = tree_content g.K.Key new ≡ [] in
    let C : Type 0 = depth_of new ≡ 0 in
    let D : Type 0 = free_nodes new ≡ free_nodes low + 1 in
    let G : Type 0 = GainsNothing g.K.Key low new in
    on_ok c.drop_root.result ((A × B) × ((C × D) × G)) _
    (λ h. removed-last g.K.Key low c.in_ok-lower_root.ensures.root c.args.key.now c.in_ok-steps.steps.items c.in_ok-steps.ensures (subst O c.deref.ensures.value c.in-None.ensures) old new c.requires.sound
    c.in_ok-lower_root.ensures.lowered h.0.0 h.1.1 h.0.1 h.1.0.0 h.1.0.1)
    (on_both c.drop_root.result (A × B) ((C × D) × G) (on_both c.drop_root.result A B c.drop_root.ensures.keeps c.drop_root.ensures.empty)
    (on_both c.drop_root.result (C × D) G (on_both c.drop_root.result C D c.drop_root.ensures.depth c.drop_root.ensures.free) c.drop_root.ensures.gains))
