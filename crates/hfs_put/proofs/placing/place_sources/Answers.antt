-- Item by item.
use Rattle.std.proofs.Common.{rules, ◌≡◌, ℕ, ◌++◌, [], ◌∷◌, List, vec_len, ap, sym, ◌∙◌, arith}
use Rattle.std.proofs.lemmas.Bool.{eqb-true}
use Rattle.std.proofs.lemmas.List.{nil_from_length}
use Rattle.std.specs.List.{cons_option}
use Rattle.hfs_check.specs.VolumeOf.{volume_of}
use Rattle.hfs_put.specs.Decisions.{decision}
use Rattle.hfs_put.specs.PlacedSources.{decisions, destination, refused_at}
use Rattle.hfs_put.specs.declared.decisions.Decision.{Decision}
use Rattle.hfs_put.specs.declared.decisions.Destination.{Destination}
use Rattle.hfs_put.specs.declared.placing.RefusedItem.{RefusedItem}
use Rattle.hfs_put.proofs.PlacedLists.{placed_all, so_far_next, so_far_put, so_far_told}
use Rattle.hfs_put.proofs.placing.place_sources.Goals as goal

pub loop-source-preserved : goal.loop-source-preserved
loop-source-preserved c =
    let v = volume_of c.args.volume.now.current in
    let target = c.args.target in
    let replace = c.args.replace in
    let sources = c.args.sources.now in
    let insides : List Destination = c.loop-source.insides.items in
    let refused : List RefusedItem = c.loop-source.refused.items in
    let source = c.source-item.result in
    let made : Decision = c.decide-decision.result in
    let place : c.len-place.result ≡ c.loop-source.source-index = search rules in
    let to : c.destination-into.result ≡ destination target insides source.parent =
    c.destination-into.ensures ∙ (λ i. destination target (c.deref.ensures.value i) (c.parent.ensures i)) in
    record {
      count = search rules;
      so_far = so_far_next v target replace sources (decisions v target replace sources) insides c.push.new.self.items c.loop-source.source-index c.loop-source.items.items
          c.note.new.items.items refused c.note.new.refused.items source made c.loop-source-test.true c.source-item.is
          (c.decide-decision.ensures ∙ ap (λ (d : Destination). decision v replace d source) to)
          (c.in_ok-push.ensures.items ∙ ap (λ (d : Destination). insides ++ d ∷ []) c.inside.ensures) c.in_ok-note.ensures.items
          (c.in_ok-note.ensures.refused ∙ ap (λ (n : ℕ). refused ++ cons_option (refused_at n made) []) place) c.loop-source.invariant.so_far;
    }

pub returns-then-is_empty : goal.returns-then-is_empty
returns-then-is_empty c =
    let v = volume_of c.args.volume.now.current in
    let target = c.args.target in
    let replace = c.args.replace in
    let sources = c.args.sources.now in
    let all = decisions v target replace sources in
    let zero_len = eqb-true (vec_len c.loop-source.refused) 0 (sym c.is_empty.ensures ∙ c.if-is_empty.true) in
    let own = c.loop-source.refused.ok.0 in
    let none : c.loop-source.refused.items ≡ [] = nil_from_length c.loop-source.refused.items (omega (arith, zero_len, own)) in
    placed_all v target replace sources c.loop-source.items.items c.loop-source.refused.items
    (so_far_put v target replace sources all c.loop-source.insides.items c.loop-source.source-index c.loop-source.items.items c.loop-source.refused.items c.loop-source-test.false c.loop-source.invariant.so_far)
    (so_far_told v target replace sources all c.loop-source.insides.items c.loop-source.source-index c.loop-source.items.items c.loop-source.refused.items c.loop-source-test.false c.loop-source.invariant.so_far)
    none
