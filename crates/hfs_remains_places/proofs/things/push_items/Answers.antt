use Rattle.std.proofs.Common.{◌+◌, [], ◌∷◌, ◌++◌, List, drop, sym, ap, ◌∙◌, arith}
use Rattle.std.proofs.lemmas.List.{append_assoc, append-nil, drop_more, drop_all}
use Rattle.hfs_remains_places.specs.declared.things.Thing.{Thing}
use Rattle.hfs_remains_places.proofs.things.push_items.Goals as goal

pub loop-i-preserved : goal.loop-i-preserved
loop-i-preserved c =
    let items = c.args.items.now in
    let i = c.loop-i.i in
    let x = c.index-items-i.result in
    record {
      things =
          (λ t. c.in_ok-push_thing.ensures.things t ++ drop (i + 1) items)
          ∙ append_assoc c.loop-i.things.items (x ∷ []) (drop (i + 1) items)
          ∙ (λ t. c.loop-i.things.items ++ c.index-items-i.is t ∷ drop (i + 1) items)
          ∙ ap (λ (l : List Thing). c.loop-i.things.items ++ l) (sym (drop_more items i x c.loop-i-test.true))
          ∙ c.loop-i.invariant.things;
      folders = c.in_ok-push_thing.ensures.folders;
    }
