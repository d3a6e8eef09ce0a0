use Rattle.std.proofs.Common.{◌+◌, ◌∷◌, List, drop, sym, ap, ◌∙◌}
use Rattle.std.proofs.lemmas.List.{drop_more}
use Rattle.hfs_remains_places.specs.Things.{named_behind, with_named}
use Rattle.hfs_remains_places.specs.declared.things.Thing.{Thing}
use Rattle.hfs_remains_places.proofs.things.push_namings.Goals as goal

pub loop-i-preserved : goal.loop-i-preserved
loop-i-preserved c =
    let namings = c.args.namings.now in
    let i = c.loop-i.i in
    let x = c.index-namings-i.result in
    record {
      things =
          (λ t. named_behind (c.in_ok-push_named.ensures.things t) (drop (i + 1) namings))
          ∙ (λ t. named_behind (with_named c.loop-i.things.items (c.index-namings-i.is t)) (drop (i + 1) namings))
          ∙ ap (λ (l : List Thing). named_behind c.loop-i.things.items l) (sym (drop_more namings i x c.loop-i-test.true))
          ∙ c.loop-i.invariant.things;
      folders = c.in_ok-push_named.ensures.folders;
    }
