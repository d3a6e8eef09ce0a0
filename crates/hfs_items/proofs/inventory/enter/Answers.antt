use Rattle.std.proofs.Common.{rules, ◌≡◌, ◌∙◌, ◌-◌, ◌++◌, ◌∷◌, [], length, take, sym, ap, subst}
use Rattle.hfs_model.specs.declared.reply.Info.{Info}
use Rattle.hfs_fields.specs.Records.{item_id}
use Rattle.hfs_catalog.specs.Records.{Record}
use Rattle.hfs_items.specs.Levels.{HasEntered}
use Rattle.hfs_items.proofs.LevelLemmas.{entered, told_id}
use Rattle.hfs_items.proofs.inventory.enter.Goals as goal

pub returns-clause-row : goal.returns-clause-row
returns-clause-row c =
    let r : Record = c.index-records-place.result in
    let pushed : c.push.new.self.items ≡ take (length c.args.levels.now.items - 1) c.args.path.now.items ++ r.0.name ∷ [] = search rules in
    subst (λ (info : Info). HasEntered c.args.records.now c.args.path.now.items c.push.new.self.items c.args.levels.now.items c.push-2.new.self.items c.args.place info) (sym c.record_told.ensures)
    (entered c.args.records.now c.args.path.now.items c.push.new.self.items c.args.levels.now.items c.push-2.new.self.items c.args.place c.place_of-first.result c.in-Some.id c.is_threaded.result r
    c.requires.rises c.requires.some c.requires.named c.requires.within (sym c.index-records-place.is) (ap item_id (sym c.body.ensures) ∙ told_id c.body.result.now c.in-Some.id c.in-Some.ensures)
    c.place_of-first.ensures.all c.is_threaded.ensures pushed c.in_ok-push-2.ensures.items)
