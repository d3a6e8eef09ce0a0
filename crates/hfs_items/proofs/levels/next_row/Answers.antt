use Rattle.std.proofs.Common.{rules, ◌≤◌, ◌<◌, length, ◌∙◌, arith}
use Rattle.hfs_items.proofs.LevelLemmas.{level_goes_on, level_ends, level_too_deep, shorter}
use Rattle.hfs_items.proofs.levels.next_row.Goals as goal

pub returns-in-Some-next_item-clause-row : goal.returns-in-Some-next_item-clause-row
returns-in-Some-next_item-clause-row c =
    let deep : length c.pop.new.self.items < length c.args.records.now = search rules in
    level_goes_on c.args.records.now c.args.levels.now.items c.loop-level.levels.items c.pop.new.self.items c.in-Some.level c.in-Some-next_item.place c.loop-level.invariant.0
    c.in-Some.ensures.items deep c.in-Some-next_item.ensures c.push.new.self.items c.in_ok-push.ensures.items

pub loop-level-preserved-in_default-next_item : goal.loop-level-preserved-in_default-next_item
loop-level-preserved-in_default-next_item c = (
  λ path. c.loop-level.invariant.0 path ∙ level_ends c.args.records.now path c.loop-level.levels.items c.pop.new.self.items c.in-Some.level c.in-Some.ensures.items c.in_default-next_item.ensures,
  omega (arith, c.loop-level.invariant.1, shorter c.loop-level.levels.items c.pop.new.self.items c.in-Some.level c.in-Some.ensures.items),
)

pub loop-level-preserved : goal.loop-level-preserved
loop-level-preserved c =
    let deep : length c.args.records.now ≤ length c.pop.new.self.items = search rules in (
      λ path. c.loop-level.invariant.0 path ∙ level_too_deep c.args.records.now path c.loop-level.levels.items c.pop.new.self.items c.in-Some.level c.in-Some.ensures.items deep,
      omega (arith, c.loop-level.invariant.1, shorter c.loop-level.levels.items c.pop.new.self.items c.in-Some.level c.in-Some.ensures.items),
    )
