-- one step more
use Rattle.std.proofs.Common.{◌≡◌, ◌∙◌, ◌++◌, [], ◌∷◌, Option, ap}
use Rattle.std.specs.Prelude.{map, reverse}
use Rattle.std.specs.Option.{option_to_list}
use Rattle.hfs_remains_page.specs.declared.steps.Step.{Step}
use Rattle.hfs_remains_page.specs.Trees.{inside, walk_from}
use Rattle.hfs_remains_page.specs.Walks.{step_at}
use Rattle.hfs_remains_page.proofs.TreeLemmas.{walk_more}
use Rattle.hfs_remains_page.proofs.walks.push_walk.Goals as goal

pub loop-left-preserved : goal.loop-left-preserved
loop-left-preserved c =
    let inner = inside c.args.things.now in
    let step = c.in-Some.step in
    let below = c.pop.new.self.items in
    let popped : c.loop-left.stack.items ≡ below ++ step ∷ [] = c.pop.ensures.items ∙ ap (λ (o : Option Step). below ++ option_to_list o) c.in-Some.is in
    let gained = c.in_ok-push_inside.ensures ∙ (λ i. below ++ reverse (map (step_at inner (c.deeper.ensures i)) (inner step.node))) in
    walk_more inner c.loop-left.left step c.loop-left.stack.items below c.push_inside.new.stack.items c.loop-left.order.items c.push-in-loop-left.new.self.items
    (c.args.order.now.items ++ walk_from c.args.things.now c.args.node) c.loop-left-test.true popped c.in_ok-push-2.ensures.items gained c.loop-left.invariant
