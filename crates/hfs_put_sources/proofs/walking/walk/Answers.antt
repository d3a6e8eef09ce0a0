-- Item by item.
use Rattle.std.proofs.Common.{rules, ◌≡◌, ℕ, [], length, subst}
use Rattle.hfs_put_sources.specs.Walks.{AreInside, with_twins}
use Rattle.hfs_put_sources.proofs.WalkLemmas.{goes-done, goes-first, goes-step}
use Rattle.hfs_put_sources.proofs.walking.walk.Goals as goal

pub loop-init : goal.loop-init
loop-init g c = record {
  goes = goes-first (g.B.ToldItems.told c.args.told.now) c.args.how (g.T.HostTree.Holds c.args.tree.now) c.new-items.result.items c.lay_on.new.todo.items c.new-todo.result.items
      (with_twins c.args.top.items) c.new-items.ensures.items c.new-todo.ensures.items c.in_ok-lay_on.ensures;
  held = λ host h. h;
  later = λ fault f. f;
}

pub returns-in_default-clause-items : goal.returns-in_default-clause-items
returns-in_default-clause-items g c =
    let none : c.loop.todo.items ≡ [] = search rules in
    goes-done (g.B.ToldItems.told c.args.told.now) c.args.how (g.T.HostTree.Holds c.loop.tree) c.loop.items.items c.loop.todo.items (with_twins c.args.top.items) none
    c.loop.invariant.goes

pub loop-preserved : goal.loop-preserved
loop-preserved g c =
    let told = g.B.ToldItems.told c.args.told.now in
    let item = c.in-Some.item in
    let inside = c.in_ok-inside.inside.items in
    let place : c.len.result ≡ length c.loop.items.items = search rules in
    record {
      goes = goes-step told c.args.how (g.T.HostTree.Holds c.loop.tree) (g.T.HostTree.Holds c.items_inside.new.tree) c.loop.items.items c.push.new.self.items c.loop.todo.items
          c.pop.new.self.items c.lay_on-in-loop.new.todo.items inside (with_twins c.args.top.items) item c.in_ok-inside.ensures.held
          (λ host h. subst (λ (n : ℕ). AreInside host told c.args.how n item inside) place (c.in_ok-inside.ensures.inside host h))
          c.in-Some.ensures.items c.in_ok-lay_on-2.ensures c.in_ok-push.ensures.items c.loop.invariant.goes;
      held = λ host h. c.loop.invariant.held host (c.in_ok-inside.ensures.held host h);
      later = λ fault f. c.loop.invariant.later fault (c.in_ok-inside.ensures.later fault f);
    }
