-- Name by name.
use Rattle.std.proofs.Common.{Bool, ◌+◌, ◌++◌, List, take, drop, ap, ◌∙◌, arith}
use Rattle.hfs_put_plan.specs.Twins.{twins_behind}
use Rattle.hfs_put_plan.proofs.TwinLemmas.{twins-step, twins-done}
use Rattle.hfs_put_plan.proofs.twins.later_twins.Goals as goal

pub loop-place-preserved : goal.loop-place-preserved
loop-place-preserved c =
    let names = c.args.names.now in
    let place = c.loop-place.place in
    record {
      made =
          ap (λ (l : List Bool). l ++ twins_behind (take (place + 1) names) (drop (place + 1) names)) c.in_ok-push.ensures.items
          ∙ twins-step names c.loop-place.twins.items c.in_ok-twin.twin place c.loop-place-test.true c.in_ok-twin.ensures.twin c.loop-place.invariant.made;
      known = c.in_ok-twin.ensures.known;
    }

pub returns : goal.returns
returns c = twins-done c.args.names.now c.loop-place.twins.items c.loop-place.place (omega arith) c.loop-place.invariant.made
