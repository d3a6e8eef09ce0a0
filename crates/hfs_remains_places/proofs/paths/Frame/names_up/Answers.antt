use Rattle.std.proofs.Common.{◌≡◌, ℕ, suc, ◌-◌, List, [], ◌∷◌, ◌++◌, ap, ◌∙◌, arith}
use Rattle.hfs_remains_places.specs.declared.things.Thing.{Thing}
use Rattle.hfs_remains_places.proofs.NameLemmas.{names_ended, names_left, names_step}
use Rattle.hfs_remains_places.proofs.paths.Frame.names_up.Goals as goal

pub returns-in_default : goal.returns-in_default
returns-in_default c = names_ended c.args.self.now.things.now c.loop-left.left c.loop-left.at c.loop-left.names.items _ c.loop-left.invariant.so c.in_default.is

pub loop-left-preserved : goal.loop-left-preserved
loop-left-preserved c =
    let names = c.loop-left.names.items in
    let one : c.loop-left.left ≡ suc (c.loop-left.left - 1) = omega (arith, c.loop-left-test.true) in
    record {
      so =
          names_step c.args.self.now.things.now c.loop-left.left (c.loop-left.left - 1) c.loop-left.at c.in-Some.i names c.push.new.self.items _ c.up-at.result c.loop-left.invariant.so one c.in-Some.is
          (c.in_ok-push.ensures.items ∙ ap (λ (t : Thing). names ++ t.name ∷ []) c.thing.ensures) c.up-at.ensures.is;
      within = c.up-at.ensures.within;
    }

pub returns : goal.returns
returns c = names_left c.args.self.now.things.now c.loop-left.left c.loop-left.at c.loop-left.names.items _ c.loop-left.invariant.so c.loop-left-test.false
