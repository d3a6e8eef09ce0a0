use Rattle.std.proofs.Common.{◌≡◌, ℕ, suc, ◌-◌, ◌<◌, List, [], ◌∷◌, ◌++◌, length, Option, Some, None, String, Global, true, slice_index_or, sym, ap, subst, ◌∙◌, arith}
use Rattle.std.specs.Option.{is_some}
use Rattle.std.proofs.lemmas.List.{get_or_default}
use Rattle.hfs_remains_places.specs.Chains.{place_at, ups_of, steps}
use Rattle.hfs_remains_places.specs.Paths.{IsRow, IsKnown}
use Rattle.hfs_remains_places.proofs.ChainLemmas.{steps-left, steps-left-none, ended-is}
use Rattle.hfs_remains_places.proofs.PathLemmas.{up-is}
use Rattle.hfs_remains_places.proofs.RowLemmas.{LeadsTo, leads-none, leads-on, row-at-known, row-at-top}
use Rattle.hfs_remains_places.proofs.paths.Frame.unknown_above.Goals as goal

pub loop-left-init : goal.loop-left-init
loop-left-init c =
    let things = c.args.self.now.things.now in
    record {
      leads = subst (λ (l : List ℕ). LeadsTo things l c.args.i c.args.i) (sym c.new-row.ensures.items) (leads-none things c.args.i c.requires.within);
      ended = ended-is (ups_of things) c.args.i c.requires.ends;
    }

pub returns-then-is_some : goal.returns-then-is_some
returns-then-is_some c =
    let things = c.args.self.now.things.now in
    let at = c.loop-left.at in
    let leads = c.loop-left.invariant.leads in
    let inside : at < length c.args.paths.now = omega (arith, leads.inside, c.requires.all) in
    let known : IsKnown c.args.paths.now at =
    ap is_some (sym (c.index-paths-at.is ∙ get_or_default c.args.paths.now at c.index-paths-at.result None inside)) ∙ sym c.is_some.ensures ∙ c.if-is_some.true in
    row-at-known things c.loop-left.row.items c.args.i at leads c.args.paths.now known

pub returns-in_default : goal.returns-in_default
returns-in_default c =
    let things = c.args.self.now.things.now in
    let at = c.loop-left.at in
    let none : place_at (ups_of things) at ≡ None = sym c.up.ensures.is ∙ c.in_default.is in
    subst (λ (l : List ℕ). IsRow things c.args.paths.now l c.args.i) (sym c.in_ok-push.ensures.items)
    (row-at-top things c.loop-left.row.items c.args.i at c.loop-left.invariant.leads c.args.paths.now none)

pub loop-left-preserved : goal.loop-left-preserved
loop-left-preserved c =
    let things = c.args.self.now.things.now in
    let at = c.loop-left.at in
    let p = c.in-Some.p in
    let up : place_at (ups_of things) at ≡ Some p = sym c.up.ensures.is ∙ c.in-Some.is in
    let one : c.loop-left.left ≡ suc (c.loop-left.left - 1) = omega arith in
    record {
      leads = subst (λ (l : List ℕ). LeadsTo things l c.args.i p) (sym c.in_ok-push.ensures.items) (leads-on things c.loop-left.row.items c.args.i at c.loop-left.invariant.leads p up (up-is things at p up).below);
      ended = steps-left (ups_of things) (c.loop-left.left - 1) at p up (ap (λ (n : ℕ). steps (ups_of things) n at) (sym one) ∙ c.loop-left.invariant.ended);
    }

pub unreachable-requires : goal.unreachable-requires
unreachable-requires c = steps-left-none (ups_of c.args.self.now.things.now) c.loop-left.left c.loop-left.at c.loop-left-test.false c.loop-left.invariant.ended
