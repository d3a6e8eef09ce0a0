use Rattle.std.proofs.Common.{◌≡◌, ℕ, List, [], ◌∷◌, ◌++◌, Option, sym, ap, subst, ◌∙◌, arith}
use Rattle.std.specs.Option.{option_to_list}
use Rattle.std.proofs.lemmas.Option.{MatchOption-at_none}
use Rattle.hfs_remains_places.specs.Paths.{IsRow}
use Rattle.hfs_remains_places.proofs.RowLemmas.{last-within, last-ready, row-left, keeps-through, keeps-same}
use Rattle.hfs_remains_places.proofs.paths.Frame.place_row.Goals as goal

pub loop-x-init : goal.loop-x-init
loop-x-init c = record { all = c.requires.all; right = c.requires.right; keeps = keeps-same c.args.paths.now; row = c.requires.row }

pub place-requires-clause-within : goal.place-requires-clause-within
place-requires-clause-within c =
    let things = c.args.self.now.things.now in
    let popped : c.loop-x.row.items ≡ c.pop.new.self.items ++ c.in-Some.x ∷ [] = c.pop.ensures.items ∙ ap (λ (o : Option ℕ). c.pop.new.self.items ++ option_to_list o) c.in-Some.is in
    last-within things c.loop-x.paths c.pop.new.self.items c.in-Some.x c.args.i (subst (λ (l : List ℕ). IsRow things c.loop-x.paths l c.args.i) popped c.loop-x.invariant.row)

pub place-requires-clause-ready : goal.place-requires-clause-ready
place-requires-clause-ready c =
    let things = c.args.self.now.things.now in
    let popped : c.loop-x.row.items ≡ c.pop.new.self.items ++ c.in-Some.x ∷ [] = c.pop.ensures.items ∙ ap (λ (o : Option ℕ). c.pop.new.self.items ++ option_to_list o) c.in-Some.is in
    last-ready things c.loop-x.paths c.pop.new.self.items c.in-Some.x c.args.i (subst (λ (l : List ℕ). IsRow things c.loop-x.paths l c.args.i) popped c.loop-x.invariant.row)

pub loop-x-preserved : goal.loop-x-preserved
loop-x-preserved c =
    let things = c.args.self.now.things.now in
    let popped : c.loop-x.row.items ≡ c.pop.new.self.items ++ c.in-Some.x ∷ [] = c.pop.ensures.items ∙ ap (λ (o : Option ℕ). c.pop.new.self.items ++ option_to_list o) c.in-Some.is in
    let row = subst (λ (l : List ℕ). IsRow things c.loop-x.paths l c.args.i) popped c.loop-x.invariant.row in
    record {
      all = c.in_ok-place.ensures.all;
      right = c.in_ok-place.ensures.right;
      keeps = keeps-through c.args.paths.now c.loop-x.paths c.place.new.paths c.loop-x.invariant.keeps c.in_ok-place.ensures.keeps;
      row = row-left things c.loop-x.paths c.pop.new.self.items c.in-Some.x c.args.i row c.place.new.paths c.in_ok-place.ensures.known;
    }

pub returns-clause-known : goal.returns-clause-known
returns-clause-known c =
    let cases = MatchOption-at_none _ _ c.in_default.is c.pop.ensures.cases in
    c.loop-x.invariant.row.begins.0 (omega (arith, cases.0))
