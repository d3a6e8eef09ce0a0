-- One item after the other.
use Rattle.std.proofs.Common.{rules, ◌≡◌, ◌≤◌, ◌<◌, ◌∙◌, sym, true, false, length, arith}
use Rattle.hfs_rescue_items.specs.Paths.{has_path}
use Rattle.hfs_rescue_items.proofs.FirstLemmas.{first_here, first_later, first_none}
use Rattle.hfs_rescue_items.proofs.paths.first_with.Goals as goal

pub returns-then-branch : goal.returns-then-branch
returns-then-branch c =
    let has : has_path c.args.found.now c.args.path.now c.loop-i.i ≡ true = sym c.in_ok-has_path.ensures ∙ c.if-branch.true in
    sym (c.loop-i.invariant ∙ first_here (has_path c.args.found.now c.args.path.now) c.loop-i.i (length c.args.found.now.items.now) c.loop-i-test.true has)

pub loop-i-preserved : goal.loop-i-preserved
loop-i-preserved c =
    let has : has_path c.args.found.now c.args.path.now c.loop-i.i ≡ false = sym c.in_ok-has_path.ensures ∙ c.if-branch.false in
    c.loop-i.invariant ∙ first_later (has_path c.args.found.now c.args.path.now) c.loop-i.i (length c.args.found.now.items.now) c.loop-i-test.true has

pub returns : goal.returns
returns c =
    let past : length c.args.found.now.items.now ≤ c.loop-i.i = omega (arith, c.loop-i-test.false) in
    sym (c.loop-i.invariant ∙ first_none (has_path c.args.found.now c.args.path.now) c.loop-i.i (length c.args.found.now.items.now) past)
