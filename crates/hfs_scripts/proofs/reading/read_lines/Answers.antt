-- Each turn of the loop reads one line more.
use Rattle.std.proofs.Common.{◌≡◌, ℕ, ◌+◌, ◌∙◌, sym, ap, arith, length, Err}
use Rattle.std.proofs.lemmas.Bool.{eqb-true}
use Rattle.hfs_scripts.proofs.Steps.{kept, stopped, ended}
use Rattle.hfs_scripts.proofs.reading.read_lines.Goals as goal

pub returns-in_default : goal.returns-in_default
returns-in_default c =
    let counted : length c.loop-rest.lines.items ≡ c.len.result = omega (arith, c.loop-rest.lines.ok.0) in
    stopped c.args.now c.args.bytes.now c.loop-rest.rest.now c.first_line.result.0.now c.first_line.result.1.now c.loop-rest.lines.items c.loop-rest.invariant
    c.first_line.ensures.lines (sym c.in_default.is ∙ c.in_ok-line.ensures)
    ∙ ap (λ (number : ℕ). Err (number + 1)) counted

pub loop-rest-preserved : goal.loop-rest-preserved
loop-rest-preserved c =
    rw c.in_ok-push.ensures.items
    (kept c.args.now c.args.bytes.now c.loop-rest.rest.now c.first_line.result.0.now c.first_line.result.1.now c.loop-rest.lines.items c.in-Some.line c.loop-rest.invariant
    c.first_line.ensures.lines (sym c.in-Some.is ∙ c.in_ok-line.ensures))

pub returns : goal.returns
returns c =
    ended c.args.now c.args.bytes.now c.loop-rest.rest.now c.loop-rest.lines.items c.loop-rest.invariant
    (eqb-true (length c.loop-rest.rest.now) 0 (sym c.is_empty.ensures ∙ c.loop-rest-test.false))
