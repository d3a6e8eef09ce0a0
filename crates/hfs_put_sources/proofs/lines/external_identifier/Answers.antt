-- Line by line.
use Rattle.std.proofs.Common.{◌∙◌, sym, length, codes}
use Rattle.std.proofs.lemmas.Bool.{eqb-true}
use Rattle.hfs_put_sources.specs.Lines.{lines}
use Rattle.hfs_put_sources.proofs.LinesRead.{value-here, value-later, value-none}
use Rattle.hfs_put_sources.proofs.lines.external_identifier.Goals as goal

pub returns-in-Some : goal.returns-in-Some
returns-in-Some c =
    c.loop-rest.invariant
    ∙ value-here (codes "External-Identifier: ") c.loop-rest.rest.now c.next_line.result.0.now (lines c.next_line.result.1.now) c.next_line.ensures.lines c.in-Some.found.now
    c.in-Some.ensures

pub loop-rest-preserved : goal.loop-rest-preserved
loop-rest-preserved c =
    c.loop-rest.invariant
    ∙ value-later (codes "External-Identifier: ") c.loop-rest.rest.now c.next_line.result.0.now (lines c.next_line.result.1.now) c.next_line.ensures.lines c.in_default.ensures

pub returns : goal.returns
returns c =
    c.loop-rest.invariant
    ∙ value-none (codes "External-Identifier: ") c.loop-rest.rest.now (eqb-true (length c.loop-rest.rest.now) 0 (sym c.is_empty.ensures ∙ c.loop-rest-test.false))
