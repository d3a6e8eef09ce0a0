-- Line by line.
use Rattle.std.proofs.Common.{◌∙◌, sym, length}
use Rattle.std.proofs.lemmas.Bool.{eqb-true}
use Rattle.hfs_put_sources.specs.Lines.{lines}
use Rattle.hfs_put_sources.specs.Digests.{digest_by_line}
use Rattle.hfs_put_sources.proofs.LaterLemmas.{on-done, on-step}
use Rattle.hfs_put_sources.proofs.LineLemmas.{lines-none}
use Rattle.hfs_put_sources.proofs.manifest_digests.note_lines.Goals as goal

pub loop-rest-preserved : goal.loop-rest-preserved
loop-rest-preserved c =
    on-step (digest_by_line c.args.front.now) (lines c.loop-rest.rest.now) (lines c.next_line.result.1.now) (lines c.args.text.now) c.next_line.result.0.now
    c.args.digests.now c.loop-rest.digests c.note_line.new.digests c.next_line.ensures.lines c.in_ok-note_line.ensures c.loop-rest.invariant

pub returns : goal.returns
returns c =
    let none = lines-none c.loop-rest.rest.now (eqb-true (length c.loop-rest.rest.now) 0 (sym c.is_empty.ensures ∙ c.loop-rest-test.false)) in
    on-done (digest_by_line c.args.front.now) (lines c.loop-rest.rest.now) (lines c.args.text.now) c.args.digests.now c.loop-rest.digests none c.loop-rest.invariant
