-- The text is read as the lines.
use Rattle.std.proofs.Common.{◌≤◌, ap, arith, length}
use Rattle.hfs_scripts.specs.Texts.{script_text}
use Rattle.hfs_scripts.proofs.RoundTrip.{script_of-script_text}
use Rattle.hfs_scripts.proofs.writing.script_text.Goals as goal

pub returns-clause-reads : goal.returns-clause-reads
returns-clause-reads c =
    let short : length (script_text c.args.lines.now) ≤ 16777216 = omega (arith, ap length c.in_ok-text.ensures.text, c.in_ok-text.text.ok.0) in
    rw c.in_ok-text.ensures.text (script_of-script_text c.args.now c.args.lines.now c.in_ok-text.ensures.written short)
