use Rattle.std.proofs.Common.{◌*◌, ◌+◌, length, refl}
use Rattle.hfs_texts.specs.Lines.{hex_text}
use Rattle.hfs_runs.proofs.Digits.{digits-more, same-length}
use Rattle.hfs_runs.proofs.written_answers.lay_digits.Goals as goal

pub loop-i-init : goal.loop-i-init
unfolding hex_text
loop-i-init c = record { len = c.requires; laid = refl }

pub loop-i-preserved : goal.loop-i-preserved
loop-i-preserved c = record {
  len = same-length c.loop-i.digits (2 * c.loop-i.i) (2 * c.loop-i.i + 1) c.digit.result c.digit-in-loop-i.result (2 * length c.args.bytes.now) c.loop-i.invariant.len;
  laid = digits-more c.args.bytes.now c.loop-i.digits c.loop-i.i c.digit.result c.digit-in-loop-i.result c.loop-i.invariant.len c.loop-i-test.true c.loop-i.invariant.laid c.digit.ensures c.digit-in-loop-i.ensures;
}
