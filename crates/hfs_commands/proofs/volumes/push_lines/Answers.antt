-- Line by line.
use Rattle.std.specs.Prelude.{string_bytes}
use Rattle.hfs_commands.proofs.VolumeLines.{line_more, lines_end}
use Rattle.hfs_commands.proofs.volumes.push_lines.Goals as goal

pub loop-i-preserved : goal.loop-i-preserved
loop-i-preserved g c =
    record {
      lines = λ file h. line_more c.args.others c.args.ranges.now file c.loop-i.i c.loop-i-test.true _ (string_bytes c.args.text.now) (string_bytes c.loop-i.text)
          (string_bytes c.push_line_of.new.text) (c.in_ok-push_line_of.ensures.line file h) (c.loop-i.invariant.lines file (c.in_ok-push_line_of.ensures.held file h));
      held = λ file h. c.loop-i.invariant.held file (c.in_ok-push_line_of.ensures.held file h);
      later = λ place count fails. c.loop-i.invariant.later place count (c.in_ok-push_line_of.ensures.later place count fails);
    }

pub returns-clause-lines : goal.returns-clause-lines
returns-clause-lines g c = λ file h.
    lines_end c.args.others c.args.ranges.now file c.loop-i.i c.loop-i-test.false (string_bytes c.args.text.now) (string_bytes c.loop-i.text) (c.loop-i.invariant.lines file h)
