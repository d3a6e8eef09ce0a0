-- Some blocks after the others.
use Rattle.std.proofs.Common.{◌≡◌, arith}
use Rattle.hfs_fields.proofs.OutcomeLemmas.{on_err}
use Rattle.hfs_format.proofs.Ranges.{written_more, written_front, nothing_written, all_written}
use Rattle.hfs_format.proofs.planned_image.PlannedImage.write.Goals as goal

pub loop-first-init : goal.loop-first-init
loop-first-init g c = record { within = omega arith; written = nothing_written c.args.self.now.volume (g.W.Write.contents c.args.writer.now) }

pub loop-first-preserved : goal.loop-first-preserved
loop-first-preserved g c = record {
  within = omega (arith, c.min-count.ensures, c.loop-first.invariant.within);
  written = written_more c.args.self.now.volume (g.W.Write.contents c.args.writer.now) (g.W.Write.contents c.loop-first.writer)
      (g.W.Write.contents c.write_blocks.new.writer) c.loop-first.first c.min-count.result c.loop-first.invariant.written
      c.in_ok-write_blocks.ensures.ok;
}

pub returns-in_err-write_blocks-clause-err : goal.returns-in_err-write_blocks-clause-err
returns-in_err-write_blocks-clause-err g c =
    on_err _ _ (written_front c.args.self.now.volume (g.W.Write.contents c.args.writer.now) (g.W.Write.contents c.loop-first.writer)
    (g.W.Write.contents c.write_blocks.new.writer) c.loop-first.first c.min-count.result
    (omega (arith, c.min-count.ensures, c.loop-first-test.true)) c.loop-first.invariant.written c.in_err-write_blocks.ensures.err)

pub returns-clause-ok : goal.returns-clause-ok
returns-clause-ok g c =
    let all : c.loop-first.first ≡ c.args.self.now.volume.blocks = omega (arith, c.loop-first.invariant.within, c.loop-first-test.false) in
    all_written c.args.self.now.volume (g.W.Write.contents c.args.writer.now) (g.W.Write.contents c.loop-first.writer) c.loop-first.first all
    c.loop-first.invariant.written
