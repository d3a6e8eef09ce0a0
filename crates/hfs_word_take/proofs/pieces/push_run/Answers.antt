-- A piece more came.
use Rattle.std.proofs.Common.{rules, ◌≡◌, ◌≤◌, arith, min}
use Rattle.hfs_word_take.proofs.PieceLemmas.{piece_more, run_ended}
use Rattle.hfs_word_take.proofs.pieces.push_run.Goals as goal

pub loop-behind-preserved : goal.loop-behind-preserved
loop-behind-preserved c =
    let run = c.args.run.now in
    let least : c.min-count.result ≡ min c.loop-behind.behind 128 = search rules in
    let few : c.min-count.result ≤ c.loop-behind.behind = omega (arith, least) in
    record {
      few = omega (arith, c.loop-behind.invariant.few);
      bytes = λ image. piece_more image c.loop-behind.pieces.items c.push_blocks.new.pieces.items run.first run.count c.loop-behind.behind c.min-count.result _
          c.loop-behind.invariant.few few (c.in_ok-push_blocks.ensures image) (c.loop-behind.invariant.bytes image);
    }

pub returns : goal.returns
returns c image = run_ended image c.loop-behind.pieces.items _ c.loop-behind.behind _ (c.loop-behind.invariant.bytes image) (omega (arith, c.loop-behind-test.false))
