-- A part more came.
use Rattle.std.proofs.Common.{true, rules, ◌≡◌, arith, min, refl}
use Rattle.hfs_bag.specs.Forks.{pieces_bytes}
use Rattle.hfs_rescue_items.proofs.PieceLemmas.{part_more, parts_whole}
use Rattle.hfs_rescue_items.proofs.ReachLemmas.{run_behind}
use Rattle.hfs_rescue_items.proofs.pieces.push_run.Goals as goal

pub loop-left-preserved : goal.loop-left-preserved
loop-left-preserved c =
    let few : c.min-len.result ≡ min c.loop-left.left 65536 = search rules in
    record {
      bytes = λ image. part_more image _ _ _ c.loop-left.next c.in_ok-behind.behind c.loop-left.left c.min-len.result _ (c.loop-left.invariant.bytes image) (c.in-Ok.ensures image) few refl
          c.in_ok-behind.ensures.goes_on;
      reach = λ reach. run_behind c.loop-left.next c.in_ok-behind.behind c.loop-left.left c.min-len.result _ c.in_ok-behind.ensures.next few refl (c.loop-left.invariant.reach reach);
    }

pub returns-clause-bytes : goal.returns-clause-bytes
returns-clause-bytes c image =
    parts_whole image _ (pieces_bytes true image c.loop-left.pieces.items) c.loop-left.next c.loop-left.left (c.loop-left.invariant.bytes image) (omega (arith, c.loop-left-test.false))
