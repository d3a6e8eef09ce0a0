-- No more is asked for than there is; each stretch is less to come.
use Rattle.std.proofs.Common.{◌≡◌, ℕ, ◌-◌, ◌++◌, ◌∙◌, List, ap, arith}
use Rattle.std.specs.Prelude.{min}
use Rattle.hfs_space.specs.Forks.{read_from}
use Rattle.hfs_viewers.specs.Pieces.{fork_length}
use Rattle.hfs_viewers.specs.Tables.{bytes_in}
use Rattle.hfs_viewers.proofs.LookedUp.{size_is}
use Rattle.hfs_viewers.proofs.ForkReads.{asked_few, pushed_one}
use Rattle.hfs_viewers.proofs.table.Table.fork_bytes.Goals as goal

pub loop-left-init : goal.loop-left-init
loop-left-init c =
    let all = bytes_in c.args.self.now c.args.fork.now in
    let size = fork_length c.args.fork.now.pieces in
    let left_is : c.min-left.result ≡ min c.args.count (size - c.args.offset) = c.min-left.ensures ∙ ap (min c.args.count) (c.saturating_sub.ensures ∙ ap (λ (n : ℕ). n - c.args.offset) c.len.ensures) in
    record {
      fits = λ some. omega (arith, left_is, some);
      rest =
          ap (λ (l : List ℕ). l ++ read_from all c.args.offset c.min-left.result) c.new-bytes.ensures.items
          ∙ asked_few all size c.args.offset c.args.count c.min-left.result (size_is c.args.self.now c.requires.table c.args.fork.now c.requires.fork) left_is;
    }

pub loop-left-preserved : goal.loop-left-preserved
loop-left-preserved c =
    let all = bytes_in c.args.self.now c.args.fork.now in
    let push = c.in_ok-pushed.ensures in
    let few = push.few in
    let fits = c.loop-left.invariant.fits (omega arith) in
    record {
      fits = λ some. omega (arith, few, fits);
      rest = pushed_one all c.loop-left.place c.loop-left.left c.in_ok-pushed.pushed c.loop-left.bytes.items c.push_stretch.new.bytes.items (read_from all c.args.offset c.args.count) push c.loop-left.invariant.rest;
    }
