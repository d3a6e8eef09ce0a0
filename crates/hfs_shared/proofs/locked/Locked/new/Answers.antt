use Rattle.std.proofs.Common.{arith}
use Rattle.hfs_shared.proofs.Showing.{none_planned}
use Rattle.hfs_shared.proofs.locked.Locked.new.Goals as goal

pub invariant_of-result : goal.invariant_of-result
invariant_of-result g c = record {
  base_is = c.requires.base;
  headline = c.requires.headline;
  planned = none_planned g.K.Session.plan c.args.desk.journal c.requires.empty;
  book_is = c.requires.book;
  all_is = c.requires.all;
  shown_is = c.requires.shown;
  order = (omega arith, omega arith);
}
