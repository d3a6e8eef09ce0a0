-- What is around a path is what stands before its last slash.
use Rattle.hfs_bag.proofs.PlaceLemmas.{around_cut, around_none, around_told}
use Rattle.hfs_bag.proofs.removal.folder_of.Goals as goal

pub returns-in-Some : goal.returns-in-Some
returns-in-Some c = around_told c.args.inner.now c.in-Some.above.now c.from_str.result (around_cut c.args.inner.now c.in-Some.above.now c.in-Some._name.now c.in-Some.ensures.cases) c.from_str.ensures.ok

pub returns-in-None : goal.returns-in-None
returns-in-None c = around_none c.args.inner.now _ c.in-None.ensures.cases c.new.ensures.bytes
