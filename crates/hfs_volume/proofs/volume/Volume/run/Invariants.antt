use Rattle.std.proofs.Common.{◌≡◌, take}
use Rattle.hfs_volume.specs.Steps.{AreMade, AreServed}
use Rattle.hfs_volume.proofs.volume.Volume.run.Given as goal

abbrev pub invariant-loop-call : goal.invariant-loop-call
invariant-loop-call l = record {
  base : l.self.base ≡ l.fn.self.base;
  made : AreMade l.fn.self.current (take l.call-index l.calls) l.replies.items l.self.current;
  served : AreServed l.fn.self (take l.call-index l.calls) l.replies.items l.self;
}
