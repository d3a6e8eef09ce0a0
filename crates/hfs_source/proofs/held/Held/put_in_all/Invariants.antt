-- The first blocks were put in, and those behind them stand where they stood.
use Rattle.std.specs.Prelude.{◌≡◌, ◌+◌, ◌≤◌, length}
use Rattle.hfs_source.specs.Held.{AreHeld, PutsInAll, PutsInOnly, SameBehind, held_blocks}
use Rattle.hfs_source.proofs.held.Held.put_in_all.Given as goal

abbrev pub invariant-loop-i : goal.invariant-loop-i
invariant-loop-i l = record {
  held : AreHeld l.self;
  start : l.start ≡ l.initial.self.count;
  count : l.self.count ≤ l.start + l.i;
  len : length l.self.bytes.items ≡ length l.initial.self.bytes.items;
  behind : SameBehind (l.start + l.i) l.initial.self.bytes.items l.self.bytes.items;
  all : PutsInAll l.first l.i l.initial.self.count l.initial.self.bytes.items (held_blocks l.self);
  only : PutsInOnly l.first l.i l.initial.self.count l.initial.self.bytes.items (held_blocks l.initial.self) (held_blocks l.self);
}
