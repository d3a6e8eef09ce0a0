use Rattle.std.proofs.Common.{◌≡◌, drop, take, length}
use Rattle.hfs_repair.specs.Puts.{put_all, put_back}
use Rattle.hfs_repair.proofs.exchanging.exchange.Given as goal

abbrev pub invariant-loop-i : goal.invariant-loop-i
invariant-loop-i l = record {
  len : length l.puts ≡ length l.initial.puts;
  written : put_all (drop l.i l.puts) l.image ≡ put_all l.initial.puts l.initial.image;
  kept : put_back (take l.i l.puts) l.image ≡ l.initial.image;
}
