use Rattle.std.proofs.Common.{◌≡◌, ◌+◌, take}
use Rattle.hfs_btree.specs.Node.{size_of}
use Rattle.hfs_btree.proofs.node.fits.Given as goal

abbrev pub invariant-loop-i : goal.invariant-loop-i
invariant-loop-i l = l.room + size_of (take l.i l.node.records) ≡ 496
