-- The first bytes were put in.
use Rattle.std.proofs.Common.{◌≡◌, take, []}
use Rattle.hfs_blocks.specs.Layers.{changes, AreWithin}
use Rattle.hfs_image.specs.Gathered.{HasRead}
use Rattle.hfs_source.specs.Seen.{SeesMore}
use Rattle.hfs_copy.specs.Mended.{PutsBytes}
use Rattle.hfs_copy.proofs.laying.lay_puts.Given as goal

abbrev pub invariant-loop-put : goal.invariant-loop-put
invariant-loop-put g l = record {
  puts : PutsBytes l.read l.count (take l.put-index l.puts) [] l.patch;
  within : AreWithin (changes l.patch) l.count;
  reads : HasRead (g.S.BlockSource.image l.initial.source) l.count l.initial.read l.read;
  sees : SeesMore (g.S.BlockSource.Holds l.initial.source) (g.S.BlockSource.Holds l.source) l.initial.read l.read;
  image : g.S.BlockSource.image l.source ≡ g.S.BlockSource.image l.initial.source;
}
