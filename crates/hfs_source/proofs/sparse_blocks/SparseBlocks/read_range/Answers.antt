-- What was read is among as many blocks.
use Rattle.std.proofs.Common.{subst}
use Rattle.hfs_blocks.specs.Layers.{Numbered, KeepsWithin}
use Rattle.hfs_source.specs.Held.{held_blocks}
use Rattle.hfs_source.specs.Seen.{SeesMore}
use Rattle.hfs_source.proofs.sparse_blocks.SparseBlocks.read_range.Goals as goal

pub returns-clause-within : goal.returns-clause-within
returns-clause-within g c = λ total le.
    subst (λ (l : Numbered). KeepsWithin l (held_blocks c.read_in.new.self) total) c.self.view_is (c.read_in.ensures.within total le)

pub returns-clause-sees : goal.returns-clause-sees
returns-clause-sees g c =
    subst (λ (l : Numbered). SeesMore (g.S.BlockSource.Holds c.args.source.now) (g.S.BlockSource.Holds c.read_in.new.source) l (held_blocks c.read_in.new.self))
    c.self.view_is c.read_in.ensures.sees
