-- A block of a copy was read, or is one of zeros.
use Rattle.std.proofs.Common.{sym, ap, ◌∙◌, subst}
use Rattle.hfs_blocks.specs.Layers.{Numbered}
use Rattle.hfs_source.specs.Sparse.{sparse}
use Rattle.hfs_volume.specs.BaseBytes.{base_bytes, AreReadWithin}
use Rattle.hfs_volume.proofs.CopyLemmas.{block-now}
use Rattle.hfs_volume.proofs.base.Base.copy_block.Goals as goal

pub returns-in-Read : goal.returns-in-Read
returns-in-Read c =
    c.copy_block.ensures ∙ ap (λ (r : Numbered). sparse r c.args.n) c.deref-in-Read.ensures
    ∙ block-now c.in-Read.read.value c.in-Read._len c.args.self.now (subst AreReadWithin c.in-Read.is c.self.invariant.within)
    (sym (ap base_bytes c.in-Read.is) ∙ c.self.view_is) c.args.n c.requires
