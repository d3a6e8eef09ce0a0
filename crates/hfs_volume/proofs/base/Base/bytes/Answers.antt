-- Blocks that were read have zeros behind the last whole one.
use Rattle.std.proofs.Common.{sym, ap, ◌∙◌, subst}
use Rattle.hfs_volume.specs.BaseBytes.{base_bytes, AreReadWithin}
use Rattle.hfs_volume.proofs.CopyLemmas.{ends-now}
use Rattle.hfs_volume.proofs.base.Base.bytes.Goals as goal

pub returns-in-Read-clause-zeros : goal.returns-in-Read-clause-zeros
returns-in-Read-clause-zeros c =
    ends-now c.in-Read._read.value c.in-Read._len c.args.self.now (subst AreReadWithin c.in-Read.is c.self.invariant.within)
    (sym (ap base_bytes c.in-Read.is) ∙ c.self.view_is)
