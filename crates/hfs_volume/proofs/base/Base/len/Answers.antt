-- A copy has as many bytes as its image.
use Rattle.std.proofs.Common.{sym, ap, ◌∙◌, subst}
use Rattle.hfs_volume.specs.BaseBytes.{base_bytes, AreReadWithin}
use Rattle.hfs_volume.proofs.CopyLemmas.{length-now}
use Rattle.hfs_volume.proofs.base.Base.len.Goals as goal

pub returns-in-Read-clause-len : goal.returns-in-Read-clause-len
returns-in-Read-clause-len c =
    sym (length-now c.in-Read._read.value c.in-Read.len c.args.self.now (subst AreReadWithin c.in-Read.is c.self.invariant.within)
    (sym (ap base_bytes c.in-Read.is) ∙ c.self.view_is))
