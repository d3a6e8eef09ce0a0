-- The extents of the fork in the volume.
use Rattle.std.proofs.Common.{◌∙◌, sym, subst, List, OnOk}
use Rattle.hfs_fields.specs.declared.extent.Extent.{Extent}
use Rattle.hfs_fields.specs.declared.mdb.Mdb.{Mdb}
use Rattle.hfs_space.specs.Extents.{AreExtentsWithin}
use Rattle.hfs_space.specs.Forks.{HasArea}
use Rattle.hfs_copy.specs.Keeping.{GainsExtents}
use Rattle.hfs_runs.proofs.made_forks.push_fork.Goals as goal

pub push_extents-requires-clause-area : goal.push_extents-requires-clause-area
push_extents-requires-clause-area c = subst (λ (mdb : Mdb). HasArea mdb 4294967295) (sym c.directory.ensures) c.requires.area

pub push_extents-requires-clause-extents : goal.push_extents-requires-clause-extents
push_extents-requires-clause-extents c =
    subst (λ (parts : Mdb × List Extent). AreExtentsWithin parts.0.allocation_blocks parts.1)
    (λ i. (sym c.directory.ensures i, sym (c.deref.ensures.value ∙ c.in_ok-extents.ensures) i)) c.requires.extents

pub returns : goal.returns
returns c =
    subst (λ (parts : Mdb × List Extent). OnOk c.push_extents.result (GainsExtents parts.0 parts.1 c.args.runs.now.items c.push_extents.new.runs.items))
    (λ i. (c.directory.ensures i, (c.deref.ensures.value ∙ c.in_ok-extents.ensures) i)) c.push_extents.ensures
