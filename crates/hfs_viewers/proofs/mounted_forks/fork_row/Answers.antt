-- A fork of which no block was changed has the bytes of the base.
use Rattle.std.proofs.Common.{List, ◌∙◌, subst}
use Rattle.hfs_fields.specs.declared.extent.Extent.{Extent}
use Rattle.hfs_viewers.specs.Changed.{AreUnchanged}
use Rattle.hfs_viewers.proofs.ForkRows.{base_lies, base_shown, extents_within}
use Rattle.hfs_viewers.proofs.mounted_forks.fork_row.Goals as goal

pub are_changed-requires-clause-within : goal.are_changed-requires-clause-within
are_changed-requires-clause-within c =
    extents_within c.args.volume.now c.args.file.now c.args.fork c.deref.result.now (c.deref.ensures.value ∙ c.in_ok-extents.ensures) c.requires.forks

pub returns-clause-shows : goal.returns-clause-shows
returns-clause-shows c =
    let v = c.args.volume.now in
    let same : AreUnchanged v c.in_ok-extents.extents.items =
    subst (λ (es : List Extent). AreUnchanged v es) c.deref.ensures.value (c.are_changed.ensures c.if-are_changed.false) in
    base_shown v c.args.file.now c.args.fork c.in_ok-extents.extents.items c.in_ok-extents.ensures c.requires.forks c.base_row.result c.base_row.ensures.extents c.base_row.ensures.pieces
    c.args.changed c.requires.changed same

pub returns-clause-lies : goal.returns-clause-lies
returns-clause-lies c =
    base_lies c.args.volume.now c.args.file.now c.args.fork c.in_ok-extents.extents.items c.in_ok-extents.ensures c.requires.forks c.base_row.result c.base_row.ensures.extents c.base_row.ensures.pieces
