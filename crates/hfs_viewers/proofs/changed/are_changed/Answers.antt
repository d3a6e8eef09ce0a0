-- No extent has one of the changed blocks.
use Rattle.std.proofs.Common.{List, subst, arith}
use Rattle.std.proofs.lemmas.List.{take_all}
use Rattle.hfs_fields.specs.declared.extent.Extent.{Extent}
use Rattle.hfs_fields.specs.Each.{Each}
use Rattle.hfs_viewers.specs.Changed.{HasNone}
use Rattle.hfs_viewers.proofs.ChangedLemmas.{unchanged}
use Rattle.hfs_viewers.proofs.changed.are_changed.Goals as goal

pub returns : goal.returns
returns c = λ none.
    let changes = c.changes-changes.result.now in
    let mdb = c.directory-mdb.result in
    let es = c.args.extents.now in
    unchanged c.args.volume.now changes mdb es c.changes-changes.ensures.changed c.directory-mdb.ensures
    (subst (λ (l : List Extent). Each (HasNone changes mdb) l) (take_all c.loop-i.i es (omega arith)) c.loop-i.invariant)
