use Rattle.std.proofs.Common.{arith}
use Rattle.hfs_catalog.specs.Indexes.{count_of}
use Rattle.hfs_catalog.proofs.Indexed.{one_more_fits}
use Rattle.hfs_catalog.proofs.valence_check.count_child.Goals as goal

pub overflow_add-result : goal.overflow_add-result
overflow_add-result c =
    let siblings = c.args.siblings in
    let fits = one_more_fits (count_of c.args.counts.now siblings.parent) siblings.parent siblings.count (c.requires siblings.parent) in
    omega (arith, fits)
