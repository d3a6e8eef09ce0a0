use Rattle.std.proofs.Common.{◌≡◌, ◌≤◌, [], cond, length, sym, ap, ◌∙◌}
use Rattle.std.proofs.lemmas.Bool.{le-leb}
use Rattle.hfs_fields.specs.Mdb.{extents_at}
use Rattle.hfs_space.specs.Faults.{are_extents_within}
use Rattle.hfs_space.proofs.Rooms.{within-is}
use Rattle.hfs_space.proofs.fork_checks.is_within.Goals as goal

pub returns-in-Some : goal.returns-in-Some
returns-in-Some c =
    let is : (12 ≤ length c.args.r.now.1) × (c.in-Some.extents ≡ extents_at 0 c.args.r.now.1) = c.in-Some.ensures in
    within-is c.args.blocks c.in-Some.extents c.are_within.result c.are_within.ensures ∙ ap (are_extents_within c.args.blocks) is.1
    ∙ ap (λ t. are_extents_within c.args.blocks (cond t (extents_at 0 c.args.r.now.1) [])) (sym (le-leb 12 (length c.args.r.now.1) is.0))
