-- A fork has as many bytes as are told of it.
use Rattle.std.proofs.Common.{◌≡◌, Some, ℕ, [], length, sym, ap, subst}
use Rattle.hfs_rescue_items.specs.Bytes.{GivesBytes}
use Rattle.hfs_rescue_items.specs.Sources.{part_bytes}
use Rattle.hfs_rescue_items.proofs.came.length_of.Goals as goal

pub returns-in-Some : goal.returns-in-Some
returns-in-Some c =
    let given : GivesBytes [] c.args.found.now (part_bytes [] c.args.found.now c.args.kind c.args.planned) (Some c.in-Some.fork) =
    subst (GivesBytes [] c.args.found.now (part_bytes [] c.args.found.now c.args.kind c.args.planned)) c.in-Some.is (c.in_ok-part.ensures.bytes []) in
    given.length_is

pub returns-in-None : goal.returns-in-None
returns-in-None c =
    let none : part_bytes [] c.args.found.now c.args.kind c.args.planned ≡ [] =
    subst (GivesBytes [] c.args.found.now (part_bytes [] c.args.found.now c.args.kind c.args.planned)) c.in-None.is (c.in_ok-part.ensures.bytes []) in
    sym (ap (length {A = ℕ}) none)
