-- It is no folder alone, so that its bytes are those of its item.
use Rattle.std.proofs.Common.{rules, ◌≡◌, Bool, false, if◌then◌else◌, [], sym, subst}
use Rattle.hfs_rescue_items.specs.Bytes.{GivesBytes, taken_bytes}
use Rattle.hfs_rescue_items.specs.Sources.{is_alone}
use Rattle.hfs_rescue_items.proofs.came.part_fork.Goals as goal

pub returns-clause-bytes : goal.returns-clause-bytes
returns-clause-bytes c image =
    let alone : is_alone c.args.planned.kind ≡ false = search rules in
    subst (λ (b : Bool). GivesBytes image c.args.found.now (if b then [] else taken_bytes image c.args.found.now c.args.kind c.args.planned.place) c.in_ok-fork.fork) (sym alone)
    (c.in_ok-fork.ensures.bytes image)
