-- The row of the name is looked for, and noted.
use Rattle.std.proofs.Common.{◌≡◌, ◌∙◌, ap}
use Rattle.hfs_fields.specs.Order.{folded}
use Rattle.hfs_put_plan.specs.Twins.{name_at}
use Rattle.hfs_put_plan.proofs.TwinLemmas.{knows-row, read-is, twin-at}
use Rattle.hfs_put_plan.proofs.twins.see_next.Goals as goal

pub returns-clause-twin : goal.returns-clause-twin
returns-clause-twin c =
    let names = c.args.names.now in
    let row : c.in_ok-row.row.items ≡ folded (name_at names c.args.place) =
    c.in_ok-row.ensures ∙ ap folded (read-is names c.args.place c.index-names-place.result c.requires.within c.index-names-place.is) in
    c.has-twin.ensures ∙ twin-at c.args.seen.now names c.args.place c.in_ok-row.row row c.requires.known

pub returns-clause-known : goal.returns-clause-known
returns-clause-known c =
    let names = c.args.names.now in
    let row : c.in_ok-row.row.items ≡ folded (name_at names c.args.place) =
    c.in_ok-row.ensures ∙ ap folded (read-is names c.args.place c.index-names-place.result c.requires.within c.index-names-place.is) in
    knows-row c.args.seen.now c.add.new.self names c.args.place c.in_ok-row.row c.requires.within row c.in_ok-add.ensures c.requires.known
