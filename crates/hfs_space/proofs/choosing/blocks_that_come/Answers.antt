-- The row is enough, or the rest comes of the blocks beside it, or these are too few.
use Rattle.std.proofs.Common.{ℕ, ◌+◌, ◌-◌, ◌++◌, Result, Vec, Global, sym, ap, ◌∙◌, subst, arith}
use Rattle.hfs_fields.specs.declared.extent.Extent.{Extent}
use Rattle.hfs_space.specs.Bitmap.{is_used}
use Rattle.hfs_space.specs.Choice.{GivesBeside}
use Rattle.hfs_space.proofs.Chosen.{row-few, chosen-row, free-chosen-row, chosen-beside, free-chosen-beside, room-beside}
use Rattle.hfs_space.proofs.choosing.blocks_that_come.Goals as goal

pub returns-then-in_row-wanted-clause-choice : goal.returns-then-in_row-wanted-clause-choice
returns-then-in_row-wanted-clause-choice g c =
    chosen-row (is_used (g.B.Blocks.blocks c.args.bitmap.now.blocks.now) c.args.bitmap.now.start) c.args.bitmap.now.count c.args.after c.args.wanted c.row_after-row.result c.row_after-row.ensures
    c.in_ok-pieces.pieces.items c.in_ok-pieces.ensures (sym c.from-in_row.ensures ∙ c.if-in_row-wanted.true)

pub returns-then-in_row-wanted-clause-blocks : goal.returns-then-in_row-wanted-clause-blocks
returns-then-in_row-wanted-clause-blocks g c =
    free-chosen-row (is_used (g.B.Blocks.blocks c.args.bitmap.now.blocks.now) c.args.bitmap.now.start) c.args.bitmap.now.count c.args.after c.args.wanted c.row_after-row.result c.row_after-row.ensures
    c.in_ok-pieces.pieces.items c.in_ok-pieces.ensures (sym c.from-in_row.ensures ∙ c.if-in_row-wanted.true)

pub returns-in_ok-extend_from_slice-in-Ok-clause-choice : goal.returns-in_ok-extend_from_slice-in-Ok-clause-choice
returns-in_ok-extend_from_slice-in-Ok-clause-choice g c =
    let used = is_used (g.B.Blocks.blocks c.args.bitmap.now.blocks.now) c.args.bitmap.now.start in
    let n = c.args.bitmap.now.count in
    let row = c.row_after-row.result in
    let few = row-few used n c.args.after c.args.wanted row c.row_after-row.ensures in
    let other = c.if-in_row-wanted.false in
    chosen-beside used n c.args.after c.args.wanted row c.row_after-row.ensures (c.args.wanted - c.from-in_row.result) (ap (λ k. c.args.wanted - k) c.from-in_row.ensures) c.in-Ok.rest.items
    c.extend_from_slice.new.self.items (c.in_ok-extend_from_slice-in-Ok.ensures.items ∙ (λ t. c.in_ok-pieces.ensures t ++ c.deref.ensures.value t)) (omega (arith, few, c.from-in_row.ensures, other))
    (subst (λ (r : Result (Vec Extent Global) ℕ). GivesBeside used n row (c.args.wanted - c.from-in_row.result) r) c.in-Ok.is c.in_ok-rest.ensures)

pub returns-in_ok-extend_from_slice-in-Ok-clause-blocks : goal.returns-in_ok-extend_from_slice-in-Ok-clause-blocks
returns-in_ok-extend_from_slice-in-Ok-clause-blocks g c =
    let used = is_used (g.B.Blocks.blocks c.args.bitmap.now.blocks.now) c.args.bitmap.now.start in
    let n = c.args.bitmap.now.count in
    let row = c.row_after-row.result in
    free-chosen-beside used n c.args.after c.args.wanted row c.row_after-row.ensures (c.args.wanted - c.from-in_row.result) (ap (λ k. c.args.wanted - k) c.from-in_row.ensures) c.in-Ok.rest.items
    c.extend_from_slice.new.self.items (c.in_ok-extend_from_slice-in-Ok.ensures.items ∙ (λ t. c.in_ok-pieces.ensures t ++ c.deref.ensures.value t))
    (subst (λ (r : Result (Vec Extent Global) ℕ). GivesBeside used n row (c.args.wanted - c.from-in_row.result) r) c.in-Ok.is c.in_ok-rest.ensures)

pub returns-in-Err-clause-choice : goal.returns-in-Err-clause-choice
returns-in-Err-clause-choice g c =
    let used = is_used (g.B.Blocks.blocks c.args.bitmap.now.blocks.now) c.args.bitmap.now.start in
    let n = c.args.bitmap.now.count in
    let row = c.row_after-row.result in
    room-beside used n c.args.after c.args.wanted row c.row_after-row.ensures (c.args.wanted - c.from-in_row.result) (ap (λ k. c.args.wanted - k) c.from-in_row.ensures) c.in-Err.free
    (c.from-in_row.result + c.in-Err.free) (subst (λ (r : Result (Vec Extent Global) ℕ). GivesBeside used n row (c.args.wanted - c.from-in_row.result) r) c.in-Err.is c.in_ok-rest.ensures)
    (ap (λ k. k + c.in-Err.free) c.from-in_row.ensures)
