-- The fork's last extents stand in its last record, or in its own.
use Rattle.std.proofs.Common.{ℕ, ◌-◌, List, take, sym, subst, arith}
use Rattle.hfs_fields.specs.declared.extent.Extent.{Extent}
use Rattle.hfs_space.specs.Extents.{fork_byte, block_total}
use Rattle.hfs_record_edits.specs.Whole.{HasRecordSet, IsRecordAt}
use Rattle.hfs_record_edits.proofs.LastRecord.{none-changes, last-is_there, last-changes}
use Rattle.hfs_record_edits.proofs.TreeEdits.{edits-none}
use Rattle.hfs_record_edits.proofs.settling.settle_last.Goals as goal

pub returns-then-places-eq3-clause-edits : goal.returns-then-places-eq3-clause-edits
returns-then-places-eq3-clause-edits g c = edits-none c.args.file (fork_byte c.args.fork) (g.S.Nodes.nodes c.args.nodes.now) c.requires.tree

pub returns-then-places-eq3-clause-has : goal.returns-then-places-eq3-clause-has
returns-then-places-eq3-clause-has g c =
    none-changes c.args.file (fork_byte c.args.fork) c.args.first.now c.args.extents.now c.args.places (g.S.Nodes.nodes c.args.nodes.now) c.told-first c.requires.last c.if-places-eq3.true

pub set_record-requires-clause-there : goal.set_record-requires-clause-there
set_record-requires-clause-there g c =
    let old = g.S.Nodes.nodes c.args.nodes.now in
    let k = fork_byte c.args.fork in
    subst (λ (b : ℕ). IsRecordAt c.args.file k b old) (sym c.blocks_at-block.ensures)
    (last-is_there c.args.file k c.args.first.now c.args.extents.now c.args.places old c.told-first c.requires.last (omega (arith, c.if-places-eq3.false, c.requires.some)))

pub returns-clause-has : goal.returns-clause-has
returns-clause-has g c =
    let old = g.S.Nodes.nodes c.args.nodes.now in
    let new = g.S.Nodes.nodes c.set_record.new.nodes in
    let k = fork_byte c.args.fork in
    let es = c.args.extents.now in
    let set = subst (λ (b : ℕ). HasRecordSet c.args.file k b c.three_at-three.result old new) c.blocks_at-block.ensures c.in_ok-set_record.ensures.set in
    last-changes c.args.file k c.args.first.now es c.args.places old c.told-first c.requires.last (omega (arith, c.if-places-eq3.false, c.requires.some)) new
    (subst (λ (l : List Extent). HasRecordSet c.args.file k (block_total (take (c.args.places - 3) es)) l old new) c.three_at-three.ensures set)
