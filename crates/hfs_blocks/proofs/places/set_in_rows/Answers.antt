-- The row that was found is put back with its new places.
use Rattle.hfs_blocks.specs.Layers.{changes}
use Rattle.hfs_blocks.proofs.PlaceLemmas.{changed-here, changed-others, changed-kept, set-in_rows}
use Rattle.hfs_blocks.proofs.places.set_in_rows.Goals as goal

pub returns-clause-set : goal.returns-clause-set
returns-clause-set c =
    set-in_rows c.args.places.now.entries c.set_row.new.places.entries c.args.k c.args.from c.args.count c.args.place _ _ c.in-Some.ensures.value
    (changed-here (changes c.args.places.now.entries) (changes c.set_row.new.places.entries) c.args.k _ c.set_row.ensures) c.set_in_row.ensures

pub returns-clause-others : goal.returns-clause-others
returns-clause-others c = changed-others (changes c.args.places.now.entries) (changes c.set_row.new.places.entries) c.args.k _ c.set_row.ensures

pub returns-clause-kept : goal.returns-clause-kept
returns-clause-kept c = changed-kept (changes c.args.places.now.entries) (changes c.set_row.new.places.entries) c.args.k _ c.set_row.ensures
