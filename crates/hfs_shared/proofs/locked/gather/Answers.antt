use Rattle.std.specs.Prelude.{◌-◌, length, take, drop}
use Rattle.std.proofs.lemmas.List.{take_rest}
use Rattle.hfs_shared.proofs.Showing.{gathers}
use Rattle.hfs_shared.proofs.PublishedLawsProved.{published_grows}
use Rattle.hfs_shared.proofs.locked.gather.Goals as goal

pub returns-clause-lists : goal.returns-clause-lists
returns-clause-lists c =
    let journal = c.args.journal.now in
    let added = c.args.added in
    gathers published_grows c.args.pair.now c.add_entries.new.self journal (take (length journal - added) (drop added journal)) added c.add_entries.result
    (take_rest journal added) c.add_entries.ensures.added
