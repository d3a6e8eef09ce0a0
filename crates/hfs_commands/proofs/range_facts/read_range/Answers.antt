-- What is read through a file that is known to be of raw sectors is read of that file.
use Rattle.hfs_commands.proofs.PartLemmas.{data_fails, data_held}
use Rattle.hfs_commands.proofs.range_facts.read_range.Goals as goal

pub returns-in_ok-facts-in-Raw-clause-held : goal.returns-in_ok-facts-in-Raw-clause-held
returns-in_ok-facts-in-Raw-clause-held g c =
    data_held c.args.file c.in-Raw.user c.stored_data.result c.raw_data-data.result.bytes.file c.facts_of-in-Raw.new.source.bytes.file c.in-Raw.is
    c.raw_data-data.ensures.file c.stored_data.ensures.file c.in_ok-facts-in-Raw.ensures.held

pub returns-in_ok-facts-in-Raw-clause-later : goal.returns-in_ok-facts-in-Raw-clause-later
returns-in_ok-facts-in-Raw-clause-later g c =
    data_fails c.args.file c.in-Raw.user c.stored_data.result c.raw_data-data.result.bytes.file c.facts_of-in-Raw.new.source.bytes.file c.in-Raw.is
    c.raw_data-data.ensures.file c.stored_data.ensures.file c.raw_data-data.result.sectors c.facts_of-in-Raw.new.source.sectors c.raw_data-data.ensures.sectors
    c.stored_data.ensures.sectors c.in_ok-facts-in-Raw.ensures.later
