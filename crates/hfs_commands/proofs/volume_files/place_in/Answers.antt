-- What is read through a file that is known to be of raw sectors is read of that file.
use Rattle.hfs_commands.specs.OpenedFiles.{images_of}
use Rattle.hfs_commands.specs.declared.opened_file.OpenedFile.TheVariants.{Plain, Raw}
use Rattle.hfs_commands.proofs.PartLemmas.{data_fails, data_held, data_tells, opened_laid}
use Rattle.hfs_commands.proofs.UnopenedLemmas.{handed_among, no_part_handed}
use Rattle.hfs_commands.proofs.volume_files.place_in.Goals as goal

pub returns-in-Err-clause-told : goal.returns-in-Err-clause-told
returns-in-Err-clause-told g c =
    let file = c.place_asked-place.new.source in
    no_part_handed c.args.path c.args.counted c.args.volume (Plain file) c.in-Err.fault c.with_file.result
    c.with_file.ensures.fault c.with_file.ensures.left
    (opened_laid c.args.file c.in-Plain.bytes file c.in-Plain.is c.requires c.in-Err.ensures.held) c.in-Err.ensures.told

pub returns-in-Ok-place-clause-held : goal.returns-in-Ok-place-clause-held
returns-in-Ok-place-clause-held g c =
    data_held c.args.file c.in-Raw.user c.stored_data.result c.raw_data-data.result.bytes.file c.place_asked-place-in-Raw.new.source.bytes.file c.in-Raw.is
    c.raw_data-data.ensures.file c.stored_data.ensures.file c.in-Ok-place.ensures.held

pub returns-in-Ok-place-clause-later : goal.returns-in-Ok-place-clause-later
returns-in-Ok-place-clause-later g c =
    data_fails c.args.file c.in-Raw.user c.stored_data.result c.raw_data-data.result.bytes.file c.place_asked-place-in-Raw.new.source.bytes.file c.in-Raw.is
    c.raw_data-data.ensures.file c.stored_data.ensures.file c.raw_data-data.result.sectors c.place_asked-place-in-Raw.new.source.sectors c.raw_data-data.ensures.sectors c.stored_data.ensures.sectors c.in-Ok-place.ensures.later

pub returns-in-Err-place-clause-told : goal.returns-in-Err-place-clause-told
returns-in-Err-place-clause-told g c =
    let why = c.in-Err-place.fault in
    no_part_handed c.args.path c.args.counted c.args.volume (Raw c.stored_data.result) why c.with_file-in-Err-place.result
    c.with_file-in-Err-place.ensures.fault c.with_file-in-Err-place.ensures.left c.stored_data.ensures.raw
    (data_tells c.args.file c.in-Raw.user c.stored_data.result c.raw_data-data.result.bytes.file c.place_asked-place-in-Raw.new.source.bytes.file c.in-Raw.is
    c.raw_data-data.ensures.file c.stored_data.ensures.file c.args.path c.args.counted c.args.volume why c.in-Err-place.ensures.told)

pub returns-in-Err-place-clause-left : goal.returns-in-Err-place-clause-left
returns-in-Err-place-clause-left g c =
    handed_among (images_of c.args.file) (Raw c.stored_data.result) c.with_file-in-Err-place.result c.with_file-in-Err-place.ensures.left
    (data_held c.args.file c.in-Raw.user c.stored_data.result c.raw_data-data.result.bytes.file c.place_asked-place-in-Raw.new.source.bytes.file c.in-Raw.is
    c.raw_data-data.ensures.file c.stored_data.ensures.file c.in-Err-place.ensures.held)
