-- The numbers of an item are of 32 bits.
use Rattle.std.proofs.Common.{rules, ◌^◌, ◌<◌}
use Rattle.hfs_put_sources.proofs.RowsRead.{row-read-back}
use Rattle.hfs_put_sources.proofs.tag_laws.item_row_read_back.Goals as goal

pub returns : goal.returns
returns c = λ names bytes finder.
    let id : c.args.info.id < 2 ^ 64 = search rules in
    let parent : c.args.info.parent < 2 ^ 64 = search rules in
    let valence : c.args.info.valence < 2 ^ 64 = search rules in
    let data_bytes : c.args.info.data_len < 2 ^ 64 = search rules in
    let resource_bytes : c.args.info.res_len < 2 ^ 64 = search rules in
    let created : c.args.info.created < 2 ^ 32 = search rules in
    let modified : c.args.info.modified < 2 ^ 32 = search rules in
    let backup : c.args.info.backup < 2 ^ 32 = search rules in
    row-read-back names c.args.info bytes finder (record { id = id; parent = parent; valence = valence; data_bytes = data_bytes; resource_bytes = resource_bytes })
    created modified backup
