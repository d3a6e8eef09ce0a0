use Rattle.hfs_viewers.proofs.Opened.{file_shown}
use Rattle.hfs_viewers.proofs.opening.file_row.Goals as goal

pub returns-clause-shows : goal.returns-clause-shows
returns-clause-shows c =
    file_shown c.args.volume.now c.args.file.now c.args.key.now c.args.has_thread c.finder_bytes.result c.file_kept.result c.is_locked.result
    c.in_ok-data.data c.in_ok-resource.resource c.finder_bytes.ensures c.file_kept.ensures c.is_locked.ensures c.in_ok-data.ensures.shows c.in_ok-resource.ensures.shows

pub returns-clause-kind : goal.returns-clause-kind
returns-clause-kind c = λ items id. (c.in_ok-data.ensures.lies, c.in_ok-resource.ensures.lies)
