-- All bytes of the fork that was opened were read.
use Rattle.std.proofs.Common.{◌∙◌}
use Rattle.hfs_viewers.proofs.ForkRows.{source_is, whole_shown}
use Rattle.hfs_viewers.proofs.mounted_forks.whole_row.Goals as goal

pub returns-clause-shows : goal.returns-clause-shows
returns-clause-shows c =
    let v = c.args.volume.now in
    let whole = source_is v.current c.args.key.now c.args.file.now c.args.fork c.in_ok-opened.opened c.in-Fork.source c.bytes.result.now c.requires c.in_ok-opened.ensures c.bytes.ensures.bytes c.in-Fork.is in
    whole_shown v c.args.file.now c.args.fork (record { extents = c.new-2.result; pieces = c.in_ok-pieces.pieces }) (c.new-2.ensures ∙ c.new.ensures.items) c.in-Fork.source c.in_ok-pieces.ensures whole
