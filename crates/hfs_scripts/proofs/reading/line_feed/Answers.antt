-- The first byte that is a line feed.
use Rattle.std.proofs.Common.{nat_eq}
use Rattle.hfs_scripts.proofs.LineFeed.{position-first}
use Rattle.hfs_scripts.proofs.reading.line_feed.Goals as goal

pub returns : goal.returns
returns c = position-first (λ byte. nat_eq byte 10) c.args.bytes.now c.memchr.result c.memchr.ensures
