-- All of the fork: as many bytes as its length says.
use Rattle.std.proofs.Common.{◌∙◌, arith}
use Rattle.std.proofs.lemmas.List.{take_all}
use Rattle.hfs_viewers.specs.Tables.{bytes_in}
use Rattle.hfs_viewers.proofs.LookedUp.{size_is}
use Rattle.hfs_plain.proofs.items.content_of.Goals as goal

pub returns : goal.returns
returns c =
    let all = bytes_in c.args.table.now c.args.fork.now in
    let long = size_is c.args.table.now c.requires.table c.args.fork.now c.requires.fork in
    c.new.ensures ∙ c.in_ok-bytes.ensures ∙ take_all c.len-len.result all (omega (arith, long, c.len-len.ensures))
