-- What was read are the next bytes of the fork.
use Rattle.std.proofs.Common.{rules, ◌≡◌, ◌-◌, ◌<◌, get_or, length, min, refl, arith}
use Rattle.hfs_bag.proofs.ForkLemmas.{reads_piece}
use Rattle.hfs_bag.proofs.fork_reading.read_fork.Goals as goal

pub returns-clause-read : goal.returns-clause-read
returns-clause-read g c = λ fills image h.
    let fork = c.args.fork.now in
    let next = c.in-Some.next.now in
    let within : fork.next < length fork.pieces.items = search rules in
    let is : next ≡ get_or fork.pieces.items fork.next next = search rules in
    let least : c.min-len.result ≡ min next.len fork.left = search rules in
    let begun : 0 < fork.left = omega arith in
    reads_piece fork.pieces.items fork.next next fork.left (fork.left - c.min-len.result) c.min-len.result c.fill_piece.new.piece.items within is
    c.in_ok-fill_piece.ensures.len next.some least refl begun fills image (c.in_ok-fill_piece.ensures.read image h)
