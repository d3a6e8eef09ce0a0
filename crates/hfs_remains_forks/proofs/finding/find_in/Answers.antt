-- An image with a directory isn't too long.
use Rattle.std.proofs.Common.{◌≤◌, length, sym, arith}
use Rattle.hfs_remains_forks.proofs.ImageLemmas.{few_bytes}
use Rattle.hfs_remains_forks.proofs.finding.find_in.Goals as goal

pub invariant_of-blocks : goal.invariant_of-blocks
invariant_of-blocks c =
    let few : length c.args.image.now ≤ 2147483648 = few_bytes c.args.image.now c.in-Some.directory (sym c.in-Some.ensures.first) in
    record { limit = omega (arith, few) }
