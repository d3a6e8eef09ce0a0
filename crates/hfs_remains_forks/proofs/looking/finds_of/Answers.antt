-- An image that is too long has no directory.
use Rattle.std.proofs.Common.{◌<◌, Some, arith, rules}
use Rattle.hfs_remains_forks.proofs.FoundLemmas.{outside-found}
use Rattle.hfs_remains_forks.proofs.looking.finds_of.Goals as goal

pub returns-then-len-gt2147483648-clause-found : goal.returns-then-len-gt2147483648-clause-found
returns-then-len-gt2147483648-clause-found g c =
    let large : 2147483648 < c.args.len = search rules in
    λ image h. outside-found (Some image) c.args.len (λ enough few. omega (arith, few, large))
