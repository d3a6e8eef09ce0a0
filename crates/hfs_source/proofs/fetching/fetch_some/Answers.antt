-- Those that are read are among the first of those that are wanted.
use Rattle.std.proofs.Common.{◌≤◌, arith, rules}
use Rattle.hfs_source.proofs.fetching.fetch_some.Goals as goal

pub returns-in_err-read_range-clause-within : goal.returns-in_err-read_range-clause-within
returns-in_err-read_range-clause-within g c = λ total le.
    let few : c.unread-unread.result ≤ c.args.most = search rules in
    c.in_err-read_range.ensures.within total (omega (arith, le, few))

pub returns-clause-within : goal.returns-clause-within
returns-clause-within g c = λ total le.
    let few : c.unread-unread.result ≤ c.args.most = search rules in
    c.in_ok-read_range.ensures.within total (omega (arith, le, few))
