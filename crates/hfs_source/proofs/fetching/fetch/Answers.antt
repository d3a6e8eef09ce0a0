-- The one block is among as many.
use Rattle.std.proofs.Common.{arith}
use Rattle.hfs_source.proofs.fetching.fetch.Goals as goal

pub returns-in_err-fetch_some-clause-within : goal.returns-in_err-fetch_some-clause-within
returns-in_err-fetch_some-clause-within g c = λ total lt. c.in_err-fetch_some.ensures.within total (omega (arith, lt))

pub returns-clause-within : goal.returns-clause-within
returns-clause-within g c = λ total lt. c.in_ok-fetch_some.ensures.within total (omega (arith, lt))
