-- The byte that could not be read is there.
use Rattle.std.proofs.Common.{◌≢◌, arith, rules}
use Rattle.hfs_fields.proofs.OutcomeLemmas.{on_err}
use Rattle.hfs_word_collect.proofs.comparing.read_first.Goals as goal

pub returns-in_err-read_at-clause-fails : goal.returns-in_err-read_at-clause-fails
returns-in_err-read_at-clause-fails g c =
    let some : c.len.result ≢ 0 = search rules in
    on_err _ _ ∣ (0, 1, (λ file holds. omega (arith, some, c.len.ensures file (c.in_err-read_at.ensures.held file holds))), c.in_err-read_at.ensures.fails) ∣₁
