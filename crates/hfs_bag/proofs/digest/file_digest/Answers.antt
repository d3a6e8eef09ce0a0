-- A read that failed at its place; all bytes at the end.
use Rattle.std.proofs.Common.{◌≡◌, ◌-◌, min, arith, rules}
use Rattle.hfs_fields.proofs.OutcomeLemmas.{on_err}
use Rattle.hfs_bag.proofs.Digests.{digest_whole}
use Rattle.hfs_bag.proofs.digest.file_digest.Goals as goal

pub returns-in_err-add_bytes-clause-fails : goal.returns-in_err-add_bytes-clause-fails
returns-in_err-add_bytes-clause-fails g c =
    let done = c.loop-done.done in
    let count = c.min-count.result in
    let size : count ≡ min (c.len-len.result - done) 16384 = search rules in
    on_err _ _ ∣ (
      done,
      count,
      (λ file holds. omega (arith, size, c.loop-done-test.true, c.len-len.ensures file (c.loop-done.invariant.held file (c.in_err-add_bytes.ensures.held file holds)))),
      c.loop-done.invariant.later done count c.in_err-add_bytes.ensures.fails,
    ) ∣₁

pub returns-clause-digest : goal.returns-clause-digest
returns-clause-digest g c = λ file holds.
    digest_whole c.loop-done.done c.len-len.result c.loop-done.digest file c.finish.result c.finish.ensures (c.loop-done.invariant.first file holds) (omega (arith, c.loop-done-test.false))
    (c.len-len.ensures file (c.loop-done.invariant.held file holds))
