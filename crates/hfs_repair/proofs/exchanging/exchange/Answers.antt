use Rattle.std.proofs.Common.{◌≡◌, ◌+◌, suc, ◌<◌, ℕ, length, take, drop, ap, ◌∙◌, arith, set}
use Rattle.std.proofs.lemmas.List.{length-set}
use Rattle.hfs_repair.specs.Puts.{put_all, put_back}
use Rattle.hfs_repair.proofs.PutSteps.{ahead, behind}
use Rattle.hfs_repair.proofs.exchanging.exchange.Goals as goal

pub loop-i-preserved : goal.loop-i-preserved
loop-i-preserved c =
    let puts = c.loop-i.puts in
    let i = c.loop-i.i in
    let p = c.exchange_byte.new.put in
    let new = c.exchange_byte.new.image in
    let lt = c.loop-i-test.true in
    let len = c.loop-i.invariant.len in
    let within : i < length puts = omega arith in
    let next : i + 1 ≡ suc i = omega arith in
    record {
      len = length-set puts i p ∙ len;
      written =
          ap (λ (n : ℕ). put_all (drop n (set puts i p)) new) next
          ∙ ahead puts i _ p c.loop-i.image new within c.exchange_byte.ensures.image c.exchange_byte.ensures.back ∙ c.loop-i.invariant.written;
      kept =
          ap (λ (n : ℕ). put_back (take n (set puts i p)) new) next
          ∙ behind puts i _ p c.loop-i.image new within c.exchange_byte.ensures.image c.exchange_byte.ensures.back ∙ c.loop-i.invariant.kept;
    }
