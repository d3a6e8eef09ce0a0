-- What was read, and zeros behind it.
use Rattle.std.proofs.Common.{rules, ◌≡◌, ◌∙◌, ◌+◌, ◌-◌, ◌++◌, length, replicate, min, ap, refl, subst, arith}
use Rattle.std.proofs.lemmas.Result.{on_ok_weaker}
use Rattle.hfs_source.specs.Images.{HasAt}
use Rattle.hfs_put.proofs.FilledLemmas.{span-filled, zeros-behind}
use Rattle.hfs_put.proofs.fork.read_span.Goals as goal

pub returns-clause-read : goal.returns-clause-read
returns-clause-read g c =
    let n = length c.args.into.now in
    let count = c.least-count.result in
    let at = c.args.offset + c.args.from in
    let size : count ≡ min n (c.args.span.len - at) = omega (arith, c.least-count.ensures, c.saturating_sub.ensures, c.saturating_sub-2.ensures) in
    let zeros : c.fill.new.self ≡ replicate (n - count) 0 = search rules in
    let long : length c.read_at.new.into ≡ count = search rules in
    let there : c.in-Some.place ≡ c.args.span.start + at = search rules in
    on_ok_weaker c.read_at.result (λ read host held.
    ap (λ l. c.read_at.new.into ++ l) (zeros-behind count n c.args.into.now c.fill.new.self refl (omega (arith, size)) zeros)
    ∙ span-filled n count c.args.span.start c.args.span.len at (host.bytes c.args.path.now) c.read_at.new.into size long
    (subst (λ k. HasAt k c.read_at.new.into (host.bytes c.args.path.now)) there (read host held))) c.read_at.ensures.read
