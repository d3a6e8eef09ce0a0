use Rattle.std.proofs.Common.{◌≡◌, ℕ, ◌+◌, ◌^◌, List, Option, length, map, subst, refl, sym, ap, ◌∙◌, arith}
use Rattle.std.specs.List.{range_with_len}
use Rattle.std.proofs.lemmas.List.FromFn.{length-map-range_with_len}
use Rattle.std.proofs.lemmas.Nat.{pow_below}
use Rattle.hfs_remains_places.specs.Chains.{twice}
use Rattle.hfs_remains_places.proofs.ChainLemmas.{lead-first, lead-more}
use Rattle.hfs_remains_forks.specs.Chains.{number_at, summed, SumBy, AreBelow}
use Rattle.hfs_remains_forks.proofs.SumLemmas.{sum-first, sum-more, below-more}
use Rattle.hfs_remains_forks.proofs.chains.far_sums.Goals as goal

pub loop-bits-init : goal.loop-bits-init
loop-bits-init c = record {
  sum = sum-first c.args.owns.items c.args.nexts.items c.args.owns.items refl;
  lead = lead-first c.args.nexts.items c.args.nexts.items refl;
  all = sym c.requires.all;
  fit = c.requires.few;
  most = omega arith;
}

pub all_summed-requires : goal.all_summed-requires
all_summed-requires c i =
    let big = pow_below (c.loop-bits.bits + 18) 62 (omega arith) in
    omega (arith, big, ap (λ (l : List ℕ). number_at l i) c.deref.ensures.value, c.loop-bits.invariant.fit i)

pub loop-bits-preserved : goal.loop-bits-preserved
loop-bits-preserved c =
    let sums = c.loop-bits.sums.items in
    let jumps = c.loop-bits.jumps.items in
    let made : c.in_ok-sums.sums.items ≡ map (summed sums jumps) (range_with_len 0 (length sums)) =
    c.in_ok-sums.ensures ∙ (λ t. map (summed (c.deref.ensures.value t) (c.deref-in-loop-bits.ensures.value t)) (range_with_len 0 (length (c.deref.ensures.value t)))) in
    let turned : c.in_ok-jumps.jumps.items ≡ map (twice jumps) (range_with_len 0 (length jumps)) =
    c.in_ok-jumps.ensures ∙ ap (λ (l : List (Option ℕ)). map (twice l) (range_with_len 0 (length l))) c.deref-in-loop-bits-2.ensures.value in
    let long : length c.in_ok-sums.sums.items ≡ length sums = ap (λ (l : List ℕ). length l) made ∙ length-map-range_with_len (summed sums jumps) 0 (length sums) in
    let wide : length c.in_ok-jumps.jumps.items ≡ length jumps = ap (λ (l : List (Option ℕ)). length l) turned ∙ length-map-range_with_len (twice jumps) 0 (length jumps) in
    record {
      sum = sum-more c.args.owns.items c.args.nexts.items sums jumps c.in_ok-sums.sums.items c.loop-bits.bits made c.loop-bits.invariant.all c.loop-bits.invariant.sum c.loop-bits.invariant.lead;
      lead = lead-more c.args.nexts.items jumps c.in_ok-jumps.jumps.items c.loop-bits.bits turned c.loop-bits.invariant.lead;
      all = wide ∙ c.loop-bits.invariant.all ∙ sym long;
      fit = below-more sums jumps c.in_ok-sums.sums.items c.loop-bits.bits made c.loop-bits.invariant.all c.loop-bits.invariant.fit;
      most = omega arith;
    }

pub returns-clause-sums : goal.returns-clause-sums
returns-clause-sums c =
    let full : c.loop-bits.bits ≡ 16 = omega (arith, c.loop-bits.invariant.most) in
    subst (λ (n : ℕ). SumBy (2 ^ n) c.args.owns.items c.args.nexts.items c.loop-bits.sums.items) full c.loop-bits.invariant.sum

pub returns-clause-fit : goal.returns-clause-fit
returns-clause-fit c =
    let full : c.loop-bits.bits ≡ 16 = omega (arith, c.loop-bits.invariant.most) in
    subst (λ (n : ℕ). AreBelow (2 ^ (n + 18)) c.loop-bits.sums.items) full c.loop-bits.invariant.fit
