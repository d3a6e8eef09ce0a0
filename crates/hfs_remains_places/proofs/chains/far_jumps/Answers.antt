use Rattle.std.proofs.Common.{◌≡◌, ℕ, ◌^◌, List, Option, length, map, subst, ap, ◌∙◌, arith}
use Rattle.std.specs.List.{range_with_len}
use Rattle.std.proofs.lemmas.List.FromFn.{length-map-range_with_len}
use Rattle.hfs_remains_places.specs.Chains.{twice, LeadBy}
use Rattle.hfs_remains_places.proofs.ChainLemmas.{lead-first, lead-more}
use Rattle.hfs_remains_places.proofs.chains.far_jumps.Goals as goal

pub loop-bits-init : goal.loop-bits-init
loop-bits-init c = record {
  lead = lead-first c.args.ups.now c.in_ok-jumps.jumps.items c.in_ok-jumps.ensures.items;
  all = ap (λ (l : List (Option ℕ)). length l) c.in_ok-jumps.ensures.items;
  most = omega arith;
}

pub loop-bits-preserved : goal.loop-bits-preserved
loop-bits-preserved c =
    let made : c.in_ok-jumps-2.jumps.items ≡ map (twice c.loop-bits.jumps.items) (range_with_len 0 (length c.loop-bits.jumps.items)) =
    c.in_ok-jumps-2.ensures ∙ ap (λ (l : List (Option ℕ)). map (twice l) (range_with_len 0 (length l))) c.deref.ensures.value in
    record {
      lead = lead-more c.args.ups.now c.loop-bits.jumps.items c.in_ok-jumps-2.jumps.items c.loop-bits.bits made c.loop-bits.invariant.lead;
      all = ap (λ (l : List (Option ℕ)). length l) made ∙ length-map-range_with_len (twice c.loop-bits.jumps.items) 0 (length c.loop-bits.jumps.items) ∙ c.loop-bits.invariant.all;
      most = omega arith;
    }

pub returns-clause-far : goal.returns-clause-far
returns-clause-far c =
    let full : c.loop-bits.bits ≡ 32 = omega (arith, c.loop-bits.invariant.most) in
    subst (λ (n : ℕ). LeadBy (2 ^ n) c.args.ups.now c.loop-bits.jumps.items) full c.loop-bits.invariant.lead
