use Rattle.std.proofs.Common.{rules, ◌≡◌, ◌≤◌, ◌++◌, ℕ, List, map, length, ap, sym, subst, ◌∙◌, arith}
use Rattle.std.specs.List.Sorted.{IsPermutation}
use Rattle.std.proofs.lemmas.List.{append-nil}
use Rattle.std.proofs.lemmas.List.Sorted.{IsNonDecreasingBy-from_sort, answers_always}
use Rattle.hfs_repair.specs.declared.fixed.Fix.{Fix}
use Rattle.hfs_repair.specs.Fields.{PlacedNumber}
use Rattle.hfs_repair.specs.Fixes.{fix_of, rank}
use Rattle.hfs_repair.proofs.PutSteps.{none-of}
use Rattle.hfs_repair.proofs.fix_list.fixes.Goals as goal

pub returns : goal.returns
returns c =
    let past : length c.args.numbers.now ≤ c.loop-i.i = (let end = c.loop-i-test.false in omega arith) in
    let all : c.loop-i.fixes.items ≡ map fix_of c.args.numbers.now =
    sym (append-nil c.loop-i.fixes.items) ∙ sym (ap (λ (ns : List PlacedNumber). c.loop-i.fixes.items ++ map fix_of ns) (none-of c.args.numbers.now c.loop-i.i past)) ∙ c.loop-i.invariant in
    let by : Fix → ℕ = λ fix. rank fix.place in
    record {
      each = subst (λ (fs : List Fix). IsPermutation fs c.sort_unstable_by_key.new.self.items) all c.sort_unstable_by_key.ensures.permutation;
      order = IsNonDecreasingBy-from_sort by _ (c.sort_unstable_by_key.ensures.sorted by (answers_always _ _ _ (λ f a r g h. search rules)));
    }
