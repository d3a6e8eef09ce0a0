use Rattle.std.proofs.Common.{ℕ, List, Option, length, sym, ap, ◌∙◌}
use Rattle.hfs_remains_forks.proofs.SumLemmas.{same-length}
use Rattle.hfs_remains_forks.proofs.chains.Chains.of.Goals as goal

pub far_sums-requires-clause-all : goal.far_sums-requires-clause-all
far_sums-requires-clause-all c =
    ap (λ (l : List ℕ). length l) c.in_ok-owns.ensures.owns ∙ same-length c.args.records.now ∙ sym (ap (λ (l : List (Option ℕ)). length l) c.in_ok-nexts.ensures)
