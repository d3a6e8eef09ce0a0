-- The closure answers the place.
use Rattle.std.proofs.Common.{rules, ℕ}
use Rattle.std.proofs.lemmas.List.Sorted.{IsNonDecreasingBy-from_sort, answers_always}
use Rattle.hfs_put_sources.specs.declared.fork_run.ForkRun.{ForkRun}
use Rattle.hfs_put.proofs.fork_places.sort_runs.Goals as goal

pub returns : goal.returns
returns c =
    let by : ForkRun → ℕ = λ run. run.place in
    record {
      same = c.sort_unstable_by_key.ensures.permutation;
      order = IsNonDecreasingBy-from_sort by _ (c.sort_unstable_by_key.ensures.sorted by (answers_always _ _ _ (λ f a r g h. search rules)));
    }
