-- The runs in order, each of which has a block that is no other's.
use Rattle.std.proofs.Common.{rules, ℕ, ◌+◌, ◌≤◌}
use Rattle.std.proofs.lemmas.List.Sorted.{IsNonDecreasingBy-from_sort, answers_always, All-permutation}
use Rattle.hfs_blocks.specs.declared.run.Run.{Run}
use Rattle.hfs_space.proofs.ZeroLemmas.{sorted-apart, same-blocks}
use Rattle.hfs_space.proofs.zero_runs.sort_runs.Goals as goal

pub returns-clause-apart : goal.returns-clause-apart
returns-clause-apart c =
    let by : Run → ℕ = λ run. run.first in
    sorted-apart c.args.runs.now.items c.sort_unstable_by_key.new.self.items c.sort_unstable_by_key.ensures.permutation
    (IsNonDecreasingBy-from_sort by _ (c.sort_unstable_by_key.ensures.sorted by (answers_always _ _ _ (λ f a r g h. search rules)))) c.requires

pub returns-clause-same : goal.returns-clause-same
returns-clause-same c = same-blocks c.args.runs.now.items c.sort_unstable_by_key.new.self.items c.sort_unstable_by_key.ensures.permutation

pub returns-clause-among : goal.returns-clause-among
returns-clause-among c = λ total h. All-permutation (λ (run : Run). run.first + run.count ≤ total) c.args.runs.now.items c.sort_unstable_by_key.new.self.items c.sort_unstable_by_key.ensures.permutation h
