-- The nodes of a file that lies in runs of blocks.
use Rattle.std.proofs.Common.{◌≡◌, ℕ, ◌<◌, ◌^◌, List, [], length, get_or, ap, sym, ◌∙◌, arith}
use Rattle.std.specs.List.{flat_map, sum_by}
use Rattle.std.proofs.lemmas.List.{length-map, get_or-map}
use Rattle.std.proofs.lemmas.List.Concat.{length-flat_map}
use Rattle.std.proofs.lemmas.List.FromFn.{length-range_with_len}
use Rattle.hfs_blocks.specs.declared.run.Run.{Run}
use Rattle.hfs_blocks.specs.Blocks.{run_of, nodes_in, total_of, AreRunsWithin}

module _ (blocks : ℕ → List ℕ) where
  pub length-nodes_in : (runs : List Run) → length (nodes_in blocks runs) ≡ total_of runs
  unfolding nodes_in
  length-nodes_in runs =
      let flat = length-flat_map run_of runs in
      let each : sum_by (λ run. length (run_of run)) runs ≡ total_of runs = ap (λ (f : Run → ℕ). sum_by f runs) (λ i run. length-range_with_len run.first run.count i) in
      length-map (flat_map run_of runs) blocks ∙ flat ∙ each

  -- as many nodes as numbers
  pub number-within : (runs : List Run) (n : ℕ) → n < length (nodes_in blocks runs) → n < length (flat_map run_of runs)
  unfolding nodes_in
  number-within runs n lt = omega (arith, lt, length-map (flat_map run_of runs) blocks)

  -- node n is the block of that number
  pub node-is : (runs : List Run) (n b : ℕ) → n < length (nodes_in blocks runs) → b ≡ get_or (flat_map run_of runs) n 0 → blocks b ≡ get_or (nodes_in blocks runs) n []
  unfolding nodes_in
  node-is runs n b lt is = ap blocks is ∙ sym (get_or-map blocks (flat_map run_of runs) n 0 [] (number-within runs n lt))

-- runs among few blocks are among 2^32
pub within-all : (runs : List Run) (total : ℕ) → AreRunsWithin runs total → total < 2 ^ 32 → AreRunsWithin runs 4294967296
within-all runs total h lt = record {
  within = λ i d lt'. let within = h.within i d lt' in omega (arith, within, lt);
  few = h.few;
  counted = h.counted;
}
