-- Blocks of 512 bytes come before those of 2,048.
use Rattle.std.proofs.Common.{◌∙◌, Bool, cond, Option, Some, None, ap, sym, ℕ}
use Rattle.hfs_source.specs.PartitionMap.{has_map_at, map_block_in}
use Rattle.hfs_source.proofs.partition_map.map_block_in.Goals as goal

chosen : Bool → Bool → Option ℕ
chosen small large = cond small (Some 512) (cond large (Some 2048) None)

pub returns-then-branch-clause-block : goal.returns-then-branch-clause-block
unfolding map_block_in chosen
returns-then-branch-clause-block g c = λ file h.
    ap (λ b. chosen b (has_map_at 2048 c.args.len file)) (sym c.if-branch.true ∙ c.in_ok-has_map_at.ensures.has file h)

pub returns-then-branch-2-clause-block : goal.returns-then-branch-2-clause-block
unfolding map_block_in chosen
returns-then-branch-2-clause-block g c = λ file h.
    λ i. chosen ((sym c.if-branch.false ∙ c.in_ok-has_map_at.ensures.has file (c.in_ok-has_map_at-2.ensures.held file h)) i)
    ((sym c.if-branch-2.true ∙ c.in_ok-has_map_at-2.ensures.has file h) i)

pub returns-clause-block : goal.returns-clause-block
unfolding map_block_in chosen
returns-clause-block g c = λ file h.
    λ i. chosen ((sym c.if-branch.false ∙ c.in_ok-has_map_at.ensures.has file (c.in_ok-has_map_at-2.ensures.held file h)) i)
    ((sym c.if-branch-2.false ∙ c.in_ok-has_map_at-2.ensures.has file h) i)
