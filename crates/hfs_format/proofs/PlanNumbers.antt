-- The numbers of a new volume, as they are computed.
use Rattle.std.proofs.Common.{◌≡◌, ap, ℕ, ◌+◌, ◌-◌, ◌/◌, ◌^◌, ◌<◌, ◌≤◌, refl, arith}
use Rattle.std.proofs.Math.Nat.{div-le_self}
use Rattle.std.proofs.lemmas.Nat.{div_below}
use Rattle.hfs_format.specs.Plan.{allocation_blocks, allocation_start, bitmap_blocks, block_factor, file_blocks}

pub factor_is : (blocks : ℕ) → blocks / 65536 + 1 ≡ block_factor blocks
unfolding block_factor
factor_is blocks = refl

-- allocation blocks of `factor` blocks each
abbrev pub blocks_at : ℕ → ℕ → ℕ
blocks_at factor blocks = (blocks - 2 - (3 + (blocks / factor + 4095) / 4096)) / factor

pub allocation_blocks_is : (blocks factor : ℕ) → factor ≡ block_factor blocks → blocks_at factor blocks ≡ allocation_blocks blocks
unfolding allocation_blocks allocation_start bitmap_blocks
allocation_blocks_is blocks factor is = ap (λ f. blocks_at f blocks) is

pub file_blocks_is : (factor nodes : ℕ) → (nodes + (factor - 1)) / factor ≡ file_blocks factor nodes
unfolding file_blocks
file_blocks_is factor nodes = refl

pub few_quotients : (blocks factor : ℕ) → blocks / factor ≤ blocks
few_quotients blocks factor = div-le_self blocks factor

pub few_blocks : (len size : ℕ) → 512 ≤ size → len < 2 ^ 64 → len / size < 2 ^ 55
few_blocks len size some fits = div_below len size (2 ^ 55) (omega arith) (omega arith)
