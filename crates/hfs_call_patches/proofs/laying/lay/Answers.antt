-- Zeros are laid over the blocks, and the bytes over these; what was put lies within.
use Rattle.std.proofs.Common.{◌≡◌, ℕ, List, sym, ap, subst, ◌∙◌}
use Rattle.hfs_blocks.specs.declared.run.Run.{Run}
use Rattle.hfs_blocks.specs.Layers.{changes, over, AreWithin}
use Rattle.hfs_space.specs.Clearing.{patched, zeroed}
use Rattle.hfs_space.specs.Zeros.{zero_blocks}
use Rattle.hfs_call_patches.specs.Laid.{LaysBytes}
use Rattle.hfs_call_patches.proofs.laying.lay.Goals as goal

pub returns-clause-within : goal.returns-clause-within
returns-clause-within g c =
    let same : g.B.Blocks.total c.over.result.below.now ≡ g.B.Blocks.total c.args.volume.now.blocks.now = ap g.B.Blocks.total c.over.ensures.below in
    subst (λ (n : ℕ). AreWithin (changes c.write_fork.new.patch) n) same
    (c.in_ok-write_fork.ensures.within (subst (λ (n : ℕ). AreWithin (changes c.in_ok-zeros.field-0.patch) n) (sym same) c.in_ok-zeros.ensures.within))

pub returns-clause-lays : goal.returns-clause-lays
returns-clause-lays g c =
    let blocks = g.B.Blocks.blocks c.args.volume.now.blocks.now in
    let runs = c.in_ok-zeros.field-0.zeros in
    let seen : over (zero_blocks c.over.result.zeros.now) (g.B.Blocks.blocks c.over.result.below.now) ≡ zeroed runs blocks =
    ap (λ (z : List Run). over (zero_blocks z) (g.B.Blocks.blocks c.over.result.below.now)) c.over.ensures.zeros
    ∙ ap (λ below. over (zero_blocks runs) (g.B.Blocks.blocks below)) c.over.ensures.below in
    record {
      cleared = patched c.in_ok-zeros.field-0.patch runs blocks;
      zeros = record { zeros = c.in_ok-zeros.ensures.written; beside = c.in_ok-zeros.ensures.beside };
      bytes = subst
          (λ (below : ℕ → List ℕ). LaysBytes c.args.volume.now.mdb.now c.args.extents.now c.args.laying.now.offset c.args.laying.now.bytes.now
          (over (changes c.in_ok-zeros.field-0.patch) below) (over (changes c.write_fork.new.patch) below))
          seen
          (record { given = c.in_ok-write_fork.ensures.written; beside = c.write_fork.ensures.beside });
    }
