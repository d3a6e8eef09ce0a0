-- A patch without blocks shows what is below it.
use Rattle.std.proofs.Common.{◌≡◌, ℕ, None, [], ap, sym, subst}
use Rattle.hfs_blocks.specs.Layers.{Numbered, changes, AreWithin}
use Rattle.hfs_blocks.proofs.LayerLemmas.{AreWithin-nothing}
use Rattle.hfs_btree.specs.Sound.{IsDistinct}
use Rattle.hfs_call_patches.proofs.Different.{different}
use Rattle.hfs_call_patches.proofs.Closed.{opened_nodes, opened_beside}
use Rattle.hfs_call_patches.proofs.catalog_patch.open_catalog.Goals as goal

empty : (l : Numbered) → l ≡ [] → (n : ℕ) → changes l n ≡ None
empty l e n = ap (λ (m : Numbered). changes m n) e

pub returns-clause-nodes : goal.returns-clause-nodes
returns-clause-nodes g c =
    let below = c.args.below.now in
    opened_nodes (g.B.Blocks.blocks below) (g.B.Blocks.total below) c.args.runs.now (changes c.new.result) (empty c.new.result c.new.ensures) c.requires.file

pub returns-clause-over : goal.returns-clause-over
returns-clause-over g c =
    let below = c.args.below.now in
    λ i. (below, c.args.runs.now, opened_beside (g.B.Blocks.blocks below) (g.B.Blocks.total below) c.args.runs.now (changes c.new.result) (empty c.new.result c.new.ensures) c.requires.file i)

pub invariant_of-result : goal.invariant_of-result
invariant_of-result g c =
    let below = c.args.below.now in
    record {
      within = c.requires.file.within;
      different = subst IsDistinct (sym c.requires.file.numbers) (different (g.B.Blocks.total below) (g.B.Blocks.blocks below) c.requires.sound);
      inside = subst (λ (l : Numbered). AreWithin (changes l) (g.B.Blocks.total below)) (sym c.new.ensures) (AreWithin-nothing (g.B.Blocks.total below));
    }
