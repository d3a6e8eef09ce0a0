-- First the record, and then the counts.
use Rattle.std.proofs.Common.{◌<◌, ℕ, sym, subst}
use Rattle.hfs_blocks.specs.Layers.{changes}
use Rattle.hfs_btree_edits.proofs.WrittenLemmas.{put_within}
use Rattle.hfs_call_patches.proofs.settling.settle.Goals as goal

pub returns-clause-settles : goal.returns-clause-settles
returns-clause-settles g c = record {
  middle = c.in_ok-settled.settled;
  set = c.in_ok-settled.ensures.set;
  value = c.in_ok-settled.ensures.value;
  beside = c.in_ok-settled.ensures.beside;
  put = c.in_ok-put_counts.ensures;
}

pub returns-clause-inside : goal.returns-clause-inside
returns-clause-inside g c =
    let put = c.in_ok-put_counts.ensures in
    put_within (changes c.in_ok-settled.settled) (changes c.put_counts.new.patch) 2 put.block (g.Z.Blocks.total c.args.nodes.below.now) put.put
    (subst (λ (n : ℕ). 2 < n) (sym c.requires.same) c.requires.two) put.long c.in_ok-settled.ensures.inside
