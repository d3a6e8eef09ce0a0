-- Both blocks are among the first five.
use Rattle.std.proofs.Common.{sym, subst, arith}
use Rattle.hfs_blocks.specs.Layers.{Numbered, changes, AreWithin}
use Rattle.hfs_blocks.proofs.LayerLemmas.{AreWithin-nothing}
use Rattle.hfs_volume_tests.proofs.read_blocks.two_blocks.Goals as goal

pub returns : goal.returns
returns c =
    let none = subst (λ (l : Numbered). AreWithin (changes l) 5) (sym c.new-read.ensures) (AreWithin-nothing 5) in
    c.fetch-2.ensures.within 5 (omega arith) (c.fetch.ensures.within 5 (omega arith) none)
