-- Zeros are laid over zeros, and no block comes that isn't the volume's.
use Rattle.std.proofs.Common.{◌-◌, sym, ap, ◌∙◌, subst}
use Rattle.hfs_blocks.specs.Layers.{Numbered, changes, over, AreWithin}
use Rattle.hfs_blocks.proofs.LayerLemmas.{AreWithin-nothing}
use Rattle.hfs_space.specs.ForkLengths.{all_bytes}
use Rattle.hfs_space.specs.Parts.{with_part, zeros}
use Rattle.hfs_space.proofs.clearing.two_parts.Goals as goal

pub returns-clause-written : goal.returns-clause-written
returns-clause-written g c =
    let below = g.B.Blocks.blocks c.args.blocks.now in
    let none = ap (λ (p : Numbered). all_bytes (over (changes p) below) c.args.mdb.now c.args.extents.now) c.new-patch.ensures in
    let first = c.in_ok-clear_part.ensures.written ∙ ap (λ bytes. with_part c.args.zeros_at.offset (zeros c.args.zeros_at.front) bytes) none in
    c.in_ok-clear_part-2.ensures.written ∙ ap (λ bytes. with_part c.args.zeros_at.back (zeros (c.args.zeros_at.end - c.args.zeros_at.back)) bytes) first

pub returns-clause-within : goal.returns-clause-within
returns-clause-within g c =
    let total = g.B.Blocks.total c.args.blocks.now in
    c.in_ok-clear_part-2.ensures.within
    (c.in_ok-clear_part.ensures.within (subst (λ (p : Numbered). AreWithin (changes p) total) (sym c.new-patch.ensures) (AreWithin-nothing total)))
