-- The block that was read, with the part in it, is put.
use Rattle.std.proofs.Common.{◌≡◌, ◌+◌, ◌-◌, length, refl, sym, subst, ◌∙◌, arith}
use Rattle.hfs_blocks.specs.Layers.{Numbered, Changes, changes, over, AreWithin, length-over}
use Rattle.hfs_blocks.proofs.LayerLemmas.{AreWithin-with_change}
use Rattle.hfs_space.proofs.Puts.{AreWhole-with_change, put-here, put-other, unless_whole, written-part, written-length}
use Rattle.hfs_space.proofs.parts.put_part.Goals as goal

pub returns-in_err-put-clause-within : goal.returns-in_err-put-clause-within
returns-in_err-put-clause-within g c = λ was. subst (λ (p : Numbered). AreWithin (changes p) (g.B.Blocks.total c.args.below.now)) (sym c.in_err-put.ensures.kept) was

pub returns-clause-part : goal.returns-clause-part
returns-clause-part g c =
    let below = g.B.Blocks.blocks c.args.below.now in
    let shown = over (changes c.args.patch.now) below c.args.n in
    let long : length shown ≡ 512 = length-over (changes c.args.patch.now) below c.args.n c.read_unless_whole.ensures.whole (g.met.B.Blocks.whole c.args.below.now c.args.n c.requires.within) in
    put-here (changes c.args.patch.now) (changes c.put.new.self) below c.args.n _ c.in_ok-put.ensures.written
    ∙ written-part c.args.from (c.args.from + length c.args.part.now - c.args.from) c.read_unless_whole.new.block c.read_unless_whole.new.block c.copy_from_slice.new.self c.args.part.now refl c.copy_from_slice.ensures.after (omega arith)
    ∙ unless_whole c.args.from c.args.part.now c.read_unless_whole.new.block shown c.read_unless_whole.ensures.read c.read_unless_whole.array_long long c.requires.fits

pub returns-clause-others : goal.returns-clause-others
returns-clause-others g c = λ k ne. put-other (changes c.args.patch.now) (changes c.put.new.self) (g.B.Blocks.blocks c.args.below.now) c.args.n _ c.in_ok-put.ensures.written k ne

pub returns-clause-whole : goal.returns-clause-whole
returns-clause-whole g c = (
  c.read_unless_whole.ensures.whole,
  AreWhole-with_change (changes c.args.patch.now) (changes c.put.new.self) c.args.n _ c.in_ok-put.ensures.written
      (written-length c.args.from (c.args.from + length c.args.part.now - c.args.from) c.read_unless_whole.new.block c.copy_from_slice.new.self c.args.part.now c.read_unless_whole.array_long c.copy_from_slice.ensures.after (omega arith) c.requires.fits)
      c.read_unless_whole.ensures.whole,
)

pub returns-clause-within : goal.returns-clause-within
returns-clause-within g c = λ was.
    subst (λ (ch : Changes). AreWithin ch (g.B.Blocks.total c.args.below.now)) (sym c.in_ok-put.ensures.written)
    (AreWithin-with_change (changes c.args.patch.now) c.args.n _ (g.B.Blocks.total c.args.below.now) c.requires.within
    (written-length c.args.from (c.args.from + length c.args.part.now - c.args.from) c.read_unless_whole.new.block c.copy_from_slice.new.self c.args.part.now c.read_unless_whole.array_long c.copy_from_slice.ensures.after (omega arith) c.requires.fits)
    was)
