-- The bits in one more block are set.
use Rattle.std.proofs.Common.{◌+◌, ◌-◌, ◌*◌, ◌∙◌, ap, subst, sym, rules}
use Rattle.hfs_space.specs.Bitmap.{is_marked}
use Rattle.hfs_blocks.specs.Layers.{Changes, Numbered, changes, over, AreWithin}
use Rattle.hfs_blocks.proofs.LayerLemmas.{with_block, over-with_change, AreWithin-with_change}
use Rattle.hfs_space.proofs.Claims.{claiming-more}
use Rattle.hfs_space.proofs.claiming.claim.Goals as goal

pub loop-i-preserved : goal.loop-i-preserved
loop-i-preserved g c =
    let blocks = g.B.Blocks.blocks in
    let below = blocks c.args.bitmap.now.blocks.now in
    let i = c.loop-i.i in
    let before = changes c.loop-i.patch in
    let bytes = c.set_bits.new.bytes in
    let read = c.block.ensures ∙ (λ t. over (changes (c.over.ensures.patch t)) (blocks (c.over.ensures.below t)) (c.from-in-loop-i.ensures t + i)) in
    let written = ap (λ changed. over changed below) c.in_ok-put.ensures.written ∙ over-with_change before below (c.from-in-loop-i.result + i) bytes
    ∙ ap (λ start. with_block (over before below) (start + i) bytes) c.from-in-loop-i.ensures in
    record {
      claiming = claiming-more (over (changes c.args.patch.now) below) (over before below) (over (changes c.put.new.self) below) c.args.bitmap.now.start c.from-first.result (c.from-first.result + c.from.result) i
          (c.max.result - i * 4096) (c.min.result - i * 4096) bytes written (ap (λ m. m - i * 4096) c.max.ensures) (ap (λ m. m - i * 4096) c.min.ensures)
          c.set_bits.ensures.set (λ k apart. c.set_bits.ensures.others k apart ∙ ap (λ b. is_marked b k) read) c.loop-i.auto.i c.loop-i.invariant.claiming;
      within = λ was.
          subst (λ (ch : Changes). AreWithin ch (g.B.Blocks.total c.args.bitmap.now.blocks.now)) (sym c.in_ok-put.ensures.written)
          (AreWithin-with_change before (c.from-in-loop-i.result + i) bytes (g.B.Blocks.total c.args.bitmap.now.blocks.now) (search rules) (search rules) (c.loop-i.invariant.within was));
    }

pub returns-in_err-put-clause-within : goal.returns-in_err-put-clause-within
returns-in_err-put-clause-within g c = λ was. subst (λ (p : Numbered). AreWithin (changes p) (g.B.Blocks.total c.args.bitmap.now.blocks.now)) (sym c.in_err-put.ensures.kept) (c.loop-i.invariant.within was)
