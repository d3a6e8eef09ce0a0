-- a byte more that stands for itself
use Rattle.std.proofs.Common.{◌≡◌, ◌∙◌, sym, ◌<◌, true, length, get_or, arith}
use Rattle.hfs_texts.specs.PlainTexts.{is_itself}
use Rattle.hfs_texts.proofs.PlainLemmas.{own_more, own_none}
use Rattle.hfs_texts.proofs.plain.own_len.Goals as goal

pub loop-len-init : goal.loop-len-init
loop-len-init c = (omega arith, own_none c.args.bytes.now)

pub loop-len-preserved : goal.loop-len-preserved
loop-len-preserved c =
    let below : c.loop-len.len < length c.args.bytes.now = omega (arith, c.loop-len-test.true) in
    let itself : is_itself (get_or c.args.bytes.now c.loop-len.len 0) ≡ true = sym c.is_itself.ensures ∙ c.if-is_itself.true in
    (omega (arith, below), own_more c.args.bytes.now c.loop-len.len below itself c.loop-len.invariant.1)
