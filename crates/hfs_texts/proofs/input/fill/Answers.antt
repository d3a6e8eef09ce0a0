-- A read fills the part of the buffer that follows what is filled, and an error takes nothing.
use Rattle.std.proofs.Common.{◌≡◌, ℕ, ◌+◌, ◌-◌, ◌≤◌, List, ◌++◌, rules, arith, length, take, slice_range, sym, ap, ◌∙◌, subst, le_refl, drop_at, length-take-le}
use Rattle.std.proofs.lemmas.Slice.{take-put_mid_below}
use Rattle.std.specs.Io.KnownBytes.{Consumes}
use Rattle.std.proofs.KnownBytes.{Consumes-trans, Consumes-kept}
use borrow.Rule.Slice.PartMut.{put_mid, post_of}
use lib.Seq.{take-add, take-append-le}
use Rattle.hfs_texts.proofs.input.fill.Goals as goal
use Rattle.hfs_texts.proofs.input.fill.Goals.{in-Ok+else-count-buffer, in-Err+else-ne}

take_split : (a b : ℕ) (old new : List ℕ) → a ≤ b → take a new ≡ take a old → take a old ++ slice_range new a b ≡ take b new
take_split a b old new h front =
    let same : a + (b - a) ≡ b = omega arith in
    ap (λ l. l ++ slice_range new a b) (sym front) ∙ sym (take-add a (b - a) new) ∙ ap (λ n. take n new) same

slice_range-put_mid : (a k n : ℕ) (xs ys : List ℕ) → a ≤ length xs → n ≤ length ys → slice_range (put_mid a k xs ys) a (a + n) ≡ take n ys
slice_range-put_mid a k n xs ys within fits =
    let same : (a + n) - a ≡ n = omega arith in
    let after = post_of a k xs in
    ap (take ((a + n) - a)) (drop_at (take a xs) (ys ++ after) a (length-take-le a xs within)) ∙ ap (λ m. take m (ys ++ after)) same ∙ take-append-le n ys after fits

pub returns-then-ne-clause-err : goal.returns-then-ne-clause-err
returns-then-ne-clause-err g c =
    let before = c.loop-turn.invariant in
    (take c.loop-turn.count c.loop-turn.buffer, search rules, Consumes-kept _ _ _ _ before.2 c.in-Err.ensures.bytes)

pub loop-turn-preserved : goal.loop-turn-preserved
loop-turn-preserved g c =
    let before = c.loop-turn.invariant in
    let from = c.loop-turn.count in
    let room = length c.loop-turn.buffer - from in
    elim c.match-read.branch [
      | in-Ok+else-count-buffer w ↦
          let part = slice_range-put_mid from room w.in-Ok.more c.loop-turn.buffer c.read.new.buf (omega arith) w.in-Ok.ensures.bound.0 in
          let joined = take_split from (from + w.in-Ok.more) c.loop-turn.buffer (put_mid from room c.loop-turn.buffer c.read.new.buf) (omega arith) (take-put_mid_below _ _ _ _ _ (le_refl _) (omega arith)) in
          rw w.count-is (search rules, search rules, subst (Consumes _ _) (ap (λ l. take from c.loop-turn.buffer ++ l) (sym part) ∙ joined) (Consumes-trans _ _ _ _ _ before.2 w.in-Ok.ensures.bytes.0))
      | in-Err+else-ne w ↦
          rw w.count-is (search rules, search rules, subst (Consumes _ _) (sym (take-put_mid_below _ _ _ _ _ (le_refl _) (omega arith))) (Consumes-kept _ _ _ _ before.2 w.in-Err.ensures.bytes))
    ]
