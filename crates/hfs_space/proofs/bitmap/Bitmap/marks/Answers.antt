-- One more block is marked or not.
use Rattle.std.proofs.Common.{◌≡◌, ℕ, ◌+◌, ◌/◌, ◌%◌, [], ◌∷◌, ◌++◌, sym, ap, ◌∙◌, arith}
use Rattle.std.proofs.lemmas.List.FromFn.{map-range_with_len_more}
use Rattle.hfs_space.specs.Bitmap.{is_marked, is_used}
use Rattle.hfs_space.proofs.bitmap.Bitmap.marks.Goals as goal

pub loop-block-preserved : goal.loop-block-preserved
loop-block-preserved g c =
    let blocks = g.B.Blocks.blocks c.args.self.now.blocks.now in
    let start = c.args.self.now.start in
    let n = c.loop-block.block in
    let used : c.is_marked.result ≡ is_used blocks start n = c.is_marked.ensures ∙ (λ i. is_marked (c.turn_to.ensures i) (c.from-in-loop-block.ensures i % 4096)) in
    record {
      marked = c.in_ok-push.ensures.items ∙ (λ i. c.loop-block.invariant.marked i ++ used i ∷ []) ∙ sym (map-range_with_len_more (is_used blocks start) 0 n n (omega arith));
      here = λ more. c.turn_to.ensures ∙ ap (λ (k : ℕ). blocks (start + k)) (let same : n / 4096 ≡ (n + 1) / 4096 = omega (arith, more) in same);
    }
