-- Full bytes are passed at once.
use Rattle.std.proofs.Common.{◌≡◌, ◌+◌, ◌-◌, ◌*◌, ◌≤◌, sym, ap, subst, arith}
use Rattle.hfs_space.specs.Bitmap.{is_used}
use Rattle.hfs_space.specs.FreeRuns.{IsSearched, is_taken}
use Rattle.hfs_space.proofs.ByteLemmas.{bytes-used, taken-used}
use Rattle.hfs_space.proofs.LowestRuns.{searched-useds}
use Rattle.hfs_space.proofs.lowest.walk_block.Goals as goal
use Rattle.hfs_space.proofs.lowest.walk_block.Goals.{then-full-gt0, else-full-gt0}

pub loop-passed-init : goal.loop-passed-init
loop-passed-init g c =
    let blocks = g.B.Blocks.blocks c.args.bitmap.now.blocks.now in
    let start = c.args.bitmap.now.start in
    let used = is_taken (is_used blocks start) c.args.taken in
    let n = c.args.bitmap.now.count in
    let first = c.args.walked.end in
    let full = c.full_bytes-full.result in
    elim c.if-full-gt0.branch [
      | then-full-gt0 w ↦
          let free : c.if-full-gt0.passed.free ≡ 0 = ap (λ p. p.free) w.passed-is in
          let end : c.if-full-gt0.passed.end ≡ first + full * 8 = ap (λ p. p.end) w.passed-is in
          let some = w.if-full-gt0.true in
          let within : first + full * 8 ≤ n = omega (arith, c.full_bytes-full.ensures.within, c.min-most.ensures, c.requires.within) in
          let more = full * 8 - 1 in
          let last : first + more + 1 ≡ c.if-full-gt0.passed.end = omega (arith, end, some) in
          let searched = searched-useds used n c.args.count first c.args.walked.free more c.requires.searched c.requires.few (omega (arith, within, some))
          (λ k low high.
          taken-used (is_used blocks start) c.args.taken k
          (bytes-used blocks start first c.args.bytes.now c.requires.whole c.requires.here full (omega (arith, c.full_bytes-full.ensures.within, c.min-most.ensures)) c.full_bytes-full.ensures.full k low
          (omega (arith, high, some)))) in
          record {
            few = omega (arith, c.requires.few, free);
            from = omega (arith, end);
            within = omega (arith, end, c.full_bytes-full.ensures.within, c.min-most.ensures);
            whole = λ _. omega (arith, end, c.requires.whole);
            searched = subst (λ k. IsSearched used n c.args.count k c.if-full-gt0.passed.free) last (subst (λ f. IsSearched used n c.args.count (first + more + 1) f) (sym free) searched);
          }
      | else-full-gt0 w ↦
          let free : c.if-full-gt0.passed.free ≡ c.args.walked.free = ap (λ p. p.free) w.passed-is in
          let end : c.if-full-gt0.passed.end ≡ first = ap (λ p. p.end) w.passed-is in
          record {
            few = omega (arith, c.requires.few, free);
            from = omega (arith, end);
            within = omega (arith, end);
            whole = λ _. omega (arith, end, c.requires.whole);
            searched = subst (λ k. IsSearched used n c.args.count k c.if-full-gt0.passed.free) (sym end) (subst (λ f. IsSearched used n c.args.count first f) (sym free) c.requires.searched);
          }
    ]
