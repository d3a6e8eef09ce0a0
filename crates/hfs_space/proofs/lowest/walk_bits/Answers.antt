-- One more block is searched.
use Rattle.std.proofs.Common.{◌≡◌, ℕ, ◌+◌, ◌||◌, ap, ◌∙◌, subst, arith}
use Rattle.hfs_space.specs.Bitmap.{is_used}
use Rattle.hfs_space.specs.FreeRuns.{IsSearched, is_in, is_taken}
use Rattle.hfs_space.proofs.ByteLemmas.{marked-here}
use Rattle.hfs_space.proofs.LowestRuns.{searched-bit}
use Rattle.hfs_space.proofs.lowest.walk_bits.Goals as goal

pub loop-bit-init : goal.loop-bit-init
loop-bit-init g c =
    let used = is_taken (is_used (g.B.Blocks.blocks c.args.bitmap.now.blocks.now) c.args.bitmap.now.start) c.args.taken in
    record {
      few = c.requires.few;
      reach = (let h = c.requires.searched.1.few in omega (arith, h));
      searched = subst (λ (k : ℕ). IsSearched used c.args.bitmap.now.count c.args.count k c.args.walked.free) (let e : c.args.walked.end ≡ c.args.walked.end + 0 = omega arith in e) c.requires.searched;
    }

pub returns-then-from-count-clause-searched : goal.returns-then-from-count-clause-searched
returns-then-from-count-clause-searched g c =
    let blocks = g.B.Blocks.blocks c.args.bitmap.now.blocks.now in
    let used = is_taken (is_used blocks c.args.bitmap.now.start) c.args.taken in
    let i = c.args.walked.end + c.loop-bit.bit in
    let low = c.loop-bit-test.true in
    let marked = marked-here blocks c.args.bitmap.now.start c.args.walked.end c.args.bytes.now c.requires.whole c.requires.here i (omega arith) (omega (arith, low, c.min-most.ensures)) in
    let told : c.is_taken.result ≡ used i = c.is_taken.ensures ∙ ap (λ t. t || is_in c.args.taken i) marked in
    searched-bit used c.args.bitmap.now.count c.args.count i c.loop-bit.free c.loop-bit.invariant.searched c.loop-bit.invariant.few (omega (arith, low, c.min-most.ensures)) c.is_taken.result told _ c.free_after-free.ensures

pub loop-bit-preserved : goal.loop-bit-preserved
loop-bit-preserved g c =
    let blocks = g.B.Blocks.blocks c.args.bitmap.now.blocks.now in
    let used = is_taken (is_used blocks c.args.bitmap.now.start) c.args.taken in
    let i = c.args.walked.end + c.loop-bit.bit in
    let low = c.loop-bit-test.true in
    let marked = marked-here blocks c.args.bitmap.now.start c.args.walked.end c.args.bytes.now c.requires.whole c.requires.here i (omega arith) (omega (arith, low, c.min-most.ensures)) in
    let told : c.is_taken.result ≡ used i = c.is_taken.ensures ∙ ap (λ t. t || is_in c.args.taken i) marked in
    let next =
    searched-bit used c.args.bitmap.now.count c.args.count i c.loop-bit.free c.loop-bit.invariant.searched c.loop-bit.invariant.few (omega (arith, low, c.min-most.ensures)) c.is_taken.result told _ c.free_after-free.ensures in
    let reach = next.1.few in
    record {
      few = omega (arith, c.from.ensures, c.if-from-count.false);
      reach = omega (arith, reach);
      searched = subst (λ (k : ℕ). IsSearched used c.args.bitmap.now.count c.args.count k c.free_after-free.result) (let e : i + 1 ≡ c.args.walked.end + (c.loop-bit.bit + 1) = omega arith in e) next;
    }

pub returns-clause-searched : goal.returns-clause-searched
returns-clause-searched g c =
    let used = is_taken (is_used (g.B.Blocks.blocks c.args.bitmap.now.blocks.now) c.args.bitmap.now.start) c.args.taken in
    subst (λ (k : ℕ). IsSearched used c.args.bitmap.now.count c.args.count k c.loop-bit.free)
    (let e : c.args.walked.end + c.loop-bit.bit ≡ c.args.walked.end + c.min-most.result = omega (arith, c.loop-bit-test.false, c.loop-bit.auto.bit-end) in e) c.loop-bit.invariant.searched
