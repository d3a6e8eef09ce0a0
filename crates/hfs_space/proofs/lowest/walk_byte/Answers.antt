-- Eight blocks are passed at once.
use Rattle.std.proofs.Common.{◌≡◌, ℕ, ◌%◌, ◌/◌, false, sym, ap, ◌∙◌, arith}
use Rattle.std.specs.Prelude.{slice_index}
use Rattle.hfs_space.specs.Bitmap.{is_used}
use Rattle.hfs_space.specs.FreeRuns.{is_taken, meets}
use Rattle.hfs_space.proofs.ByteLemmas.{byte-free, byte-used, taken-free, taken-used}
use Rattle.hfs_space.proofs.LowestRuns.{searched-used, searched-free}
use Rattle.hfs_space.proofs.lowest.walk_byte.Goals as goal

pub returns-then-byte-clause-searched : goal.returns-then-byte-clause-searched
returns-then-byte-clause-searched g c =
    let blocks = g.B.Blocks.blocks c.args.bitmap.now.blocks.now in
    let start = c.args.bitmap.now.start in
    let used = is_taken (is_used blocks start) c.args.taken in
    let first = c.args.walked.end in
    let all : slice_index c.args.bytes.now (first % 4096 / 8) ≡ 255 = ap (λ (p : ℕ). slice_index c.args.bytes.now p) (sym c.from.ensures) ∙ c.if-byte.true in
    searched-used used c.args.bitmap.now.count c.args.count first c.args.walked.free c.requires.searched c.requires.few (omega (arith, c.if-are_eight.true))
    (λ k low high. taken-used (is_used blocks start) c.args.taken k (byte-used blocks start first c.args.bytes.now c.requires.whole c.requires.here all k low high))

pub returns-then-not-meets-clause-searched : goal.returns-then-not-meets-clause-searched
returns-then-not-meets-clause-searched g c =
    let blocks = g.B.Blocks.blocks c.args.bitmap.now.blocks.now in
    let start = c.args.bitmap.now.start in
    let used = is_taken (is_used blocks start) c.args.taken in
    let first = c.args.walked.end in
    let none : slice_index c.args.bytes.now (first % 4096 / 8) ≡ 0 = ap (λ (p : ℕ). slice_index c.args.bytes.now p) (sym c.from.ensures) ∙ c.if-byte-eq0.true in
    let apart : meets c.args.taken first ≡ false = sym c.meets.ensures ∙ c.if-not-meets.true in
    searched-free used c.args.bitmap.now.count c.args.count first c.args.walked.free c.requires.searched
    (λ k low high. taken-free (is_used blocks start) c.args.taken first k apart low high (byte-free blocks start first c.args.bytes.now c.requires.whole c.requires.here none k low high))
