-- Eight blocks are passed at once.
use Rattle.std.proofs.Common.{◌≡◌, ℕ, ◌+◌, ◌%◌, ◌/◌, false, List, ◌++◌, min, sym, ap, ◌∙◌, subst, arith}
use Rattle.std.specs.Prelude.{slice_index}
use Rattle.hfs_fields.specs.declared.extent.Extent.{Extent}
use Rattle.hfs_space.specs.Bitmap.{is_used}
use Rattle.hfs_space.specs.FreeRuns.{IsRunning, is_taken, meets, run_before}
use Rattle.hfs_space.proofs.Running.{running-frees, running-useds}
use Rattle.hfs_space.proofs.ByteLemmas.{byte-free, byte-used, taken-free, taken-used}
use Rattle.hfs_space.proofs.free_run_lists.pass_byte.Goals as goal

pub returns-then-byte : goal.returns-then-byte
returns-then-byte g c =
    let blocks = g.B.Blocks.blocks c.args.bitmap.now.blocks.now in
    let start = c.args.bitmap.now.start in
    let used = is_taken (is_used blocks start) c.args.taken in
    let n = c.args.bitmap.now.count in
    let first = c.args.first in
    let runs = c.args.runs.now.items in
    let all : slice_index c.args.bytes.now (first % 4096 / 8) ≡ 255 = ap (λ (p : ℕ). slice_index c.args.bytes.now p) (sym c.from.ensures) ∙ c.if-byte.true in
    let next = running-useds used n first c.args.before runs 7 c.requires.running (omega (arith, c.if-are_eight.true))
    (λ k low high. taken-used (is_used blocks start) c.args.taken k (byte-used blocks start first c.args.bytes.now c.requires.whole c.requires.here all k low (omega (arith, high)))) in
    let end : first + 7 + 1 ≡ min n (first + 8) = omega (arith, c.if-are_eight.true) in
    subst (λ (l : List Extent). IsRunning used n (min n (first + 8)) 0 l) (sym c.in_ok-push_run.ensures)
    (subst (λ (k : ℕ). IsRunning used n k 0 (runs ++ run_before first c.args.before)) end next)

pub returns-then-not-meets : goal.returns-then-not-meets
returns-then-not-meets g c =
    let blocks = g.B.Blocks.blocks c.args.bitmap.now.blocks.now in
    let start = c.args.bitmap.now.start in
    let used = is_taken (is_used blocks start) c.args.taken in
    let n = c.args.bitmap.now.count in
    let first = c.args.first in
    let runs = c.args.runs.now.items in
    let none : slice_index c.args.bytes.now (first % 4096 / 8) ≡ 0 = ap (λ (p : ℕ). slice_index c.args.bytes.now p) (sym c.from.ensures) ∙ c.if-byte-eq0.true in
    let apart : meets c.args.taken first ≡ false = sym c.meets.ensures ∙ c.if-not-meets.true in
    let next = running-frees used n first c.args.before runs 8 c.requires.running
    (λ k low high. taken-free (is_used blocks start) c.args.taken first k apart low high (byte-free blocks start first c.args.bytes.now c.requires.whole c.requires.here none k low high)) in
    let end : first + 8 ≡ min n (first + 8) = omega (arith, c.if-are_eight-2.true) in
    subst (λ (k : ℕ). IsRunning used n k (c.args.before + 8) runs) end next
