-- One more block is passed.
use Rattle.std.proofs.Common.{◌≡◌, ℕ, ◌+◌, ◌||◌, List, ◌++◌, Vec, Global, sym, ap, ◌∙◌, subst, arith}
use Rattle.hfs_fields.specs.declared.extent.Extent.{Extent}
use Rattle.hfs_space.specs.Bitmap.{is_used}
use Rattle.hfs_space.specs.FreeRuns.{IsRunning, is_in, is_taken, run_before}
use Rattle.hfs_space.proofs.Running.{running-free, running-used}
use Rattle.hfs_space.proofs.ByteLemmas.{marked-here}
use Rattle.hfs_space.proofs.free_run_lists.pass_bits.Goals.{then-is_taken+in_ok-push_run, else-is_taken}
use Rattle.hfs_space.proofs.free_run_lists.pass_bits.Goals as goal

pub push_run-requires : goal.push_run-requires
push_run-requires g c = c.loop-bit.invariant.running.few

pub loop-bit-preserved : goal.loop-bit-preserved
loop-bit-preserved g c =
    let used = is_taken (is_used (g.B.Blocks.blocks c.args.bitmap.now.blocks.now) c.args.bitmap.now.start) c.args.taken in
    let n = c.args.bitmap.now.count in
    let i = c.args.first + c.loop-bit.bit in
    let runs = c.loop-bit.runs.items in
    let count = c.loop-bit.free in
    let h = c.loop-bit.invariant.running in
    let marked = marked-here (g.B.Blocks.blocks c.args.bitmap.now.blocks.now) c.args.bitmap.now.start c.args.first c.args.bytes.now c.requires.whole c.requires.here i (omega arith) (omega arith) in
    let told : c.is_taken.result ≡ used i = c.is_taken.ensures ∙ ap (λ t. t || is_in c.args.taken i) marked in
    let next-i : i + 1 ≡ c.args.first + (c.loop-bit.bit + 1) = omega arith in
    elim c.if-is_taken.branch [
      | then-is_taken+in_ok-push_run w ↦
          let next = running-used used n i count runs h (omega arith) (sym told ∙ w.if-is_taken.true) in
          let items : c.if-is_taken.runs.items ≡ runs ++ run_before i count = ap (λ (v : Vec Extent Global). v.items) w.runs-is ∙ w.in_ok-push_run.ensures in
          record {
            running = subst (λ (k : ℕ). IsRunning used n k c.if-is_taken.free c.if-is_taken.runs.items) next-i (subst (λ (l : List Extent). IsRunning used n (i + 1) c.if-is_taken.free l) (sym items)
                (subst (λ (k : ℕ). IsRunning used n (i + 1) k (runs ++ run_before i count)) (sym w.free-is) next));
          }
      | else-is_taken w ↦
          let next = running-free used n i count runs h (sym told ∙ w.if-is_taken.false) in
          record {
            running = subst (λ (k : ℕ). IsRunning used n k c.if-is_taken.free c.if-is_taken.runs.items) next-i (subst (λ (v : Vec Extent Global). IsRunning used n (i + 1) c.if-is_taken.free v.items) (sym w.runs-is)
                (subst (λ (k : ℕ). IsRunning used n (i + 1) k runs) (sym w.free-is) next));
          }
    ]
