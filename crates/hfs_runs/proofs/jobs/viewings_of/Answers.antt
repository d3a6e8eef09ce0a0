use Rattle.std.proofs.Common.{◌≡◌, ◌∙◌, ◌+◌, length, get_or, [], ◌∷◌, ◌++◌, sym, ap, arith, length-append}
use Rattle.std.proofs.lemmas.List.{get_or_append_left, get_or_push, append_assoc}
use Rattle.std.specs.Vec.Iter.{into_iter_items}
use borrow.Author.Count.{below_more}
use Rattle.hfs_runs.specs.declared.viewing.Viewing.{Viewing}
use Rattle.hfs_scripts.specs.Callers.{calls_of}
use Rattle.hfs_scripts.specs.declared.lines.Caller.TheVariants.{Viewer}
use Rattle.hfs_runs.proofs.Parts.{viewers_kept}
use Rattle.hfs_runs.proofs.jobs.viewings_of.Goals as goal

pub loop-viewer-preserved : goal.loop-viewer-preserved
loop-viewer-preserved c =
    let i = c.loop-viewer.invariant in
    let steps = c.in-Some.ensures.steps in
    let at = c.loop-viewer.number in
    let yielded = c.loop-viewer.yielded in
    let viewer = c.in-Some.viewer in
    let viewings = c.loop-viewer.viewings.items in
    let items = c.in_ok-push.ensures.items in
    let viewing : Viewing = record { viewer = viewer; calls = c.in_ok-calls.calls; replies = c.new.result } in
    let own = c.in_ok-calls.ensures in
    record {
      all = i.all ∙ ap (λ l. yielded ++ l) steps.0 ∙ sym (append_assoc yielded (viewer ∷ []) (into_iter_items c.next.new.self));
      left = omega (arith, i.left, steps.1, ap length steps.0);
      number = length-append yielded (viewer ∷ []) ∙ omega (arith, i.number);
      many = ap length items ∙ length-append viewings (viewing ∷ []) ∙ omega (arith, i.many);
      seen = λ place w k within.
          below_more (λ n. (get_or c.push.new.self.items n w).viewer ≡ get_or (yielded ++ viewer ∷ []) n k) at
          (λ n less. ap (λ l. (get_or l n w).viewer) items ∙ ap (λ x. x.viewer) (get_or_append_left viewings (viewing ∷ []) w n (omega (arith, less, i.many)))
          ∙ i.seen n w k less ∙ sym (get_or_append_left yielded (viewer ∷ []) k n (omega (arith, less, i.number))))
          (ap (λ l. (get_or l at w).viewer) items ∙ ap (λ x. x.viewer) (get_or_push viewings viewing w at i.many) ∙ sym (get_or_push yielded viewer k at i.number))
          place within;
      calls = λ place w within.
          below_more (λ n. (get_or c.push.new.self.items n w).calls.items ≡ calls_of (Viewer (n + 1)) c.args.script) at
          (λ n less. ap (λ l. (get_or l n w).calls.items) items ∙ ap (λ x. x.calls.items) (get_or_append_left viewings (viewing ∷ []) w n (omega (arith, less, i.many))) ∙ i.calls n w less)
          (ap (λ l. (get_or l at w).calls.items) items ∙ ap (λ x. x.calls.items) (get_or_push viewings viewing w at i.many) ∙ own.calls ∙ i.viewers (at + 1) (omega arith))
          place within;
      viewers = λ n more. ap (calls_of (Viewer n)) own.others ∙ viewers_kept n (at + 1) c.loop-viewer.rest (λ e. omega (arith, e, more)) ∙ i.viewers n (omega (arith, more));
    }
