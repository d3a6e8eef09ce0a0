use Rattle.std.proofs.Common.{◌≡◌, ◌∙◌, ◌+◌, length, get_or, [], ◌∷◌, ◌++◌, sym, ap, arith, length-append, Vec, Global}
use Rattle.std.proofs.lemmas.List.{get_or_append_left, get_or_push, append_assoc}
use Rattle.std.specs.Vec.Iter.{into_iter_items}
use borrow.Author.Count.{below_more}
use Rattle.hfs_model.specs.declared.call.Call.{Call}
use Rattle.hfs_shared.specs.declared.pass.Pass.{Pass}
use Rattle.hfs_scripts.specs.Callers.{calls_of}
use Rattle.hfs_scripts.specs.declared.lines.Caller.TheVariants.{Worker, Viewer}
use Rattle.hfs_runs.proofs.Parts.{workers_kept, viewers_stay}
use Rattle.hfs_runs.proofs.jobs.jobs_of.Goals as goal

pub loop-pass-preserved : goal.loop-pass-preserved
loop-pass-preserved c =
    let i = c.loop-pass.invariant in
    let steps = c.in-Some.ensures.steps in
    let at = c.loop-pass.number in
    let yielded = c.loop-pass.yielded in
    let pass = c.in-Some.pass in
    let jobs = c.loop-pass.jobs.items in
    let items = c.in_ok-push.ensures.items in
    let job : Pass × Vec Call Global = (pass, c.in_ok-own.own) in
    let own = c.in_ok-own.ensures in
    record {
      all = i.all ∙ ap (λ l. yielded ++ l) steps.0 ∙ sym (append_assoc yielded (pass ∷ []) (into_iter_items c.next.new.self));
      left = omega (arith, i.left, steps.1, ap length steps.0);
      number = length-append yielded (pass ∷ []) ∙ omega (arith, i.number);
      many = ap length items ∙ length-append jobs (job ∷ []) ∙ omega (arith, i.many);
      passes = λ place j p within.
          below_more (λ k. (get_or c.push.new.self.items k j).0 ≡ get_or (yielded ++ pass ∷ []) k p) at
          (λ k less. ap (λ l. (get_or l k j).0) items ∙ ap (λ x. x.0) (get_or_append_left jobs (job ∷ []) j k (omega (arith, less, i.many)))
          ∙ i.passes k j p less ∙ sym (get_or_append_left yielded (pass ∷ []) p k (omega (arith, less, i.number))))
          (ap (λ l. (get_or l at j).0) items ∙ ap (λ x. x.0) (get_or_push jobs job j at i.many) ∙ sym (get_or_push yielded pass p at i.number))
          place within;
      calls = λ place j within.
          below_more (λ k. (get_or c.push.new.self.items k j).1.items ≡ calls_of (Worker (k + 1)) c.args.script) at
          (λ k less. ap (λ l. (get_or l k j).1.items) items ∙ ap (λ x. x.1.items) (get_or_append_left jobs (job ∷ []) j k (omega (arith, less, i.many))) ∙ i.calls k j less)
          (ap (λ l. (get_or l at j).1.items) items ∙ ap (λ x. x.1.items) (get_or_push jobs job j at i.many) ∙ own.calls ∙ i.workers (at + 1) (omega arith))
          place within;
      workers = λ n more. ap (calls_of (Worker n)) own.others ∙ workers_kept n (at + 1) c.loop-pass.rest (λ e. omega (arith, e, more)) ∙ i.workers n (omega (arith, more));
      viewers = λ n. ap (calls_of (Viewer n)) own.others ∙ viewers_stay n (at + 1) c.loop-pass.rest ∙ i.viewers n;
    }
