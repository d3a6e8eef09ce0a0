-- One more run, from the `from`-th block on.
use Rattle.std.proofs.Common.{◌≡◌, ◌+◌, ◌-◌, ◌<◌, ◌≤◌, ◌∙◌, List, [], ◌∷◌, ◌++◌, Vec, Global, append-nil, sym, ap, get_or, subst, arith}
use Rattle.std.specs.Prelude.{min}
use Rattle.std.specs.List.{All, flat_map, range_with_len}
use Rattle.std.proofs.lemmas.List.Elements.{All-push}
use Rattle.hfs_blocks.specs.declared.run.Run.{Run}
use Rattle.hfs_blocks.specs.Blocks.{run_of}
use Rattle.hfs_space.proofs.TreeRuns.{numbers-more}
use Rattle.hfs_space.specs.Zeros.{AreAmong}
use Rattle.hfs_space.proofs.FromLemmas.{runs-next}
use Rattle.hfs_space.proofs.zero_runs.runs_from.Goals.{then-passed-run+in_ok-push, else-passed-run}
use Rattle.hfs_space.proofs.zero_runs.runs_from.Goals as goal

abbrev none : Run
none = record { first = 0; count = 0; before = 0 }

pub loop-i-preserved : goal.loop-i-preserved
loop-i-preserved c =
    let runs = c.args.runs.now in
    let i = c.loop-i.i in
    let r = get_or runs i none in
    let rest = c.loop-i.rest.items in
    let passed = c.min-passed.result in
    let is : passed ≡ min (c.args.from - r.before) r.count = c.min-passed.ensures ∙ ap (λ n. min n r.count) c.saturating_sub.ensures in
    let next = runs-next runs c.args.from i none (flat_map run_of rest) passed c.requires.counted c.loop-i-test.true c.loop-i.invariant.blocks is in
    elim c.if-passed-run.branch [
      | then-passed-run+in_ok-push w ↦
          let piece : Run = record { first = r.first + passed; count = r.count - passed; before = 0 } in
          let items : c.if-passed-run.rest.items ≡ rest ++ piece ∷ [] = ap (λ (v : Vec Run Global). v.items) w.rest-is ∙ w.in_ok-push.ensures.items in
          record {
            few = omega (arith, c.loop-i-test.true);
            blocks = ap (flat_map run_of) items ∙ numbers-more rest piece ∙ next;
            some = subst (λ (l : List Run). All (λ (run : Run). 0 < run.count) l) (sym items)
                (All-push (λ (run : Run). 0 < run.count) rest piece c.loop-i.invariant.some (omega (arith, w.if-passed-run.true)));
            among = λ total h.
                subst (λ (l : List Run). AreAmong l total) (sym items)
                (All-push (λ (run : Run). run.first + run.count ≤ total) rest piece (c.loop-i.invariant.among total h) (let end = h i none c.loop-i-test.true in omega (arith, end, w.if-passed-run.true)));
          }
      | else-passed-run w ↦
          let items : c.if-passed-run.rest.items ≡ rest = ap (λ (v : Vec Run Global). v.items) w.rest-is in
          record {
            few = omega (arith, c.loop-i-test.true);
            blocks = ap (flat_map run_of) items ∙ sym (append-nil (flat_map run_of rest))
                ∙ ap (λ n. flat_map run_of rest ++ range_with_len (r.first + passed) n) (let e : 0 ≡ r.count - passed = omega (arith, w.if-passed-run.false) in e) ∙ next;
            some = subst (λ (l : List Run). All (λ (run : Run). 0 < run.count) l) (sym items) c.loop-i.invariant.some;
            among = λ total h. subst (λ (l : List Run). AreAmong l total) (sym items) (c.loop-i.invariant.among total h);
          }
    ]
