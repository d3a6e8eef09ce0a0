use Rattle.std.proofs.Common.{◌≡◌, ◌∙◌, ℕ, ◌+◌, ◌<◌, ◌≤◌, List, map, take, length, get_or, sym, ap, subst, arith, length-append}
use Rattle.std.proofs.lemmas.List.{length-take-le, length-map}
use Rattle.hfs_scripts.specs.declared.lines.ScriptLine.{ScriptLine}
use Rattle.hfs_runs.specs.declared.numbering.Asked.{Asked}
use Rattle.hfs_runs.specs.Asking.{IsSmall, times}
use Rattle.hfs_runs.proofs.Counting.{none_counted, caller_at, numbered_more, counted_more, times_within}
use Rattle.hfs_runs.proofs.numbering.number_lines.Goals as goal

pub loop-line-init : goal.loop-line-init
loop-line-init c = record {
  many = ap length c.new-numbered.ensures.items;
  each = λ place none nothing below. absurd (omega arith);
  counts = λ caller small. none_counted caller;
}

pub count_call-number-requires-clause-room : goal.count_call-number-requires-clause-room
count_call-number-requires-clause-room c =
    let i = c.loop-line.line-index in
    let lines = c.args.lines.now in
    let callers = map (λ (line : ScriptLine). line.caller) lines in
    let line = c.line-item.result in
    let small : IsSmall line.caller = subst (λ (l : ScriptLine). IsSmall l.caller) (sym c.line-item.is) (c.requires i line c.loop-line-test.true) in
    let most : times line.caller (take i callers) ≤ i =
    subst (λ (n : ℕ). times line.caller (take i callers) ≤ n) (length-take-le i callers (omega (arith, length-map lines (λ (line : ScriptLine). line.caller), c.loop-line-test.true))) (times_within line.caller (take i callers)) in
    let room : i < 9223372036854775808 = omega (arith, c.loop-line.invariant.many, c.loop-line.numbered.ok, c.loop-line.numbered.small) in
    subst (λ (n : ℕ). n < 9223372036854775808) (sym (c.loop-line.invariant.counts line.caller small)) (omega (arith, most, room))

pub loop-line-preserved : goal.loop-line-preserved
loop-line-preserved c =
    let i = c.loop-line.line-index in
    let lines = c.args.lines.now in
    let callers = map (λ (line : ScriptLine). line.caller) lines in
    let line = c.line-item.result in
    let below : i < length callers = omega (arith, length-map lines (λ (line : ScriptLine). line.caller), c.loop-line-test.true) in
    let at = caller_at lines i line c.loop-line-test.true c.line-item.is in
    let small : IsSmall line.caller = subst (λ (l : ScriptLine). IsSmall l.caller) (sym c.line-item.is) (c.requires i line c.loop-line-test.true) in
    let items = c.in_ok-push.ensures.items in
    let before = c.loop-line.invariant.counts line.caller small in
    record {
      many = ap length items ∙ length-append c.loop-line.numbered.items _ ∙ omega (arith, c.loop-line.invariant.many);
      each = λ place none nothing within.
          ap (λ (l : List Asked). get_or l place nothing) items
          ∙ numbered_more callers c.loop-line.numbered.items i line.caller c.count_call-number.result below c.loop-line.invariant.many at (c.count_call-number.ensures.number ∙ ap (λ (n : ℕ). n + 1) before)
          c.loop-line.invariant.each place none nothing within;
      counts = λ caller small.
          counted_more c.loop-line.workers c.loop-line.viewers c.count_call-number.new.workers c.count_call-number.new.viewers callers i line.caller caller below (at line.caller)
          c.count_call-number.ensures.counts (c.loop-line.invariant.counts caller small);
    }

pub returns : goal.returns
returns c =
    let long = length-map c.args.lines.now (λ (line : ScriptLine). line.caller) in
    let same : c.loop-line.line-index ≡ length c.args.lines.now = omega (arith, c.loop-line-test.false, c.loop-line.auto.line-index-end) in
    record {
      many = c.loop-line.invariant.many ∙ same ∙ sym long;
      each = λ place none nothing below. c.loop-line.invariant.each place none nothing (omega (arith, below, long, same));
    }
