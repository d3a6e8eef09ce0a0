-- Entry by entry.
use Rattle.std.proofs.Common.{◌≡◌, ◌∙◌, ◌++◌, false, true, ap, rules}
use Rattle.std.specs.Option.{option_to_list}
use Rattle.hfs_source.specs.PartitionMap.{begins_pm}
use Rattle.hfs_source.proofs.Entries.{entry_more, entry_none, entries_end}
use Rattle.hfs_source.proofs.partition_map.push_entries.Goals as goal

pub returns-then-not-begins_pm-clause-found : goal.returns-then-not-begins_pm-clause-found
returns-then-not-begins_pm-clause-found g c = λ file h.
    let is : begins_pm c.in_ok-entry.entry ≡ false = search rules in
    entry_none c.args.block c.args.len c.args.count file c.loop-n.n c.loop-n-test.true c.in_ok-entry.entry (c.in_ok-entry.ensures.bytes file h) is c.loop-n.found.items _
    (c.loop-n.invariant.found file (c.in_ok-entry.ensures.held file h))

pub loop-n-preserved : goal.loop-n-preserved
loop-n-preserved g c =
    let is : begins_pm c.in_ok-entry.entry ≡ true = search rules in
    record {
      found = λ file h. entry_more c.args.block c.args.len c.args.count file c.loop-n.n c.loop-n-test.true c.in_ok-entry.entry (c.in_ok-entry.ensures.bytes file h) is
          c.loop-n.found.items c.push_found.new.found.items _ (c.in_ok-push_found.ensures ∙ ap (λ o. c.loop-n.found.items ++ option_to_list o) c.partition_of.ensures)
          (c.loop-n.invariant.found file (c.in_ok-entry.ensures.held file h));
      held = λ file h. c.loop-n.invariant.held file (c.in_ok-entry.ensures.held file h);
      later = λ place count fails. c.loop-n.invariant.later place count (c.in_ok-entry.ensures.later place count fails);
    }

pub returns-clause-found : goal.returns-clause-found
returns-clause-found g c = λ file h.
    entries_end c.args.block c.args.len c.args.count file c.loop-n.n c.loop-n-test.false c.loop-n.found.items _ (c.loop-n.invariant.found file h)
