use Rattle.std.proofs.Common.{ℕ, ◌+◌, ◌++◌, List, String, Global, length, map, take, drop, ap, ◌∙◌, arith}
use Rattle.std.specs.Prelude.{string_bytes}
use Rattle.std.proofs.lemmas.List.{length_push}
use Rattle.hfs_remains_places.specs.Entries.{entries_behind}
use Rattle.hfs_remains_places.proofs.EntryLemmas.{entries-step, entries-done}
use Rattle.hfs_remains_places.proofs.entries.entries_of.Goals as goal

pub loop-place-preserved : goal.loop-place-preserved
loop-place-preserved c =
    let things = c.args.things.now in
    let place = c.loop-place.place in
    record {
      made =
          ap (λ (l : List (String Global)). map string_bytes l ++ entries_behind (take (place + 1) things) (drop (place + 1) things)) c.in_ok-push.ensures.items
          ∙ entries-step things c.loop-place.entries.items c.in_ok-entry.entry place c.loop-place-test.true c.in_ok-entry.ensures.entry c.loop-place.invariant.made;
      few = ap (λ (l : List (String Global)). length l) c.in_ok-push.ensures.items ∙ length_push c.loop-place.entries.items c.in_ok-entry.entry ∙ omega (arith, c.loop-place.invariant.few);
      known = c.in_ok-entry.ensures.known;
    }

pub returns-clause-entries : goal.returns-clause-entries
returns-clause-entries c = entries-done c.args.things.now c.loop-place.entries.items c.loop-place.place (omega arith) c.loop-place.invariant.made
