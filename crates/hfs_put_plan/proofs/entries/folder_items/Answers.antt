-- No entry is left.
use Rattle.std.proofs.Common.{drop, arith}
use Rattle.std.proofs.lemmas.List.{length-drop}
use Rattle.hfs_put_plan.specs.Entries.{items_from}
use Rattle.hfs_put_plan.proofs.ItemLemmas.{items-done}
use Rattle.hfs_put_plan.proofs.entries.folder_items.Goals as goal

pub returns : goal.returns
returns c =
    items-done c.loop-place.items.items c.loop-place.place (drop c.loop-place.place c.args.entries.now) (items_from 0 c.args.entries.now)
    (omega (arith, length-drop c.loop-place.place c.args.entries.now, c.loop-place-test.false)) c.loop-place.invariant.made
