-- The items are those that are kept.
use Rattle.std.proofs.Common.{List, subst}
use Rattle.std.specs.Prelude.{OnOk}
use Rattle.hfs_put_sources.specs.Items.{PlannedItem}
use Rattle.hfs_put_sources.specs.Trees.{OfEachTree}
use Rattle.hfs_put.specs.Again.{AreUnchanged}
use Rattle.hfs_put.proofs.laid.LaidForks.look_again.Goals as goal

pub returns-clause-same : goal.returns-clause-same
returns-clause-same g c =
    subst (λ (items : List PlannedItem). OnOk c.look_again.result (OfEachTree (g.H.PlacedFiles.Holds c.look_again.new.self) (AreUnchanged items)))
    c.deref.ensures.value c.look_again.ensures.same
