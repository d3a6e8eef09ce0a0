-- What comes into a new volume, as far as a host tells it.
use Rattle.std.specs.Prelude.{ℕ, List}
use Rattle.hfs_put_sources.specs.Digests.{AreDigestsOf}
use Rattle.hfs_put_sources.specs.Later.{Entries, told_at}
use Rattle.hfs_put_sources.specs.Told.{AreFactsOf}
use Rattle.hfs_word_make.specs.Lists.{IsNewList}
use Rattle.hfs_put_plan.specs.declared.facts.ToldFacts.{ToldFacts}
use Rattle.hfs_put_sources.specs.Items.{PlannedItem}
use Rattle.hfs_put_sources.specs.Trees.{Tree}
use Rattle.hfs_word_make.specs.declared.order.MakeOrder.{MakeOrder}
use Rattle.hfs_word_make.specs.Orders.{sources_of}

-- these items are to come, with what bags tell of them, and these digests are told of their files
pub record IsNewListed (order : MakeOrder) (items : List PlannedItem) (digests : Entries (List ℕ)) (host : Tree) : Type 0 where
  pub facts : Entries ToldFacts
  pub facts_are : AreFactsOf (sources_of order) facts host
  pub listing : IsNewList host (told_at facts) order.how (sources_of order) items
  pub digests_are : AreDigestsOf (sources_of order) digests host
