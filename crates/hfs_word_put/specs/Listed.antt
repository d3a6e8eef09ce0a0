-- What comes, as far as a host tells it.
use Rattle.std.specs.Prelude.{◌≡◌, ◌⊎◌, ℕ, List, Some}
use Rattle.hfs_put_sources.specs.Digests.{AreDigestsOf, first_wrong}
use Rattle.hfs_put_sources.specs.Later.{Entries, told_at}
use Rattle.hfs_put_sources.specs.Told.{AreFactsOf}
use Rattle.hfs_put_plan.specs.declared.facts.ToldFacts.{ToldFacts}
use Rattle.hfs_put_sources.specs.declared.fault.HostFault.{HostFault}
use Rattle.hfs_put_sources.specs.Faults.{IsFaultOf}
use Rattle.hfs_put_sources.specs.Items.{PlannedItem}
use Rattle.hfs_put_sources.specs.Sources.{IsListing}
use Rattle.hfs_put_sources.specs.Trees.{OfEachTree, Tree}
use Rattle.hfs_word_put.specs.declared.fault.PutFault.{PutFault}
use Rattle.hfs_word_put.specs.declared.order.PutOrder.{PutOrder}
use Rattle.hfs_word_put.specs.declared.reason.PutReason.TheVariants.{Digest}
use Rattle.hfs_word_put.specs.Faults.{IsHostFault, TellsBy}
use Rattle.hfs_word_put.specs.Lines.{refusal_line}
use Rattle.hfs_word_put.specs.Orders.{sources_of}

-- these items are to come, with what bags tell of them, and these digests are told of their files
pub record IsListed (order : PutOrder) (items : List PlannedItem) (digests : Entries (List ℕ)) (host : Tree) : Type 0 where
  pub facts : Entries ToldFacts
  pub facts_are : AreFactsOf (sources_of order) facts host
  pub listing : IsListing host (told_at facts) order.how (sources_of order) items
  pub digests_are : AreDigestsOf (sources_of order) digests host

-- what comes can't be looked at, for one of these faults
abbrev pub IsUnlisted : (HostFault → Type 0) → PutFault → Type 0
IsUnlisted Faults told = (why : HostFault) × Faults why × IsHostFault why told

-- the first file that has another digest than its bag tells is told
pub record TellsDigest (digests : Entries (List ℕ)) (items : List PlannedItem) (told : PutFault) (host : Tree) : Type 0 where
  pub path : List ℕ
  pub first : first_wrong host (told_at digests) items ≡ Some path
  pub line : TellsBy (refusal_line path Digest) told

-- so in each of these trees; or a file can't be read, where reading it may fail so
abbrev pub IsUnverified : (HostFault → Type 0) → (Tree → Type 0) → Entries (List ℕ) → List PlannedItem → PutFault → Type 0
IsUnverified Fails Hosts digests items told = IsUnlisted (IsFaultOf Fails) told ⊎ OfEachTree Hosts (TellsDigest digests items told)
