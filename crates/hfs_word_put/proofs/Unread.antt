-- Faults of a tree that it had before, too.
use Rattle.std.proofs.Common.{inl, inr, ⊎_elim, ℕ, List}
use Rattle.hfs_put_sources.specs.Faults.{FailLater, IsFaultOf, IsListingFault}
use Rattle.hfs_put_sources.specs.Items.{PlannedItem}
use Rattle.hfs_put_sources.specs.Later.{Entries}
use Rattle.hfs_put_sources.specs.Trees.{OfEachTree, Tree}
use Rattle.hfs_put_sources.specs.declared.fault.HostFault.{HostFault}
use Rattle.hfs_put_sources.proofs.SourceFaults.{listing_before}
use Rattle.hfs_word_put.specs.Listed.{IsUnlisted, IsUnverified, TellsDigest}
use Rattle.hfs_word_put.specs.declared.fault.PutFault.{PutFault}

-- what can't be looked at then couldn't be before
pub unlisted_before : (Later Before : HostFault → Type 0) (Hosts : Tree → Type 0) (sources : List (List ℕ)) (told : PutFault) → FailLater Later Before
    → IsUnlisted (IsListingFault Later Hosts sources) told → IsUnlisted (IsListingFault Before Hosts sources) told
unlisted_before Later Before Hosts sources told later is = (is.0, listing_before Before Hosts is.0 Later sources later is.1, is.2)

pub unverified-before : (Later Before : HostFault → Type 0) (Hosts : Tree → Type 0) (digests : Entries (List ℕ)) (items : List PlannedItem) (told : PutFault)
    → FailLater Later Before → IsUnverified Later Hosts digests items told → IsUnverified Before Hosts digests items told
unverified-before Later Before Hosts digests items told later = ⊎_elim
    (λ (unlisted : IsUnlisted (IsFaultOf Later) told). inl (unlisted.0, λ other. later unlisted.0 (unlisted.1 other), unlisted.2))
    (λ (wrong : OfEachTree Hosts (TellsDigest digests items told)). inr wrong)
