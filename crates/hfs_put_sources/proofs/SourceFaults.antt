-- Faults of sources.
use Rattle.std.proofs.Common.{inl, inr, ⊎_elim, ℕ, zero, suc, ◌<◌, Bor, List, [], ◌∷◌, length, map, get_or, refl, arith}
use Rattle.std.specs.Prelude.{Contains}
use Rattle.hfs_put_sources.specs.Faults.{FailLater, IsAbsentSource, IsFaultOf, IsListingFault, IsSourceFault}
use Rattle.hfs_put_sources.specs.Trees.{Tree}
use Rattle.hfs_put_sources.specs.declared.fault.HostFault.{HostFault}

-- the source at a place is one of them
source-there : (sources : List (Bor (List ℕ))) (place : ℕ) (d : Bor (List ℕ)) → place < length sources
    → Contains (map (λ (source : Bor (List ℕ)). source.now) sources) (get_or sources place d).now
source-there [] place d lt = absurd (omega (arith, lt))
source-there (s ∷ ss) zero d lt = (0, omega arith, refl)
source-there (s ∷ ss) (suc n) d lt = let there = source-there ss n d (omega (arith, lt)) in (suc there.0, omega (arith, there.1), there.2)

module _ (Fails : HostFault → Type 0) (Hosts : Tree → Type 0) (fault : HostFault) where
  -- that of one of them
  pub one_of_some : (sources : List (List ℕ)) (source : List ℕ) → Contains sources source → IsSourceFault Fails Hosts source fault → IsListingFault Fails Hosts sources fault
  one_of_some sources source there = ⊎_elim
      (λ (of : IsFaultOf Fails fault). inl of)
      (λ (absent : IsAbsentSource Hosts source fault). inr (source, there, absent))

  -- of one alone
  pub of_one : (source : List ℕ) → IsSourceFault Fails Hosts source fault → IsListingFault Fails Hosts (source ∷ []) fault
  of_one source = one_of_some (source ∷ []) source (0, omega arith, refl)

  -- where a tree may fail so, it might before
  pub source_before : (Later : HostFault → Type 0) (source : List ℕ) → FailLater Later Fails → IsSourceFault Later Hosts source fault → IsSourceFault Fails Hosts source fault
  source_before Later source later = ⊎_elim
      (λ (of : IsFaultOf Later fault). inl (λ other. later fault (of other)))
      (λ (absent : IsAbsentSource Hosts source fault). inr absent)

  pub listing_before : (Later : HostFault → Type 0) (sources : List (List ℕ)) → FailLater Later Fails → IsListingFault Later Hosts sources fault
      → IsListingFault Fails Hosts sources fault
  listing_before Later sources later = ⊎_elim
      (λ (of : IsFaultOf Later fault). inl (λ other. later fault (of other)))
      (λ (absent : (source : List ℕ) × Contains sources source × IsAbsentSource Hosts source fault). inr absent)

  -- that of the source at a place, of what was left of the tree
  pub one_at : (Later : HostFault → Type 0) (sources : List (Bor (List ℕ))) (place : ℕ) (d : Bor (List ℕ)) → place < length sources → FailLater Later Fails
      → IsSourceFault Later Hosts (get_or sources place d).now fault → IsListingFault Fails Hosts (map (λ (source : Bor (List ℕ)). source.now) sources) fault
  one_at Later sources place d lt later is =
      one_of_some (map (λ (source : Bor (List ℕ)). source.now) sources) (get_or sources place d).now (source-there sources place d lt)
      (source_before Later (get_or sources place d).now later is)
