-- Faults of a second look.
use Rattle.std.proofs.Common.{inl, inr, ⊎_elim}
use Rattle.hfs_put_sources.specs.Faults.{FailLater, IsFaultOf}
use Rattle.hfs_put_sources.specs.Trees.{OfEachTree, Tree}
use Rattle.hfs_put_sources.specs.declared.fault.HostFault.{HostFault}
use Rattle.hfs_put.specs.Again.{IsFaultUnless}

-- where one thing isn't so, another isn't that it follows from
pub unless_more : (Later Before : HostFault → Type 0) (Hosts Fact More : Tree → Type 0) (fault : HostFault) → FailLater Later Before → ((host : Tree) → More host → Fact host)
    → IsFaultUnless Later Hosts Fact fault → IsFaultUnless Before Hosts More fault
unless_more Later Before Hosts Fact More fault later fewer = ⊎_elim
    (λ (of : IsFaultOf Later fault). inl (λ other. later fault (of other)))
    (λ (none : OfEachTree Hosts (λ host. Fact host → ⊥)). inr (λ host h more. none host h (fewer host more)))
