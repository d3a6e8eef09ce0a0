use Rattle.std.proofs.Common.{ℕ, Bool, true, false, not, List, sym, ap, subst}
use Rattle.hfs_remains_forks.specs.Owners.{CountOwners}
use Rattle.hfs_remains_forks.specs.Verdicts.{Salvaged, all_used}
use Rattle.hfs_remains_forks.proofs.salvage.Salvage.owners_for.Goals as goal

pub returns-then-old-clause-owners : goal.returns-then-old-clause-owners
returns-then-old-clause-owners c =
    let s = c.args.self.now in
    let counts = c.self.inside.all.items in
    subst (λ (l : List ℕ). CountOwners (all_used s.trees (not c.args.old) s.shares) l) (sym c.deref.ensures.value)
    (subst (λ (b : Bool). CountOwners (all_used s.trees b s.shares) counts) (sym (ap not c.if-old.true))
    (subst (λ (x : Salvaged). CountOwners (all_used x.trees false x.shares) counts) c.self.view_is c.self.invariant.all_are))

pub returns-else-old-clause-owners : goal.returns-else-old-clause-owners
returns-else-old-clause-owners c =
    let s = c.args.self.now in
    let counts = c.self.inside.young.items in
    subst (λ (l : List ℕ). CountOwners (all_used s.trees (not c.args.old) s.shares) l) (sym c.deref-else-old.ensures.value)
    (subst (λ (b : Bool). CountOwners (all_used s.trees b s.shares) counts) (sym (ap not c.if-old.false))
    (subst (λ (x : Salvaged). CountOwners (all_used x.trees true x.shares) counts) c.self.view_is c.self.invariant.young_are))
