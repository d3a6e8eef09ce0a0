use Rattle.std.proofs.Common.{◌∷◌, [], ◌<◌, ◌+◌, ℕ, Option, length, min, set, sym, subst, ◌∙◌}
use Rattle.std.specs.Option.{IfSome}
use Rattle.hfs_remains_forks.specs.Owners.{count_at, AddsOwners}
use Rattle.hfs_remains_forks.proofs.OwnerLemmas.{add-some}
use Rattle.hfs_remains_forks.proofs.owners.add_owner.Goals as goal

pub returns-in-Some : goal.returns-in-Some
returns-in-Some c =
    let counts = c.args.counts.now in
    let new = set counts c.from-i.result c.one_more.result in
    let within = subst (λ (o : Option ℕ). IfSome o (λ b. b < length counts)) c.in-Some.is c.requires in
    subst (λ (o : Option ℕ). AddsOwners (o ∷ []) counts new) (sym c.in-Some.is)
    (add-some counts new c.in-Some.b within
    ((λ t. set counts (c.from-i.ensures t) (c.one_more.ensures t)) ∙ (λ t. set counts c.in-Some.b (min 2 (count_at counts (c.from-i.ensures t) + 1)))))
