use Rattle.std.proofs.Common.{◌≡◌, ℕ, ◌++◌, List, [], length, take, drop, sym, ap, subst, arith}
use Rattle.std.proofs.lemmas.List.{take_at}
use Rattle.hfs_remains_forks.specs.Owners.{CountOwners}
use Rattle.hfs_remains_forks.specs.Verdicts.{all_used}
use Rattle.hfs_remains_forks.proofs.salvage.owners_of.Goals as goal

pub returns-clause-owners : goal.returns-clause-owners
returns-clause-owners c =
    let was = c.deref_mut.ensures.value in
    let old = c.in_ok-owners.owners in
    let new = c.own_all.new.owners in
    let adds = c.in_ok-own_all.ensures in
    let long : length new ≡ old.len = omega (arith, adds.same, ap (λ (l : List ℕ). length l) was, old.ok.0) in
    let whole : take old.len (new ++ drop (length new) old.items) ≡ new = take_at new (drop (length new) old.items) old.len long in
    let used = all_used c.args.trees.now c.args.young c.args.shares.now in
    subst (λ (l : List ℕ). CountOwners used l) (sym whole) (adds.more [] (subst (λ (l : List ℕ). CountOwners [] l) (sym was) c.in_ok-owners.ensures.none))
