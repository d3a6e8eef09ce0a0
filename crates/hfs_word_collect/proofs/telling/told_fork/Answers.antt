-- By the fork that was found, or by none.
use Rattle.std.proofs.Common.{◌≡◌, None, Some, refl, subst}
use Rattle.hfs_remains_forks.specs.Verdicts.{FindsFork, shares_at}
use Rattle.hfs_word_collect.proofs.ForkTelling.{told_found, told_none}
use Rattle.hfs_word_collect.proofs.telling.told_fork.Goals as goal

pub returns-in_ok-told-in-Some-clause-told : goal.returns-in_ok-told-in-Some-clause-told
returns-in_ok-told-in-Some-clause-told g c =
    let found = c.args.found.now in
    let there : FindsFork found.salvage.now c.args.i c.args.kind (Some c.in-Some.fork) = subst (FindsFork found.salvage.now c.args.i c.args.kind) c.in-Some.is c.in_ok-fork.ensures.found in
    λ image h. told_found c.args.taken image found c.args.kind c.in-Some.fork c.in_ok-told-in-Some.told (shares_at found.salvage.now c.args.i) there
    (c.in_ok-told-in-Some.ensures.told image h)

pub returns-in-None-clause-told : goal.returns-in-None-clause-told
returns-in-None-clause-told g c =
    let found = c.args.found.now in
    let none : shares_at found.salvage.now c.args.i ≡ None = subst (FindsFork found.salvage.now c.args.i c.args.kind) c.in-None.is c.in_ok-fork.ensures.found in
    λ image h. told_none c.args.taken image found c.args.kind _ (shares_at found.salvage.now c.args.i) none refl
