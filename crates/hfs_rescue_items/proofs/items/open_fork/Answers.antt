-- What is begun are the bytes of the fork that is found, whose blocks are in reach.
use Rattle.std.proofs.Common.{IfErr, Option, rules, true, subst}
use Rattle.std.specs.Prelude.{IfSome}
use Rattle.hfs_fields.proofs.OutcomeLemmas.{if_err}
use Rattle.hfs_remains_forks.specs.declared.findings.FoundFork.{FoundFork}
use Rattle.hfs_rescue_items.specs.Bytes.{GivesBytes}
use Rattle.hfs_rescue_items.specs.Faults.{AreInReach, FailsToOpenFork, IsForkInReach, WantsMemory}
use Rattle.hfs_rescue_items.specs.Sources.{part_bytes}
use Rattle.hfs_rescue_items.proofs.SourceLemmas.{fork_begun, none_begun}
use Rattle.hfs_rescue_items.proofs.items.open_fork.Goals as goal

pub returns-in_ok-reading-in-Some-clause-begun : goal.returns-in_ok-reading-in-Some-clause-begun
returns-in_ok-reading-in-Some-clause-begun c image =
    let bytes = part_bytes image c.args.found.now c.args.kind c.args.planned in
    fork_begun image c.args.found.now bytes _ c.in-Some.fork (subst (GivesBytes image c.args.found.now bytes) c.in-Some.is (c.in-Ok.ensures.bytes image)) (c.in_ok-reading-in-Some.ensures.begun image)

pub returns-in-None-clause-begun : goal.returns-in-None-clause-begun
returns-in-None-clause-begun c image =
    let bytes = part_bytes image c.args.found.now c.args.kind c.args.planned in
    none_begun image c.args.found.now bytes _ (subst (GivesBytes image c.args.found.now bytes) c.in-None.is (c.in-Ok.ensures.bytes image)) (c.empty.ensures.rest true image)

pub returns-in_err-reading-in-Some-clause-fault : goal.returns-in_err-reading-in-Some-clause-fault
returns-in_err-reading-in-Some-clause-fault c =
    let found = c.args.found.now in
    let reach : IsForkInReach found c.in-Some.fork = subst (λ (part : Option FoundFork). IfSome part (IsForkInReach found)) c.in-Some.is c.in-Ok.ensures.reach in
    let told : IfErr c.begin_fork.result (FailsToOpenFork found) =
    if_err c.begin_fork.result (λ fault. AreInReach found.mdb.now c.in-Some.fork.places.items → WantsMemory fault) (FailsToOpenFork found)
    (λ fault is few. is (reach few)) c.begin_fork.ensures.fault in
    search rules
