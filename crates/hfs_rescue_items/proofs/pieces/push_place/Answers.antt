-- Its first bytes are those of the logical block in which it begins, and are in reach where it is.
use Rattle.std.proofs.Common.{true, ◌≡◌, ◌∙◌, ◌++◌, ℕ, List, OnOk, Option, ap, subst}
use Rattle.hfs_bag.specs.Forks.{first_bytes, pieces_bytes}
use Rattle.hfs_fields.proofs.OutcomeLemmas.{if_err}
use Rattle.hfs_rescue_items.specs.Faults.{IsInReach, IsRunInReach, WantsMemory}
use Rattle.hfs_rescue_items.proofs.PieceLemmas.{place_first}
use Rattle.hfs_rescue_items.proofs.ReachLemmas.{place_reach}
use Rattle.hfs_rescue_items.proofs.pieces.push_place.Goals as goal

pub returns-clause-bytes : goal.returns-clause-bytes
returns-clause-bytes c image =
    subst (λ (bytes : List ℕ). OnOk c.push_run.result (pieces_bytes true image c.push_run.new.pieces.items ≡ pieces_bytes true image c.args.pieces.now.items ++ bytes))
    (ap (λ (first : Option ℕ). first_bytes true image first c.args.count) c.in_ok-first.ensures.first ∙ place_first image c.args.mdb.now c.args.place c.args.count c.requires)
    (c.push_run.ensures.bytes image)

pub returns-clause-fault : goal.returns-clause-fault
returns-clause-fault c =
    let mdb = c.args.mdb.now in
    if_err c.push_run.result (λ fault. IsRunInReach c.in_ok-first.first c.args.count → WantsMemory fault) (λ fault. IsInReach mdb c.args.place → WantsMemory fault)
    (λ fault is reach. is (place_reach mdb c.args.place c.in_ok-first.first c.args.count c.in_ok-first.ensures.first c.requires reach)) c.push_run.ensures.fault
