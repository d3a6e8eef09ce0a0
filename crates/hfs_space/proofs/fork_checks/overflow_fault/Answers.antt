-- A record is right by its mark.
use Rattle.std.proofs.Common.{sym, ap, ◌∙◌}
use Rattle.hfs_space.specs.Owners.{goes_on_with}
use Rattle.hfs_space.specs.Runs.{forks_with}
use Rattle.hfs_space.specs.Faults.{is_overflow_right}
use Rattle.hfs_space.proofs.ForkFaults.{record-right}
use Rattle.hfs_fields.proofs.ScanStepLemmas.{scan_stop, scan_go}
use Rattle.hfs_space.proofs.fork_checks.overflow_fault.Goals as goal

pub returns-then-not-is_record_right-clause-fault : goal.returns-then-not-is_record_right-clause-fault
returns-then-not-is_record_right-clause-fault c =
    let xs = c.args.overflow.now in
    let forks = forks_with c.args.mdb.now c.args.files.now in
    let r = c.index-overflow-i.result in
    let used = c.index.ensures ∙ c.in_ok-used.ensures.marks c.loop-i.i r c.index.result.now c.loop-i-test.true ∙ ap (goes_on_with xs forks) (sym c.index-overflow-i.is) in
    let wrong = record-right c.args.mdb.now xs forks r c.index.result.now c.is_record_right.result used c.is_record_right.ensures ∙ c.if-not-is_record_right.true in
    sym (scan_stop (λ _ q. is_overflow_right c.args.mdb.now xs forks q) xs c.loop-i.i r c.loop-i-test.true c.index-overflow-i.is wrong) ∙ c.loop-i.invariant

pub loop-i-preserved : goal.loop-i-preserved
loop-i-preserved c =
    let xs = c.args.overflow.now in
    let forks = forks_with c.args.mdb.now c.args.files.now in
    let r = c.index-overflow-i.result in
    let used = c.index.ensures ∙ c.in_ok-used.ensures.marks c.loop-i.i r c.index.result.now c.loop-i-test.true ∙ ap (goes_on_with xs forks) (sym c.index-overflow-i.is) in
    let right = record-right c.args.mdb.now xs forks r c.index.result.now c.is_record_right.result used c.is_record_right.ensures ∙ c.if-not-is_record_right.false in
    sym (scan_go (λ _ q. is_overflow_right c.args.mdb.now xs forks q) xs c.loop-i.i r c.loop-i-test.true c.index-overflow-i.is right) ∙ c.loop-i.invariant
