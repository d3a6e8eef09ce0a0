-- A file's fault comes first, and then that of a record of the extents tree.
use Rattle.std.proofs.Common.{ℕ, ◌+◌, length, Some, refl, sym, ap, ◌∙◌}
use Rattle.std.specs.Option.{option_map}
use Rattle.hfs_space.specs.Extents.{Overflow}
use Rattle.hfs_space.specs.TreeKeys.{overflow_of}
use Rattle.hfs_space.specs.Runs.{forks_with, first_wrong_file}
use Rattle.hfs_space.specs.Faults.{overflow_fault}
use Rattle.hfs_space.proofs.ForkFaults.{fault-file, fault-overflow}
use Rattle.hfs_space.proofs.fork_checks.fork_fault.Goals as goal

pub returns-then-is_some : goal.returns-then-is_some
returns-then-is_some g c =
    λ catalog are counted.
    let overflow = overflow_of (g.N.Nodes.nodes c.args.tree.now) in
    let wrong = c.in_ok-wrong.ensures ∙ ap (λ (xs : Overflow). first_wrong_file c.args.mdb.now xs c.args.files.now) (c.deref.ensures.value ∙ c.in_ok-overflow.ensures) in
    fault-file c.args.mdb.now overflow c.args.files.now catalog are c.in_ok-wrong.wrong (overflow_fault c.args.mdb.now overflow (forks_with c.args.mdb.now c.args.files.now)) wrong refl
    (sym c.is_some.ensures ∙ c.if-is_some.true)

pub returns-in-Some : goal.returns-in-Some
returns-in-Some g c =
    λ catalog are counted.
    let overflow = overflow_of (g.N.Nodes.nodes c.args.tree.now) in
    let wrong = c.in_ok-wrong.ensures ∙ ap (λ (xs : Overflow). first_wrong_file c.args.mdb.now xs c.args.files.now) (c.deref.ensures.value ∙ c.in_ok-overflow.ensures) in
    let found = c.in_ok-i.ensures.fault ∙ ap (λ (xs : Overflow). overflow_fault c.args.mdb.now xs (forks_with c.args.mdb.now c.args.files.now)) (c.deref-2.ensures.value ∙ c.in_ok-overflow.ensures) in
    let fault = fault-overflow c.args.mdb.now overflow c.args.files.now catalog are c.in_ok-wrong.wrong c.in_ok-i.field-0 wrong found (sym c.is_some.ensures ∙ c.if-is_some.false) in
    sym (fault ∙ ap (option_map (λ (i : ℕ). length catalog + i)) c.in-Some.is ∙ ap (λ (n : ℕ). Some (n + c.in-Some.i)) (sym counted))

pub returns : goal.returns
returns g c =
    λ catalog are counted.
    let overflow = overflow_of (g.N.Nodes.nodes c.args.tree.now) in
    let wrong = c.in_ok-wrong.ensures ∙ ap (λ (xs : Overflow). first_wrong_file c.args.mdb.now xs c.args.files.now) (c.deref.ensures.value ∙ c.in_ok-overflow.ensures) in
    let found = c.in_ok-i.ensures.fault ∙ ap (λ (xs : Overflow). overflow_fault c.args.mdb.now xs (forks_with c.args.mdb.now c.args.files.now)) (c.deref-2.ensures.value ∙ c.in_ok-overflow.ensures) in
    let fault = fault-overflow c.args.mdb.now overflow c.args.files.now catalog are c.in_ok-wrong.wrong c.in_ok-i.field-0 wrong found (sym c.is_some.ensures ∙ c.if-is_some.false) in
    sym (fault ∙ ap (option_map (λ (i : ℕ). length catalog + i)) c.in-None.is)
