-- The part of the run that is read.
use Rattle.std.proofs.Common.{rules, ◌≡◌, ◌∙◌, ◌+◌, length, replicate, refl, sym, Some, None}
use Rattle.std.specs.Prelude.{slice_get}
use Rattle.std.proofs.lemmas.Bool.{ltb-false, ltb-true}
use Rattle.std.proofs.lemmas.Option.{slice_get_past, slice_get_read}
use Rattle.std.proofs.lemmas.Result.{on_ok_weaker}
use Rattle.hfs_put.proofs.FilledLemmas.{filled-nil, run-part}
use Rattle.hfs_put.proofs.fork.read_run.Goals as goal

pub returns-in-Some-clause-read : goal.returns-in-Some-clause-read
returns-in-Some-clause-read g c =
    let items = c.args.items.now in
    let place = c.args.run.now.item in
    let found : slice_get items place ≡ Some c.in-Some.item.now =
    slice_get_read items (length items) place c.in-Some.item.now refl (ltb-true place (length items) (sym c.in-Some.ensures.lookup.0)) c.in-Some.ensures.lookup.1 in
    on_ok_weaker c.read_fork.result (λ read host held.
    run-part host c.args.items.now c.args.run.now (Some c.in-Some.item.now) c.args.from (length c.args.into.now) c.read_fork.new.into found c.requires (read host held))
    c.read_fork.ensures.read

pub returns-in-None-clause-read : goal.returns-in-None-clause-read
returns-in-None-clause-read g c =
    let zeros : c.fill.new.self ≡ replicate (length c.args.into.now) 0 = search rules in
    let items = c.args.items.now in
    let place = c.args.run.now.item in
    let none : slice_get items place ≡ None = slice_get_past items place (ltb-false place (length items) (sym c.in-None.ensures.lookup.0)) in
    λ host held.
    run-part host c.args.items.now c.args.run.now None c.args.from (length c.args.into.now) c.fill.new.self none c.requires
    (zeros ∙ filled-nil (length c.args.into.now) (c.args.run.now.offset + c.args.from))
