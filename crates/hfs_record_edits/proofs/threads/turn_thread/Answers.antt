use Rattle.std.proofs.Common.{◌∙◌, ◌≡◌, List, ℕ, sym, ap, subst}
use Rattle.std.specs.Bool.{IsTrue}
use Rattle.hfs_fields.proofs.OutcomeLemmas.{on_ok}
use Rattle.hfs_fields.specs.Records.{begins_thread, thread_record_of}
use Rattle.hfs_fields.specs.declared.thread_record.ThreadRecord.{ThreadRecord}
use Rattle.hfs_record_edits.proofs.ThreadEdits.{none_turned, thread_begins, thread_no_longer, thread_turned}
use Rattle.hfs_record_edits.proofs.threads.turn_thread.Goals as goal

pub returns-in_default-clause-turned : goal.returns-in_default-clause-turned
returns-in_default-clause-turned g c =
    let old = g.N.Nodes.nodes c.args.nodes.now in
    let found = sym c.in_ok-body.ensures in
    none_turned c.args.id c.thread_key-key.result c.thread_key-key.ensures old c.requires.tree c.requires.records c.args.to.now (rw c.in_default.is at found)

pub unreachable-requires : goal.unreachable-requires
unreachable-requires g c =
    let old = g.N.Nodes.nodes c.args.nodes.now in
    let found = sym c.in_ok-body.ensures in
    c.in_default-read.ensures
    (subst (λ (b : List ℕ). IsTrue (begins_thread b)) (sym c.deref.ensures.value)
    (thread_begins c.args.id c.thread_key-key.result c.thread_key-key.ensures old c.requires.tree c.requires.records c.in-Some.body.items (rw c.in-Some.is at found) c.requires.threads))

pub set-requires-clause-there : goal.set-requires-clause-there
set-requires-clause-there g c =
    let old = g.N.Nodes.nodes c.args.nodes.now in
    let found = sym c.in_ok-body.ensures in
    thread_no_longer c.args.id c.thread_key-key.result c.thread_key-key.ensures old c.requires.tree c.requires.records c.in-Some.body.items (rw c.in-Some.is at found)
    _ _ c.thread_body.ensures.bytes c.thread_body.ensures.value

pub returns-clause-turned : goal.returns-clause-turned
returns-clause-turned g c =
    let old = g.N.Nodes.nodes c.args.nodes.now in
    let found = sym c.in_ok-body.ensures in
    let read : c.in-Some-read.thread ≡ thread_record_of c.in-Some.body.items = c.in-Some-read.ensures.1 ∙ ap thread_record_of c.deref.ensures.value in
    let is = ap (λ (t : ThreadRecord). record t { parent = c.args.to.now.parent; name = c.args.to.now.name }) read in
    on_ok c.set.result _ _
    (thread_turned c.args.id c.thread_key-key.result c.thread_key-key.ensures old c.requires.tree c.requires.records c.in-Some.body.items (rw c.in-Some.is at found)
    c.args.to.now _ _ (g.N.Nodes.nodes c.set.new.nodes) is c.thread_body.ensures.bytes c.thread_body.ensures.value)
    c.set.ensures.set
