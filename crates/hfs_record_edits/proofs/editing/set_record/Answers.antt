-- A record of its fork that changes.
use Rattle.std.proofs.Common.{ℕ, [], length, refl, ap, sym, ◌∙◌, subst}
use Rattle.hfs_space.specs.Extents.{Overflow}
use Rattle.hfs_space.specs.TreeKeys.{overflow_of}
use Rattle.hfs_record_edits.specs.Records.{of_fork}
use Rattle.hfs_record_edits.specs.Whole.{EditsFork, IsRecordAt, HasRecordSet, key_at}
use Rattle.hfs_record_edits.proofs.OwnRecords.{there-whole, set-own, set-others, length-set}
use Rattle.hfs_record_edits.proofs.TreeEdits.{edits-kept}
use Rattle.hfs_record_edits.proofs.editing.set_record.Goals as goal

pub change-requires-clause-there : goal.change-requires-clause-there
change-requires-clause-there g c =
    let old = g.S.Nodes.nodes c.args.nodes.now in
    there-whole (key_at c.args.file c.byte_of.result c.args.block) [] (overflow_of old) (subst (λ (k : ℕ). IsRecordAt c.args.file k c.args.block old) (sym c.byte_of.ensures) c.requires.there)

pub returns-clause-edits : goal.returns-clause-edits
returns-clause-edits g c =
    let old = g.S.Nodes.nodes c.args.nodes.now in
    let new = g.S.Nodes.nodes c.change.new.nodes in
    let key = key_at c.args.file c.byte_of.result c.args.block in
    let a = c.in_ok-change.ensures.changed in
    subst (λ (k : ℕ). EditsFork c.args.file k old new) c.byte_of.ensures
    (edits-kept c.args.file c.byte_of.result old new key c.requires.tree a.keeps a.keys refl refl
    (λ f k apart. ap (of_fork f k) a.content ∙ set-others key c.record_body-body.result f k apart (overflow_of old)))

pub returns-clause-set : goal.returns-clause-set
returns-clause-set g c =
    let old = g.S.Nodes.nodes c.args.nodes.now in
    let new = g.S.Nodes.nodes c.change.new.nodes in
    let key = key_at c.args.file c.byte_of.result c.args.block in
    let a = c.in_ok-change.ensures.changed in
    subst (λ (k : ℕ). HasRecordSet c.args.file k c.args.block c.args.extents.now old new) c.byte_of.ensures
    (record {
      body = c.record_body-body.result;
      holds = c.record_body-body.ensures.back;
      is = ap (of_fork c.args.file c.byte_of.result) a.content ∙ set-own key c.record_body-body.result (overflow_of old);
    })

pub returns-clause-room : goal.returns-clause-room
returns-clause-room g c =
    let old = g.S.Nodes.nodes c.args.nodes.now in
    let a = c.in_ok-change.ensures.changed in
    record {
      depth = a.depth;
      count = ap (λ (rs : Overflow). length rs) a.content ∙ length-set (key_at c.args.file c.byte_of.result c.args.block) c.record_body-body.result (overflow_of old);
      free = a.free;
    }
