-- A record that comes behind all others of its fork.
use Rattle.std.proofs.Common.{ℕ, [], refl, ap, sym, ◌∙◌, subst}
use Rattle.hfs_space.specs.TreeKeys.{overflow_of}
use Rattle.hfs_record_edits.proofs.Adds.{enough-left}
use Rattle.hfs_record_edits.specs.Records.{of_fork}
use Rattle.hfs_record_edits.specs.Whole.{EditsFork, AreBefore, HasRecordBehind, key_at}
use Rattle.hfs_record_edits.proofs.NeedOne.{free-small}
use Rattle.hfs_record_edits.proofs.OwnRecords.{own-absent, put-own, put-others}
use Rattle.hfs_record_edits.proofs.TreeEdits.{edits-kept}
use Rattle.hfs_record_edits.proofs.editing.add_record.Goals as goal

pub add-requires-clause-absent : goal.add-requires-clause-absent
add-requires-clause-absent g c =
    let old = g.S.Nodes.nodes c.args.nodes.now in
    own-absent (key_at c.args.file c.byte_of.result c.args.block) [] (overflow_of old) (subst (λ (k : ℕ). AreBefore c.args.file k c.args.block old) (sym c.byte_of.ensures) c.requires.last)

pub returns-clause-edits : goal.returns-clause-edits
returns-clause-edits g c =
    let old = g.S.Nodes.nodes c.args.nodes.now in
    let new = g.S.Nodes.nodes c.add.new.nodes in
    let key = key_at c.args.file c.byte_of.result c.args.block in
    let a = c.in_ok-add.ensures.added in
    subst (λ (k : ℕ). EditsFork c.args.file k old new) c.byte_of.ensures
    (edits-kept c.args.file c.byte_of.result old new key c.requires.tree a.keeps a.keys refl refl
    (λ f k apart. ap (of_fork f k) a.content ∙ put-others key c.record_body-body.result f k apart (overflow_of old)))

pub returns-clause-added : goal.returns-clause-added
returns-clause-added g c =
    let old = g.S.Nodes.nodes c.args.nodes.now in
    let new = g.S.Nodes.nodes c.add.new.nodes in
    let key = key_at c.args.file c.byte_of.result c.args.block in
    let a = c.in_ok-add.ensures.added in
    subst (λ (k : ℕ). HasRecordBehind c.args.file k c.args.block c.args.extents.now old new) c.byte_of.ensures
    (record {
      body = c.record_body-body.result;
      holds = c.record_body-body.ensures.back;
      is = ap (of_fork c.args.file c.byte_of.result) a.content
          ∙ put-own key c.record_body-body.result (overflow_of old) c.requires.tree.ordered.rises (subst (λ (k : ℕ). AreBefore c.args.file k c.args.block old) (sym c.byte_of.ensures) c.requires.last);
    })

pub returns-clause-enough : goal.returns-clause-enough
returns-clause-enough g c = λ n need.
    let old = g.S.Nodes.nodes c.args.nodes.now in
    let new = g.S.Nodes.nodes c.add.new.nodes in
    enough-left (key_at c.args.file c.byte_of.result c.args.block) c.record_body-body.result old new n c.in_ok-add.ensures.added (free-small old c.requires.small) need
