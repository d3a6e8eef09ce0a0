-- The records of this fork that go, and of no other.
use Rattle.std.proofs.Common.{ℕ, ap, ◌∙◌, subst}
use Rattle.hfs_space.specs.TreeKeys.{overflow_of}
use Rattle.hfs_record_edits.specs.Records.{of_fork, HasRecordsBefore}
use Rattle.hfs_record_edits.specs.Whole.{EditsFork, key_at}
use Rattle.hfs_record_edits.proofs.RecordLemmas.{others-stay, own-before}
use Rattle.hfs_record_edits.proofs.TreeEdits.{edits-shrunk}
use Rattle.hfs_record_edits.proofs.records.cut_records.Goals as goal

pub returns-clause-shrunk : goal.returns-clause-shrunk
returns-clause-shrunk g c = c.in_ok-cut_fork.ensures.cut.shrunk

pub returns-clause-own : goal.returns-clause-own
returns-clause-own g c =
    let nodes = g.S.Nodes.nodes in
    let old = nodes c.args.nodes.now in
    let new = nodes c.cut_fork.new.nodes in
    subst (λ (k : ℕ). HasRecordsBefore c.args.file k c.args.block old new) c.byte_of.ensures
    (ap (of_fork c.args.file c.byte_of.result) c.in_ok-cut_fork.ensures.cut.content ∙ own-before (key_at c.args.file c.byte_of.result c.args.block) (overflow_of old))

pub returns-clause-edits : goal.returns-clause-edits
returns-clause-edits g c =
    let old = g.S.Nodes.nodes c.args.nodes.now in
    let new = g.S.Nodes.nodes c.cut_fork.new.nodes in
    let cut = c.in_ok-cut_fork.ensures.cut in
    subst (λ (k : ℕ). EditsFork c.args.file k old new) c.byte_of.ensures
    (edits-shrunk c.args.file c.byte_of.result old new cut.shrunk
    (λ f k apart. ap (of_fork f k) cut.content ∙ others-stay (key_at c.args.file c.byte_of.result c.args.block) f k apart (overflow_of old)))
