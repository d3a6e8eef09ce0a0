use Rattle.std.proofs.Common.{◌≡◌, true, List, subst, arith, rules}
use Rattle.std.proofs.lemmas.List.Elements.{All-more}
use Rattle.hfs_model.specs.declared.journal.Entry.{Entry}
use Rattle.hfs_runs.specs.Answers.{told_replies}
use Rattle.hfs_runs.specs.Codes.{AreCoded, IsCoded}
use Rattle.hfs_runs.proofs.Late.{when_true}
use Rattle.hfs_runs.proofs.Learning.{whole_taken}
use Rattle.hfs_runs.proofs.codes.are_coded.Goals as goal

pub loop-entry-preserved : goal.loop-entry-preserved
loop-entry-preserved c =
    let replies = told_replies c.args.told.now in
    let entry = c.entry-item.result in
    let yes : c.is_coded.result ≡ true = search rules in
    All-more (λ (e : Entry). IsCoded replies e) c.args.journal.now c.loop-entry.entry-index entry (omega arith) c.loop-entry.invariant
    (subst (λ (e : Entry). IsCoded replies e) c.entry-item.is (when_true c.is_coded.result yes c.is_coded.ensures))

pub returns : goal.returns
returns c =
    subst (λ (entries : List Entry). AreCoded (told_replies c.args.told.now) entries)
    (whole_taken c.loop-entry.entry-index c.args.journal.now (omega (arith, c.loop-entry-test.false))) c.loop-entry.invariant
