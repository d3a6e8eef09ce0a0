-- The lines of the head are those of the directory.
use Rattle.std.proofs.Common.{Some, rules}
use Rattle.std.specs.Prelude.{string_bytes}
use Rattle.hfs_word_rescue.proofs.FactLemmas.{report_known}
use Rattle.hfs_word_rescue.proofs.facts.report_of.Goals as goal

pub returns-clause-text : goal.returns-clause-text
returns-clause-text g c = λ image h.
    let held = c.in_ok-block.ensures.narrows image h in
    report_known (Some image) c.args.len c.args.finds.now c.in_ok-block.block c.head_with-head.result c.as_str.result.now (string_bytes c.args.check.now.lines)
    (string_bytes c.in_ok-text.text) (search rules) (c.in_ok-block.ensures.block image h) c.head_with-head.ensures c.as_str.ensures.value
    (c.requires.lines image held) (c.requires.finds image held) c.in_ok-text.ensures
