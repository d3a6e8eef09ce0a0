-- The lines of the head, and those of the report.
use Rattle.std.proofs.Common.{◌∙◌, rules}
use Rattle.std.specs.Prelude.{string_bytes}
use Rattle.hfs_word_take.proofs.ToldLemmas.{report_told}
use Rattle.hfs_word_take.proofs.giving.report_of.Goals as goal

pub returns-clause-text : goal.returns-clause-text
returns-clause-text g c = λ image h.
    report_told image c.in_ok-head.head c.as_str.result.now (string_bytes c.in_ok-text.text)
    c.args.report.now (c.in_ok-head.ensures.head image h) (search rules) (c.requires image (c.in_ok-head.ensures.narrows image h))
    (c.as_str.ensures.value ∙ c.in-Ok.ensures.lines) c.in_ok-text.ensures
