-- What was told before the digest was made is told of the images that hold behind it, too.
use Rattle.std.proofs.Common.{◌∙◌, ℕ, List, Some, ap}
use Rattle.hfs_texts.specs.PlainTexts.{plain_text}
use Rattle.hfs_word_rescue.proofs.facts.told_of.Goals as goal

pub returns-clause-told : goal.returns-clause-told
returns-clause-told g c = λ image h.
    let held = c.in_ok-digest.ensures.narrows image h in
    record {
      identifier_is = c.in-Ok.ensures ∙ ap (λ (n : List ℕ). plain_text n) c.field_name.ensures;
      name_is = c.in-Ok-image_name.ensures;
      directory_is = c.in_ok-directory.ensures (Some image) c.args.len (c.requires.finds image (c.in_ok-report.ensures.narrows image held));
      digest_is = c.in_ok-digest.ensures.digest image h;
      report_is = c.in_ok-report.ensures.text image held;
    }
