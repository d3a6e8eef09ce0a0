-- The first character goes, and its bytes.
use Rattle.std.proofs.Common.{◌∙◌, ap, sym, ℕ, List, ◌∷◌, chars, length}
use Rattle.std.proofs.lemmas.Str.{chars_past_char}
use Rattle.std.proofs.StrCases.{chars_of_empty}
use Rattle.hfs_encodings.proofs.spelled.split_first.Goals as goal

pub returns-in-Some : goal.returns-in-Some
returns-in-Some c =
    chars_past_char _ _ c.in-Some.first c.utf8.text (sym c.chars-behind.ensures.rest ∙ c.in-Some.ensures.steps.0)
    ∙ ap (λ (bytes : List ℕ). c.in-Some.first ∷ chars bytes) (sym c.as_str.ensures)

pub returns-in-None : goal.returns-in-None
returns-in-None c = chars_of_empty c.args.text.now (ap length (sym c.chars-behind.ensures.rest) ∙ c.in-None.ensures.steps.0.0)
