-- The text is written piece by piece.
use Rattle.std.proofs.Common.{◌≡◌, ◌∙◌, ◌++◌, ap, List, ℕ, string_bytes, codes}
use Rattle.hfs_commands.specs.Paths.{path_text}
use Rattle.hfs_word_collect.specs.Lines.{comparison_line}
use Rattle.hfs_word_collect.proofs.lines.comparison_line.Goals as goal

pub returns : goal.returns
unfolding comparison_line
returns c =
    let whole : string_bytes c.in_ok-line.line ≡ c.word-word.result.now ++ (codes "\t" ++ (path_text c.args.path.now ++ codes "\n")) = c.in_ok-line.ensures.ok in
    whole ∙ ap (λ (word : List ℕ). word ++ (codes "\t" ++ (path_text c.args.path.now ++ codes "\n"))) c.word-word.ensures
