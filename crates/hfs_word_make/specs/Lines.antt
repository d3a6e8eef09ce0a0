-- What the word `make` prints.
use Rattle.std.specs.Prelude.{ℕ, List, ◌++◌, codes}
use Rattle.std.specs.Fmt.{decimal}
use Rattle.hfs_texts.specs.Lines.{line}
use Rattle.hfs_word_put.specs.declared.lines.PutSums.{PutSums}

-- of what came into the new volume
unfoldable pub made_lines : PutSums → List ℕ
made_lines sums =
    codes "made\n" ++ line (codes "files") (decimal sums.files) ++ line (codes "folders") (decimal sums.folders) ++ line (codes "bytes") (decimal sums.bytes)
    ++ line (codes "free") (decimal sums.free)
