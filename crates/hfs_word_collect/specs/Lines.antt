-- What is printed of images.
use Rattle.std.specs.Prelude.{ℕ, List, [], ◌∷◌, codes}
use Rattle.std.specs.Fmt.{decimal}
use Rattle.std.specs.List.{concat}
use Rattle.hfs_commands.specs.Paths.{path_text}
use Rattle.hfs_word_collect.specs.declared.counts.ImageCounts.{ImageCounts}
use Rattle.hfs_database.specs.declared.comparing.Comparison.{Comparison}
use Rattle.hfs_database.specs.Comparing.{comparison_word}

-- of an image that was collected: how many volumes it has, and how many of them are refused; how many files, and how many of them are damaged
unfoldable pub image_line : List ℕ → ImageCounts → List ℕ
image_line path counts =
    concat
    (path_text path ∷ codes "\tvolumes " ∷ decimal counts.volumes ∷ codes "\trefused " ∷ decimal counts.refused ∷ codes "\tfiles " ∷ decimal counts.files
    ∷ codes "\tdamaged " ∷ decimal counts.damaged ∷ codes "\n" ∷ [])

-- of an image that was compared
unfoldable pub comparison_line : List ℕ → Comparison → List ℕ
comparison_line path found = concat (comparison_word found ∷ codes "\t" ∷ path_text path ∷ codes "\n" ∷ [])
