-- The rows of an image, and those of the volumes in it.
use Rattle.std.proofs.Common.{◌≡◌, ◌∙◌, ℕ, List, [], ◌∷◌, ◌++◌, append_assoc, ap, refl, subst}
use Rattle.hfs_source.specs.declared.ranges.Layout.{Layout}
use Rattle.hfs_source.specs.declared.ranges.Layout.TheVariants.{Plain, Raw}
use Rattle.hfs_source.specs.Found.{found_by}
use Rattle.hfs_source.specs.Raw.{layout_of}
use Rattle.hfs_bag.specs.Parts.{content_of}
use Rattle.hfs_database.specs.declared.value.RowValue.{RowValue}
use Rattle.hfs_database.specs.declared.value.Table.TheVariants.{Image}
use Rattle.hfs_database.specs.Taken.{TakenRow, row_of}
use Rattle.hfs_word_collect.specs.declared.counts.ImageCounts.{ImageCounts}
use Rattle.hfs_word_collect.specs.declared.image.ImageFacts.{ImageFacts}
use Rattle.hfs_word_collect.specs.Counts.{all_volume_counts, content_counts, image_counts}
use Rattle.hfs_word_collect.specs.Images.{image_rows, image_values}
use Rattle.hfs_word_collect.specs.Looking.{others_by}
use Rattle.hfs_word_collect.specs.Volumes.{all_volume_rows, content_rows}

rows-by : (facts : ImageFacts) (file : List ℕ) (layout : Layout)
    → all_volume_rows facts.takes_digests (others_by layout file) (found_by layout (content_of layout file)) (content_of layout file) ≡ content_rows facts.takes_digests layout file
rows-by facts file Plain = refl
rows-by facts file Raw = refl

counts-by : (file : List ℕ) (layout : Layout) → all_volume_counts (found_by layout (content_of layout file)) (content_of layout file) ≡ content_counts layout file
counts-by file Plain = refl
counts-by file Raw = refl

-- what holds with the rows of the volumes behind the image's holds with those of the image
pub image_given : (file : List ℕ) (facts : ImageFacts) (values : List RowValue) (layout : Layout) (others : ℕ) (old mid : List TakenRow) (Fact : List TakenRow → Type 0) → mid ≡ old ++ row_of Image values ∷ []
    → values ≡ image_values facts file → layout ≡ layout_of file → others ≡ others_by layout file
    → Fact (mid ++ all_volume_rows facts.takes_digests others (found_by layout (content_of layout file)) (content_of layout file)) → Fact (old ++ image_rows facts file)
unfolding image_rows
image_given file facts values layout others old mid Fact first is found others_are given =
    subst Fact (ap (λ (n : ℕ). mid ++ all_volume_rows facts.takes_digests n (found_by layout (content_of layout file)) (content_of layout file)) others_are
    ∙ ap (λ (rows : List TakenRow). mid ++ rows) (rows-by facts file layout)
    ∙ ap (λ (front : List TakenRow). front ++ content_rows facts.takes_digests layout file) first
    ∙ append_assoc old (row_of Image values ∷ []) (content_rows facts.takes_digests layout file)
    ∙ ap (λ (values : List RowValue). old ++ row_of Image values ∷ content_rows facts.takes_digests layout file) is
    ∙ ap (λ (layout : Layout). old ++ row_of Image (image_values facts file) ∷ content_rows facts.takes_digests layout file) found) given

pub image_counted : (file : List ℕ) (layout : Layout) (counts : ImageCounts) → layout ≡ layout_of file
    → counts ≡ all_volume_counts (found_by layout (content_of layout file)) (content_of layout file) → counts ≡ image_counts file
unfolding image_counts
image_counted file layout counts found told = told ∙ counts-by file layout ∙ ap (λ (by : Layout). content_counts by file) found
