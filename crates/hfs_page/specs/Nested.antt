-- What holds of the markup of all pages. Each statement is what a function of src/laws.rt ensures.
use Rattle.std.specs.Prelude.{ℕ, List}
use Rattle.hfs_check.specs.Parts.{Blocks}
use Rattle.hfs_page.specs.declared.page_texts.PageTexts.{PageTexts}
use Rattle.hfs_page.specs.Disk.{page_in}
use Rattle.hfs_page.specs.Document.{refused_page}
use Rattle.hfs_page.specs.Dress.{IsDress}
use Rattle.hfs_page.specs.Markup.{IsNested}

-- the markup of each volume's page nests, whatever bytes the volume has
abbrev pub VolumePagesNest : Type 0
VolumePagesNest = (texts : PageTexts) → IsDress texts → (total : ℕ) (blocks : Blocks) → IsNested (page_in texts total blocks)

-- and so does that of the page of a refused image
abbrev pub RefusedPagesNest : Type 0
RefusedPagesNest = (texts : PageTexts) → IsDress texts → (refusal meaning : List ℕ) → IsNested (refused_page texts refusal meaning)
