-- The page of an image.
use Rattle.std.specs.Prelude.{ℕ, ◌/◌, List, length, Option}
use Rattle.std.specs.Io.KnownBytes.{Appends}
use Rattle.hfs_blocks.specs.Blocks.{block_at}
use Rattle.hfs_page.specs.declared.page_texts.PageTexts.{PageTexts}
use Rattle.hfs_page.specs.Disk.{page_in}
use Rattle.hfs_texts.specs.Writing.{AppendsFront}

-- of the volume in an image, with these texts
abbrev pub page_of : PageTexts → List ℕ → List ℕ
page_of texts image = page_in texts (length image / 512) (block_at image)

-- the writer is given the page of an image
abbrev pub WritesPage : PageTexts → Option (List ℕ) → Option (List ℕ) → List ℕ → Type 0
WritesPage texts old new = λ image. Appends old new (page_of texts image)

-- or a part of it, from the beginning on
abbrev pub WritesPageFront : PageTexts → Option (List ℕ) → Option (List ℕ) → List ℕ → Type 0
WritesPageFront texts old new = λ image. AppendsFront old new (page_of texts image)
