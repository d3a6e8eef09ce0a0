-- What holds of the markup of all pages of remains. The law is what a function of src/laws.rt ensures.
use Rattle.std.specs.Prelude.{ℕ, List}
use Rattle.hfs_page.specs.Markup.{IsNested}
use Rattle.hfs_rescue_items.specs.declared.found.Found.{Found}
use Rattle.hfs_remains_page.specs.declared.remains_texts.RemainsTexts.{RemainsTexts}
use Rattle.hfs_remains_page.specs.Dress.{IsRemainsDress}
use Rattle.hfs_remains_page.specs.Pages.{remains_page}

-- the markup nests, whatever was found
abbrev pub RemainsPagesNest : Type 0
RemainsPagesNest = (texts : RemainsTexts) → IsRemainsDress texts → (refusal meaning : List ℕ) (found : Found) → IsNested (remains_page texts refusal meaning found)
