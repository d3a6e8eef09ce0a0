-- A page of three parts.
use Rattle.std.proofs.Common.{◌≡◌, List, ◌++◌, ℕ, ap, refl, sym}
use Rattle.hfs_rescue_items.specs.declared.found.Found.{Found}
use Rattle.hfs_remains_page.specs.declared.remains_texts.RemainsTexts.{RemainsTexts}
use Rattle.hfs_remains_page.specs.declared.steps.Step.{Step}
use Rattle.hfs_remains_page.specs.Pages.{back_text, front_text, remains_page}
use Rattle.hfs_remains_page.specs.Rows.{rows_text}
use Rattle.hfs_remains_page.specs.Trees.{tree_order}

pub page-is : (texts : RemainsTexts) (refusal meaning : List ℕ) (found : Found) (one three : List ℕ) (steps : List Step) → one ≡ front_text texts refusal meaning found
    → steps ≡ tree_order found.places.now → three ≡ back_text texts found
    → remains_page texts refusal meaning found ≡ (one ++ rows_text texts.page.image.base found 0 steps) ++ three
unfolding remains_page
page-is texts refusal meaning found one three steps first order last =
    λ i. (sym first i ++ rows_text texts.page.image.base found 0 (sym order i)) ++ sym last i
