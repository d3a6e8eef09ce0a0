-- What a page of remains wears, as markup.
use Rattle.std.specs.Prelude.{[], ◌∷◌, codes}
use Rattle.hfs_page.specs.Markup.{Leads}
use Rattle.hfs_remains_page.specs.declared.remains_texts.RemainsTexts.{RemainsTexts}

-- what precedes the items begins a section, and what follows the picture ends one; styles and script begin nothing that they don't end
pub record IsRemainsDress (texts : RemainsTexts) : Type 0 where
  pub shared_style : Leads [] [] texts.page.style.now
  pub style : Leads [] [] texts.style.now
  pub columns : Leads [] (codes "section" ∷ []) texts.columns.now
  pub legend : Leads (codes "section" ∷ []) [] texts.legend.now
  pub script : Leads [] [] texts.page.script.now
