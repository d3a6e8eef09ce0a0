-- What a page wears, as markup.
use Rattle.std.specs.Prelude.{[], ◌∷◌, codes}
use Rattle.hfs_page.specs.declared.page_texts.PageTexts.{PageTexts}
use Rattle.hfs_page.specs.Markup.{Leads}

-- what precedes the items begins a section, and what follows the picture ends one; style and script begin nothing that they don't end
pub record IsDress (texts : PageTexts) : Type 0 where
  pub style : Leads [] [] texts.style.now
  pub columns : Leads [] (codes "section" ∷ []) texts.columns.now
  pub legend : Leads (codes "section" ∷ []) [] texts.legend.now
  pub script : Leads [] [] texts.script.now
