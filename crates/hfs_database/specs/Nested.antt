-- The markup of a collection's page. The law is what a function of src/laws.rt ensures.
use Rattle.std.specs.Prelude.{List, [], ◌∷◌, codes}
use Rattle.sqlite_value.specs.Order.{Row}
use Rattle.hfs_page.specs.Markup.{IsNested, Leads}
use Rattle.hfs_database.specs.declared.collection_texts.CollectionTexts.{CollectionTexts}
use Rattle.hfs_database.specs.Pages.{collection_page}

-- what precedes the volumes begins a list in a section, and what is between goes on in another one
pub record IsCollectionDress (texts : CollectionTexts) : Type 0 where
  pub shared_style : Leads [] [] texts.shared_style.now
  pub style : Leads [] [] texts.style.now
  pub columns : Leads [] (codes "ul" ∷ codes "div" ∷ codes "section" ∷ []) texts.columns.now
  pub between : Leads (codes "ul" ∷ codes "div" ∷ codes "section" ∷ []) (codes "ul" ∷ codes "section" ∷ []) texts.between.now
  pub script : Leads [] [] texts.script.now

-- the markup nests, whatever the database answers
abbrev pub CollectionPagesNest : Type 0
CollectionPagesNest = (texts : CollectionTexts) → IsCollectionDress texts → (volumes contents : List Row) → IsNested (collection_page texts volumes contents)
