-- The markup of a collection's page nests.
use Rattle.std.proofs.Common.{◌≡◌, refl, ℕ, List, [], ◌∷◌, ◌++◌}
use Rattle.std.specs.Prelude.{◌==◌, ◌%◌, ◌+◌, Option, codes}
use Rattle.std.specs.Borrow.{Bor}
use Rattle.sqlite_value.specs.Order.{Row, column}
use Rattle.hfs_page.proofs.EscapeLemmas.{no-delimiters}
use Rattle.hfs_page.specs.Escapes.{escaped}
use Rattle.hfs_page.specs.Markup.{Leads}
use Rattle.hfs_page.proofs.MarkupLemmas.{Passes, ◌▹◌, at, constant, goes-if, inside, nested, text-goes}
use Rattle.hfs_page.proofs.NestedItems.{escaped-passes, link-end-passes, link-start-passes, linked}
use Rattle.hfs_page.proofs.NestedPages.{body, page-head-passes}
use Rattle.hfs_database.specs.declared.collection_texts.CollectionTexts.{CollectionTexts}
use Rattle.hfs_database.specs.PageLines.{break_text, content_text, contents_text, counts_text, dates_text, span_text, text_of, volume_head, volume_text, volumes_text}
use Rattle.hfs_database.specs.Nested.{CollectionPagesNest, IsCollectionDress}
use Rattle.hfs_database.specs.Pages.{collection_page, end_text, front_text}

span-passes : (names : List (List ℕ)) (row : Row) (place : ℕ) → Passes names names (span_text row place)
unfolding span_text
span-passes names row place =
    constant (at names) (at (codes "span" ∷ names)) (codes "<span>") (λ outer. refl) ▹ escaped-passes (codes "span" ∷ names) (text_of (column row place))
    ▹ constant (at (codes "span" ∷ names)) (at names) (codes "</span>") (λ outer. refl)

module _ (around : List (List ℕ)) where
  abbrev lines : List (List ℕ)
  lines = codes "ul" ∷ around

  abbrev line : List (List ℕ)
  line = codes "li" ∷ lines

  head-passes : (base : Option (Bor (List ℕ))) (row : Row) → Passes lines line (volume_head base row)
  unfolding volume_head
  head-passes base row =
      constant (at lines) (at (codes "b" ∷ line)) (codes "<li><b>") (λ outer. refl) ▹ link-start-passes line base (text_of (column row 0))
      ▹ escaped-passes (linked line base) (text_of (column row 1)) ▹ link-end-passes line base ▹ constant (at (codes "b" ∷ line)) (at line) (codes "</b>") (λ outer. refl)

  volume-passes : (base : Option (Bor (List ℕ))) (row : Row) → Passes lines lines (volume_text base row)
  unfolding volume_text counts_text dates_text
  volume-passes base row =
      head-passes base row ▹ (span-passes line row 2 ▹ span-passes line row 3 ▹ span-passes line row 4 ▹ span-passes line row 5)
      ▹ (span-passes line row 6 ▹ span-passes line row 7 ▹ span-passes line row 8) ▹ constant (at line) (at lines) (codes "</li>\n") (λ outer. refl)

  break-passes : (place : ℕ) → Passes lines lines (break_text place)
  unfolding break_text
  break-passes place =
      goes-if (place % 100 == 0)
      (goes-if (place == 0) (text-goes lines [] refl) (constant (at lines) (at lines) (codes "</ul>\n<ul>\n") (λ outer. refl)))
      (text-goes lines [] refl)

  volumes-pass : (base : Option (Bor (List ℕ))) (place : ℕ) (rows : List Row) → Passes lines lines (volumes_text base place rows)
  volumes-pass base place [] = text-goes lines [] refl
  volumes-pass base place (row ∷ rows) = (break-passes place ▹ volume-passes base row) ▹ volumes-pass base (place + 1) rows

  content-passes : (row : Row) → Passes lines lines (content_text row)
  unfolding content_text
  content-passes row =
      constant (at lines) (at (codes "b" ∷ line)) (codes "<li><b>") (λ outer. refl) ▹ escaped-passes (codes "b" ∷ line) (text_of (column row 0))
      ▹ constant (at (codes "b" ∷ line)) (at line) (codes "</b>") (λ outer. refl) ▹ span-passes line row 1 ▹ span-passes line row 2 ▹ span-passes line row 3
      ▹ constant (at line) (at lines) (codes "</li>\n") (λ outer. refl)

  contents-pass : (rows : List Row) → Passes lines lines (contents_text rows)
  contents-pass [] = text-goes lines [] refl
  contents-pass (row ∷ rows) = content-passes row ▹ contents-pass rows

module _ (texts : CollectionTexts) (dress : IsCollectionDress texts) where
  abbrev volume-list : List (List ℕ)
  volume-list = codes "ul" ∷ codes "div" ∷ codes "section" ∷ body

  abbrev content-list : List (List ℕ)
  content-list = codes "ul" ∷ codes "section" ∷ body

  style-leads : Leads [] [] (texts.shared_style.now ++ texts.style.now)
  style-leads = (inside [] [] [] texts.shared_style.now dress.shared_style ▹ inside [] [] [] texts.style.now dress.style).goes

  front-passes : Passes [] volume-list (front_text texts)
  unfolding front_text
  front-passes =
      page-head-passes (texts.shared_style.now ++ texts.style.now) (escaped texts.name.now) style-leads (no-delimiters texts.name.now)
      ▹ inside body [] (codes "ul" ∷ codes "div" ∷ codes "section" ∷ []) texts.columns.now dress.columns

  end-passes : Passes content-list [] (end_text texts)
  unfolding end_text
  end-passes =
      constant (at content-list) (at (codes "footer" ∷ body)) (codes "</ul>\n</section>\n<footer>Printed by hfs_collect ") (λ outer. refl)
      ▹ escaped-passes (codes "footer" ∷ body) texts.version.now ▹ constant (at (codes "footer" ∷ body)) (at body) (codes "</footer>\n") (λ outer. refl)
      ▹ inside body [] [] texts.script.now dress.script ▹ constant (at body) (at []) (codes "</main>\n</body>\n</html>\n") (λ outer. refl)

  page-passes : (volumes contents : List Row) → Passes [] [] (collection_page texts volumes contents)
  unfolding collection_page
  page-passes volumes contents =
      front-passes ▹ volumes-pass (codes "div" ∷ codes "section" ∷ body) texts.base 0 volumes
      ▹ inside body (codes "ul" ∷ codes "div" ∷ codes "section" ∷ []) (codes "ul" ∷ codes "section" ∷ []) texts.between.now dress.between
      ▹ contents-pass (codes "section" ∷ body) contents ▹ end-passes

pub collection-pages-nest : CollectionPagesNest
collection-pages-nest texts dress volumes contents = nested (collection_page texts volumes contents) (page-passes texts dress volumes contents)
