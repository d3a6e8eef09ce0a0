-- The markup of items nests.
use Rattle.std.proofs.Common.{◌≡◌, ◌∙◌, ap, subst, refl, ℕ, zero, suc, Bool, true, false, List, [], ◌∷◌, Option, Some, None, decimal, arith}
use Rattle.std.specs.Prelude.{◌==◌, ◌+◌, ◌-◌, ◌/◌, ◌%◌, ◌*◌, ◌≤◌, nat_lt, nat_le, ◌&&◌, if◌then◌else◌, codes, take, drop}
use Rattle.std.specs.Borrow.{Bor}
use Rattle.std.specs.List.{list_all}
use Rattle.hfs_model.specs.declared.reply.Info.{Info}
use Rattle.hfs_model.specs.declared.reply.ItemKind.{ItemKind}
use Rattle.hfs_model.specs.declared.reply.ItemKind.TheVariants.{Folder, File}
use Rattle.hfs_texts.specs.Moments.{moment}
use Rattle.hfs_texts.specs.PlainTexts.{plain_text}
use Rattle.hfs_items.specs.ToldRows.{ToldRow}
use Rattle.hfs_page.specs.Escapes.{escaped}
use Rattle.hfs_page.specs.Laws.{is_no_delimiter}
use Rattle.hfs_page.specs.Links.{bag_path, link_end, link_start, link_text, url_text}
use Rattle.hfs_page.specs.Sizes.{size_text, tenths_text, told_size}
use Rattle.hfs_page.specs.Texts.{date_text, told_date, told_number, told_text}
use Rattle.hfs_page.specs.Items as item
use Rattle.hfs_page.specs.Items.{closings, depth_in, item_by, open_by, open_behind, rows_text}
use Rattle.hfs_page.proofs.EscapeLemmas.{texts-escaped, no-delimiters}
use Rattle.hfs_page.proofs.MarkupLemmas.{Passes, ◌▹◌, at, constant, decimal-plain, goes-if, in-tag, tag-goes, text-goes}

-- ---- texts

pub escaped-passes : (names : List (List ℕ)) (t : List ℕ) → Passes names names (escaped t)
escaped-passes names t = text-goes names (escaped t) (no-delimiters t)

pub decimal-passes : (names : List (List ℕ)) (n : ℕ) → Passes names names (decimal n)
decimal-passes names n = text-goes names (decimal n) (decimal-plain n)

pub number-passes : (a b : List (List ℕ)) (label : List ℕ) (n : ℕ) → Passes a b label → Passes a b (told_number label n)
unfolding told_number
number-passes a b label n passes = passes ▹ decimal-passes b n

pub told-passes : (a b : List (List ℕ)) (label bytes : List ℕ) → Passes a b label → Passes a b (told_text label bytes)
unfolding told_text
told-passes a b label bytes passes = passes ▹ escaped-passes b (plain_text bytes)

pub date-passes : (names : List (List ℕ)) (date : ℕ) → Passes names names (date_text date)
unfolding date_text
date-passes names date =
    goes-if (date == 0) (constant (at names) (at names) [] (λ outer. refl))
    (escaped-passes names (take 10 (moment date)) ▹ text-goes names (codes " ") refl ▹ escaped-passes names (drop 11 (moment date)))

tenths-pass : (names : List (List ℕ)) (tenths : ℕ) → Passes names names (tenths_text tenths)
unfolding tenths_text
tenths-pass names tenths =
    goes-if (tenths % 10 == 0) (decimal-passes names (tenths / 10))
    (decimal-passes names (tenths / 10) ▹ number-passes names names (codes ".") (tenths % 10) (text-goes names (codes ".") refl))

pub size-passes : (names : List (List ℕ)) (bytes : ℕ) → Passes names names (size_text bytes)
unfolding size_text
size-passes names bytes =
    goes-if (nat_lt bytes 1024) (decimal-passes names bytes ▹ text-goes names (codes " B") refl)
    (goes-if (nat_lt bytes 1048576) (tenths-pass names ((bytes * 10 + 512) / 1024) ▹ text-goes names (codes " KB") refl)
    (tenths-pass names ((bytes * 10 + 524288) / 1048576) ▹ text-goes names (codes " MB") refl))

-- ---- what is told of an item

module _ (names : List (List ℕ)) where
  abbrev pub bold : List (List ℕ)
  bold = codes "b" ∷ names

  abbrev pub span : List (List ℕ)
  span = codes "span" ∷ names

  name-passes : (info : Info) → Passes names names (item.name_tagged info)
  unfolding item.name_tagged
  name-passes info =
      constant (at names) (at bold) (codes "<b>") (λ outer. refl) ▹ escaped-passes bold (plain_text info.name) ▹ constant (at bold) (at names) (codes "</b>") (λ outer. refl)

  modified-passes : (date : ℕ) → Passes names names (item.modified_text date)
  unfolding told_date
  modified-passes date =
      goes-if (date == 0) (constant (at names) (at names) [] (λ outer. refl))
      (constant (at names) (at span) (codes "<span>") (λ outer. refl) ▹ date-passes span date ▹ constant (at span) (at names) (codes "\n(modified)</span>") (λ outer. refl))

  pub items-pass : (count : ℕ) → Passes span names (item.items_word count)
  items-pass count =
      goes-if (count == 1) (constant (at span) (at names) (codes " item</span>") (λ outer. refl)) (constant (at span) (at names) (codes " items</span>") (λ outer. refl))

  folder-passes : (info : Info) → Passes names names (item.folder_text info)
  unfolding item.folder_text
  folder-passes info =
      name-passes info ▹ number-passes names span (codes "<span>") info.valence (constant (at names) (at span) (codes "<span>") (λ outer. refl))
      ▹ items-pass info.valence ▹ constant (at names) (at names) (codes "<span>folder</span>") (λ outer. refl) ▹ modified-passes info.modified

  -- inside a link, where there is one
  abbrev pub linked : Option (Bor (List ℕ)) → List (List ℕ)
  linked None = bold
  linked (Some base) = codes "a" ∷ bold

  pub link-start-passes : (base : Option (Bor (List ℕ))) (path : List ℕ) → Passes bold (linked base) (link_start base path)
  unfolding link_text
  link-start-passes None path = constant (at bold) (at bold) [] (λ outer. refl)
  link-start-passes (Some base) path =
      constant (at bold) (in-tag (codes "a") bold) (codes "<a href=\"") (λ outer. refl)
      ▹ tag-goes (codes "a") bold (escaped (url_text base.now path)) (no-delimiters (url_text base.now path))
      ▹ constant (in-tag (codes "a") bold) (at (codes "a" ∷ bold)) (codes "\">") (λ outer. refl)

  pub link-end-passes : (base : Option (Bor (List ℕ))) → Passes (linked base) bold (link_end base)
  link-end-passes None = constant (at bold) (at bold) [] (λ outer. refl)
  link-end-passes (Some base) = constant (at (codes "a" ∷ bold)) (at bold) (codes "</a>") (λ outer. refl)

  file-name-passes : (base : Option (Bor (List ℕ))) (path : List (List ℕ)) (info : Info) → Passes names names (item.file_name base path info)
  unfolding item.file_name
  file-name-passes base path info =
      constant (at names) (at bold) (codes "<b>") (λ outer. refl) ▹ link-start-passes base (bag_path path) ▹ escaped-passes (linked base) (plain_text info.name)
      ▹ link-end-passes base ▹ constant (at bold) (at names) (codes "</b>") (λ outer. refl)

  pub sizes-pass : (info : Info) → Passes names names (item.sizes_text info)
  unfolding item.sizes_text told_size
  sizes-pass info =
      (constant (at names) (at span) (codes "<span>") (λ outer. refl) ▹ size-passes span (info.data_len + info.res_len))
      ▹ number-passes span span (codes "\n(data fork ") info.data_len (text-goes span (codes "\n(data fork ") refl)
      ▹ number-passes span span (codes " bytes, resource fork ") info.res_len (text-goes span (codes " bytes, resource fork ") refl)
      ▹ constant (at span) (at names) (codes " bytes)</span>") (λ outer. refl)

  pub type-passes : (info : Info) → Passes names names (item.type_text info)
  unfolding item.type_text
  type-passes info =
      told-passes names span (codes "<span>") (take 4 info.finder) (constant (at names) (at span) (codes "<span>") (λ outer. refl))
      ▹ told-passes span span (codes " ") (take 4 (drop 4 info.finder)) (text-goes span (codes " ") refl)
      ▹ constant (at span) (at names) (codes "\n(type, creator)</span>") (λ outer. refl)

  file-passes : (base : Option (Bor (List ℕ))) (path : List (List ℕ)) (info : Info) → Passes names names (item.file_text base path info)
  unfolding item.file_text
  file-passes base path info = file-name-passes base path info ▹ sizes-pass info ▹ type-passes info ▹ modified-passes info.modified

-- ---- rows

-- so many folders, of each of which the list of its items stands open
abbrev pub folders : ℕ → List (List ℕ)
folders zero = []
folders (suc n) = codes "ul" ∷ codes "details" ∷ codes "li" ∷ folders n

start-passes : (names : List (List ℕ)) (info : Info) → Passes names (codes "li" ∷ names) (item.row_start info)
unfolding item.row_start told_number
start-passes names info =
    (constant (at names) (in-tag (codes "li") names) (codes "<li id=\"i") (λ outer. refl) ▹ tag-goes (codes "li") names (decimal info.id) (decimal-plain info.id))
    ▹ constant (in-tag (codes "li") names) (at (codes "li" ∷ names)) (codes "\">") (λ outer. refl)

module _ (names : List (List ℕ)) where
  abbrev pub line : List (List ℕ)
  line = codes "li" ∷ names

  abbrev pub summary : List (List ℕ)
  summary = codes "summary" ∷ codes "details" ∷ line

  pub opening-passes : (depth valence : ℕ) → Passes line summary (item.opening depth valence)
  opening-passes depth valence =
      goes-if (depth == 0 && nat_le valence 1000) (constant (at line) (at summary) (codes "<details open><summary>") (λ outer. refl))
      (constant (at line) (at summary) (codes "<details><summary>") (λ outer. refl))

  nested-passes : (depth : ℕ) (info : Info) → Passes names (codes "ul" ∷ codes "details" ∷ line) (item.nested_text depth info)
  unfolding item.nested_text
  nested-passes depth info =
      start-passes names info ▹ opening-passes depth info.valence ▹ folder-passes summary info
      ▹ constant (at summary) (at (codes "ul" ∷ codes "details" ∷ line)) (codes "</summary><ul>\n") (λ outer. refl)

  flat-passes : (info : Info) → Passes names names (item.flat_text info)
  unfolding item.flat_text
  flat-passes info = start-passes names info ▹ folder-passes line info ▹ constant (at line) (at names) (codes "</li>\n") (λ outer. refl)

  leaf-passes : (base : Option (Bor (List ℕ))) (path : List (List ℕ)) (info : Info) → Passes names names (item.leaf_text base path info)
  unfolding item.leaf_text
  leaf-passes base path info = start-passes names info ▹ file-passes line base path info ▹ constant (at line) (at names) (codes "</li>\n") (λ outer. refl)

folder-kind : (depth : ℕ) (info : Info) (test : Bool)
    → Passes (folders depth) (folders (if test then depth + 1 else depth)) (if test then item.nested_text depth info else item.flat_text info)
folder-kind depth info true =
    let deeper : suc depth ≡ depth + 1 = omega arith in
    subst (λ (n : ℕ). Passes (folders depth) (folders n) (item.nested_text depth info)) deeper (nested-passes (folders depth) depth info)
folder-kind depth info false = flat-passes (folders depth) info

kind-passes : (kind : ItemKind) (base : Option (Bor (List ℕ))) (path : List (List ℕ)) (depth : ℕ) (info : Info)
    → Passes (folders depth) (folders (open_by kind depth)) (item_by kind base path depth info)
kind-passes Folder base path depth info = folder-kind depth info (nat_lt depth 100)
kind-passes File base path depth info = leaf-passes (folders depth) base path info

-- so many folders more than these
abbrev pub more : ℕ → List (List ℕ) → List (List ℕ)
more zero names = names
more (suc n) names = codes "ul" ∷ codes "details" ∷ codes "li" ∷ more n names

more-folders : (n depth : ℕ) → more n (folders depth) ≡ folders (n + depth)
more-folders zero depth = let same : depth ≡ 0 + depth = omega arith in ap folders same
more-folders (suc n) depth =
    let same : suc (n + depth) ≡ suc n + depth = omega arith in
    ap (λ (names : List (List ℕ)). codes "ul" ∷ codes "details" ∷ codes "li" ∷ names) (more-folders n depth) ∙ ap folders same

pub closings-pass : (n : ℕ) (names : List (List ℕ)) → Passes (more n names) names (closings n)
unfolding closings
closings-pass zero names = text-goes names [] refl
closings-pass (suc n) names =
    constant (at (more (suc n) names)) (at (more n names)) (codes "</ul></details></li>\n") (λ outer. refl) ▹ closings-pass n names

pub folders-close : (opened depth : ℕ) → depth ≤ opened → Passes (folders opened) (folders depth) (closings (opened - depth))
folders-close opened depth within =
    let all : (opened - depth) + depth ≡ opened = omega arith in
    subst (λ (names : List (List ℕ)). Passes names (folders depth) (closings (opened - depth)))
    (more-folders (opened - depth) depth ∙ ap folders all)
    (closings-pass (opened - depth) (folders depth))

row-passes : (base : Option (Bor (List ℕ))) (opened : ℕ) (path : List (List ℕ)) (info : Info)
    → Passes (folders opened) (folders (open_behind (depth_in opened path) info)) (item.row_text base opened path info)
unfolding item.row_text item.item_text
row-passes base opened path info =
    folders-close opened (depth_in opened path) (omega arith) ▹ kind-passes info.kind base path (depth_in opened path) info

pub rows-pass : (base : Option (Bor (List ℕ))) (opened : ℕ) (rows : List ToldRow) → Passes (folders opened) [] (rows_text base opened rows)
rows-pass base opened [] =
    let all : opened - 0 ≡ opened = omega arith in
    subst (λ (n : ℕ). Passes (folders opened) [] (closings n)) all (folders-close opened 0 (omega arith))
rows-pass base opened (row ∷ rows) =
    row-passes base opened row.path row.info ▹ rows-pass base (open_behind (depth_in opened row.path) row.info) rows
