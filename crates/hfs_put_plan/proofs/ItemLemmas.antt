-- The items of a folder's entries, one after the other.
use Rattle.std.proofs.Common.{◌≡◌, ◌∙◌, sym, ap, refl, ℕ, ◌+◌, ◌<◌, ◌≤◌, Bool, true, false, List, [], ◌∷◌, ◌++◌, length, drop, get_or, Option, Some, None, append_assoc, arith}
use Rattle.std.specs.Prelude.{if◌then◌else◌}
use Rattle.std.specs.List.{cons_option}
use Rattle.std.proofs.lemmas.List.{append-nil}
use Rattle.hfs_put_plan.specs.declared.entries.Entry.{Entry}
use Rattle.hfs_put_plan.specs.declared.entries.FolderItem.{FolderItem}
use Rattle.hfs_put_plan.specs.Entries.{alone, both, is_pair, items_from}

-- ---- the first of them

module _ (place : ℕ) (entries : List Entry) where
  pair_taken : (first second : Entry) (rest : List Entry) (item : Option FolderItem) → entries ≡ first ∷ second ∷ rest → is_pair first.name.now second.name.now ≡ true
      → item ≡ both place first.name.now → items_from place entries ≡ cons_option item (items_from (place + 2) (drop 2 entries))
  unfolding items_from
  pair_taken first second rest item is test own =
      ap (items_from place) is
      ∙ ap (λ t. if t then cons_option (both place first.name.now) (items_from (place + 2) rest) else cons_option (alone place first.name.now) (items_from (place + 1) (second ∷ rest))) test
      ∙ (λ i. cons_option (sym own i) (items_from (place + 2) (drop 2 (sym is i))))

  first_taken : (first second : Entry) (rest : List Entry) (item : Option FolderItem) → entries ≡ first ∷ second ∷ rest → is_pair first.name.now second.name.now ≡ false
      → item ≡ alone place first.name.now → items_from place entries ≡ cons_option item (items_from (place + 1) (drop 1 entries))
  unfolding items_from
  first_taken first second rest item is test own =
      ap (items_from place) is
      ∙ ap (λ t. if t then cons_option (both place first.name.now) (items_from (place + 2) rest) else cons_option (alone place first.name.now) (items_from (place + 1) (second ∷ rest))) test
      ∙ (λ i. cons_option (sym own i) (items_from (place + 1) (drop 1 (sym is i))))

  last_taken : (first : Entry) (item : Option FolderItem) → entries ≡ first ∷ []
      → item ≡ alone place first.name.now → items_from place entries ≡ cons_option item (items_from (place + 1) (drop 1 entries))
  unfolding items_from
  last_taken first item is own =
      ap (items_from place) is
      ∙ (λ i. cons_option (sym own i) (items_from (place + 1) (drop 1 (sym is i))))

-- by the places of the first two
pub pair_at : (place : ℕ) (entries : List Entry) (d e : Entry) (test : Bool) (item : Option FolderItem) → 2 ≤ length entries
    → test ≡ is_pair (get_or entries 0 d).name.now (get_or entries 1 e).name.now → test ≡ true → item ≡ both place (get_or entries 0 d).name.now
    → items_from place entries ≡ cons_option item (items_from (place + 2) (drop 2 entries))
pair_at place [] d e test item long told is own = absurd (omega (arith, long))
pair_at place (first ∷ []) d e test item long told is own = absurd (omega (arith, long))
pair_at place (first ∷ second ∷ rest) d e test item long told is own = pair_taken place (first ∷ second ∷ rest) first second rest item refl (sym told ∙ is) own

pub first_at : (place : ℕ) (entries : List Entry) (d e : Entry) (test : Bool) (item : Option FolderItem) → 2 ≤ length entries
    → test ≡ is_pair (get_or entries 0 d).name.now (get_or entries 1 e).name.now → test ≡ false → item ≡ alone place (get_or entries 0 d).name.now
    → items_from place entries ≡ cons_option item (items_from (place + 1) (drop 1 entries))
first_at place [] d e test item long told is own = absurd (omega (arith, long))
first_at place (first ∷ []) d e test item long told is own = absurd (omega (arith, long))
first_at place (first ∷ second ∷ rest) d e test item long told is own = first_taken place (first ∷ second ∷ rest) first second rest item refl (sym told ∙ is) own

pub last_at : (place : ℕ) (entries : List Entry) (d : Entry) (item : Option FolderItem) → 1 ≤ length entries → length entries < 2
    → item ≡ alone place (get_or entries 0 d).name.now → items_from place entries ≡ cons_option item (items_from (place + 1) (drop 1 entries))
last_at place [] d item long short own = absurd (omega (arith, long))
last_at place (first ∷ []) d item long short own = last_taken place (first ∷ []) first item refl own
last_at place (first ∷ second ∷ rest) d item long short own = absurd (omega (arith, short))

-- ---- all of them

none-left : (place : ℕ) (entries : List Entry) → length entries ≤ 0 → items_from place entries ≡ []
unfolding items_from
none-left place [] h = refl
none-left place (first ∷ rest) h = absurd (omega (arith, h))

pub items-done : (made : List FolderItem) (place : ℕ) (left : List Entry) (whole : List FolderItem) → length left ≤ 0 → made ++ items_from place left ≡ whole → made ≡ whole
items-done made place left whole none is = sym (append-nil made) ∙ ap (λ (l : List FolderItem). made ++ l) (sym (none-left place left none)) ∙ is

pub items-none : (made : List FolderItem) (place next : ℕ) (left behind : List Entry) (item : Option FolderItem) (whole : List FolderItem)
    → items_from place left ≡ cons_option item (items_from next behind) → item ≡ None
    → made ++ items_from place left ≡ whole → made ++ items_from next behind ≡ whole
items-none made place next left behind item whole is none before =
    ap (λ (l : List FolderItem). made ++ l) (sym (is ∙ ap (λ o. cons_option o (items_from next behind)) none)) ∙ before

pub items-one : (made : List FolderItem) (place next : ℕ) (left behind : List Entry) (item : Option FolderItem) (found : FolderItem) (whole : List FolderItem)
    → items_from place left ≡ cons_option item (items_from next behind) → item ≡ Some found
    → made ++ items_from place left ≡ whole → (made ++ found ∷ []) ++ items_from next behind ≡ whole
items-one made place next left behind item found whole is some before =
    append_assoc made (found ∷ []) (items_from next behind)
    ∙ ap (λ (l : List FolderItem). made ++ l) (sym (is ∙ ap (λ o. cons_option o (items_from next behind)) some)) ∙ before
