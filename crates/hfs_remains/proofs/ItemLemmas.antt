-- The items among records, one after the other.
use Rattle.std.proofs.Common.{◌≡◌, ℕ, Bool, true, false, cond, ◌&&◌, ◌||◌, ◌==◌, not, if◌then◌else◌, List, [], ◌∷◌, ◌++◌, Vec, Global, Some, None, length, refl, sym, ap, ◌∙◌}
use Rattle.std.specs.List.{list_any}
use Rattle.std.specs.Str.{bytes_eq}
use Rattle.std.specs.Ordering.{is_eq, nat_cmp}
use Rattle.std.specs.Cmp.Lexicographic.{slice_cmp}
use Rattle.std.proofs.lemmas.Map.Text.{is_eq-slice_cmp}
use Rattle.std.proofs.lemmas.Bool.{and_parts, eqb-true}
use Rattle.hfs_fields.specs.Records.{is_item, is_dir, is_file, item_id}
use Rattle.hfs_fields.specs.Keys.{is_cat_body_len}
use Rattle.hfs_catalog.specs.Indexes.{has_number, AddsNumber}
use Rattle.hfs_remains.specs.declared.catalog.FoundRecord.{FoundRecord}
use Rattle.hfs_remains.specs.Items.{is_named_item, written, is_written, has_item, is_next_item, with_next, has_row, KnowItems, AddsRow}
use Rattle.hfs_fields.proofs.DecisionLemmas.{or_there}

any-push : {X : Type 0} (p : X → Bool) (xs : List X) (x : X) → list_any p (xs ++ x ∷ []) ≡ (list_any p xs || p x)
any-push p [] x = by (p x)
  where
    by : (b : Bool) → (b || false) ≡ (false || b)
    by true = refl
    by false = refl
any-push p (y ∷ ys) x = by (p y) (list_any p ys) (p x) (any-push p ys x)
  where
    by : (a b c : Bool) → list_any p (ys ++ x ∷ []) ≡ (b || c) → (a || list_any p (ys ++ x ∷ [])) ≡ ((a || b) || c)
    by true b c e = refl
    by false b c e = e

-- a record that is no item with a name, or one that is there, is no next one
pub not-named : (items : List FoundRecord) (r : FoundRecord) → is_named_item r ≡ false → with_next items r ≡ items
unfolding is_next_item
not-named items r other = by (is_named_item r) (is_written items (written r) || (r.old && has_item items (item_id r.entry.1))) other
  where
    by : (a b : Bool) → a ≡ false → (if a && not b then items ++ r ∷ [] else items) ≡ items
    by true b e = cc
    by false true e = refl
    by false false e = refl

pub is-there : (items : List FoundRecord) (r : FoundRecord) → (is_written items (written r) || (r.old && has_item items (item_id r.entry.1))) ≡ true → with_next items r ≡ items
unfolding is_next_item
is-there items r there = by (is_named_item r) (is_written items (written r) || (r.old && has_item items (item_id r.entry.1))) there
  where
    by : (a b : Bool) → b ≡ true → (if a && not b then items ++ r ∷ [] else items) ≡ items
    by true true e = refl
    by true false e = cc
    by false true e = refl
    by false false e = refl

pub is-next : (items : List FoundRecord) (r : FoundRecord) → is_named_item r ≡ true → (is_written items (written r) || (r.old && has_item items (item_id r.entry.1))) ≡ false → with_next items r ≡ items ++ r ∷ []
unfolding is_next_item
is-next items r named new = by (is_named_item r) (is_written items (written r) || (r.old && has_item items (item_id r.entry.1))) named new
  where
    by : (a b : Bool) → a ≡ true → b ≡ false → (if a && not b then items ++ r ∷ [] else items) ≡ items ++ r ∷ []
    by true true e f = cc
    by true false e f = refl
    by false true e f = cc
    by false false e f = cc

-- what is known of the items, with one more
pub knows-more : (rows later_rows : List (Vec ℕ Global)) (ids later_ids : List ℕ) (items : List FoundRecord) (r : FoundRecord) (row : Vec ℕ Global) (id : ℕ) → row.items ≡ written r → id ≡ item_id r.entry.1
    → AddsRow row rows later_rows → AddsNumber id ids later_ids → KnowItems rows ids items → KnowItems later_rows later_ids (items ++ r ∷ [])
knows-more rows later_rows ids later_ids items r row id is same adds_row adds_id known = record {
  rows_are = λ other.
      adds_row other ∙ (λ t. known.rows_are other t || bytes_eq (is t) other.items) ∙ sym (any-push (λ item. bytes_eq (written item) other.items) items r);
  ids_are = λ k. adds_id k ∙ (λ t. known.ids_are k t || (same t == k)) ∙ sym (any-push (λ item. item_id item.entry.1 == k) items r);
}

pub known-is : (rows : List (Vec ℕ Global)) (ids : List ℕ) (items : List FoundRecord) (r : FoundRecord) (row : Vec ℕ Global) (id : ℕ) → KnowItems rows ids items
    → row.items ≡ written r → id ≡ item_id r.entry.1
    → (has_row rows row || (r.old && has_number ids id)) ≡ (is_written items (written r) || (r.old && has_item items (item_id r.entry.1)))
known-is rows ids items r row id known is same =
    let there : has_row rows row ≡ is_written items (written r) = known.rows_are row ∙ ap (is_written items) is in
    let has : has_number ids id ≡ has_item items (item_id r.entry.1) = known.ids_are id ∙ ap (has_item items) same in
    (λ t. there t || (r.old && has t))

-- an item's body has one of a catalog record's lengths
dir-len : (body : List ℕ) → is_dir body ≡ true → is_cat_body_len (length body) ≡ true
dir-len body is = ap is_cat_body_len (eqb-true (length body) 70 (and_parts _ (length body == 70) is).1)

file-len : (body : List ℕ) → is_file body ≡ true → is_cat_body_len (length body) ≡ true
file-len body is = ap is_cat_body_len (eqb-true (length body) 102 (and_parts _ (length body == 102) is).1)

pub item-len : (body : List ℕ) → is_item body ≡ true → is_cat_body_len (length body) ≡ true
item-len body is = by (is_dir body) (is_file body) (dir-len body) (file-len body) is
  where
    by : (a b : Bool) → (a ≡ true → is_cat_body_len (length body) ≡ true) → (b ≡ true → is_cat_body_len (length body) ≡ true) → (a || b) ≡ true → is_cat_body_len (length body) ≡ true
    by true b of_a of_b is = of_a refl
    by false true of_a of_b is = of_b refl
    by false false of_a of_b is = cc

pub named-some : (r : FoundRecord) (id : ℕ) → (if is_named_item r then Some (item_id r.entry.1) else None) ≡ Some id → (is_named_item r ≡ true) × (id ≡ item_id r.entry.1)
named-some r id is = by (is_named_item r) is
  where
    by : (b : Bool) → (if b then Some (item_id r.entry.1) else None) ≡ Some id → (b ≡ true) × (id ≡ item_id r.entry.1)
    by true e = (refl, cc)
    by false e = cc

pub named-none : (r : FoundRecord) → (if is_named_item r then Some (item_id r.entry.1) else None) ≡ None → is_named_item r ≡ false
named-none r is = by (is_named_item r) is
  where
    by : (b : Bool) → (if b then Some (item_id r.entry.1) else None) ≡ None → b ≡ false
    by true e = cc
    by false e = refl

pub row-there : (rows : List (Vec ℕ Global)) (row : Vec ℕ Global) → list_any (λ (other : Vec ℕ Global). is_eq (slice_cmp nat_cmp row.items other.items)) rows ≡ has_row rows row
row-there rows row = λ t. list_any (λ (other : Vec ℕ Global). is_eq-slice_cmp row.items other.items t) rows

pub row-put : (old new : List (Vec ℕ Global)) (row : Vec ℕ Global)
    → ((other : Vec ℕ Global) → list_any (λ (k : Vec ℕ Global). is_eq (slice_cmp nat_cmp other.items k.items)) new
    ≡ cond (is_eq (slice_cmp nat_cmp row.items other.items)) true (list_any (λ (k : Vec ℕ Global). is_eq (slice_cmp nat_cmp other.items k.items)) old))
    → AddsRow row old new
row-put old new row put other =
    sym (row-there new other) ∙ put other
    ∙ (λ t. cond (is_eq-slice_cmp row.items other.items t) true (row-there old other t))
    ∙ or_there (bytes_eq row.items other.items) (has_row old other)
