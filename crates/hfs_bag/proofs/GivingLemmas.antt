-- Items that go to a shelf one behind another.
use Rattle.std.proofs.Common.{◌≡◌, ℕ, ◌+◌, List, [], ◌∷◌, ◌++◌, length, map, refl, sym, ap, ◌∙◌, subst, append_assoc, append-nil, add_assoc, add-zero, zero-add}
use Rattle.std.proofs.lemmas.List.{map-append}
use Rattle.std.proofs.lemmas.List.Concat.{flat_map-append}
use Rattle.hfs_bag.specs.Entries.{ShelfEntry, folder, file, IsBeginning}
use Rattle.hfs_bag.specs.declared.item.BagHead.{BagHead}
use Rattle.hfs_bag.specs.declared.item.ItemDigests.{ItemDigests}
use Rattle.hfs_bag.specs.Items.{BagItem, item_digests, item_entries}
use Rattle.hfs_bag.specs.Sources.{SourceState, SameItems, HasItem, HasNoItem}
use Rattle.hfs_bag.specs.Bags.{bytes_in, items_entries}
use Rattle.hfs_bag.specs.Giving.{HasGiven}
use Rattle.hfs_bag.proofs.Growing.{part_first, part_done}

pub bytes_in-append : (xs ys : List ShelfEntry) → bytes_in (xs ++ ys) ≡ bytes_in xs + bytes_in ys
bytes_in-append [] ys = sym (zero-add (bytes_in ys))
bytes_in-append (file path time bytes ∷ rest) ys = ap (λ (n : ℕ). length bytes + n) (bytes_in-append rest ys) ∙ sym (add_assoc (length bytes) (bytes_in rest) (bytes_in ys))
bytes_in-append (folder path ∷ rest) ys = bytes_in-append rest ys

pub items_entries-append : (xs ys : List BagItem) → items_entries (xs ++ ys) ≡ items_entries xs ++ items_entries ys
items_entries-append xs ys = flat_map-append item_entries xs ys

module _ (g0 g : List ShelfEntry) (s0 s1 s2 : SourceState) where
  -- no item was left
  pub given_none : (ds : List ItemDigests) (n : ℕ) → HasNoItem s0 s1 → HasGiven g0 g0 s0 s1 ds ds n n
  given_none ds n taken = record {
    all = taken.all;
    tables = taken.tables;
    items = [];
    left = taken.none ∙ sym taken.none_left;
    given = sym (append-nil g0);
    digests = sym (append-nil ds);
    bytes = sym (add-zero n);
  }

  -- one item was given
  pub given_one : (head : BagHead) (ds ds' : List ItemDigests) (d : ItemDigests) (n n' b : ℕ) → HasItem head s0 s1 → SameItems s1 s2
      → g ≡ g0 ++ item_entries s1.item → ds' ≡ ds ++ d ∷ [] → d ≡ item_digests s1.item → n' ≡ n + b → b ≡ bytes_in (item_entries s1.item)
      → HasGiven g0 g s0 s2 ds ds' n n'
  given_one head ds ds' d n n' b taken same given told told_is sum sum_is = record {
    all = same.all ∙ taken.all;
    tables = same.tables ∙ taken.tables;
    items = s1.item ∷ [];
    left = taken.left ∙ ap (λ (xs : List BagItem). s1.item ∷ xs) (sym same.left);
    given = given ∙ ap (λ (xs : List ShelfEntry). g0 ++ xs) (sym (append-nil (item_entries s1.item)));
    digests = told ∙ ap (λ (x : ItemDigests). ds ++ x ∷ []) told_is;
    bytes = sum ∙ ap (λ (x : ℕ). n + x) (sum_is ∙ ap bytes_in (sym (append-nil (item_entries s1.item))));
  }

  -- the shelf failed with an item
  pub part_item : (head : BagHead) → HasItem head s0 s1 → IsBeginning g (g0 ++ item_entries s1.item) → IsBeginning g (g0 ++ items_entries s0.left)
  part_item head taken part =
      subst (λ (left : List BagItem). IsBeginning g (g0 ++ items_entries left)) (sym taken.left)
      (part_first g0 g (item_entries s1.item) (items_entries s1.left) part)

  -- an item was given, and no more
  pub part_behind : (head : BagHead) → HasItem head s0 s1 → g ≡ g0 ++ item_entries s1.item → IsBeginning g (g0 ++ items_entries s0.left)
  part_behind head taken given =
      subst (λ (left : List BagItem). IsBeginning g (g0 ++ items_entries left)) (sym taken.left)
      (part_done g0 g (item_entries s1.item) given g (items_entries s1.left) refl)

-- nothing was given yet
pub given_itself : (g : List ShelfEntry) (s : SourceState) (ds : List ItemDigests) → ds ≡ [] → HasGiven g g s s [] ds 0 0
given_itself g s ds none = record {
  all = refl;
  tables = refl;
  items = [];
  left = refl;
  given = sym (append-nil g);
  digests = none;
  bytes = refl;
}

module _ (g0 g1 g2 : List ShelfEntry) (s0 s1 s2 : SourceState) (ds0 ds1 ds2 : List ItemDigests) (n0 n1 n2 : ℕ) (first : HasGiven g0 g1 s0 s1 ds0 ds1 n0 n1) where
  -- more items were given
  pub given_next : HasGiven g1 g2 s1 s2 ds1 ds2 n1 n2 → HasGiven g0 g2 s0 s2 ds0 ds2 n0 n2
  given_next second = record {
    all = second.all ∙ first.all;
    tables = second.tables ∙ first.tables;
    items = first.items ++ second.items;
    left = first.left ∙ ap (λ (xs : List BagItem). first.items ++ xs) second.left ∙ sym (append_assoc first.items second.items s2.left);
    given = second.given ∙ ap (λ (xs : List ShelfEntry). xs ++ items_entries second.items) first.given ∙ append_assoc g0 (items_entries first.items) (items_entries second.items)
        ∙ ap (λ (xs : List ShelfEntry). g0 ++ xs) (sym (items_entries-append first.items second.items));
    digests = second.digests ∙ ap (λ (xs : List ItemDigests). xs ++ map item_digests second.items) first.digests ∙ append_assoc ds0 (map item_digests first.items) (map item_digests second.items)
        ∙ ap (λ (xs : List ItemDigests). ds0 ++ xs) (sym (map-append item_digests first.items second.items));
    bytes = second.bytes ∙ ap (λ (x : ℕ). x + bytes_in (items_entries second.items)) first.bytes ∙ add_assoc n0 (bytes_in (items_entries first.items)) (bytes_in (items_entries second.items))
        ∙ ap (λ (x : ℕ). n0 + x) (sym (bytes_in-append (items_entries first.items) (items_entries second.items)) ∙ ap bytes_in (sym (items_entries-append first.items second.items)));
  }

  -- the shelf failed among those to come
  pub part_left : IsBeginning g2 (g1 ++ items_entries s1.left) → IsBeginning g2 (g0 ++ items_entries s0.left)
  part_left part =
      subst (λ (xs : List ShelfEntry). IsBeginning g2 xs)
      (ap (λ (xs : List ShelfEntry). xs ++ items_entries s1.left) first.given ∙ append_assoc g0 (items_entries first.items) (items_entries s1.left)
      ∙ ap (λ (xs : List ShelfEntry). g0 ++ xs) (sym (items_entries-append first.items s1.left) ∙ ap items_entries (sym first.left)))
      part

-- all were given
module _ (g0 g : List ShelfEntry) (s0 s : SourceState) (ds : List ItemDigests) (n : ℕ) (given : HasGiven g0 g s0 s [] ds 0 n) (none : s.left ≡ []) where
  all_items : given.items ≡ s0.left
  all_items = sym (append-nil given.items) ∙ ap (λ (xs : List BagItem). given.items ++ xs) (sym none) ∙ sym given.left

  pub given_whole : g ≡ g0 ++ items_entries s0.left
  given_whole = given.given ∙ ap (λ (items : List BagItem). g0 ++ items_entries items) all_items

  pub given_digests : ds ≡ map item_digests s0.left
  given_digests = given.digests ∙ ap (λ (items : List BagItem). map item_digests items) all_items

  pub given_bytes : n ≡ bytes_in (items_entries s0.left)
  given_bytes = given.bytes ∙ zero-add (bytes_in (items_entries given.items)) ∙ ap (λ (items : List BagItem). bytes_in (items_entries items)) all_items
