-- Lines of manifests that go to a shelf one behind another.
use Rattle.std.proofs.Common.{◌≡◌, ℕ, List, [], ◌∷◌, ◌++◌, Option, Some, None, map, refl, sym, ap, ◌∙◌, subst, append_assoc, append-nil}
use Rattle.std.proofs.lemmas.List.Concat.{flat_map-append}
use Rattle.hfs_bag.specs.Entries.{ShelfEntry, with_piece, IsBeginning}
use Rattle.hfs_bag.proofs.Beginnings.{with_piece-none, with_piece-twice, begins_longer_piece}
use Rattle.hfs_bag.specs.declared.item.BagHead.{BagHead}
use Rattle.hfs_bag.specs.declared.item.BagKind.{BagKind}
use Rattle.hfs_bag.specs.declared.item.BagKind.TheVariants as kind
use Rattle.hfs_bag.specs.declared.item.ItemDigests.{ItemDigests}
use Rattle.hfs_bag.specs.declared.item.ItemDigests.TheVariants as digests
use Rattle.hfs_bag.specs.Items.{BagItem, data_entry, digests_of_kind, double_entry, double_path, entries_of_kind, item_digests, item_entries, item_path}
use Rattle.hfs_bag.specs.Sources.{SourceState, HasItem, TakesItem}
use Rattle.hfs_bag.specs.Bags.{digest_line, items_entries, manifest, manifest_line}
use Rattle.hfs_bag.specs.Filling.{HoldsMore}
use Rattle.hfs_bag.specs.Giving.{HasListed, IsNextOf}
use Rattle.hfs_bag.proofs.GivingLemmas.{items_entries-append}

-- the lines of some of the items that were to come did
pub record HasListedSome (given_old given_new : List ShelfEntry) (old new : SourceState) (Held Holds : List ℕ → Type 0) : Type 0 where
  pub all : new.all ≡ old.all
  pub tables : new.tables ≡ old.tables
  pub items : List BagItem
  pub left : old.left ≡ items ++ new.left
  pub given : given_new ≡ with_piece given_old (manifest (items_entries items))
  pub digest : HoldsMore Held Holds (manifest (items_entries items))

pub manifest-append : (xs ys : List ShelfEntry) → manifest (xs ++ ys) ≡ manifest xs ++ manifest ys
manifest-append xs ys = flat_map-append manifest_line xs ys

-- ---- the lines of an item

abbrev first_of : ItemDigests → List ℕ
first_of (digests.File a b) = a
first_of (digests.Double a) = a
first_of digests.NoFile = []

abbrev second_of : ItemDigests → List ℕ
second_of (digests.File a b) = b
second_of (digests.Double a) = a
second_of digests.NoFile = []

abbrev IsOfFile : ItemDigests → Type 0
IsOfFile (digests.File a b) = Unit {0}
IsOfFile (digests.Double a) = ⊥
IsOfFile digests.NoFile = ⊥

abbrev IsOfDouble : ItemDigests → Type 0
IsOfDouble (digests.File a b) = ⊥
IsOfDouble (digests.Double a) = Unit {0}
IsOfDouble digests.NoFile = ⊥

abbrev IsOfNone : ItemDigests → Type 0
IsOfNone (digests.File a b) = ⊥
IsOfNone (digests.Double a) = ⊥
IsOfNone digests.NoFile = Unit {0}

file_lines_of : (k : BagKind) (item : BagItem) (a b : List ℕ) → digests.File a b ≡ digests_of_kind k item
    → digest_line a (item_path item) ++ digest_line b (double_path item) ≡ manifest (entries_of_kind k item)
file_lines_of kind.File item a b told =
    ap (λ (d : ItemDigests). digest_line (first_of d) (item_path item) ++ digest_line (second_of d) (double_path item)) told
    ∙ ap (λ (lines : List ℕ). manifest_line (data_entry item) ++ lines) (sym (append-nil (manifest_line (double_entry item))))
file_lines_of kind.Folder item a b told = absurd (subst IsOfFile told tt)
file_lines_of kind.FolderAlone item a b told = absurd (subst IsOfFile told tt)
file_lines_of kind.DoubleAlone item a b told = absurd (subst IsOfFile told tt)

double_lines_of : (k : BagKind) (item : BagItem) (a : List ℕ) → digests.Double a ≡ digests_of_kind k item
    → digest_line a (double_path item) ≡ manifest (entries_of_kind k item)
double_lines_of kind.File item a told = absurd (subst IsOfDouble told tt)
double_lines_of kind.Folder item a told =
    ap (λ (d : ItemDigests). digest_line (first_of d) (double_path item)) told ∙ sym (append-nil (manifest_line (double_entry item)))
double_lines_of kind.FolderAlone item a told = absurd (subst IsOfDouble told tt)
double_lines_of kind.DoubleAlone item a told =
    ap (λ (d : ItemDigests). digest_line (first_of d) (double_path item)) told ∙ sym (append-nil (manifest_line (double_entry item)))

none_lines_of : (k : BagKind) (item : BagItem) → digests.NoFile ≡ digests_of_kind k item → [] ≡ manifest (entries_of_kind k item)
none_lines_of kind.File item told = absurd (subst IsOfNone told tt)
none_lines_of kind.Folder item told = absurd (subst IsOfNone told tt)
none_lines_of kind.FolderAlone item told = refl
none_lines_of kind.DoubleAlone item told = absurd (subst IsOfNone told tt)

pub file_lines : (item : BagItem) (a b : List ℕ) → digests.File a b ≡ item_digests item
    → digest_line a (item_path item) ++ digest_line b (double_path item) ≡ manifest (item_entries item)
file_lines item a b told = file_lines_of item.kind item a b told

pub double_lines : (item : BagItem) (a : List ℕ) → digests.Double a ≡ item_digests item → digest_line a (double_path item) ≡ manifest (item_entries item)
double_lines item a told = double_lines_of item.kind item a told

pub none_lines : (item : BagItem) → digests.NoFile ≡ item_digests item → [] ≡ manifest (item_entries item)
none_lines item told = none_lines_of item.kind item told

-- ---- the next item

abbrev first_or : {A : Type 0} → A → List A → A
first_or none [] = none
first_or none (x ∷ xs) = x

abbrev behind_first : {A : Type 0} → List A → List A
behind_first [] = []
behind_first (x ∷ xs) = xs

abbrev IsSomeHead : Option BagHead → Type 0
IsSomeHead (Some head) = Unit {0}
IsSomeHead None = ⊥

abbrev IsEmpty : {A : Type 0} → List A → Type 0
IsEmpty [] = Unit {0}
IsEmpty (x ∷ xs) = ⊥

pub next_told : (told : ItemDigests) (left behind : List BagItem) (item : BagItem) → IsNextOf told left → left ≡ item ∷ behind → told ≡ item_digests item
next_told told left behind item next left_is =
    next.told_is ∙ ap item_digests (ap (first_or item) (sym next.left_is ∙ left_is))

pub next_none : (told : ItemDigests) (left : List BagItem) → IsNextOf told left → left ≡ [] → ⊥
next_none told left next none = subst IsEmpty (sym none ∙ next.left_is) tt

-- no item came
pub taken_none : (s0 s1 : SourceState) (came : Option BagHead) → came ≡ None → TakesItem s0 s1 came → s0.left ≡ []
taken_none s0 s1 None is taken = taken.none
taken_none s0 s1 (Some head) is taken = absurd (subst IsSomeHead is tt)

-- what is told of the items that are to come begins with what is told of the next one
pub is_next : (told : ItemDigests) (behind rest : List ItemDigests) (left : List BagItem) → rest ≡ map item_digests left → rest ≡ told ∷ behind → IsNextOf told left
is_next told behind rest [] all first = absurd (subst IsEmpty (sym all ∙ first) tt)
is_next told behind rest (item ∷ left) all first = record {
  item = item;
  behind = left;
  left_is = refl;
  told_is = ap (first_or told) (sym first ∙ all);
}

pub told_behind : (told : ItemDigests) (behind rest : List ItemDigests) (left left' : List BagItem) (item : BagItem) → rest ≡ map item_digests left → rest ≡ told ∷ behind → left ≡ item ∷ left'
    → behind ≡ map item_digests left'
told_behind told behind rest left left' item all first next = ap behind_first (sym first ∙ all ∙ ap (map item_digests) next)

-- all items are to come again
pub told_again : (told : List ItemDigests) (left all : List BagItem) → left ≡ all → told ≡ map item_digests all → told ≡ map item_digests left
told_again told left all same told_is = told_is ∙ ap (map item_digests) (sym same)

pub told_none : (left : List BagItem) → [] ≡ map item_digests left → left ≡ []
told_none [] all = refl
told_none (item ∷ left) all = absurd (subst IsEmpty all tt)

module _ (g0 g : List ShelfEntry) (s0 s : SourceState) (H0 H : List ℕ → Type 0) where
  pub listed_one : (head : BagHead) → HasItem head s0 s → g ≡ with_piece g0 (manifest (item_entries s.item)) → HoldsMore H0 H (manifest (item_entries s.item)) → HasListed g0 g s0 s H0 H
  listed_one head taken given digest = record {
    all = taken.all;
    tables = taken.tables;
    item = s.item;
    left = taken.left;
    given = given;
    digest = digest;
  }

  -- the shelf failed with the lines of an item
  pub part_lines : (head : BagHead) → HasItem head s0 s → IsBeginning g (with_piece g0 (manifest (item_entries s.item))) → IsBeginning g (with_piece g0 (manifest (items_entries s0.left)))
  part_lines head taken part =
      subst (λ (lines : List ℕ). IsBeginning g (with_piece g0 lines))
      (sym (manifest-append (item_entries s.item) (items_entries s.left)) ∙ ap (λ (left : List BagItem). manifest (items_entries left)) (sym taken.left))
      (begins_longer_piece g g0 (manifest (item_entries s.item)) (manifest (items_entries s.left)) part)

  -- nothing was listed
  pub listed_none : g ≡ g0 → s ≡ s0 → ((m : List ℕ) → H0 m → H m) → HasListedSome g0 g s0 s H0 H
  listed_none given state digest = record {
    all = ap (λ (x : SourceState). x.all) state;
    tables = ap (λ (x : SourceState). x.tables) state;
    items = [];
    left = ap (λ (x : SourceState). x.left) (sym state);
    given = given ∙ sym (with_piece-none g0);
    digest = λ m held. subst H (sym (append-nil m)) (digest m held);
  }

module _ (g0 g1 g2 : List ShelfEntry) (s0 s1 s2 : SourceState) (H0 H1 H2 : List ℕ → Type 0) (some : HasListedSome g0 g1 s0 s1 H0 H1) where
  lines_of : (xs ys : List BagItem) → manifest (items_entries xs) ++ manifest (items_entries ys) ≡ manifest (items_entries (xs ++ ys))
  lines_of xs ys = sym (manifest-append (items_entries xs) (items_entries ys)) ∙ ap manifest (sym (items_entries-append xs ys))

  pub listed_more : HasListed g1 g2 s1 s2 H1 H2 → HasListedSome g0 g2 s0 s2 H0 H2
  listed_more one =
      let more : List BagItem = one.item ∷ [] in
      let lines_is : manifest (item_entries one.item) ≡ manifest (items_entries more) = ap manifest (sym (append-nil (item_entries one.item))) in
      let lines : manifest (items_entries some.items) ++ manifest (item_entries one.item) ≡ manifest (items_entries (some.items ++ more)) =
      ap (λ (xs : List ℕ). manifest (items_entries some.items) ++ xs) lines_is ∙ lines_of some.items more in
      record {
        all = one.all ∙ some.all;
        tables = one.tables ∙ some.tables;
        items = some.items ++ more;
        left = some.left ∙ ap (λ (xs : List BagItem). some.items ++ xs) one.left ∙ sym (append_assoc some.items more s2.left);
        given = one.given ∙ ap (λ (xs : List ShelfEntry). with_piece xs (manifest (item_entries one.item))) some.given
            ∙ with_piece-twice g0 (manifest (items_entries some.items)) (manifest (item_entries one.item)) ∙ ap (with_piece g0) lines;
        digest = λ m held. subst (λ (xs : List ℕ). H2 xs) (append_assoc m (manifest (items_entries some.items)) (manifest (item_entries one.item)) ∙ ap (λ (xs : List ℕ). m ++ xs) lines)
            (one.digest (m ++ manifest (items_entries some.items)) (some.digest m held));
      }

  pub part_listed : IsBeginning g2 (with_piece g1 (manifest (items_entries s1.left))) → IsBeginning g2 (with_piece g0 (manifest (items_entries s0.left)))
  part_listed part =
      subst (IsBeginning g2)
      (ap (λ (xs : List ShelfEntry). with_piece xs (manifest (items_entries s1.left))) some.given
      ∙ with_piece-twice g0 (manifest (items_entries some.items)) (manifest (items_entries s1.left))
      ∙ ap (with_piece g0) (lines_of some.items s1.left ∙ ap (λ (left : List BagItem). manifest (items_entries left)) (sym some.left)))
      part

module _ (g0 g : List ShelfEntry) (s0 s : SourceState) (H0 H : List ℕ → Type 0) (some : HasListedSome g0 g s0 s H0 H) (none : s.left ≡ []) where
  all_listed : some.items ≡ s0.left
  all_listed = sym (append-nil some.items) ∙ ap (λ (xs : List BagItem). some.items ++ xs) (sym none) ∙ sym some.left

  pub listed_whole : g ≡ with_piece g0 (manifest (items_entries s0.left))
  listed_whole = some.given ∙ ap (λ (items : List BagItem). with_piece g0 (manifest (items_entries items))) all_listed

  pub listed_digest : HoldsMore H0 H (manifest (items_entries s0.left))
  listed_digest = subst (λ (items : List BagItem). HoldsMore H0 H (manifest (items_entries items))) all_listed some.digest
