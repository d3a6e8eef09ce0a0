-- What is looked up by names, where each item stands at its place.
use Rattle.std.proofs.Common.{◌≡◌, inl, inr, ⊎_elim, ℕ, ◌+◌, ◌<◌, Bool, true, false, cond, ◌&&◌, not, List, [], ◌∷◌, map, refl, sym, ◌∙◌, ap, subst, arith, eqb, IsTrue, Option, Some, None}
use Rattle.std.specs.Prelude.{T}
use Rattle.std.specs.declared.cmp.Ordering.{Ordering}
use Rattle.std.specs.declared.cmp.Ordering.TheVariants.{Less, Equal, Greater}
use Rattle.std.specs.declared.ops.Bound.TheVariants.{Included, Excluded}
use Rattle.std.specs.Ordering.{nat_cmp, is_lt, is_le, is_eq, ordering_then}
use Rattle.std.specs.List.{AllByRecursion, Contains, filter, find}
use Rattle.std.specs.List.Sorted.{IsStrictlySortedBy}
use Rattle.std.specs.Map.{lookup, keys_of}
use Rattle.std.specs.Option.{option_map, option_and_then, unwrap_or}
use Rattle.std.specs.FinMap as map
use Rattle.std.specs.FinMap.{nat_cmp-IsAntisymmetric, slice_cmp-IsAntisymmetric}
use Rattle.std.specs.FinMap.Entries.{below_all}
use Rattle.std.specs.BTreeMap as tree
use Rattle.std.specs.BTreeMap.Range.{range_contains, entries_between}
use Rattle.std.proofs.lemmas.Bool.{cases_eq, cases_lt, eq-eqb, ne_eqb, eqb-true}
use Rattle.std.proofs.lemmas.Map.Views.{All-found}
use Rattle.hfs_fields.specs.Order.{folded, name_cmp, same_name}
use Rattle.hfs_model.specs.declared.item.Item.{Item}
use Rattle.hfs_model.specs.Volume.{Volume, Items, Entry}
use Rattle.hfs_model.specs.Children.{entry_at, child_named, is_child_named, children}
use Rattle.hfs_model.specs.Lawful.{Has, IsLawful}
use Rattle.hfs_model.specs.Laws.{AreChildren, ChildrenAreOne}
use Rattle.hfs_model.specs.Replies.{info_of, infos}
use Rattle.hfs_model.proofs.Facts.{true_false}
use Rattle.hfs_model.proofs.Facts.{none_is_some}
use Rattle.hfs_model.proofs.Facts.{same_some}
use Rattle.hfs_model.proofs.Facts.{found_has}
use Rattle.hfs_model.proofs.Facts.{no_entry}
use Rattle.hfs_model.proofs.Facts.{two_tests}
use Rattle.hfs_model.proofs.Members.{In}
use Rattle.hfs_model.proofs.Members.{in_from_contains}
use Rattle.hfs_model.proofs.Members.{contains_from_in}
use Rattle.hfs_model.proofs.InOrder.{keyed}
use Rattle.hfs_model.proofs.InOrder.{names_cmp}
use Rattle.hfs_model.proofs.InOrder.{IsInNameOrder}
use Rattle.hfs_model.proofs.Folders.{pairs_rise}
use Rattle.hfs_viewers.specs.declared.place.Place.{Place}
use Rattle.hfs_viewers.specs.Places.{place, place_cmp, place_cmp_total}
use Rattle.hfs_viewers.specs.Tables.{AreNames}
use Rattle.hfs_viewers.proofs.NameLemmas.{nobody, entry_or, told_under, names_under}
use Rattle.hfs_check.proofs.EntryLemmas.{entry_get}
use Rattle.hfs_fields.proofs.KeyOrder.{same}
use Rattle.hfs_fields.proofs.OrderLemmas.{less, more, eq_is}
use Rattle.hfs_model.proofs.Folders.{both}

-- no name is below the empty one
least : (name : List ℕ) → is_le (name_cmp [] name) ≡ true
least [] = refl
least (c ∷ cs) = refl

at_or_behind : (dir : ℕ) (q : Place) (r : Ordering) → nat_cmp dir q.parent ≡ r → is_le (place_cmp (place dir []) q) ≡ is_le r
at_or_behind dir q r e = ap (λ o. is_le (ordering_then o (name_cmp [] q.name))) e ∙ rest r
  where
    rest : (o : Ordering) → is_le (ordering_then o (name_cmp [] q.name)) ≡ is_le o
    rest Less = refl
    rest Equal = least q.name
    rest Greater = refl

abbrev is_in : ℕ → Place → Bool
is_in dir q = range_contains place_cmp (Included (place dir [])) (Excluded (place (dir + 1) [])) q

-- what lies in it are the places in the folder
pub in_folder : (dir : ℕ) (q : Place) → is_in dir q ≡ eqb q.parent dir
in_folder dir q = ⊎_elim
    (λ (here : q.parent ≡ dir).
    ap (λ b. b && not (is_le (place_cmp (place (dir + 1) []) q))) (at_or_behind dir q Equal (same dir q.parent (sym here)))
    ∙ ap not (at_or_behind (dir + 1) q Greater (more (dir + 1) q.parent (omega (arith, here))))
    ∙ sym (eq-eqb q.parent dir here))
    (λ (other : q.parent ≡ dir → ⊥). ⊎_elim
    (λ (below : q.parent < dir).
    ap (λ b. b && not (is_le (place_cmp (place (dir + 1) []) q))) (at_or_behind dir q Greater (more dir q.parent below)) ∙ sym (ne_eqb q.parent dir other))
    (λ above.
    let past : dir < q.parent = omega (arith, above, other) in
    ap (λ b. b && not (is_le (place_cmp (place (dir + 1) []) q))) (at_or_behind dir q Less (less dir q.parent past))
    ∙ ap not (beyond past)
    ∙ sym (ne_eqb q.parent dir other))
    (cases_lt q.parent dir))
    (cases_eq q.parent dir)
  where
    beyond : dir < q.parent → is_le (place_cmp (place (dir + 1) []) q) ≡ true
    beyond past = ⊎_elim
        (λ (at : dir + 1 ≡ q.parent). at_or_behind (dir + 1) q Equal (same (dir + 1) q.parent at))
        (λ (ne : dir + 1 ≡ q.parent → ⊥). at_or_behind (dir + 1) q Less (less (dir + 1) q.parent (omega (arith, past, ne))))
        (cases_eq (dir + 1) q.parent)

pub between_is : (dir : ℕ) (names : List (Place × ℕ)) → entries_between place_cmp (Included (place dir [])) (Excluded (place (dir + 1) [])) names ≡ names_under dir names
between_is dir names i = filter (λ e. in_folder dir e.0 i) names

-- ---- lists

abbrev picked : {A B : Type 0} → (A → Bool) → (A → B) → List A → List B
picked p f xs = map f (filter p xs)

from_picked : {A B : Type 0} (p : A → Bool) (f : A → B) (xs : List A) (y : B) → In y (picked p f xs) → (x : A) × In x xs × (p x ≡ true) × (f x ≡ y)
from_picked p f [] y i = absurd i
from_picked {A} {B} p f (x ∷ xs) y i = elim (p x) as (λ b. p x ≡ b → In y (map f (cond b (x ∷ filter p xs) (filter p xs))) → (z : A) × In z (x ∷ xs) × (p z ≡ true) × (f z ≡ y)) [
  | true ↦ λ is j. ⊎_elim
      (λ (here : f x ≡ y). (x, inl refl, is, here))
      (λ (there : In y (picked p f xs)). let rest = from_picked p f xs y there in (rest.0, inr rest.1, rest.2, rest.3))
      j
  | false ↦ λ is j. let rest = from_picked p f xs y j in (rest.0, inr rest.1, rest.2, rest.3)
] refl i

to_picked : {A B : Type 0} (p : A → Bool) (f : A → B) (xs : List A) (x : A) → In x xs → p x ≡ true → In (f x) (picked p f xs)
to_picked p f [] x i is = absurd i
to_picked p f (y ∷ ys) x i is = ⊎_elim
    (λ (here : y ≡ x). subst (λ (b : Bool). In (f x) (map f (cond b (y ∷ filter p ys) (filter p ys)))) (sym (ap p here ∙ is)) (inl (ap f here)))
    (λ (there : In x ys). elim (p y) as (λ (b : Bool). In (f x) (map f (cond b (y ∷ filter p ys) (filter p ys)))) [
      | true ↦ inr (to_picked p f ys x there is)
      | false ↦ to_picked p f ys x there is
    ])
    i

pub entry_has : (m : Items) (q : ℕ) (i : Item) → Has m q i → entry_at (map.entries m) q ≡ Some (q, i)
entry_has m q i has = entry_get m q ∙ ap (option_map (λ (j : Item). (q, j))) has

-- ---- by name

-- places that tie have the same ID
pub tied : (names : tree.BTreeMap Place ℕ) (p q : Place) → place_cmp p q ≡ Equal → tree.get place_cmp names p ≡ tree.get place_cmp names q
tied names p q e i = lookup (λ k. is_eq (place_cmp_total.congr p q k e i)) names.entries

pub tie : (p q : Place) → p.parent ≡ q.parent → IsTrue (same_name p.name q.name) → place_cmp p q ≡ Equal
tie p q e h = ap (λ o. ordering_then o (name_cmp p.name q.name)) (same p.parent q.parent e) ∙ eq_is _ h

module _ (m : Items) (names : tree.BTreeMap Place ℕ) (are : AreNames m names) where
  pub child_named_is : (dir : ℕ) (name : List ℕ) → child_named (map.entries m) dir name ≡ option_and_then (entry_at (map.entries m)) (tree.get place_cmp names (place dir name))
  child_named_is dir name = elim (find (is_child_named dir name) (map.entries m)) as (λ (o : Option Entry). find (is_child_named dir name) (map.entries m) ≡ o → o ≡ option_and_then (entry_at (map.entries m)) (tree.get place_cmp names (place dir name))) [
    | Some e ↦ λ is.
        let has = found_has m (is_child_named dir name) e is in
        let tests = two_tests _ _ has.1 in
        let at = are.has e.0 e.1 has.0 in
        let here : tree.get place_cmp names (place dir name) ≡ Some e.0 = sym (tied names (place e.1.parent e.1.name) (place dir name) (tie (place e.1.parent e.1.name) (place dir name) (eqb-true e.1.parent dir tests.0) tests.1)) ∙ at in
        sym (ap (option_and_then (entry_at (map.entries m))) here ∙ entry_has m e.0 e.1 has.0)
    | None ↦ λ none. elim (tree.get place_cmp names (place dir name)) as (λ (o : Option ℕ). tree.get place_cmp names (place dir name) ≡ o → ◌≡◌ {A = Option Entry} None (option_and_then (entry_at (map.entries m)) o)) [
      | None ↦ λ _. refl
      | Some id ↦ λ at.
          let item = are.item (place dir name) id at in
          absurd (no_entry (is_child_named dir name) (map.entries m) id item.0 none (sym (map.get-entries m id) ∙ item.1) (λ i. eq-eqb item.0.parent dir item.2 i && item.3 i))
    ] refl
  ] refl

-- ---- a folder's list

-- a look-up that finds something finds it in the list
found_in : (p : Place) (id : ℕ) (es : List (Place × ℕ)) → lookup (λ k. is_eq (place_cmp p k)) es ≡ Some id → (e : Place × ℕ) × In e es × (e.1 ≡ id) × (place_cmp p e.0 ≡ Equal)
found_in p id [] is = absurd (none_is_some None id refl is)
found_in p id (e ∷ es) is = elim (is_eq (place_cmp p e.0)) as (λ b. is_eq (place_cmp p e.0) ≡ b → cond b (Some e.1) (lookup (λ k. is_eq (place_cmp p k)) es) ≡ Some id → (x : Place × ℕ) × In x (e ∷ es) × (x.1 ≡ id) × (place_cmp p x.0 ≡ Equal)) [
  | true ↦ λ tied here. (e, inl refl, same_some e.1 id here, eq_is _ tied)
  | false ↦ λ apart later. let rest = found_in p id es later in (rest.0, inr rest.1, rest.2, rest.3)
] refl is

pub level_parents : (p q : Place) → place_cmp p q ≡ Equal → p.parent ≡ q.parent
level_parents p q e = nat_cmp-IsAntisymmetric p.parent q.parent (first (nat_cmp p.parent q.parent) e)
  where
    first : (r : Ordering) → ordering_then r (name_cmp p.name q.name) ≡ Equal → r ≡ Equal
    first Less e = e
    first Equal e = refl
    first Greater e = e

-- below, under the same parent
level_names : (p q : Place) → p.parent ≡ q.parent → place_cmp p q ≡ Less → name_cmp p.name q.name ≡ Less
level_names p q e h = ap (λ o. ordering_then o (name_cmp p.name q.name)) (sym (same p.parent q.parent e)) ∙ h

pub less_is : (r : Ordering) → r ≡ Less → T (is_lt r)
less_is r e = subst (λ x. T (is_lt x)) (sym e) tt

same_folded : (x y : List ℕ) → IsTrue (same_name x y) → folded x ≡ folded y
same_folded x y h = slice_cmp-IsAntisymmetric nat_cmp-IsAntisymmetric (folded x) (folded y) (eq_is _ h)

module _ (m : Items) (names : tree.BTreeMap Place ℕ) (are : AreNames m names) (dir : ℕ) where
  abbrev is_under : Place × ℕ → Bool
  is_under e = eqb e.0.parent dir

  abbrev entry : Place × ℕ → Entry
  entry e = entry_or (map.entries m) e.1

  -- the item of a name is the one that stands there
  of_name : (e : Place × ℕ) → In e names.entries → (i : Item) × Has m e.1 i × (i.parent ≡ e.0.parent) × (folded i.name ≡ folded e.0.name) × (entry e ≡ (e.1, i))
  of_name e here =
      let at = contains_from_in names.entries e here in
      let found : tree.get place_cmp names e.0 ≡ Some e.1 = subst (λ (x : Place × ℕ). tree.get place_cmp names x.0 ≡ Some x.1) at.2 (All-found place_cmp_total names are.sorted at.0 e at.1) in
      let item = are.item e.0 e.1 found in
      (item.0, item.1, item.2, same_folded item.0.name e.0.name item.3, ap (λ o. unwrap_or o nobody) (entry_has m e.1 item.0 item.1))

  all_above : (k : Place) (text : List ℕ) (es : List (Place × ℕ)) → ((e : Place × ℕ) → In e es → In e names.entries) → k.parent ≡ dir → text ≡ folded k.name → AllByRecursion (λ y. place_cmp k y ≡ Less) (keys_of es) → T (below_all names_cmp text (keyed (picked is_under entry es)))
  all_above k text [] within at is h = tt
  all_above k text (e ∷ es) within at is h = elim (is_under e) as (λ b. is_under e ≡ b → T (below_all names_cmp text (keyed (map entry (cond b (e ∷ filter is_under es) (filter is_under es)))))) [
    | true ↦ λ under.
        let item = of_name e (within e (inl refl)) in
        let below : name_cmp k.name e.0.name ≡ Less = level_names k e.0 (at ∙ sym (eqb-true e.0.parent dir under)) h.0 in
        let named : folded (entry e).1.name ≡ folded e.0.name = ap (λ (x : Entry). folded x.1.name) item.4 ∙ item.3 in
        both _ _ (less_is _ ((λ i. names_cmp (is i) (named i)) ∙ below)) (all_above k text es (λ x i. within x (inr i)) at is h.1)
    | false ↦ λ other. all_above k text es (λ x i. within x (inr i)) at is h.1
  ] refl

  rise : (es : List (Place × ℕ)) → ((e : Place × ℕ) → In e es → In e names.entries) → IsStrictlySortedBy place_cmp (keys_of es) → IsInNameOrder (picked is_under entry es)
  unfolding IsStrictlySortedBy
  rise [] within h = tt
  rise (e ∷ es) within h = elim (is_under e) as (λ b. is_under e ≡ b → IsInNameOrder (map entry (cond b (e ∷ filter is_under es) (filter is_under es)))) [
    | true ↦ λ under.
        let item = of_name e (within e (inl refl)) in
        let named : folded (entry e).1.name ≡ folded e.0.name = ap (λ (x : Entry). folded x.1.name) item.4 ∙ item.3 in
        both _ _ (all_above e.0 (folded (entry e).1.name) es (λ x i. within x (inr i)) (eqb-true e.0.parent dir under) named h.0) (rise es (λ x i. within x (inr i)) h.1)
    | false ↦ λ other. rise es (λ x i. within x (inr i)) h.1
  ] refl

  abbrev named : List Entry
  named = picked is_under entry names.entries

  from_named : (x : Entry) → In x named → Has m x.0 x.1 × (x.1.parent ≡ dir)
  from_named x i =
      let from = from_picked is_under entry names.entries x i in
      let item = of_name from.0 from.1 in
      let is : (from.0.1, item.0) ≡ x = sym item.4 ∙ from.3 in
      subst (λ (y : Entry). Has m y.0 y.1 × (y.1.parent ≡ dir)) is (item.1, item.2 ∙ eqb-true from.0.0.parent dir from.2)

  to_named : (x : Entry) → Has m x.0 x.1 → x.1.parent ≡ dir → In x named
  to_named x has at =
      let found = found_in (place x.1.parent x.1.name) x.0 names.entries (are.has x.0 x.1 has) in
      let under : eqb found.0.0.parent dir ≡ true = eq-eqb found.0.0.parent dir (sym (level_parents (place x.1.parent x.1.name) found.0.0 found.3) ∙ at) in
      let is : entry found.0 ≡ x = ap (entry_or (map.entries m)) found.2 ∙ ap (λ o. unwrap_or o nobody) (entry_has m x.0 x.1 has) in
      subst (λ (y : Entry). In y named) is (to_picked is_under entry names.entries found.0 found.1 under)

  are_children : AreChildren m dir named
  are_children = record {
    each = λ e. (
      λ (c : Contains named e). from_named e (in_from_contains named e c.0 c.1 c.2),
      λ (p : Has m e.0 e.1 × (e.1.parent ≡ dir)). contains_from_in named e (to_named e p.0 p.1),
    );
    rise = pairs_rise named (rise names.entries (λ e i. i) are.sorted);
  }

  module _ (one : ChildrenAreOne) (v : Volume) (same : v.items ≡ m) (lawful : IsLawful v) where
    pub children_named : map entry (names_under dir names.entries) ≡ children (map.entries m) dir
    children_named =
        one v lawful dir named (subst (λ (n : Items). AreChildren n dir named) (sym same) are_children)
        ∙ ap (λ (n : Items). children (map.entries n) dir) same

    fused : (es : List Entry) (ns : List (Place × ℕ)) → told_under es ns ≡ map (info_of es) (map (λ (e : Place × ℕ). entry_or es e.1) ns)
    fused es [] = refl
    fused es (e ∷ ns) = ap (λ l. info_of es (entry_or es e.1) ∷ l) (fused es ns)

    pub listed : told_under (map.entries m) (names_under dir names.entries) ≡ infos (map.entries m) dir
    listed = fused (map.entries m) (names_under dir names.entries) ∙ ap (map (info_of (map.entries m))) children_named

pub in_under : (dir : ℕ) (es : List (Place × ℕ)) (e : Place × ℕ) → In e (names_under dir es) → In e es
in_under dir [] e i = i
in_under dir (x ∷ xs) e i = elim (eqb x.0.parent dir) as (λ (b : Bool). In e (cond b (x ∷ names_under dir xs) (names_under dir xs)) → In e (x ∷ xs)) [
  | true ↦ λ j. ⊎_elim (λ (here : x ≡ e). inl here) (λ (there : In e (names_under dir xs)). inr (in_under dir xs e there)) j
  | false ↦ λ j. inr (in_under dir xs e j)
] i

-- what stands in the list has an item
pub has_item : (m : Items) (names : tree.BTreeMap Place ℕ) → AreNames m names → (e : Place × ℕ) → In e names.entries → entry_at (map.entries m) e.1 ≡ None → ⊥
has_item m names are e here none =
    let item = of_name m names are e.0.parent e here in
    none_is_some _ (e.1, item.0) none (entry_has m e.1 item.0 item.1)
