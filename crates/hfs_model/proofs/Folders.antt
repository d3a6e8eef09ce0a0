-- What a folder's children are, in a lawful volume.
use Rattle.std.proofs.Common.{◌≡◌, inl, inr, ⊎_elim, ℕ, zero, suc, ◌<◌, Bool, true, false, cond, ◌&&◌, List, [], ◌∷◌, length, get_or, refl, sym, ◌∙◌, ap, subst, arith, Option, Some, None}
use Rattle.std.specs.Prelude.{T}
use Rattle.std.specs.List.{Contains}
use Rattle.std.specs.declared.cmp.Ordering.{Ordering}
use Rattle.std.specs.declared.cmp.Ordering.TheVariants.{Less, Equal, Greater}
use Rattle.std.specs.Ordering.{nat_cmp, is_lt, is_eq, ordering_reverse}
use Rattle.std.specs.Cmp.{tied_itself}
use Rattle.std.specs.Cmp.Lexicographic.{nat_list_cmp_total}
use Rattle.std.specs.FinMap as map
use Rattle.std.specs.FinMap.{nat_cmp-IsAntisymmetric, slice_cmp-IsAntisymmetric}
use Rattle.std.specs.FinMap.Entries.{find, is_sorted, below_all}
use Rattle.std.proofs.lemmas.Bool.{eq-eqb, eqb-true}
use Rattle.hfs_fields.specs.Order.{folded, name_cmp}
use Rattle.hfs_model.specs.Volume.{Volume, Items, Entry}
use Rattle.hfs_model.specs.Children.{place, place_child, children, is_child, entries_of}
use Rattle.hfs_model.specs.Lawful.{Has, AreLawful, IsLawful}
use Rattle.hfs_model.specs.Laws.{AreChildren}
use Rattle.hfs_model.proofs.Facts.{none_is_some, same_some}
use Rattle.hfs_model.proofs.Members.{In, in_from_contains, contains_from_in, other_id, has_from_in, in_from_has, from_place, in_children, from_children}
use Rattle.hfs_model.proofs.InOrder.{keyed, names_cmp, IsInNameOrder, Distinct, children_rise, one_order}
use Rattle.hfs_model.proofs.Counts.{first, second, is_less}

pub both : (a b : Bool) → T a → T b → T (a && b)
both true b p q = q
both false b p q = absurd p

-- ---- in a lawful volume no two children have the same name

absent : (q : List ℕ) (es : List Entry) → ((x : Entry) → In x es → names_cmp q (folded x.1.name) ≡ Equal → ⊥) → find names_cmp q (keyed es) ≡ None
absent q [] other = refl
absent q (e ∷ es) other = elim (names_cmp q (folded e.1.name)) as (λ (r : Ordering). names_cmp q (folded e.1.name) ≡ r → cond (is_eq r) (Some e) (find names_cmp q (keyed es)) ≡ None) [
  | Less ↦ λ is. absent q es (λ x i. other x (inr i))
  | Equal ↦ λ is. absurd (other e (inl refl) is)
  | Greater ↦ λ is. absent q es (λ x i. other x (inr i))
] refl

module _ (m : Items) (next : ℕ) (h : AreLawful m next) (dir : ℕ) where
  -- what was placed are children that come before the rest
  distinct : (es placed : List Entry) → ((x : Entry) → In x placed → Has m x.0 x.1 × (x.1.parent ≡ dir) × ((y : Entry) → In y es → x.0 ≡ y.0 → ⊥)) → ((y : Entry) → In y es → Has m y.0 y.1) → T (is_sorted nat_cmp es) → Distinct dir placed es
  distinct [] placed before here sorted = tt
  distinct (e ∷ es) placed before here sorted = (
    λ child. absent (folded e.1.name) placed (λ x i same.
        let old = before x i in
        old.2 e (inl refl) (sym (h.names e.0 x.0 e.1 x.1 (here e (inl refl)) old.0 (eqb-true e.1.parent dir child ∙ sym old.1) (ap is_eq same)))),
    distinct es (place_child dir placed e)
        (λ x i. elim (is_child dir e) as (λ (b : Bool). is_child dir e ≡ b → In x (cond b (place e placed) placed) → Has m x.0 x.1 × (x.1.parent ≡ dir) × ((y : Entry) → In y es → x.0 ≡ y.0 → ⊥)) [
          | true ↦ λ child placed_here. ⊎_elim
              (λ (new : e ≡ x). subst (λ (z : Entry). Has m z.0 z.1 × (z.1.parent ≡ dir) × ((y : Entry) → In y es → z.0 ≡ y.0 → ⊥)) new (here e (inl refl), eqb-true e.1.parent dir child, λ y j. other_id e.0 es y (first _ _ sorted) j))
              (λ (old : In x placed). let was = before x old in (was.0, was.1, λ y j. was.2 y (inr j)))
              (from_place e placed x placed_here)
          | false ↦ λ other old. let was = before x old in (was.0, was.1, λ y j. was.2 y (inr j))
        ] refl i)
        (λ y j. here y (inr j)) (second _ _ sorted),
  )

  pub children_in_order : IsInNameOrder (children (map.entries m) dir)
  children_in_order = children_rise dir (map.entries m) (distinct (map.entries m) [] (λ x none. absurd none) (λ y j. has_from_in m y j) (map.entries_sorted m))

  pub child_from_in : (x : Entry) → In x (children (map.entries m) dir) → Has m x.0 x.1 × (x.1.parent ≡ dir)
  child_from_in x i = ⊎_elim (λ (none : In x []). absurd none) (λ child. (has_from_in m x child.0, eqb-true x.1.parent dir child.1)) (from_children dir (map.entries m) [] x i)

  pub in_from_child : (x : Entry) → Has m x.0 x.1 → x.1.parent ≡ dir → In x (children (map.entries m) dir)
  in_from_child x has under = in_children dir (map.entries m) [] x (inr (in_from_has m x has, eq-eqb x.1.parent dir under))

-- ---- strictly rising names, place by place

pub below_at : (k : List ℕ) (es : List Entry) (j : ℕ) (d : Entry) → T (below_all names_cmp k (keyed es)) → j < length es → names_cmp k (folded (get_or es j d).1.name) ≡ Less
below_at k [] j d h lt = absurd (omega arith)
below_at k (e ∷ es) zero d h lt = is_less _ (first _ _ h)
below_at k (e ∷ es) (suc j) d h lt = below_at k es j d (second _ _ h) (omega arith)

pub pairs_rise : (es : List Entry) → IsInNameOrder es → (i j : ℕ) (d : Entry) → i < j → j < length es → name_cmp (get_or es i d).1.name (get_or es j d).1.name ≡ Less
pairs_rise [] h i j d lt len = absurd (omega arith)
pairs_rise (e ∷ es) h zero zero d lt len = absurd (omega arith)
pairs_rise (e ∷ es) h zero (suc j) d lt len = below_at (folded e.1.name) es j d (first _ _ h) (omega arith)
pairs_rise (e ∷ es) h (suc i) zero d lt len = absurd (omega arith)
pairs_rise (e ∷ es) h (suc i) (suc j) d lt len = pairs_rise es (second _ _ h) i j d (omega arith) (omega arith)

all_below : (k : List ℕ) (es : List Entry) → ((j : ℕ) (d : Entry) → j < length es → names_cmp k (folded (get_or es j d).1.name) ≡ Less) → T (below_all names_cmp k (keyed es))
all_below k [] h = tt
all_below k (e ∷ es) h = both _ _ (subst (λ (r : Ordering). T (is_lt r)) (sym (h 0 e (omega arith))) tt) (all_below k es (λ j d lt. h (suc j) d (omega arith)))

in_name_order : (es : List Entry) → ((i j : ℕ) (d : Entry) → i < j → j < length es → name_cmp (get_or es i d).1.name (get_or es j d).1.name ≡ Less) → IsInNameOrder es
in_name_order [] h = tt
in_name_order (e ∷ es) h = both _ _ (all_below (folded e.1.name) es (λ j d lt. h 0 (suc j) d (omega arith) (omega arith))) (in_name_order es (λ i j d lt len. h (suc i) (suc j) d (omega arith) (omega arith)))

-- ---- a list in name order is told by what it holds

below_in : (k : List ℕ) (es : List Entry) (x : Entry) → T (below_all names_cmp k (keyed es)) → In x es → names_cmp k (folded x.1.name) ≡ Less
below_in k [] x h i = absurd i
below_in k (e ∷ es) x h i = ⊎_elim
    (λ (here : e ≡ x). ap (λ (y : Entry). names_cmp k (folded y.1.name)) (sym here) ∙ is_less _ (first _ _ h))
    (λ (there : In x es). below_in k es x (second _ _ h) there)
    i

holds : (q : List ℕ) (es : List Entry) (e : Entry) → find names_cmp q (keyed es) ≡ Some e → In e es × (names_cmp q (folded e.1.name) ≡ Equal)
holds q [] e is = absurd (none_is_some None e refl is)
holds q (f ∷ fs) e is = elim (names_cmp q (folded f.1.name)) as (λ (r : Ordering). names_cmp q (folded f.1.name) ≡ r → cond (is_eq r) (Some f) (find names_cmp q (keyed fs)) ≡ Some e → In e (f ∷ fs) × (names_cmp q (folded e.1.name) ≡ Equal)) [
  | Less ↦ λ tie later. let rest = holds q fs e later in (inr rest.0, rest.1)
  | Equal ↦ λ tie here. let same : f ≡ e = same_some f e here in (inl same, ap (λ (y : Entry). names_cmp q (folded y.1.name)) (sym same) ∙ tie)
  | Greater ↦ λ tie later. let rest = holds q fs e later in (inr rest.0, rest.1)
] refl is

found_in : (es : List Entry) (e : Entry) → IsInNameOrder es → In e es → find names_cmp (folded e.1.name) (keyed es) ≡ Some e
found_in [] e h i = absurd i
found_in (f ∷ fs) e h i = ⊎_elim
    (λ (here : f ≡ e).
    let tie : names_cmp (folded e.1.name) (folded f.1.name) ≡ Equal = ap (λ (y : Entry). names_cmp (folded e.1.name) (folded y.1.name)) here ∙ tied_itself nat_list_cmp_total (folded e.1.name) in
    ap (λ (r : Ordering). cond (is_eq r) (Some f) (find names_cmp (folded e.1.name) (keyed fs))) tie ∙ ap Some here)
    (λ (there : In e fs).
    let apart : names_cmp (folded e.1.name) (folded f.1.name) ≡ Greater = nat_list_cmp_total.antisymm (folded e.1.name) (folded f.1.name) ∙ ap ordering_reverse (below_in (folded f.1.name) fs e (first _ _ h) there) in
    ap (λ (r : Ordering). cond (is_eq r) (Some f) (find names_cmp (folded e.1.name) (keyed fs))) apart ∙ found_in fs e (second _ _ h) there)
    i

found_at : (es : List Entry) (q : List ℕ) (e : Entry) → IsInNameOrder es → In e es → names_cmp q (folded e.1.name) ≡ Equal → find names_cmp q (keyed es) ≡ Some e
found_at es q e h i tie =
    let same : q ≡ folded e.1.name = slice_cmp-IsAntisymmetric nat_cmp-IsAntisymmetric q (folded e.1.name) tie in
    ap (λ (k : List ℕ). find names_cmp k (keyed es)) same ∙ found_in es e h i

pub one_list : (xs ys : List Entry) → IsInNameOrder xs → IsInNameOrder ys → ((e : Entry) → In e xs → In e ys) → ((e : Entry) → In e ys → In e xs) → xs ≡ ys
one_list xs ys g h to from = one_order xs ys g h (λ q. elim (find names_cmp q (keyed xs)) as (λ (o : Option Entry). find names_cmp q (keyed xs) ≡ o → o ≡ find names_cmp q (keyed ys)) [
  | Some e ↦ λ is. let here = holds q xs e is in sym (found_at ys q e h (to e here.0) here.1)
  | None ↦ λ is. elim (find names_cmp q (keyed ys)) as (λ (o : Option Entry). find names_cmp q (keyed ys) ≡ o → None ≡ o) [
    | None ↦ λ none. refl
    | Some e ↦ λ some. let here = holds q ys e some in absurd (none_is_some _ e is (found_at xs q e g (from e here.0) here.1))
  ] refl
] refl)

-- ---- the laws

pub children_are : (v : Volume) → IsLawful v → (dir : ℕ) → AreChildren v.items dir (children (entries_of v) dir)
children_are v h dir = record {
  each = λ e. (
    λ (c : Contains (children (entries_of v) dir) e). child_from_in v.items v.next_id h dir e (in_from_contains (children (entries_of v) dir) e c.0 c.1 c.2),
    λ (p : Has v.items e.0 e.1 × (e.1.parent ≡ dir)). contains_from_in (children (entries_of v) dir) e (in_from_child v.items v.next_id h dir e p.0 p.1),
  );
  rise = pairs_rise (children (entries_of v) dir) (children_in_order v.items v.next_id h dir);
}

pub children_are_one : (v : Volume) → IsLawful v → (dir : ℕ) (xs : List Entry) → AreChildren v.items dir xs → xs ≡ children (entries_of v) dir
children_are_one v h dir xs are = one_list xs (children (entries_of v) dir) (in_name_order xs are.rise) (children_in_order v.items v.next_id h dir)
    (λ e i. let child = (are.each e).0 (contains_from_in xs e i) in in_from_child v.items v.next_id h dir e child.0 child.1)
    (λ e i. let c = (are.each e).1 (child_from_in v.items v.next_id h dir e i) in in_from_contains xs e c.0 c.1 c.2)
