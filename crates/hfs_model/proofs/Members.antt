-- What a list holds.
use Rattle.std.proofs.Common.{◌≡◌, ◌⊎◌, inl, inr, ⊎_elim, ℕ, zero, suc, ◌<◌, Bool, true, false, cond, List, [], ◌∷◌, length, get_or, fold, refl, sym, ◌∙◌, ap, subst, arith, Some, None}
use Rattle.std.specs.Prelude.{T}
use Rattle.std.specs.declared.cmp.Ordering.TheVariants.{Less}
use Rattle.std.specs.Ordering.{nat_cmp, is_eq, is_gt}
use Rattle.std.specs.Cmp.{unsigned_ties}
use Rattle.std.specs.List.{Contains}
use Rattle.std.specs.FinMap as map
use Rattle.std.specs.FinMap.Entries.{below_all, is_sorted}
use Rattle.std.proofs.lemmas.Bool.{cases_eq, eq-eqb, ne_eqb}
use Rattle.hfs_fields.specs.Order.{name_cmp}
use Rattle.hfs_model.specs.declared.item.Item.{Item}
use Rattle.hfs_model.specs.Volume.{Items, Entry}
use Rattle.hfs_model.specs.Children.{place, place_child, is_child}
use Rattle.hfs_model.specs.Lawful.{Has}
use Rattle.hfs_model.proofs.Facts.{none_is_some, same_some, true_false}
use Rattle.hfs_model.proofs.Counts.{first, second, is_less}

-- x stands in the list
abbrev pub In : {A : Type 0} → A → List A → Type 0
In x [] = ⊥
In x (y ∷ ys) = (y ≡ x) ⊎ In x ys

pub in_from_contains : {A : Type 0} (xs : List A) (x : A) (k : ℕ) → k < length xs → get_or xs k x ≡ x → In x xs
in_from_contains [] x k lt is = absurd (omega arith)
in_from_contains (y ∷ ys) x zero lt is = inl is
in_from_contains (y ∷ ys) x (suc k) lt is = inr (in_from_contains ys x k (omega arith) is)

pub contains_from_in : {A : Type 0} (xs : List A) (x : A) → In x xs → Contains xs x
contains_from_in [] x h = absurd h
contains_from_in {A} (y ∷ ys) x h = ⊎_elim
    (λ (e : y ≡ x). let here : Contains (y ∷ ys) x = (0, omega arith, e) in here)
    (λ (there : In x ys). let rest = contains_from_in ys x there in let here : Contains (y ∷ ys) x = (suc rest.0, omega (arith, rest.1), rest.2) in here)
    h

pub below_in : (k : ℕ) (es : List Entry) (x : Entry) → T (below_all nat_cmp k es) → In x es → nat_cmp k x.0 ≡ Less
below_in k [] x h i = absurd i
below_in k (e ∷ es) x h i = ⊎_elim
    (λ (here : e ≡ x). ap (λ (y : Entry). nat_cmp k y.0) (sym here) ∙ is_less _ (first _ _ h))
    (λ (there : In x es). below_in k es x (second _ _ h) there)
    i

pub other_id : (k : ℕ) (es : List Entry) (x : Entry) → T (below_all nat_cmp k es) → In x es → k ≡ x.0 → ⊥
other_id k es x h i same = less_equal (below_in k es x h i) same
  where
    less_equal : nat_cmp k x.0 ≡ Less → k ≡ x.0 → ⊥
    less_equal less e = true_false (is_eq (nat_cmp k x.0)) (sym (unsigned_ties k x.0) ∙ eq-eqb k x.0 e) (ap is_eq less)

pub found_from_in : (es : List Entry) (x : Entry) → T (is_sorted nat_cmp es) → In x es → map.find nat_cmp x.0 es ≡ Some x.1
found_from_in [] x h i = absurd i
found_from_in (f ∷ fs) x h i = ⊎_elim
    (λ (here : f ≡ x). ap (λ b. cond b (Some f.1) (map.find nat_cmp x.0 fs)) (sym (unsigned_ties x.0 f.0) ∙ eq-eqb x.0 f.0 (sym (ap (λ (y : Entry). y.0) here))) ∙ ap (λ (y : Entry). Some y.1) here)
    (λ (there : In x fs). ap (λ b. cond b (Some f.1) (map.find nat_cmp x.0 fs)) (sym (unsigned_ties x.0 f.0) ∙ ne_eqb x.0 f.0 (λ (e : x.0 ≡ f.0). other_id f.0 fs x (first _ _ h) there (sym e))) ∙ found_from_in fs x (second _ _ h) there)
    i

pub in_from_found : (es : List Entry) (q : ℕ) (j : Item) → map.find nat_cmp q es ≡ Some j → In (q, j) es
in_from_found [] q j is = absurd (none_is_some None j refl is)
in_from_found (f ∷ fs) q j is = ⊎_elim
    (λ (e : q ≡ f.0).
    let item : f.1 ≡ j = same_some f.1 j (sym (ap (λ b. cond b (Some f.1) (map.find nat_cmp q fs)) (sym (unsigned_ties q f.0) ∙ eq-eqb q f.0 e)) ∙ is) in
    let id : f.0 ≡ q = sym e in
    inl (λ i. (id i, item i)))
    (λ (ne : q ≡ f.0 → ⊥). inr (in_from_found fs q j (sym (ap (λ b. cond b (Some f.1) (map.find nat_cmp q fs)) (sym (unsigned_ties q f.0) ∙ ne_eqb q f.0 ne)) ∙ is)))
    (cases_eq q f.0)

pub has_from_in : (m : Items) (x : Entry) → In x (map.entries m) → Has m x.0 x.1
has_from_in m x i = map.get-entries m x.0 ∙ found_from_in (map.entries m) x (map.entries_sorted m) i

pub in_from_has : (m : Items) (x : Entry) → Has m x.0 x.1 → In x (map.entries m)
in_from_has m x has = in_from_found (map.entries m) x.0 x.1 (sym (map.get-entries m x.0) ∙ has)

-- ---- a folder's children

-- an entry put in its place stands there, and what stood there does still
pub in_place : (e : Entry) (cs : List Entry) (x : Entry) → (e ≡ x) ⊎ In x cs → In x (place e cs)
in_place e [] x h = h
in_place e (c ∷ cs) x h = elim (is_gt (name_cmp c.1.name e.1.name)) as (λ (b : Bool). In x (cond b (e ∷ c ∷ cs) (c ∷ place e cs))) [
  | true ↦ h
  | false ↦ ⊎_elim
      (λ (new : e ≡ x). inr (in_place e cs x (inl new)))
      (λ old. ⊎_elim (λ (here : c ≡ x). inl here) (λ (there : In x cs). inr (in_place e cs x (inr there))) old)
      h
]

pub from_place : (e : Entry) (cs : List Entry) (x : Entry) → In x (place e cs) → (e ≡ x) ⊎ In x cs
from_place e [] x h = h
from_place e (c ∷ cs) x h = elim (is_gt (name_cmp c.1.name e.1.name)) as (λ (b : Bool). In x (cond b (e ∷ c ∷ cs) (c ∷ place e cs)) → (e ≡ x) ⊎ In x (c ∷ cs)) [
  | true ↦ λ i. i
  | false ↦ λ i. ⊎_elim
      (λ (here : c ≡ x). inr (inl here))
      (λ (there : In x (place e cs)). ⊎_elim (λ (new : e ≡ x). inl new) (λ (old : In x cs). inr (inr old)) (from_place e cs x there))
      i
] h

placed_still : (dir : ℕ) (e : Entry) (placed : List Entry) (x : Entry) → In x placed → In x (place_child dir placed e)
placed_still dir e placed x i = elim (is_child dir e) as (λ (b : Bool). In x (cond b (place e placed) placed)) [ true ↦ in_place e placed x (inr i) | false ↦ i ]

pub in_children : (dir : ℕ) (es placed : List Entry) (x : Entry) → In x placed ⊎ (In x es × (is_child dir x ≡ true)) → In x (fold (place_child dir) placed es)
in_children dir [] placed x h = ⊎_elim (λ (i : In x placed). i) (λ none. absurd none.0) h
in_children dir (e ∷ es) placed x h = ⊎_elim
    (λ (i : In x placed). in_children dir es (place_child dir placed e) x (inl (placed_still dir e placed x i)))
    (λ child. ⊎_elim
    (λ (here : e ≡ x). in_children dir es (place_child dir placed e) x (inl (subst (λ (b : Bool). In x (cond b (place e placed) placed)) (sym (ap (is_child dir) here ∙ child.1)) (in_place e placed x (inl here)))))
    (λ (there : In x es). in_children dir es (place_child dir placed e) x (inr (there, child.1)))
    child.0)
    h

pub from_children : (dir : ℕ) (es placed : List Entry) (x : Entry) → In x (fold (place_child dir) placed es) → In x placed ⊎ (In x es × (is_child dir x ≡ true))
from_children dir [] placed x h = inl h
from_children dir (e ∷ es) placed x h = ⊎_elim
    (λ (i : In x (place_child dir placed e)). elim (is_child dir e) as (λ (b : Bool). is_child dir e ≡ b → In x (cond b (place e placed) placed) → In x placed ⊎ (In x (e ∷ es) × (is_child dir x ≡ true))) [
      | true ↦ λ child in_place. ⊎_elim (λ (new : e ≡ x). inr (inl new, ap (is_child dir) (sym new) ∙ child)) (λ (old : In x placed). inl old) (from_place e placed x in_place)
      | false ↦ λ other old. inl old
    ] refl i)
    (λ later. inr (inr later.0, later.1))
    (from_children dir es (place_child dir placed e) x h)
