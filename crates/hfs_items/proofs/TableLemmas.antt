-- The table of a lawful volume has each item once and behind its folder.
use Rattle.std.proofs.Common.{◌≡◌, ◌≢◌, inl, inr, ⊎_elim, ℕ, zero, suc, ◌+◌, ◌-◌, ◌<◌, ◌≤◌, ◌++◌, List, [], ◌∷◌, length, map, refl, sym, ◌∙◌, ap, subst, arith, Option, Some, None}
use Rattle.std.specs.List.{flat_map, Contains, AllPairs}
use Rattle.std.specs.Option.{option_map}
use Rattle.std.specs.FinMap as fin
use Rattle.std.specs.declared.cmp.Ordering.TheVariants.{Less}
use Rattle.std.specs.Ordering.{is_eq}
use Rattle.hfs_fields.specs.Order.{name_cmp, name_order}
use Rattle.hfs_model.specs.declared.item.Item.{Item}
use Rattle.hfs_model.specs.Volume.{Volume, Items, Entry}
use Rattle.hfs_model.specs.Children.{children, entries_of}
use Rattle.hfs_model.specs.Chains.{Leads}
use Rattle.hfs_model.specs.Lawful.{Has, IsLawful, parent_of}
use Rattle.hfs_model.proofs.Facts.{same_some, true_false}
use Rattle.hfs_model.proofs.Members.{In, in_from_contains, contains_from_in}
use Rattle.hfs_model.proofs.Folders.{child_from_in, in_from_child, children_are}
use Rattle.hfs_model.proofs.Parents.{has_parent, parent_has, no_item, root_within}
use Rattle.hfs_model.proofs.ChainLemmas.{Ends, one_end, from_above, never_back}
use Rattle.hfs_items.specs.Rows.{Row, path_below, row_below, rows_in, rows_of, table_of}
use Rattle.hfs_items.specs.Laws.{IsInventory}
use Rattle.hfs_items.proofs.ListLemmas.{in_flat_map, flat_map_in, in_map, map_in, Pairs, all_pairs, pairs_all, pairs-flat_map}

-- ---- chains

module _ (next : ℕ → Option ℕ) where
  -- one step more at the top
  one_more : (n x y z : ℕ) → Leads next n x y → next y ≡ Some z → Leads next (suc n) x z
  one_more zero x y z l e = (z, ap next l ∙ e, refl)
  one_more (suc n) x y z l e = (l.0, l.1, one_more n l.0 y z l.2 e)

  -- all steps but the top one
  one_less : (n x y : ℕ) → Leads next (suc n) x y → (z : ℕ) × Leads next n x z × (next z ≡ Some y)
  one_less zero x y l = (x, refl, l.1 ∙ ap Some l.2)
  one_less (suc n) x y l = let rest = one_less n l.0 y l.2 in (rest.0, (l.0, l.1, rest.1), rest.2)

  same_end : (n x y z : ℕ) → Leads next n x y → Leads next n x z → y ≡ z
  same_end zero x y z l k = sym l ∙ k
  same_end (suc n) x y z l k =
      let same : k.0 ≡ l.0 = same_some k.0 l.0 (sym k.1 ∙ l.1) in
      same_end n l.0 y z l.2 (subst (λ (w : ℕ). Leads next n w z) same k.2)

-- ---- the rows of a lawful volume

module _ (v : Volume) (h : IsLawful v) where
  abbrev m : Items
  m = v.items

  abbrev next : ℕ
  next = v.next_id

  abbrev es : List Entry
  es = fin.entries m

  abbrev up : ℕ → Option ℕ
  up = parent_of m

  -- a child's row, and those of what lies in it
  abbrev below : ℕ → List (List ℕ) → Entry → List Row
  below n above c = row_below above c ∷ rows_in es n (path_below above c) c.0

  step_up : (c : Entry) (dir : ℕ) → In c (children es dir) → up c.0 ≡ Some dir
  step_up c dir i = let child = child_from_in m next h dir c i in has_parent m c.0 c.1 child.0 ∙ ap Some child.1

  -- what has a row is an item that lies in the folder
  abbrev Below : ℕ → Row → Type 0
  Below dir r = (k : ℕ) × Leads up k r.entry.0 dir × Has m r.entry.0 r.entry.1

  abbrev ProperlyBelow : ℕ → Row → Type 0
  ProperlyBelow dir r = (k : ℕ) × Leads up (suc k) r.entry.0 dir × Has m r.entry.0 r.entry.1

  from_child : (n : ℕ) (above : List (List ℕ)) (dir : ℕ) (c : Entry) → In c (children es dir)
      → ((r : Row) → In r (rows_in es n (path_below above c) c.0) → ProperlyBelow c.0 r) → (r : Row) → In r (below n above c) → Below c.0 r
  from_child n above dir c child rest r i = ⊎_elim
      (λ (here : row_below above c ≡ r). subst (Below c.0) here (0, refl, (child_from_in m next h dir c child).0))
      (λ (there : In r (rows_in es n (path_below above c) c.0)). let b = rest r there in (suc b.0, b.1, b.2))
      i

  properly_below : (n : ℕ) (above : List (List ℕ)) (dir : ℕ) (r : Row) → In r (rows_in es n above dir) → ProperlyBelow dir r
  properly_below zero above dir r i = absurd i
  properly_below (suc n) above dir r i =
      let at = in_flat_map (below n above) (children es dir) r i in
      let b = from_child n above dir at.0 at.1 (properly_below n (path_below above at.0) at.0.0) r at.2 in
      (b.0, one_more up b.0 r.entry.0 at.0.0 dir b.1 (step_up at.0 dir at.1), b.2)

  is_below : (n : ℕ) (above : List (List ℕ)) (dir : ℕ) (c : Entry) → In c (children es dir) → (r : Row) → In r (below n above c) → Below c.0 r
  is_below n above dir c child = from_child n above dir c child (properly_below n (path_below above c) c.0)

  -- what lies in the folder has a row
  has_row : (n : ℕ) (above : List (List ℕ)) (dir k : ℕ) (e : Entry) → k < n → Leads up (suc k) e.0 dir → Has m e.0 e.1 → (r : Row) × In r (rows_in es n above dir) × (r.entry ≡ e)
  has_row zero above dir k e lt l has = absurd (omega arith)
  has_row (suc n) above dir zero e lt l has =
      let under : e.1.parent ≡ dir = same_some e.1.parent dir (sym (has_parent m e.0 e.1 has) ∙ l.1 ∙ ap Some l.2) in
      (row_below above e, flat_map_in (below n above) (children es dir) e (row_below above e) (in_from_child m next h dir e has under) (inl refl), refl)
  has_row (suc n) above dir (suc k) e lt l has =
      let top = one_less up (suc k) e.0 dir l in
      let item = parent_has m top.0 dir top.2 in
      let c : Entry = (top.0, item.0) in
      let rest = has_row n (path_below above c) top.0 k e (omega (arith, lt)) top.1 has in
      (rest.0, flat_map_in (below n above) (children es dir) c rest.0 (in_from_child m next h dir c item.1 item.2) (inr rest.1), rest.2)

  -- ---- once, and behind the folder

  abbrev Apart : Row → Row → Type 0
  Apart a b = (a.entry.0 ≢ b.entry.0) × (a.entry.1.parent ≢ b.entry.0)

  module _ (dir e : ℕ) (end : Ends up e dir) where
    child_end : (c : Entry) → In c (children es dir) → Ends up (suc e) c.0
    child_end c i = (dir, step_up c dir i, end)

    -- the folder doesn't lie in its child
    not_in_child : (c : Entry) → In c (children es dir) → (k : ℕ) → Leads up k dir c.0 → ⊥
    not_in_child c i k l =
        let longer = from_above up k (suc e) dir c.0 l (child_end c i) in
        let same : longer.0 ≡ e = one_end up longer.0 e dir longer.2 end in
        omega (arith, longer.1, same)

    -- nothing lies in two of its children
    in_one_child : (c d : Entry) → In c (children es dir) → In d (children es dir) → (x k j : ℕ) → Leads up k x c.0 → Leads up j x d.0 → c.0 ≡ d.0
    in_one_child c d i g x k j l n =
        let one = from_above up k (suc e) x c.0 l (child_end c i) in
        let two = from_above up j (suc e) x d.0 n (child_end d g) in
        let same : one.0 ≡ two.0 = one_end up one.0 two.0 x one.2 two.2 in
        let steps : j ≡ k = omega (arith, one.1, two.1, same) in
        same_end up k x c.0 d.0 l (subst (λ (s : ℕ). Leads up s x d.0) steps n)

    parent_is : (r : Row) (p : ℕ) → Has m r.entry.0 r.entry.1 → up r.entry.0 ≡ Some p → p ≡ r.entry.1.parent
    parent_is r p has is = same_some p r.entry.1.parent (sym is ∙ has_parent m r.entry.0 r.entry.1 has)

    across : (c d : Entry) → In c (children es dir) → In d (children es dir) → c.0 ≢ d.0 → (a b : Row) → Below c.0 a → Below d.0 b → Apart a b
    across c d i g other a b u w = (
      λ (same : a.entry.0 ≡ b.entry.0). other (in_one_child c d i g b.entry.0 u.0 w.0 (subst (λ (x : ℕ). Leads up u.0 x c.0) same u.1) w.1),
      λ (holder : a.entry.1.parent ≡ b.entry.0). above u.0 u.1 holder,
    )
      where
        above : (k : ℕ) → Leads up k a.entry.0 c.0 → a.entry.1.parent ≡ b.entry.0 → ⊥
        above zero l holder =
            let p : dir ≡ b.entry.0 = parent_is a dir u.2 (ap up l ∙ step_up c dir i) ∙ holder in
            not_in_child d g w.0 (subst (λ (x : ℕ). Leads up w.0 x d.0) (sym p) w.1)
        above (suc k) l holder =
            let p : l.0 ≡ b.entry.0 = parent_is a l.0 u.2 l.1 ∙ holder in
            other (in_one_child c d i g b.entry.0 k w.0 (subst (λ (x : ℕ). Leads up k x c.0) p l.2) w.1)

    head : (c : Entry) → In c (children es dir) → (above : List (List ℕ)) (r : Row) → ProperlyBelow c.0 r → Apart (row_below above c) r
    head c i above r b = (
      λ (same : c.0 ≡ r.entry.0). never_back up b.0 (suc e) c.0 (child_end c i) (subst (λ (x : ℕ). Leads up (suc b.0) x c.0) (sym same) b.1),
      λ (holder : c.1.parent ≡ r.entry.0).
          let p : dir ≡ r.entry.0 = sym (child_from_in m next h dir c i).1 ∙ holder in
          not_in_child c i (suc b.0) (subst (λ (x : ℕ). Leads up (suc b.0) x c.0) (sym p) b.1),
    )

  -- no two children have one ID
  abbrev Other : Entry → Entry → Type 0
  Other c d = c.0 ≢ d.0

  less_itself : (x : List ℕ) → name_cmp x x ≡ Less → ⊥
  less_itself x less = true_false (is_eq (name_cmp x x)) (ap is_eq (name_order.itself x)) (ap is_eq less)

  children_apart : (dir : ℕ) → Pairs Other (children es dir)
  children_apart dir = apart (children es dir) (λ c i. i) (pairs_all (λ (a b : Entry). name_cmp a.1.name b.1.name ≡ Less) (children es dir) ((children_are v h dir).rise))
    where
      same_item : (c d : Entry) → In c (children es dir) → In d (children es dir) → c.0 ≡ d.0 → c.1 ≡ d.1
      same_item c d i g same = same_some c.1 d.1 (sym (child_from_in m next h dir c i).0 ∙ ap (fin.get m) same ∙ (child_from_in m next h dir d g).0)

      apart : (cs : List Entry) → ((c : Entry) → In c cs → In c (children es dir)) → Pairs (λ (a b : Entry). name_cmp a.1.name b.1.name ≡ Less) cs → Pairs Other cs
      apart [] all p = tt
      apart (c ∷ cs) all p = (
        λ d i (same : c.0 ≡ d.0). less_itself d.1.name (subst (λ (x : Item). name_cmp x.name d.1.name ≡ Less) (same_item c d (all c (inl refl)) (all d (inr i)) same) (p.0 d i)),
        apart cs (λ d i. all d (inr i)) p.1,
      )

  rows_apart : (n : ℕ) (above : List (List ℕ)) (dir e : ℕ) → Ends up e dir → Pairs Apart (rows_in es n above dir)
  rows_apart zero above dir e end = tt
  rows_apart (suc n) above dir e end =
      pairs-flat_map Other Apart (below n above) (children es dir) (children_apart dir)
      (λ c i. (λ r j. head dir e end c i above r (properly_below n (path_below above c) c.0 r j), rows_apart n (path_below above c) c.0 (suc e) (child_end dir e end c i)))
      (λ c d i g other a b j k. across dir e end c d i g other a b (is_below n above dir c i a j) (is_below n above dir d g b k))

  -- ---- the whole table

  top_ends : Ends up 0 1
  top_ends = elim (fin.get m 1) as (λ (o : Option Item). fin.get m 1 ≡ o → option_map (λ (j : Item). j.parent) o ≡ None) [
    | None ↦ λ e. refl
    | Some i ↦ λ e. absurd (no_item m next h i e)
  ] refl

  to_top : (e : Entry) → Has m e.0 e.1 → (k : ℕ) × (k < length es) × Leads up (suc k) e.0 1
  to_top e has =
      let chain = h.reach e.0 e.1 has in
      (chain.0, root_within m next h chain.0 e.0 chain.1, one_more up chain.0 e.0 2 1 chain.1 (has_parent m 2 h.root.0 h.root.1 ∙ ap Some h.root.2))

  apart_in_table : AllPairs Apart (rows_of es)
  apart_in_table = all_pairs Apart (rows_of es) (rows_apart (length es) [] 1 0 top_ends)

  pub is_inventory : IsInventory m (rows_of es)
  is_inventory = record {
    each = λ e. (
      λ (c : Contains (map (λ (r : Row). r.entry) (rows_of es)) e).
          let at = in_map (λ (r : Row). r.entry) (rows_of es) e (in_from_contains (map (λ (r : Row). r.entry) (rows_of es)) e c.0 c.1 c.2) in
          subst (λ (x : Entry). Has m x.0 x.1) at.2 (properly_below (length es) [] 1 at.0 at.1).2,
      λ (has : Has m e.0 e.1).
          let top = to_top e has in
          let row = has_row (length es) [] 1 top.0 e top.1 top.2 has in
          contains_from_in (map (λ (r : Row). r.entry) (rows_of es)) e (subst (λ (x : Entry). In x (map (λ (r : Row). r.entry) (rows_of es))) row.2 (map_in (λ (r : Row). r.entry) (rows_of es) row.0 row.1)),
    );
    once = λ i j d lt len. (apart_in_table i j d lt len).0;
    behind = λ i j d lt len. (apart_in_table i j d lt len).1;
  }

pub tables_are_inventories : (v : Volume) → IsLawful v → IsInventory v.items (table_of v)
tables_are_inventories v h = is_inventory v h

-- ---- a table doesn't depend on how deep it may go, where that is deep enough

none_in : (xs : List Entry) → ((c : Entry) → In c xs → ⊥) → xs ≡ []
none_in [] none = refl
none_in (c ∷ xs) none = absurd (none c (inl refl))

flat_map-same : {A B : Type 0} (f g : A → List B) (xs : List A) → ((x : A) → In x xs → f x ≡ g x) → flat_map f xs ≡ flat_map g xs
flat_map-same f g [] same = refl
flat_map-same f g (x ∷ xs) same = λ i. same x (inl refl) i ++ flat_map-same f g xs (λ y j. same y (inr j)) i

module _ (v : Volume) (h : IsLawful v) where
  pub rows_steady : (n k j : ℕ) (above : List (List ℕ)) (dir : ℕ) → Ends (parent_of v.items) j dir → length (entries_of v) ≤ j + n
      → rows_in (entries_of v) n above dir ≡ rows_in (entries_of v) (n + k) above dir
  rows_steady zero k j above dir end deep = nothing k
    where
      none : children (entries_of v) dir ≡ []
      none = none_in (children (entries_of v) dir) (λ c i.
          let child = child_from_in v.items v.next_id h dir c i in
          let top = to_top v h c child.0 in
          let whole = from_above (parent_of v.items) (suc top.0) 0 c.0 1 top.2 (top_ends v h) in
          let same : suc j ≡ whole.0 = one_end (parent_of v.items) (suc j) whole.0 c.0 (dir, step_up v h c dir i, end) whole.2 in
          omega (arith, deep, top.1, whole.1, same))

      nothing : (k : ℕ) → [] ≡ rows_in (entries_of v) (0 + k) above dir
      nothing zero = refl
      nothing (suc k) =
          let one_more : 0 + suc k ≡ suc k = omega arith in
          sym (ap (λ (m : ℕ). rows_in (entries_of v) m above dir) one_more ∙ ap (flat_map (below v h k above)) none)
  rows_steady (suc n) k j above dir end deep =
      let more : suc n + k ≡ suc (n + k) = omega arith in
      flat_map-same (below v h n above) (below v h (n + k) above) (children (entries_of v) dir)
      (λ c i. ap (λ (l : List Row). row_below above c ∷ l) (rows_steady n k (suc j) (path_below above c) c.0 (dir, step_up v h c dir i, end) (omega (arith, deep))))
      ∙ ap (λ (m : ℕ). rows_in (entries_of v) m above dir) (sym more)

  -- so with any number from that of the items on
  pub rows_deep : (n : ℕ) → length (entries_of v) ≤ n → rows_of (entries_of v) ≡ rows_in (entries_of v) n [] 1
  rows_deep n le =
      let k : length (entries_of v) + (n - length (entries_of v)) ≡ n = omega (arith, le) in
      rows_steady (length (entries_of v)) (n - length (entries_of v)) 0 [] 1 (top_ends v h) (omega arith) ∙ ap (λ (m : ℕ). rows_in (entries_of v) m [] 1) k
