-- Rows by their IDs, as the finite map of the items that they show.
use Rattle.std.proofs.Common.{◌≡◌, ℕ, Bool, true, false, cond, List, [], ◌∷◌, refl, sym, ◌∙◌, ap, Option, Some, None}
use Rattle.std.specs.Prelude.{T}
use Rattle.std.specs.declared.cmp.Ordering.TheVariants.{Less}
use Rattle.std.specs.Ordering.{nat_cmp, eq_by_cmp, is_eq}
use Rattle.std.specs.Cmp.{nat_cmp_total, eq_by_cmp_equiv}
use Rattle.std.specs.Option.{option_map}
use Rattle.std.specs.List.{AllByRecursion}
use Rattle.std.specs.List.Sorted.{IsStrictlySortedBy}
use Rattle.std.specs.Map.{lookup, keys_of}
use Rattle.std.specs.FinMap as map
use Rattle.std.specs.FinMap.Entries.{below_all, is_sorted}
use Rattle.std.specs.BTreeMap as tree
use Rattle.hfs_model.specs.declared.item.Item.{Item}
use Rattle.hfs_model.specs.Volume.{Items}
use Rattle.hfs_viewers.specs.Tables.{shown}
use Rattle.hfs_model.proofs.Folders.{both}
use Rattle.hfs_viewers.proofs.Named.{less_is}

pub option_map_cond : {A B : Type 0} (f : A → B) (b : Bool) (x : A) (o : Option A) → option_map f (cond b (Some x) o) ≡ cond b (Some (f x)) (option_map f o)
option_map_cond f true x o = refl
option_map_cond f false x o = refl

module _ {X : Type 0} (show : X → Item) where
  below_shown : (k : ℕ) (rows : List (ℕ × X)) → AllByRecursion (λ y. nat_cmp k y ≡ Less) (keys_of rows) → T (below_all nat_cmp k (shown show rows))
  below_shown k [] h = tt
  below_shown k (e ∷ rows) h = both _ _ (less_is _ h.0) (below_shown k rows h.1)

  pub sorted_shown : (rows : List (ℕ × X)) → IsStrictlySortedBy nat_cmp (keys_of rows) → T (is_sorted nat_cmp (shown show rows))
  unfolding IsStrictlySortedBy
  sorted_shown [] h = tt
  sorted_shown (e ∷ rows) h = both _ _ (below_shown e.0 rows h.0) (sorted_shown rows h.1)

  pub find_shown : (q : ℕ) (rows : List (ℕ × X)) → map.find nat_cmp q (shown show rows) ≡ option_map show (lookup (λ k. is_eq (nat_cmp q k)) rows)
  find_shown q [] = refl
  find_shown q (e ∷ rows) =
      ap (cond (is_eq (nat_cmp q e.0)) (Some (show e.1))) (find_shown q rows)
      ∙ sym (option_map_cond show (is_eq (nat_cmp q e.0)) e.1 (lookup (λ k. is_eq (nat_cmp q k)) rows))

  -- the items that rows show
  abbrev pub items : List (ℕ × X) → Items
  items rows = map.from_sorted {R = nat_cmp} (shown show rows)

  pub entries_items : (rows : List (ℕ × X)) → IsStrictlySortedBy nat_cmp (keys_of rows) → map.entries (items rows) ≡ shown show rows
  entries_items rows h = map.entries-from_sorted nat_cmp (shown show rows) (sorted_shown rows h)

  pub get_items : (m : tree.BTreeMap ℕ X) (q : ℕ) → tree.IsOrdered nat_cmp m → map.get (items m.entries) q ≡ option_map show (tree.get nat_cmp m q)
  get_items m q h = map.get-from_sorted nat_cmp (shown show m.entries) q (sorted_shown m.entries h) ∙ find_shown q m.entries

  turned : {A : Type 0} (q k : ℕ) (x y : A) → cond (is_eq (nat_cmp k q)) x y ≡ cond (eq_by_cmp nat_cmp q k) x y
  turned q k x y = ap (λ b. cond b x y) ((eq_by_cmp_equiv nat_cmp_total).symm k q)

  map_cond : (b : Bool) (w : Option X) (o : Option X) → option_map show (cond b w o) ≡ cond b (option_map show w) (option_map show o)
  map_cond true w o = refl
  map_cond false w o = refl

  get_updated : (m n : tree.BTreeMap ℕ X) (k q : ℕ) (w : Option X) → tree.IsOrdered nat_cmp m → tree.IsOrdered nat_cmp n → tree.Updates nat_cmp m n k w
      → map.get (items n.entries) q ≡ cond (eq_by_cmp nat_cmp q k) (option_map show w) (map.get (items m.entries) q)
  get_updated m n k q w s t u =
      get_items n q t ∙ ap (option_map show) (u.0 q) ∙ map_cond (is_eq (nat_cmp k q)) w (tree.get nat_cmp m q)
      ∙ ap (cond (is_eq (nat_cmp k q)) (option_map show w)) (sym (get_items m q s))
      ∙ turned q k (option_map show w) (map.get (items m.entries) q)

  -- a row written is an item put
  pub put_item : (m n : tree.BTreeMap ℕ X) (k : ℕ) (x : X) → tree.IsOrdered nat_cmp m → tree.IsOrdered nat_cmp n → tree.Updates nat_cmp m n k (Some x)
      → items n.entries ≡ map.insert (items m.entries) k (show x)
  put_item m n k x s t u = map.same_map nat_cmp_total map.nat_cmp-IsAntisymmetric _ _ (λ q.
      get_updated m n k q (Some x) s t u ∙ sym (map.get-insert nat_cmp_total (items m.entries) k (show x) q))

  -- and one taken out is an item taken out
  pub drop_item : (m n : tree.BTreeMap ℕ X) (k : ℕ) → tree.IsOrdered nat_cmp m → tree.IsOrdered nat_cmp n → tree.Updates nat_cmp m n k None
      → items n.entries ≡ map.remove (items m.entries) k
  drop_item m n k s t u = map.same_map nat_cmp_total map.nat_cmp-IsAntisymmetric _ _ (λ q.
      get_updated m n k q None s t u ∙ sym (map.get-remove nat_cmp_total (items m.entries) k q))
