-- A row that is written, whose item stays where it is.
use Rattle.std.proofs.Common.{◌≡◌, ⊎_elim, ℕ, Bool, true, false, cond, refl, sym, ◌∙◌, ap, subst, eqb, Option, Some, None}
use Rattle.std.specs.Ordering.{nat_cmp}
use Rattle.std.specs.Cmp.{nat_cmp_total, unsigned_ties}
use Rattle.std.specs.Option.{option_map}
use Rattle.std.specs.FinMap as map
use Rattle.std.specs.BTreeMap as tree
use Rattle.std.proofs.lemmas.Bool.{cases_eq, eq-eqb, ne_eqb}
use Rattle.hfs_fields.specs.Order.{same_name}
use Rattle.hfs_fields.specs.declared.mdb.Mdb.{Mdb}
use Rattle.hfs_model.specs.declared.item.Item.{Item}
use Rattle.hfs_model.specs.Volume.{Items}
use Rattle.hfs_model.specs.Children.{valence}
use Rattle.hfs_model.specs.Lawful.{Has}
use Rattle.hfs_model.proofs.Counts.{count_edited}
use Rattle.hfs_model.proofs.Facts.{none_is_some}
use Rattle.hfs_model.proofs.Facts.{same_some}
use Rattle.hfs_viewers.specs.declared.place.Place.{Place}
use Rattle.hfs_viewers.specs.declared.row.Row.{Row}
use Rattle.hfs_viewers.specs.declared.row.RowKind.{RowKind}
use Rattle.hfs_viewers.specs.declared.row.RowKind.TheVariants.{Folder, File as FileRow}
use Rattle.hfs_viewers.specs.declared.table.Table.{Table}
use Rattle.hfs_viewers.specs.Places.{place, place_cmp}
use Rattle.hfs_viewers.specs.Tables.{item_of, items_of, AreNames, IsTable, IsKindOf}
use Rattle.hfs_viewers.specs.RowEdits.{Writes}
use Rattle.hfs_viewers.proofs.ShownLemmas.{get_items}
use Rattle.hfs_viewers.proofs.LookedUp.{get_of}

-- the number of a folder's children alone depends on the items
pub kind_still : (a b : Items) (mdb : Mdb) (q : ℕ) (k : RowKind) → valence (map.entries b) q ≡ valence (map.entries a) q → IsKindOf a mdb q k → IsKindOf b mdb q k
kind_still a b mdb q (Folder kept children) e h = h ∙ sym e
kind_still a b mdb q (FileRow f) e h = h

-- items with the same parents and names stand at the same places
pub names_still : (a b : Items) (names : tree.BTreeMap Place ℕ) → AreNames a names
    → ((q : ℕ) (i : Item) → Has a q i → (j : Item) × Has b q j × (j.parent ≡ i.parent) × (j.name ≡ i.name))
    → ((q : ℕ) (j : Item) → Has b q j → (i : Item) × Has a q i × (j.parent ≡ i.parent) × (j.name ≡ i.name))
    → AreNames b names
names_still a b names are forth back = record {
  sorted = are.sorted;
  has = λ q j has. let i = back q j has in (λ k. tree.get place_cmp names (place (i.2 k) (i.3 k))) ∙ are.has q i.0 i.1;
  item = λ p q at.
      let i = are.item p q at in
      let j = forth q i.0 i.1 in
      (j.0, j.1, j.2 ∙ i.2, (λ k. same_name (j.3 k) p.name) ∙ i.3);
}

pub picked_map : {A B : Type 0} (f : A → A) (g : B → B) (show : A → B) → ((x : A) → show (f x) ≡ g (show x)) → (b : Bool) (o : Option A) → option_map show (cond b (option_map f o) o) ≡ cond b (option_map g (option_map show o)) (option_map show o)
picked_map f g show shows true None = refl
picked_map f g show shows true (Some x) = ap Some (shows x)
picked_map f g show shows false o = refl

module _ (t : Table) (is : IsTable t) (n : tree.BTreeMap ℕ Row) (f : Row → Row) (g : Item → Item) (id : ℕ) (writes : Writes f id t.by_id n)
    (shows : (r : Row) → item_of t.base t.mdb (f r) ≡ g (item_of t.base t.mdb r))
    (parent : (i : Item) → (g i).parent ≡ i.parent) (name : (i : Item) → (g i).name ≡ i.name)
    (i : Item) (has : Has (items_of t) id i) where
  abbrev now : Table
  now = record t { by_id = n }

  get_now : (q : ℕ) → map.get (items_of now) q ≡ cond (eqb id q) (option_map g (map.get (items_of t) q)) (map.get (items_of t) q)
  unfolding items_of
  get_now q =
      get_items (item_of t.base t.mdb) n q writes.sorted ∙ ap (option_map (item_of t.base t.mdb)) (writes.writes q)
      ∙ picked_map f g (item_of t.base t.mdb) shows (eqb id q) (tree.get nat_cmp t.by_id q)
      ∙ ap (λ o. cond (eqb id q) (option_map g o) o) (sym (get_of t is q))

  get_here : map.get (items_of now) id ≡ Some (g i)
  get_here = get_now id ∙ ap (λ b. cond b (option_map g (map.get (items_of t) id)) (map.get (items_of t) id)) (eq-eqb id id refl) ∙ ap (option_map g) has

  get_other : (q : ℕ) → (id ≡ q → ⊥) → map.get (items_of now) q ≡ map.get (items_of t) q
  get_other q other = get_now q ∙ ap (λ b. cond b (option_map g (map.get (items_of t) q)) (map.get (items_of t) q)) (ne_eqb id q other)

  pub items_written : items_of now ≡ map.insert (items_of t) id (g i)
  items_written = map.same_map nat_cmp_total map.nat_cmp-IsAntisymmetric _ _ (λ q. ⊎_elim
      (λ (here : id ≡ q).
      ap (map.get (items_of now)) (sym here) ∙ get_here
      ∙ ap (λ b. cond b (Some (g i)) (map.get (items_of t) q)) (sym (sym (unsigned_ties q id) ∙ eq-eqb q id (sym here)))
      ∙ sym (map.get-insert nat_cmp_total (items_of t) id (g i) q))
      (λ (other : id ≡ q → ⊥).
      get_other q other
      ∙ ap (λ b. cond b (Some (g i)) (map.get (items_of t) q)) (sym (sym (unsigned_ties q id) ∙ ne_eqb q id (λ (e : q ≡ id). other (sym e))))
      ∙ sym (map.get-insert nat_cmp_total (items_of t) id (g i) q))
      (cases_eq id q))

  forth : (q : ℕ) (j : Item) → Has (items_of t) q j → (k : Item) × Has (items_of now) q k × (k.parent ≡ j.parent) × (k.name ≡ j.name)
  forth q j there = ⊎_elim
      (λ (here : id ≡ q).
      let same : i ≡ j = same_some i j (sym has ∙ ap (map.get (items_of t)) here ∙ there) in
      (g i, ap (map.get (items_of now)) (sym here) ∙ get_here, parent i ∙ ap (λ (x : Item). x.parent) same, name i ∙ ap (λ (x : Item). x.name) same))
      (λ (other : id ≡ q → ⊥). (j, get_other q other ∙ there, refl, refl))
      (cases_eq id q)

  back : (q : ℕ) (k : Item) → Has (items_of now) q k → (j : Item) × Has (items_of t) q j × (k.parent ≡ j.parent) × (k.name ≡ j.name)
  back q k there = ⊎_elim
      (λ (here : id ≡ q).
      let same : g i ≡ k = same_some (g i) k (sym get_here ∙ ap (map.get (items_of now)) here ∙ there) in
      (i, ap (map.get (items_of t)) (sym here) ∙ has, ap (λ (x : Item). x.parent) (sym same) ∙ parent i, ap (λ (x : Item). x.name) (sym same) ∙ name i))
      (λ (other : id ≡ q → ⊥). (k, sym (get_other q other) ∙ there, refl, refl))
      (cases_eq id q)

  valence_still : (q : ℕ) → valence (map.entries (items_of now)) q ≡ valence (map.entries (items_of t)) q
  valence_still q = ap (λ (m : Items). valence (map.entries m) q) items_written ∙ count_edited (items_of t) id (g i) i q has (parent i)

  module _ (shape : (items : Items) (q : ℕ) (r : Row) → IsKindOf items t.mdb q r.kind → IsKindOf items t.mdb q (f r).kind) where
    row_still : (q : ℕ) (r : Row) → tree.get nat_cmp n q ≡ Some r → IsKindOf (items_of t) t.mdb q r.kind
    row_still q r at = elim (tree.get nat_cmp t.by_id q) as (λ (o : Option Row). tree.get nat_cmp t.by_id q ≡ o → (b : Bool) → cond b (option_map f o) o ≡ Some r → IsKindOf (items_of t) t.mdb q r.kind) [
      | None ↦ λ was b e. absurd (nothing b r e)
      | Some x ↦ λ was b e. elim b as (λ (c : Bool). cond c (Some (f x)) (Some x) ≡ Some r → IsKindOf (items_of t) t.mdb q r.kind) [
        | true ↦ λ is_f. subst (λ (y : Row). IsKindOf (items_of t) t.mdb q y.kind) (same_some (f x) r is_f) (shape (items_of t) q x (is.rows q x was))
        | false ↦ λ is_x. subst (λ (y : Row). IsKindOf (items_of t) t.mdb q y.kind) (same_some x r is_x) (is.rows q x was)
      ] e
    ] refl (eqb id q) (sym (writes.writes q) ∙ at)
      where
        nothing : (b : Bool) (r : Row) → cond b (option_map f None) None ≡ Some r → ⊥
        nothing true r e = none_is_some None r refl e
        nothing false r e = none_is_some None r refl e

    pub table_written : IsTable now
    table_written = record {
      sorted = writes.sorted;
      names = names_still (items_of t) (items_of now) t.by_name is.names forth back;
      rows = λ q r at. kind_still (items_of t) (items_of now) t.mdb q r.kind (valence_still q) (row_still q r at);
      over = is.over;
    }
