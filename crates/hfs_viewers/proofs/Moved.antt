-- Names where an item goes, or stands elsewhere.
use Rattle.std.proofs.Common.{◌≡◌, ⊎_elim, ℕ, Bool, true, false, cond, not, eqb, IsTrue, List, refl, sym, ◌∙◌, ap, Option, Some, None}
use Rattle.std.specs.declared.cmp.Ordering.TheVariants.{Equal}
use Rattle.std.specs.Ordering.{is_eq}
use Rattle.std.specs.Cmp.{nat_cmp_total, unsigned_ties, eq_by_cmp_equiv}
use Rattle.std.specs.List.{find}
use Rattle.std.specs.Option.{option_map_or, option_and_then, is_some}
use Rattle.std.specs.FinMap as map
use Rattle.std.specs.BTreeMap as tree
use Rattle.std.proofs.lemmas.Bool.{cases_eq, eq-eqb, ne_eqb, eqb-true}
use Rattle.hfs_fields.proofs.OrderLemmas.{eq_is}
use Rattle.hfs_fields.specs.Order.{same_name}
use Rattle.hfs_model.specs.declared.item.Item.{Item}
use Rattle.hfs_model.specs.Volume.{Items, Entry}
use Rattle.hfs_model.specs.Children.{entry_at, child_named, is_child_named}
use Rattle.hfs_model.specs.Choices.{is_taken, is_other_named}
use Rattle.hfs_model.specs.Lawful.{Has}
use Rattle.hfs_model.proofs.Facts.{none_is_some}
use Rattle.hfs_model.proofs.Facts.{same_some}
use Rattle.hfs_model.proofs.Facts.{true_false}
use Rattle.hfs_model.proofs.Facts.{found_has}
use Rattle.hfs_model.proofs.Facts.{no_entry}
use Rattle.hfs_model.proofs.Facts.{two_tests}
use Rattle.hfs_viewers.specs.declared.place.Place.{Place}
use Rattle.hfs_viewers.specs.Places.{place, place_cmp, place_cmp_total}
use Rattle.hfs_viewers.proofs.PlaceLemmas.{level, names_level}
use Rattle.hfs_viewers.specs.Tables.{AreNames}
use Rattle.hfs_viewers.specs.RowEdits.{Moves}
use Rattle.hfs_viewers.proofs.Named.{tie, tied, level_parents, child_named_is, entry_has}
use Rattle.hfs_viewers.proofs.Added.{new_here, new_other}
use Rattle.hfs_fields.proofs.DecisionLemmas.{both_true}

-- ---- the row of names

-- where the new place is the old one
pub moved_nowhere : (names : tree.BTreeMap Place ℕ) (from to : Place) (id : ℕ) → tree.IsOrdered place_cmp names → tree.get place_cmp names from ≡ Some id → is_eq (place_cmp from to) ≡ true → Moves from to id names names
moved_nowhere names from to id sorted stands same = record {
  sorted = sorted;
  moves = λ q. elim (is_eq (place_cmp to q)) as (λ (b : Bool). is_eq (place_cmp to q) ≡ b → tree.get place_cmp names q ≡ cond b (Some id) (cond (is_eq (place_cmp from q)) None (tree.get place_cmp names q))) [
    | true ↦ λ e. sym (tied names from q (eq_is _ (turned q ∙ e))) ∙ stands
    | false ↦ λ e. ap (λ b. cond b None (tree.get place_cmp names q)) (sym (turned q ∙ e))
  ] refl;
}
  where
    turned : (q : Place) → is_eq (place_cmp from q) ≡ is_eq (place_cmp to q)
    turned q = (eq_by_cmp_equiv place_cmp_total).congr from to q same

pub moved_there : (names middle after : tree.BTreeMap Place ℕ) (from to : Place) (id : ℕ) → tree.IsOrdered place_cmp after → is_eq (place_cmp from to) ≡ false
    → tree.Updates place_cmp names middle to (Some id) → tree.Updates place_cmp middle after from None → Moves from to id names after
moved_there names middle after from to id sorted other put took = record {
  sorted = sorted;
  moves = λ q. took.0 q ∙ elim (is_eq (place_cmp to q)) as (λ (b : Bool). is_eq (place_cmp to q) ≡ b
      → cond (is_eq (place_cmp from q)) None (tree.get place_cmp middle q) ≡ cond b (Some id) (cond (is_eq (place_cmp from q)) None (tree.get place_cmp names q))) [
        | true ↦ λ e. ap (λ b. cond b None (tree.get place_cmp middle q)) (apart q e) ∙ put.0 q ∙ ap (λ b. cond b (Some id) (tree.get place_cmp names q)) e
        | false ↦ λ e. ap (cond (is_eq (place_cmp from q)) None) (put.0 q ∙ ap (λ b. cond b (Some id) (tree.get place_cmp names q)) e)
      ] refl;
}
  where
    apart : (q : Place) → is_eq (place_cmp to q) ≡ true → is_eq (place_cmp from q) ≡ false
    apart q e =
        (eq_by_cmp_equiv place_cmp_total).symm from q
        ∙ (eq_by_cmp_equiv place_cmp_total).congr q to from ((eq_by_cmp_equiv place_cmp_total).symm q to ∙ e)
        ∙ (eq_by_cmp_equiv place_cmp_total).symm to from ∙ other

-- ---- an item elsewhere

module _ (m : Items) (names after : tree.BTreeMap Place ℕ) (are : AreNames m names) (k : ℕ) (i y : Item) (has : Has m k i)
    (free : (q : ℕ) → tree.get place_cmp names (place y.parent y.name) ≡ Some q → q ≡ k)
    (moves : Moves (place i.parent i.name) (place y.parent y.name) k names after) where
  abbrev from : Place
  from = place i.parent i.name

  abbrev to : Place
  to = place y.parent y.name

  at_to : (p : Place) → is_eq (place_cmp to p) ≡ true → tree.get place_cmp after p ≡ Some k
  at_to p e = moves.moves p ∙ ap (λ b. cond b (Some k) (cond (is_eq (place_cmp from p)) None (tree.get place_cmp names p))) e

  not_to : (p : Place) → is_eq (place_cmp to p) ≡ false → tree.get place_cmp after p ≡ cond (is_eq (place_cmp from p)) None (tree.get place_cmp names p)
  not_to p e = moves.moves p ∙ ap (λ b. cond b (Some k) (cond (is_eq (place_cmp from p)) None (tree.get place_cmp names p))) e

  at_from : (p : Place) → is_eq (place_cmp to p) ≡ false → is_eq (place_cmp from p) ≡ true → tree.get place_cmp after p ≡ None
  at_from p e f = not_to p e ∙ ap (λ b. cond b None (tree.get place_cmp names p)) f

  elsewhere : (p : Place) → is_eq (place_cmp to p) ≡ false → is_eq (place_cmp from p) ≡ false → tree.get place_cmp after p ≡ tree.get place_cmp names p
  elsewhere p e f = not_to p e ∙ ap (λ b. cond b None (tree.get place_cmp names p)) f

  pub names_moved : AreNames (map.insert m k y) after
  names_moved = record {
    sorted = moves.sorted;
    has = λ q j there. ⊎_elim
        (λ (same : k ≡ q).
        let is : y ≡ j = same_some y j (sym (new_here m k y) ∙ ap (map.get (map.insert m k y)) same ∙ there) in
        (λ z. tree.get place_cmp after (place (sym is z).parent (sym is z).name)) ∙ at_to to (ap is_eq (level to)) ∙ ap Some same)
        (λ (other : k ≡ q → ⊥).
        let p = place j.parent j.name in
        let at = are.has q j (sym (new_other m k y q other) ∙ there) in
        elim (is_eq (place_cmp to p)) as (λ (b : Bool). is_eq (place_cmp to p) ≡ b → tree.get place_cmp after p ≡ Some q) [
          | true ↦ λ e. absurd (other (sym (free q (tied names to p (eq_is _ e) ∙ at))))
          | false ↦ λ e. elim (is_eq (place_cmp from p)) as (λ (b : Bool). is_eq (place_cmp from p) ≡ b → tree.get place_cmp after p ≡ Some q) [
            | true ↦ λ f. absurd (other (same_some k q (sym (are.has k i has) ∙ tied names from p (eq_is _ f) ∙ at)))
            | false ↦ λ f. elsewhere p e f ∙ at
          ] refl
        ] refl)
        (cases_eq k q);
    item = λ p q at. elim (is_eq (place_cmp to p)) as (λ (b : Bool). is_eq (place_cmp to p) ≡ b → (z : Item) × Has (map.insert m k y) q z × (z.parent ≡ p.parent) × IsTrue (same_name z.name p.name)) [
      | true ↦ λ e.
          let level_is : place_cmp to p ≡ Equal = eq_is _ e in
          let same : k ≡ q = same_some k q (sym (at_to p e) ∙ at) in
          (y, ap (map.get (map.insert m k y)) (sym same) ∙ new_here m k y, level_parents to p level_is, names_level to p level_is)
      | false ↦ λ e. elim (is_eq (place_cmp from p)) as (λ (b : Bool). is_eq (place_cmp from p) ≡ b → (z : Item) × Has (map.insert m k y) q z × (z.parent ≡ p.parent) × IsTrue (same_name z.name p.name)) [
        | true ↦ λ f. absurd (none_is_some _ q (at_from p e f) at)
        | false ↦ λ f.
            let item = are.item p q (sym (elsewhere p e f) ∙ at) in (
              item.0,
              new_other m k y q (λ (same : k ≡ q).
                  let is : i ≡ item.0 = same_some i item.0 (sym has ∙ ap (map.get m) same ∙ item.1) in
                  true_false (is_eq (place_cmp from p)) (ap (λ (x : Item). is_eq (place_cmp (place x.parent x.name) p)) is ∙ ap is_eq (tie (place item.0.parent item.0.name) p item.2 item.3)) f) ∙ item.1,
              item.2,
              item.3,
            )
      ] refl
    ] refl;
  }

-- ---- an item that goes

module _ (m : Items) (k : ℕ) where
  pub gone : map.get (map.remove m k) k ≡ None
  gone = map.get-remove nat_cmp_total m k k ∙ ap (λ b. cond b None (map.get m k)) (sym (unsigned_ties k k) ∙ eq-eqb k k refl)

  pub stays : (q : ℕ) → (k ≡ q → ⊥) → map.get (map.remove m k) q ≡ map.get m q
  stays q other = map.get-remove nat_cmp_total m k q ∙ ap (λ b. cond b None (map.get m q)) (sym (unsigned_ties q k) ∙ ne_eqb q k (λ (e : q ≡ k). other (sym e)))

module _ (m : Items) (names after : tree.BTreeMap Place ℕ) (are : AreNames m names) (k : ℕ) (i : Item) (has : Has m k i) (sorted : tree.IsOrdered place_cmp after)
    (took : tree.Updates place_cmp names after (place i.parent i.name) None) where
  abbrev old : Place
  old = place i.parent i.name

  pub names_dropped : AreNames (map.remove m k) after
  names_dropped = record {
    sorted = sorted;
    has = λ q j there. ⊎_elim
        (λ (same : k ≡ q). absurd (none_is_some _ j (ap (map.get (map.remove m k)) (sym same) ∙ gone m k) there))
        (λ (other : k ≡ q → ⊥).
        let p = place j.parent j.name in
        let at = are.has q j (sym (stays m k q other) ∙ there) in
        elim (is_eq (place_cmp old p)) as (λ (b : Bool). is_eq (place_cmp old p) ≡ b → tree.get place_cmp after p ≡ Some q) [
          | true ↦ λ f. absurd (other (same_some k q (sym (are.has k i has) ∙ tied names old p (eq_is _ f) ∙ at)))
          | false ↦ λ f. took.0 p ∙ ap (λ b. cond b None (tree.get place_cmp names p)) f ∙ at
        ] refl)
        (cases_eq k q);
    item = λ p q at. elim (is_eq (place_cmp old p)) as (λ (b : Bool). is_eq (place_cmp old p) ≡ b → (z : Item) × Has (map.remove m k) q z × (z.parent ≡ p.parent) × IsTrue (same_name z.name p.name)) [
      | true ↦ λ f. absurd (none_is_some _ q (took.0 p ∙ ap (λ b. cond b None (tree.get place_cmp names p)) f) at)
      | false ↦ λ f.
          let item = are.item p q (sym (took.0 p ∙ ap (λ b. cond b None (tree.get place_cmp names p)) f) ∙ at) in (
            item.0,
            stays m k q (λ (same : k ≡ q).
                let is : i ≡ item.0 = same_some i item.0 (sym has ∙ ap (map.get m) same ∙ item.1) in
                true_false (is_eq (place_cmp old p)) (ap (λ (x : Item). is_eq (place_cmp (place x.parent x.name) p)) is ∙ ap is_eq (tie (place item.0.parent item.0.name) p item.2 item.3)) f) ∙ item.1,
            item.2,
            item.3,
          )
    ] refl;
  }

-- ---- a name that another item has

not_one : (b : Bool) → not b ≡ true → b ≡ false
not_one true e = absurd (true_false false e refl)
not_one false e = refl

module _ (m : Items) (names : tree.BTreeMap Place ℕ) (are : AreNames m names) (dir : ℕ) (name : List ℕ) (id : ℕ) where
  abbrev those : List Entry
  those = map.entries m

  abbrev taken_by : Option Entry → Bool
  taken_by o = option_map_or (λ (e : Entry). not (eqb e.0 id)) o false

  pub taken_is : is_taken those dir name id ≡ taken_by (child_named those dir name)
  unfolding is_taken
  taken_is = elim (find (is_other_named dir name id) those) as (λ (o : Option Entry). find (is_other_named dir name id) those ≡ o → is_some o ≡ taken_by (child_named those dir name)) [
    | Some e ↦ λ is.
        let has = found_has m (is_other_named dir name id) e is in
        let tests = two_tests _ _ has.1 in
        let named = two_tests _ _ tests.0 in
        let here : tree.get place_cmp names (place dir name) ≡ Some e.0 =
        sym (tied names (place e.1.parent e.1.name) (place dir name) (tie (place e.1.parent e.1.name) (place dir name) (eqb-true e.1.parent dir named.0) named.1)) ∙ are.has e.0 e.1 has.0 in
        sym (ap taken_by (child_named_is m names are dir name ∙ ap (option_and_then (entry_at those)) here ∙ entry_has m e.0 e.1 has.0) ∙ tests.1)
    | None ↦ λ none. elim (child_named those dir name) as (λ (o : Option Entry). child_named those dir name ≡ o → ◌≡◌ {A = Bool} false (taken_by o)) [
      | None ↦ λ _. refl
      | Some e ↦ λ is.
          let has = found_has m (is_child_named dir name) e is in
          elim (eqb e.0 id) as (λ (b : Bool). eqb e.0 id ≡ b → false ≡ not b) [
            | true ↦ λ _. refl
            | false ↦ λ other. absurd (no_entry (is_other_named dir name id) those e.0 e.1 none (sym (map.get-entries m e.0) ∙ has.0) (both_true _ _ has.1 (ap not other)))
          ] refl
    ] refl
  ] refl

  pub taken_at : (o : Option Entry) → child_named those dir name ≡ o → is_taken those dir name id ≡ option_map_or (λ (e : Entry). not (eqb e.0 id)) o false
  taken_at o found = taken_is ∙ ap taken_by found

  -- where no other item has it, what stands there is the item
  pub stands_free : is_taken those dir name id ≡ false → (q : ℕ) → tree.get place_cmp names (place dir name) ≡ Some q → q ≡ id
  stands_free fails q at =
      let item = are.item (place dir name) q at in
      elim (eqb q id) as (λ (b : Bool). eqb q id ≡ b → q ≡ id) [
        | true ↦ λ e. eqb-true q id e
        | false ↦ λ e. absurd (true_false (not (eqb q id)) (ap not e) (sym (ap taken_by (child_named_is m names are dir name ∙ ap (option_and_then (entry_at those)) at ∙ entry_has m q item.0 item.1)) ∙ sym taken_is ∙ fails))
      ] refl
