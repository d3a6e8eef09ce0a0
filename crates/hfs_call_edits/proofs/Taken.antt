-- Whether another item of a folder has a name, in a lawful volume: by the one that a search for the name finds.
use Rattle.std.proofs.Common.{◌≡◌, ℕ, Bool, true, false, not, eqb, List, refl, sym, ◌∙◌, ap, Option, Some, None}
use Rattle.std.specs.Prelude.{is_some}
use Rattle.std.specs.declared.cmp.Ordering.TheVariants.{Equal}
use Rattle.std.specs.Ordering.{is_eq, ordering_reverse}
use Rattle.std.specs.Option.{option_map_or}
use Rattle.std.specs.List.{find}
use Rattle.std.specs.FinMap as map
use Rattle.std.proofs.lemmas.Bool.{eqb-true, and_parts, and_from}
use Rattle.hfs_fields.specs.Order.{name_cmp, name_cmp_total, same_name}
use Rattle.hfs_model.specs.Volume.{Items, Entry}
use Rattle.hfs_model.specs.Children.{child_named, is_child, is_child_named}
use Rattle.hfs_model.specs.Choices.{is_taken, is_other_named}
use Rattle.hfs_model.specs.Lawful.{AreLawful}
use Rattle.hfs_model.proofs.Facts.{found_has, no_entry}
use Rattle.hfs_fields.proofs.OrderLemmas.{eq_is}

-- two names that are the same as a third are the same
both_same : (x y z : List ℕ) → same_name x z ≡ true → same_name y z ≡ true → same_name x y ≡ true
both_same x y z e f =
    let back : name_cmp z y ≡ Equal = name_cmp_total.antisymm z y ∙ ap ordering_reverse (eq_is (name_cmp y z) f) in
    ap is_eq (name_cmp_total.congr x z y (eq_is (name_cmp x z) e) ∙ back)

module _ (m : Items) (next : ℕ) (lawful : AreLawful m next) (dir : ℕ) (name : List ℕ) (id : ℕ) where
  abbrev those : List Entry
  those = map.entries m

  abbrev taken_by : Option Entry → Bool
  taken_by o = option_map_or (λ (e : Entry). not (eqb e.0 id)) o false

  pub taken_is : is_taken those dir name id ≡ taken_by (child_named those dir name)
  unfolding is_taken
  taken_is = elim (find (is_other_named dir name id) those) as (λ (o : Option Entry). find (is_other_named dir name id) those ≡ o → is_some o ≡ taken_by (child_named those dir name)) [
    | Some e ↦ λ is.
        let has = found_has m (is_other_named dir name id) e is in
        let tests = and_parts (is_child_named dir name e) (not (eqb e.0 id)) has.1 in
        let named = and_parts (is_child dir e) (same_name e.1.name name) tests.0 in
        elim (child_named those dir name) as (λ (o : Option Entry). child_named those dir name ≡ o → true ≡ taken_by o) [
          | None ↦ λ none. absurd (no_entry (is_child_named dir name) those e.0 e.1 none (sym (map.get-entries m e.0) ∙ has.0) tests.0)
          | Some f ↦ λ found.
              let there = found_has m (is_child_named dir name) f found in
              let other = and_parts (is_child dir f) (same_name f.1.name name) there.1 in
              let parents : e.1.parent ≡ f.1.parent = eqb-true e.1.parent dir named.0 ∙ sym (eqb-true f.1.parent dir other.0) in
              let one : e.0 ≡ f.0 = lawful.names e.0 f.0 e.1 f.1 has.0 there.0 parents (both_same e.1.name f.1.name name named.1 other.1) in
              sym tests.1 ∙ ap (λ (n : ℕ). not (eqb n id)) one
        ] refl
    | None ↦ λ none. elim (child_named those dir name) as (λ (o : Option Entry). child_named those dir name ≡ o → ◌≡◌ {A = Bool} false (taken_by o)) [
      | None ↦ λ _. refl
      | Some e ↦ λ is.
          let has = found_has m (is_child_named dir name) e is in
          elim (eqb e.0 id) as (λ (b : Bool). eqb e.0 id ≡ b → false ≡ not b) [
            | true ↦ λ _. refl
            | false ↦ λ other. absurd (no_entry (is_other_named dir name id) those e.0 e.1 none (sym (map.get-entries m e.0) ∙ has.0) (and_from (is_child_named dir name e) (not (eqb e.0 id)) has.1 (ap not other)))
          ] refl
    ] refl
  ] refl
