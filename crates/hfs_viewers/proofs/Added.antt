-- The names with one item more.
use Rattle.std.proofs.Common.{◌≡◌, ⊎_elim, ℕ, Bool, true, false, cond, IsTrue, refl, sym, ◌∙◌, ap, Some, None}
use Rattle.std.specs.declared.cmp.Ordering.TheVariants.{Equal}
use Rattle.std.specs.Ordering.{is_eq}
use Rattle.std.specs.Cmp.{nat_cmp_total, unsigned_ties}
use Rattle.std.specs.FinMap as map
use Rattle.std.specs.BTreeMap as tree
use Rattle.std.proofs.lemmas.Bool.{cases_eq, eq-eqb, ne_eqb}
use Rattle.hfs_fields.proofs.OrderLemmas.{eq_is}
use Rattle.hfs_fields.specs.Order.{same_name}
use Rattle.hfs_model.specs.declared.item.Item.{Item}
use Rattle.hfs_model.specs.Volume.{Items}
use Rattle.hfs_model.specs.Lawful.{Has}
use Rattle.hfs_model.proofs.Facts.{none_is_some}
use Rattle.hfs_model.proofs.Facts.{same_some}
use Rattle.hfs_viewers.specs.declared.place.Place.{Place}
use Rattle.hfs_viewers.specs.Places.{place, place_cmp}
use Rattle.hfs_viewers.proofs.PlaceLemmas.{level, names_level}
use Rattle.hfs_viewers.specs.Tables.{AreNames}
use Rattle.hfs_viewers.proofs.Named.{tied, level_parents}

module _ (m : Items) (k : ℕ) (x : Item) where
  pub new_here : map.get (map.insert m k x) k ≡ Some x
  new_here = map.get-insert nat_cmp_total m k x k ∙ ap (λ b. cond b (Some x) (map.get m k)) (sym (unsigned_ties k k) ∙ eq-eqb k k refl)

  pub new_other : (q : ℕ) → (k ≡ q → ⊥) → map.get (map.insert m k x) q ≡ map.get m q
  new_other q other = map.get-insert nat_cmp_total m k x q ∙ ap (λ b. cond b (Some x) (map.get m q)) (sym (unsigned_ties q k) ∙ ne_eqb q k (λ (e : q ≡ k). other (sym e)))

-- a new item at a free place
module _ (m : Items) (names after : tree.BTreeMap Place ℕ) (are : AreNames m names) (k : ℕ) (x : Item) (fresh : map.get m k ≡ None)
    (free : tree.get place_cmp names (place x.parent x.name) ≡ None) (sorted : tree.IsOrdered place_cmp after)
    (added : tree.Updates place_cmp names after (place x.parent x.name) (Some k)) where
  abbrev here : Place
  here = place x.parent x.name

  at_here : (p : Place) → is_eq (place_cmp here p) ≡ true → tree.get place_cmp after p ≡ Some k
  at_here p e = added.0 p ∙ ap (λ b. cond b (Some k) (tree.get place_cmp names p)) e

  elsewhere : (p : Place) → is_eq (place_cmp here p) ≡ false → tree.get place_cmp after p ≡ tree.get place_cmp names p
  elsewhere p e = added.0 p ∙ ap (λ b. cond b (Some k) (tree.get place_cmp names p)) e

  pub names_added : AreNames (map.insert m k x) after
  names_added = record {
    sorted = sorted;
    has = λ q j has. ⊎_elim
        (λ (same : k ≡ q).
        let is : x ≡ j = same_some x j (sym (new_here m k x) ∙ ap (map.get (map.insert m k x)) same ∙ has) in
        (λ i. tree.get place_cmp after (place (sym is i).parent (sym is i).name)) ∙ at_here here (ap is_eq (level here)) ∙ ap Some same)
        (λ (other : k ≡ q → ⊥).
        let was : Has m q j = sym (new_other m k x q other) ∙ has in
        let at = are.has q j was in
        elim (is_eq (place_cmp here (place j.parent j.name))) as (λ (b : Bool). is_eq (place_cmp here (place j.parent j.name)) ≡ b → tree.get place_cmp after (place j.parent j.name) ≡ Some q) [
          | true ↦ λ e. absurd (none_is_some _ q (sym (tied names here (place j.parent j.name) (eq_is _ e)) ∙ free) at)
          | false ↦ λ e. elsewhere (place j.parent j.name) e ∙ at
        ] refl)
        (cases_eq k q);
    item = λ p q at. elim (is_eq (place_cmp here p)) as (λ (b : Bool). is_eq (place_cmp here p) ≡ b → (i : Item) × Has (map.insert m k x) q i × (i.parent ≡ p.parent) × IsTrue (same_name i.name p.name)) [
      | true ↦ λ e.
          let tie : place_cmp here p ≡ Equal = eq_is _ e in
          let same : k ≡ q = same_some k q (sym (at_here p e) ∙ at) in
          (x, ap (map.get (map.insert m k x)) (sym same) ∙ new_here m k x, level_parents here p tie, names_level here p tie)
      | false ↦ λ e.
          let item = are.item p q (sym (elsewhere p e) ∙ at) in
          (item.0, new_other m k x q (λ (same : k ≡ q). none_is_some _ item.0 (sym (ap (map.get m) same) ∙ fresh) item.1) ∙ item.1, item.2, item.3)
    ] refl;
  }
