-- A table whose maps have the entries of another's.
use Rattle.std.proofs.Common.{◌≡◌, ℕ, List, refl, sym, ◌∙◌, ap, subst}
use Rattle.std.specs.Prelude.{Option}
use Rattle.std.specs.Ordering.{nat_cmp}
use Rattle.std.specs.FinMap as finite
use Rattle.std.specs.BTreeMap as tree
use Rattle.std.specs.List.{AllZip}
use Rattle.std.specs.List.Sorted.{IsStrictlySortedBy}
use Rattle.std.specs.Map.{keys_of, lookup}
use Rattle.std.proofs.lemmas.List.Elements.{same_from_all_zip}
use Rattle.hfs_fields.specs.declared.mdb.Mdb.{Mdb}
use Rattle.hfs_model.specs.Volume.{Items}
use Rattle.hfs_model.specs.Lawful.{Has}
use Rattle.hfs_viewers.specs.declared.place.Place.{Place}
use Rattle.hfs_viewers.specs.declared.row.Row.{Row}
use Rattle.hfs_viewers.specs.declared.table.Table.{Table}
use Rattle.hfs_viewers.specs.Places.{place, place_cmp}
use Rattle.hfs_viewers.specs.Tables.{item_of, items_of, shown, volume_of, IsKindOf, IsOver, IsTable}

-- clones that equal their sources are the entries
pub same_entries : {K X : Type 0} (es fs : List (K × X)) → AllZip (λ p q. (q.0 ≡ p.0) × (q.1 ≡ p.1)) es fs → fs ≡ es
same_entries es fs h = same_from_all_zip (λ p q. (q.0 ≡ p.0) × (q.1 ≡ p.1)) es fs h (λ p q same i. (same.0 i, same.1 i))

module _ (t u : Table) (base : u.base ≡ t.base) (mdb : u.mdb ≡ t.mdb) (ids : u.by_id.entries ≡ t.by_id.entries) (names : u.by_name.entries ≡ t.by_name.entries) where
  same_items : items_of u ≡ items_of t
  unfolding items_of
  same_items = λ i. finite.from_sorted (shown (item_of (base i) (mdb i)) (ids i))

  same_row : (q : ℕ) → tree.get nat_cmp u.by_id q ≡ tree.get nat_cmp t.by_id q
  same_row q = λ i. lookup (tree.is_at (nat_cmp q)) (ids i)

  same_name : (p : Place) → tree.get place_cmp u.by_name p ≡ tree.get place_cmp t.by_name p
  same_name p = λ i. lookup (tree.is_at (place_cmp p)) (names i)

  pub is_table : IsTable t → IsTable u
  is_table is = record {
    sorted = subst (λ (es : List (ℕ × Row)). IsStrictlySortedBy nat_cmp (keys_of es)) (sym ids) is.sorted;
    names = record {
      sorted = subst (λ (es : List (Place × ℕ)). IsStrictlySortedBy place_cmp (keys_of es)) (sym names) is.names.sorted;
      has = λ id i has. same_name (place i.parent i.name) ∙ is.names.has id i (subst (λ (m : Items). Has m id i) same_items has);
      item = λ p id at.
          let found = is.names.item p id (sym (same_name p) ∙ at) in
          (found.0, subst (λ (m : Items). Has m id found.0) (sym same_items) found.1, found.2, found.3);
    };
    rows = λ id r at.
        subst (λ (m : Items). IsKindOf m u.mdb id r.kind) (sym same_items)
        (subst (λ (d : Mdb). IsKindOf (items_of t) d id r.kind) (sym mdb) (is.rows id r (sym (same_row id) ∙ at)));
    over = subst (λ (y : List ℕ × Mdb). IsOver y.0 y.1) (λ i. (sym base i, sym mdb i)) is.over;
  }

  pub same_volume : u.next_id ≡ t.next_id → u.changed ≡ t.changed → u.hardware_locked ≡ t.hardware_locked → u.software_locked ≡ t.software_locked → volume_of u ≡ volume_of t
  same_volume next changed hardware software = λ i. record {
    items = same_items i;
    next_id = next i;
    changed = changed i;
    hardware_locked = hardware i;
    software_locked = software i;
    block_size = (mdb i).allocation_block_size;
  }
