-- The items of a table's rows are entries of a plain volume.
use Rattle.std.proofs.Common.{◌≡◌, ℕ, ◌+◌, ◌<◌, ◌≤◌, ⊎_elim, Bool, true, false, cond, List, [], ◌∷◌, refl, sym, ◌∙◌, ap, subst, arith, Some}
use Rattle.std.specs.declared.cmp.Ordering.TheVariants.{Less, Equal}
use Rattle.std.specs.Ordering.{nat_cmp, is_eq}
use Rattle.std.specs.Cmp.{nat_cmp_is, ranked}
use Rattle.std.specs.Option.{option_map}
use Rattle.std.specs.List.{AllByRecursion}
use Rattle.std.specs.List.Sorted.{IsStrictlySortedBy}
use Rattle.std.specs.Map.{lookup, keys_of}
use Rattle.std.specs.FinMap as finite
use Rattle.hfs_model.specs.declared.item.Item.{Item}
use Rattle.hfs_model.specs.Volume.{Entry}
use Rattle.hfs_model.specs.Children.{valence}
use Rattle.hfs_model.specs.Lawful.{IsLawful}
use Rattle.hfs_store.specs.PlainVolume.{AreEntries, Rises, unlocked_volume, with_block_size, with_locks}
use Rattle.hfs_viewers.specs.declared.row.Row.{Row}
use Rattle.hfs_viewers.specs.declared.table.Table.{Table}
use Rattle.hfs_viewers.proofs.ShownLemmas.{entries_items, get_items}
use Rattle.hfs_viewers.specs.Tables.{IsTable, item_of, items_of, shown, volume_of}
use Rattle.hfs_plain.specs.Entries.{row_entries}

-- a key found under a number
abbrev is_at : ℕ → ℕ → Bool
is_at q k = is_eq (nat_cmp q k)

above : (k : ℕ) (ks : List ℕ) → AllByRecursion (λ y. nat_cmp k y ≡ Less) ks → AllByRecursion (λ y. k + 1 ≤ y) ks
above k [] h = tt
above k (y ∷ ys) h = (omega (arith, ranked k y Less (sym h.0)), above k ys h.1)

module _ {X : Type 0} (show : X → Item) where
  -- sorted keys rise, where what is found has a key below the highest
  pub rises : (low high : ℕ) (rows : List (ℕ × X)) → low ≤ high → AllByRecursion (λ y. low ≤ y) (keys_of rows) → IsStrictlySortedBy nat_cmp (keys_of rows)
      → ((q : ℕ) (x : X) → lookup (is_at q) rows ≡ Some x → q < high) → Rises low high (shown show rows)
  unfolding IsStrictlySortedBy
  rises low high [] le least sorted below = le
  rises low high (e ∷ rows) le least sorted below =
      let here : e.0 < high = below e.0 e.1 (ap (λ (b : Bool). cond b (Some e.1) (lookup (is_at e.0) rows)) (ap is_eq (sym (nat_cmp_is e.0 e.0 Equal refl)))) in (
        least.0,
        rises (e.0 + 1) high rows (omega (arith, here)) (above e.0 (keys_of rows) sorted.0) sorted.1 (λ q x found. elim (is_at q e.0) as (λ (b : Bool). is_at q e.0 ≡ b → q < high) [
          | true ↦ λ is. below q e.1 (ap (λ (b : Bool). cond b (Some e.1) (lookup (is_at q) rows)) is)
          | false ↦ λ is. below q x (ap (λ (b : Bool). cond b (Some e.1) (lookup (is_at q) rows)) is ∙ found)
        ] refl),
      )

  pub all_least : (ks : List ℕ) → AllByRecursion (λ y. 0 ≤ y) ks
  all_least [] = tt
  all_least (k ∷ ks) = (omega arith, all_least ks)

module _ (t : Table) (is : IsTable t) (lawful : IsLawful (volume_of t)) where
  -- an ID that has a row is below the next one
  below_next : (q : ℕ) (r : Row) → lookup (is_at q) t.by_id.entries ≡ Some r → q < t.next_id
  unfolding items_of
  below_next q r found = ⊎_elim
      (λ (e : q ≡ 2). omega (arith, e, lawful.new_id))
      (λ given. given.1)
      (lawful.ids q (item_of t.base t.mdb r) (get_items (item_of t.base t.mdb) t.by_id q is.sorted ∙ ap (option_map (item_of t.base t.mdb)) found))

  entries_are : finite.entries (items_of t) ≡ row_entries t
  unfolding items_of
  entries_are = entries_items (item_of t.base t.mdb) t.by_id.entries is.sorted

  pub are_entries : AreEntries (row_entries t) t.next_id
  are_entries = record {
    rise = rises (item_of t.base t.mdb) 0 t.next_id t.by_id.entries (omega arith) (all_least (item_of t.base t.mdb) (keys_of t.by_id.entries)) is.sorted below_next;
    room = λ id. subst (λ (es : List Entry). valence es id ≤ 65535) entries_are (lawful.room id);
  }

-- with the locks and the size of a block they are the table's volume
pub locked_is : (t : Table) → with_block_size t.mdb.allocation_block_size (with_locks t.hardware_locked t.software_locked (unlocked_volume (row_entries t) t.next_id t.changed)) ≡ volume_of t
unfolding items_of
locked_is t = refl
