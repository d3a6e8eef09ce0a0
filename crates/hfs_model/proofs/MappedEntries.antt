-- Items whose kinds were changed by their IDs: what is found among them is what is found among the items before.
use Rattle.std.proofs.Common.{◌≡◌, ℕ, ◌+◌, Bool, true, false, cond, List, [], ◌∷◌, map, Option, Some, None, is_some, refl, sym, ap, subst, ◌∙◌}
use Rattle.std.specs.Prelude.{T, find, ◌&&◌}
use Rattle.std.specs.declared.cmp.Ordering.{Ordering}
use Rattle.std.specs.declared.cmp.Ordering.TheVariants.{Less, Equal, Greater}
use Rattle.std.specs.Cmp.{nat_cmp_total}
use Rattle.std.specs.FinMap as fin
use Rattle.std.specs.FinMap.{nat_cmp-IsAntisymmetric}
use Rattle.std.specs.FinMap.Entries as entries
use Rattle.std.specs.Option.{option_map, option_map_or}
use Rattle.std.specs.Ordering.{nat_cmp, is_eq, is_lt, eq_by_cmp}
use Rattle.std.proofs.lemmas.List.Sums.{sum_by-cons}
use Rattle.hfs_model.specs.declared.item.Item.{Item}
use Rattle.hfs_model.specs.declared.item.Kind.{Kind}
use Rattle.hfs_model.specs.Changes.{with_lock}
use Rattle.hfs_model.specs.Children.{is_folder_kind, has_id, entry_at, is_folder, is_child, is_child_named, child_named, valence}
use Rattle.hfs_model.specs.Replies.{is_locked_file}
use Rattle.hfs_model.specs.Volume.{Entry, Items, Volume}

-- each kind changed by the ID of its item
abbrev pub mapped_item : (ℕ → Kind → Kind) → ℕ → Item → Item
mapped_item g q i = record i { kind = g q i.kind }

abbrev pub mapped_entry : (ℕ → Kind → Kind) → Entry → Entry
mapped_entry g e = (e.0, mapped_item g e.0 e.1)

abbrev pub mapped_items : (ℕ → Kind → Kind) → Items → Items
mapped_items g items = fin.from_sorted (map (mapped_entry g) (fin.entries items))

abbrev pub mapped : (ℕ → Kind → Kind) → Volume → Volume
mapped g v = record v { items = mapped_items g v.items }

-- the changed kind tells the same but for the bytes of forks, and takes a lock as before
pub record TellsSame (g : ℕ → Kind → Kind) : Type 0 where
  pub folder : (q : ℕ) (k : Kind) → is_folder_kind (g q k) ≡ is_folder_kind k
  pub locked : (q : ℕ) (k : Kind) → is_locked_file (g q k) ≡ is_locked_file k
  pub lock : (b : Bool) (q : ℕ) (k : Kind) → with_lock b (g q k) ≡ g q (with_lock b k)

module _ (g : ℕ → Kind → Kind) where
  -- ---- what is found

  pub find-mapped : (p : Entry → Bool) → ((e : Entry) → p (mapped_entry g e) ≡ p e) → (es : List Entry)
      → find p (map (mapped_entry g) es) ≡ option_map (mapped_entry g) (find p es)
  find-mapped p same [] = refl
  find-mapped p same (e ∷ es) =
      ap (λ (b : Bool). cond b (Some (mapped_entry g e)) (find p (map (mapped_entry g) es))) (same e)
      ∙ elim (p e) as (λ (b : Bool). cond b (Some (mapped_entry g e)) (find p (map (mapped_entry g) es))
      ≡ option_map (mapped_entry g) (cond b (Some e) (find p es))) [
        | true ↦ refl
        | false ↦ find-mapped p same es
      ]

  pub or-mapped : {B : Type 0} (f h : Entry → B) → ((e : Entry) → f (mapped_entry g e) ≡ h e) → (o : Option Entry) (d : B)
      → option_map_or f (option_map (mapped_entry g) o) d ≡ option_map_or h o d
  or-mapped f h same None d = refl
  or-mapped f h same (Some e) d = same e

  pub some-mapped : (o : Option Entry) → is_some (option_map (mapped_entry g) o) ≡ is_some o
  some-mapped None = refl
  some-mapped (Some e) = refl

  pub entry_at-mapped : (es : List Entry) (id : ℕ) → entry_at (map (mapped_entry g) es) id ≡ option_map (mapped_entry g) (entry_at es id)
  entry_at-mapped es id = find-mapped (has_id id) (λ e. refl) es

  pub child_named-mapped : (es : List Entry) (dir : ℕ) (name : List ℕ) → child_named (map (mapped_entry g) es) dir name
      ≡ option_map (mapped_entry g) (child_named es dir name)
  child_named-mapped es dir name = find-mapped (is_child_named dir name) (λ e. refl) es

  pub is_folder-mapped : TellsSame g → (es : List Entry) (id : ℕ) → is_folder (map (mapped_entry g) es) id ≡ is_folder es id
  is_folder-mapped tells es id =
      ap (λ (o : Option Entry). option_map_or (λ (e : Entry). is_folder_kind e.1.kind) o false) (entry_at-mapped es id)
      ∙ or-mapped (λ (e : Entry). is_folder_kind e.1.kind) (λ (e : Entry). is_folder_kind e.1.kind) (λ e. tells.folder e.0 e.1.kind)
      (entry_at es id) false

  pub valence-mapped : (es : List Entry) (dir : ℕ) → valence (map (mapped_entry g) es) dir ≡ valence es dir
  valence-mapped [] dir = refl
  valence-mapped (e ∷ es) dir =
      sum_by-cons (λ (x : Entry). cond (is_child dir x) 1 0) (mapped_entry g e) (map (mapped_entry g) es)
      ∙ ap (λ (n : ℕ). cond (is_child dir e) 1 0 + n) (valence-mapped es dir)
      ∙ sym (sum_by-cons (λ (x : Entry). cond (is_child dir x) 1 0) e es)

  -- ---- the map of items

  below-mapped : (x : ℕ) (es : List Entry) → entries.below_all nat_cmp x (map (mapped_entry g) es) ≡ entries.below_all nat_cmp x es
  below-mapped x [] = refl
  below-mapped x (e ∷ es) = ap (λ (b : Bool). is_lt (nat_cmp x e.0) && b) (below-mapped x es)

  sorted-mapped : (es : List Entry) → entries.is_sorted nat_cmp (map (mapped_entry g) es) ≡ entries.is_sorted nat_cmp es
  sorted-mapped [] = refl
  sorted-mapped (e ∷ es) = λ i. below-mapped e.0 es i && sorted-mapped es i

  pub entries-mapped : (items : Items) → fin.entries (mapped_items g items) ≡ map (mapped_entry g) (fin.entries items)
  entries-mapped items =
      fin.entries-from_sorted nat_cmp (map (mapped_entry g) (fin.entries items)) (subst T (sym (sorted-mapped (fin.entries items)))
      (fin.entries_sorted items))

  -- at a key
  lookup-mapped : (q : ℕ) (es : List Entry) → entries.find nat_cmp q (map (mapped_entry g) es)
      ≡ option_map (mapped_item g q) (entries.find nat_cmp q es)
  lookup-mapped q [] = refl
  lookup-mapped q (e ∷ es) =
      elim (nat_cmp q e.0)
      as (λ (r : Ordering). nat_cmp q e.0 ≡ r → cond (is_eq r) (Some (mapped_item g e.0 e.1)) (entries.find nat_cmp q (map (mapped_entry g) es))
      ≡ option_map (mapped_item g q) (cond (is_eq r) (Some e.1) (entries.find nat_cmp q es))) [
        | Less ↦ λ t. lookup-mapped q es
        | Equal ↦ λ t. ap (λ (k : ℕ). Some (mapped_item g k e.1)) (sym (nat_cmp-IsAntisymmetric q e.0 t))
        | Greater ↦ λ t. lookup-mapped q es
      ] refl

  pub get-mapped : (m : Items) (q : ℕ) → fin.get (mapped_items g m) q ≡ option_map (mapped_item g q) (fin.get m q)
  get-mapped m q =
      fin.get-entries (mapped_items g m) q ∙ ap (entries.find nat_cmp q) (entries-mapped m) ∙ lookup-mapped q (fin.entries m)
      ∙ ap (option_map (mapped_item g q)) (sym (fin.get-entries m q))

  same-key : (q k : ℕ) (x : Item) (o : Option Item) → option_map (mapped_item g q) (cond (eq_by_cmp nat_cmp q k) (Some x) o)
      ≡ cond (eq_by_cmp nat_cmp q k) (Some (mapped_item g k x)) (option_map (mapped_item g q) o)
  same-key q k x o =
      elim (nat_cmp q k)
      as (λ (r : Ordering). nat_cmp q k ≡ r → option_map (mapped_item g q) (cond (is_eq r) (Some x) o)
      ≡ cond (is_eq r) (Some (mapped_item g k x)) (option_map (mapped_item g q) o)) [
        | Less ↦ λ t. refl
        | Equal ↦ λ t. ap (λ (n : ℕ). Some (mapped_item g n x)) (nat_cmp-IsAntisymmetric q k t)
        | Greater ↦ λ t. refl
      ] refl

  removed : (q : ℕ) (b : Bool) (o : Option Item) → option_map (mapped_item g q) (cond b None o) ≡ cond b None (option_map (mapped_item g q) o)
  removed q true o = refl
  removed q false o = refl

  pub insert-mapped : (m : Items) (k : ℕ) (x : Item) → fin.insert (mapped_items g m) k (mapped_item g k x) ≡ mapped_items g (fin.insert m k x)
  insert-mapped m k x =
      fin.same_map nat_cmp_total nat_cmp-IsAntisymmetric (fin.insert (mapped_items g m) k (mapped_item g k x)) (mapped_items g (fin.insert m k x))
      (λ q.
      fin.get-insert nat_cmp_total (mapped_items g m) k (mapped_item g k x) q
      ∙ ap (λ (o : Option Item). cond (eq_by_cmp nat_cmp q k) (Some (mapped_item g k x)) o) (get-mapped m q)
      ∙ sym (same-key q k x (fin.get m q))
      ∙ ap (option_map (mapped_item g q)) (sym (fin.get-insert nat_cmp_total m k x q)) ∙ sym (get-mapped (fin.insert m k x) q))

  pub remove-mapped : (m : Items) (k : ℕ) → fin.remove (mapped_items g m) k ≡ mapped_items g (fin.remove m k)
  remove-mapped m k =
      fin.same_map nat_cmp_total nat_cmp-IsAntisymmetric (fin.remove (mapped_items g m) k) (mapped_items g (fin.remove m k)) (λ q.
      fin.get-remove nat_cmp_total (mapped_items g m) k q
      ∙ ap (λ (o : Option Item). cond (eq_by_cmp nat_cmp q k) None o) (get-mapped m q)
      ∙ sym (removed q (eq_by_cmp nat_cmp q k) (fin.get m q))
      ∙ ap (option_map (mapped_item g q)) (sym (fin.get-remove nat_cmp_total m k q)) ∙ sym (get-mapped (fin.remove m k) q))
