-- Entries with zeros in their forks: what is found among them is what is found among the entries themselves.
use Rattle.std.proofs.Common.{◌≡◌, ℕ, Bool, true, false, cond, List, [], ◌∷◌, length, map, Option, is_some, refl, sym, ap, ◌∙◌}
use Rattle.std.specs.Prelude.{find, fold, replicate}
use Rattle.std.specs.Cmp.{nat_cmp_total}
use Rattle.std.specs.FinMap as fin
use Rattle.std.specs.FinMap.{nat_cmp-IsAntisymmetric}
use Rattle.std.specs.Option.{option_map, option_map_or}
use Rattle.std.specs.Ordering.{nat_cmp, is_gt}
use Rattle.std.proofs.lemmas.List.{length-replicate}
use Rattle.hfs_fields.specs.Order.{name_cmp}
use Rattle.hfs_model.specs.declared.item.Item.{Item}
use Rattle.hfs_model.specs.declared.item.Kind.{Kind}
use Rattle.hfs_model.specs.declared.item.Kind.TheVariants.{Folder, File}
use Rattle.hfs_model.specs.Changes.{with_lock}
use Rattle.hfs_model.specs.Children.{is_folder_kind, entry_at, is_folder, is_child, child_named, valence, place, place_child, children}
use Rattle.hfs_model.specs.Replies.{data_of, resource_of, has_thread, is_locked_file, item_kind_of}
use Rattle.hfs_model.specs.Volume.{Entry, Items}
use Rattle.hfs_model.specs.Alike.{bare_kind, bare_item, bare, bare_items}
use Rattle.hfs_model.proofs.MappedEntries.{TellsSame, find-mapped, or-mapped, some-mapped, entry_at-mapped, child_named-mapped, is_folder-mapped, valence-mapped, entries-mapped, get-mapped, insert-mapped}

-- ---- what a kind tells

pub folder-bare : (kept : Bool) (k : Kind) → is_folder_kind (bare_kind kept k) ≡ is_folder_kind k
folder-bare true k = refl
folder-bare false (Folder kept) = refl
folder-bare false (File file) = refl

pub kind-bare : (kept : Bool) (k : Kind) → item_kind_of (bare_kind kept k) ≡ item_kind_of k
kind-bare true k = refl
kind-bare false (Folder kept) = refl
kind-bare false (File file) = refl

pub locked-bare : (kept : Bool) (k : Kind) → is_locked_file (bare_kind kept k) ≡ is_locked_file k
locked-bare true k = refl
locked-bare false (Folder kept) = refl
locked-bare false (File file) = refl

pub thread-bare : (kept : Bool) (k : Kind) → has_thread (bare_kind kept k) ≡ has_thread k
thread-bare true k = refl
thread-bare false (Folder kept) = refl
thread-bare false (File file) = refl

pub data-bare : (kept : Bool) (k : Kind) → length (data_of (bare_kind kept k)) ≡ length (data_of k)
data-bare true k = refl
data-bare false (Folder kept) = refl
data-bare false (File file) = length-replicate {A = ℕ} (length file.«data») 0

pub resource-bare : (kept : Bool) (k : Kind) → length (resource_of (bare_kind kept k)) ≡ length (resource_of k)
resource-bare true k = refl
resource-bare false (Folder kept) = refl
resource-bare false (File file) = length-replicate {A = ℕ} (length file.resource) 0

-- with zeros, unless it is kept
abbrev pub by_keep : (ℕ → Bool) → ℕ → Kind → Kind
by_keep keep q k = bare_kind (keep q) k

lock-bare : (kept locked : Bool) (k : Kind) → with_lock locked (bare_kind kept k) ≡ bare_kind kept (with_lock locked k)
lock-bare true locked k = refl
lock-bare false locked (Folder kept) = refl
lock-bare false locked (File file) = refl

pub tells-bare : (keep : ℕ → Bool) → TellsSame (by_keep keep)
tells-bare keep = record {
  folder = λ q k. folder-bare (keep q) k;
  locked = λ q k. locked-bare (keep q) k;
  lock = λ locked q k. lock-bare (keep q) locked k;
}

module _ (keep : ℕ → Bool) where
  -- ---- what is found

  pub find-bare : (p : Entry → Bool) → ((e : Entry) → p (bare keep e) ≡ p e) → (es : List Entry) → find p (map (bare keep) es) ≡ option_map (bare keep) (find p es)
  find-bare = find-mapped (by_keep keep)

  pub or-bare : {B : Type 0} (f g : Entry → B) → ((e : Entry) → f (bare keep e) ≡ g e) → (o : Option Entry) (d : B) → option_map_or f (option_map (bare keep) o) d ≡ option_map_or g o d
  or-bare {B} f g same o d = or-mapped (by_keep keep) f g same o d

  pub some-bare : (o : Option Entry) → is_some (option_map (bare keep) o) ≡ is_some o
  some-bare = some-mapped (by_keep keep)

  pub entry_at-bare : (es : List Entry) (id : ℕ) → entry_at (map (bare keep) es) id ≡ option_map (bare keep) (entry_at es id)
  entry_at-bare = entry_at-mapped (by_keep keep)

  pub child_named-bare : (es : List Entry) (dir : ℕ) (name : List ℕ) → child_named (map (bare keep) es) dir name ≡ option_map (bare keep) (child_named es dir name)
  child_named-bare = child_named-mapped (by_keep keep)

  pub is_folder-bare : (es : List Entry) (id : ℕ) → is_folder (map (bare keep) es) id ≡ is_folder es id
  is_folder-bare = is_folder-mapped (by_keep keep) (tells-bare keep)

  pub valence-bare : (es : List Entry) (dir : ℕ) → valence (map (bare keep) es) dir ≡ valence es dir
  valence-bare = valence-mapped (by_keep keep)

  -- ---- children in name order

  place-bare : (e : Entry) (cs : List Entry) → place (bare keep e) (map (bare keep) cs) ≡ map (bare keep) (place e cs)
  place-bare e [] = refl
  place-bare e (c ∷ cs) =
      elim (is_gt (name_cmp c.1.name e.1.name))
      as (λ (b : Bool). cond b (bare keep e ∷ bare keep c ∷ map (bare keep) cs) (bare keep c ∷ place (bare keep e) (map (bare keep) cs)) ≡ map (bare keep) (cond b (e ∷ c ∷ cs) (c ∷ place e cs))) [
        | true ↦ refl
        | false ↦ ap (λ (l : List Entry). bare keep c ∷ l) (place-bare e cs)
      ]

  place_child-bare : (dir : ℕ) (placed : List Entry) (e : Entry) → place_child dir (map (bare keep) placed) (bare keep e) ≡ map (bare keep) (place_child dir placed e)
  place_child-bare dir placed e =
      elim (is_child dir e) as (λ (b : Bool). cond b (place (bare keep e) (map (bare keep) placed)) (map (bare keep) placed) ≡ map (bare keep) (cond b (place e placed) placed)) [
        | true ↦ place-bare e placed
        | false ↦ refl
      ]

  fold-bare : (dir : ℕ) (es placed : List Entry) → fold (place_child dir) (map (bare keep) placed) (map (bare keep) es) ≡ map (bare keep) (fold (place_child dir) placed es)
  fold-bare dir [] placed = refl
  fold-bare dir (e ∷ es) placed =
      ap (λ (l : List Entry). fold (place_child dir) l (map (bare keep) es)) (place_child-bare dir placed e) ∙ fold-bare dir es (place_child dir placed e)

  pub children-bare : (es : List Entry) (dir : ℕ) → children (map (bare keep) es) dir ≡ map (bare keep) (children es dir)
  children-bare es dir = fold-bare dir es []

  pub map-bare : {B : Type 0} (f g : Entry → B) → ((e : Entry) → f (bare keep e) ≡ g e) → (es : List Entry) → map f (map (bare keep) es) ≡ map g es
  map-bare f g same [] = refl
  map-bare f g same (e ∷ es) = λ i. same e i ∷ map-bare f g same es i

  -- zeros once are zeros twice
  pub twice-kind : (kept : Bool) (k : Kind) → bare_kind kept (bare_kind kept k) ≡ bare_kind kept k
  twice-kind true k = refl
  twice-kind false (Folder kept) = refl
  twice-kind false (File file) =
      let d = length-replicate {A = ℕ} (length file.«data») 0 in
      let r = length-replicate {A = ℕ} (length file.resource) 0 in
      λ i. File (record file { «data» = replicate (d i) 0; resource = replicate (r i) 0 })

  twice : (e : Entry) → bare keep (bare keep e) ≡ bare keep e
  twice e = ap (λ (k : Kind). (e.0, record e.1 { kind = k })) (twice-kind (keep e.0) e.1.kind)

  -- ---- the map of items

  pub entries-bare : (items : Items) → fin.entries (bare_items keep items) ≡ map (bare keep) (fin.entries items)
  entries-bare = entries-mapped (by_keep keep)

  pub items-twice : (items : Items) → bare_items keep (bare_items keep items) ≡ bare_items keep items
  items-twice items =
      ap (λ (es : List Entry). fin.from_sorted (map (bare keep) es)) (entries-bare items)
      ∙ ap (λ (es : List Entry). fin.from_sorted es) (map-bare (bare keep) (bare keep) twice (fin.entries items))

  get-bare : (m : Items) (q : ℕ) → fin.get (bare_items keep m) q ≡ option_map (bare_item (keep q)) (fin.get m q)
  get-bare = get-mapped (by_keep keep)

  pub insert-bare : (m : Items) (k : ℕ) (x : Item) → fin.insert (bare_items keep m) k (bare_item (keep k) x) ≡ bare_items keep (fin.insert m k x)
  insert-bare = insert-mapped (by_keep keep)

  -- of a list of entries
  pub from_entries-bare : (es : List Entry) → bare_items keep (fin.from_entries es) ≡ fin.from_entries (map (bare keep) es)
  from_entries-bare [] = fin.same_map nat_cmp_total nat_cmp-IsAntisymmetric (bare_items keep (fin.from_entries [])) (fin.from_entries []) (λ q.
      get-bare (fin.from_entries []) q ∙ ap (option_map (bare_item (keep q))) (fin.get-empty nat_cmp q) ∙ sym (fin.get-empty nat_cmp q))
  from_entries-bare (e ∷ es) = sym (insert-bare (fin.from_entries es) e.0 e.1) ∙ ap (λ (m : Items). fin.insert m e.0 (bare_item (keep e.0) e.1)) (from_entries-bare es)
