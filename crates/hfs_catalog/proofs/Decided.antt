-- What the tests on one record say.
use Rattle.std.proofs.Common.{◌≡◌, ℕ, Bool, true, false, not, ◌&&◌, eqb, ltb, length, refl, sym, ◌∙◌, ap, Option, Some, None}
use Rattle.std.specs.Prelude.{nat_le}
use Rattle.std.specs.Bool.{Decides, IsTrue, beq}
use Rattle.std.specs.Option.{option_map_or}
use Rattle.std.proofs.lemmas.Bool.{true≢false}
use Rattle.std.proofs.lemmas.Bool.Decides.{Decides-and, Decides-or, Decides-like, Decides-not, Decides-eqb, Decides-ltb}
use Rattle.hfs_fields.specs.declared.key.CatKey.{CatKey}
use Rattle.hfs_fields.specs.Names.{is_item_name}
use Rattle.hfs_fields.specs.Order.{same_name}
use Rattle.hfs_fields.specs.Records.{is_dir, is_item, is_thread, is_dir_thread, begins_thread, item_id, dir_record_of, thread_record_of}
use Rattle.hfs_catalog.specs.Records.{Record, Catalog, item_with, valence_of}
use Rattle.hfs_catalog.specs.Sound.{IsRecord, IsRoot, IsGiven, HasRightId, IsIndexKeyName, LeadsTo, HasItem, HasValence}
use Rattle.hfs_catalog.specs.Faults.{implies, is_record_right, is_id_right, is_name_right, is_index_key_name, leads_to, is_thread_right, is_valence_right}
use Rattle.hfs_catalog.proofs.Held.{none_some}
use Rattle.hfs_fields.proofs.DecisionLemmas.{itself, Decides-leb}

pub Decides-implies : (a b : Bool) (P : Type 0) → Decides b P → Decides (implies a b) (a ≡ true → P)
Decides-implies true b P d = (λ e t. d.0 e, λ h. d.1 (h refl))
Decides-implies false b P d = (λ e t. absurd (true≢false (sym t)), λ h. refl)

Decides-beq : (a b : Bool) → Decides (beq a b) (a ≡ b)
Decides-beq true true = (λ e. refl, λ e. refl)
Decides-beq true false = (λ e. absurd (true≢false (sym e)), λ e. absurd (true≢false e))
Decides-beq false true = (λ e. absurd (true≢false (sym e)), λ e. absurd (true≢false (sym e)))
Decides-beq false false = (λ e. refl, λ e. refl)

pub record_decides : (r : Record) → Decides (is_record_right r) (IsRecord r)
unfolding is_record_right
record_decides r = Decides-or _ _ (Decides-and _ _ (itself (is_item r.1)) (Decides-leb 1 (length r.0.name))) (Decides-and _ _ (itself (is_thread r.1)) (Decides-eqb (length r.0.name) 0))

pub index_key_decides : (key : CatKey) → Decides (is_index_key_name key) (IsIndexKeyName key)
unfolding is_index_key_name
index_key_decides key = Decides-or _ _ (Decides-eqb (length key.name) 0) (itself (is_item_name key.name))

-- ---- IDs

pub id_decides : (next : ℕ) (r : Record) → Decides (is_id_right next r) (HasRightId next r)
unfolding is_id_right
id_decides next r = Decides-or _ _ root given
  where
    root : Decides (eqb (item_id r.1) 2 && is_dir r.1 && eqb r.0.parent 1) (IsRoot r)
    root = Decides-like _ (λ h. record { id = h.0.0; folder = h.0.1; parent = h.1 }) (λ (h : IsRoot r). ((h.id, h.folder), h.parent))
        (Decides-and _ _ (Decides-and _ _ (Decides-eqb (item_id r.1) 2) (itself (is_dir r.1))) (Decides-eqb r.0.parent 1))

    given : Decides (nat_le 16 (item_id r.1) && ltb (item_id r.1) next && not (eqb r.0.parent 1)) (IsGiven next r)
    given = Decides-like _ (λ h. record { least = h.0.0; given = h.0.1; parent = h.1 }) (λ (h : IsGiven next r). ((h.least, h.given), h.parent))
        (Decides-and _ _ (Decides-and _ _ (Decides-leb 16 (item_id r.1)) (Decides-ltb (item_id r.1) next)) (Decides-not _ (Decides-eqb r.0.parent 1)))

-- ---- names

pub name_decides : (r : Record) → Decides (is_name_right r) ((IsTrue (is_item r.1) → IsTrue (is_item_name r.0.name)) × (IsTrue (is_thread r.1) → IsTrue (begins_thread r.1) × IsTrue (is_item_name (thread_record_of r.1).name)))
unfolding is_name_right
name_decides r = Decides-and _ _
    (Decides-implies _ _ _ (itself (is_item_name r.0.name)))
    (Decides-implies _ _ _ (Decides-and _ _ (itself (begins_thread r.1)) (itself (is_item_name (thread_record_of r.1).name))))

-- ---- threads

leads_decides : (thread item : Record) → Decides (leads_to thread item) (LeadsTo item thread)
unfolding leads_to
leads_decides thread item = Decides-like _ (λ h. record { kind = h.0.0; parent = h.0.1; name = h.1 }) (λ (h : LeadsTo item thread). ((h.kind, h.parent), h.name))
    (Decides-and _ _ (Decides-and _ _ (Decides-beq (is_dir_thread thread.1) (is_dir item.1)) (Decides-eqb (thread_record_of thread.1).parent item.0.parent)) (itself (same_name item.0.name (thread_record_of thread.1).name)))

pub thread_decides : (catalog : Catalog) (r : Record) → Decides (is_thread_right catalog r) (HasItem catalog r)
unfolding is_thread_right
thread_decides catalog r = elim (item_with catalog r.0.parent) as (λ (o : Option Record). Decides (option_map_or (leads_to r) o false) ((item : Record) × (o ≡ Some item) × LeadsTo item r)) [
  | None ↦ (λ e. absurd (true≢false (sym e)), λ h. absurd (none_some h.0 h.1))
  | Some item ↦ (λ e. (item, refl, (leads_decides r item).0 e), λ h. ap (leads_to r) (same item h.0 h.1) ∙ (leads_decides r h.0).1 h.2)
]
  where
    same : (x y : Record) → Some x ≡ Some y → x ≡ y
    same x y e = cc

-- ---- valences

pub valence_decides : (catalog : Catalog) (r : Record) → Decides (is_valence_right catalog r) (IsTrue (is_dir r.1) → HasValence catalog r)
unfolding is_valence_right
valence_decides catalog r = Decides-implies _ _ _
    (Decides-like _ (λ h. record { counted = h.0; short = h.1 }) (λ (h : HasValence catalog r). (h.counted, h.short))
    (Decides-and _ _ (Decides-eqb (dir_record_of r.1).valence (valence_of catalog (item_id r.1))) (Decides-leb (dir_record_of r.1).valence 65535)))
