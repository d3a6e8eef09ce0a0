-- Threads that are led to another key, and new ones.
use Rattle.std.proofs.Common.{◌≡◌, ⊎_elim, ℕ, Bool, true, false, cond, ◌&&◌, eqb, List, length, refl, sym, ◌∙◌, ap, Option, Some, None}
use Rattle.std.proofs.lemmas.Bool.{and_parts, or_cases}
use Rattle.std.proofs.lemmas.Option.{same_Some}
use Rattle.hfs_fields.specs.declared.key.CatKey.{CatKey}
use Rattle.hfs_fields.specs.declared.thread_record.ThreadKind.{ThreadKind}
use Rattle.hfs_fields.specs.declared.thread_record.ThreadKind.TheVariants.{Folder, File}
use Rattle.hfs_fields.specs.Names.{is_item_name}
use Rattle.hfs_fields.specs.Records.{is_dir, is_thread, is_dir_thread, is_file_thread, type_byte, thread_record_of, new_thread}
use Rattle.hfs_fields.specs.RecordForms.{IsThreadRecordValue}
use Rattle.hfs_catalog.specs.Records.{Record, Catalog, item_with}
use Rattle.hfs_catalog.specs.Lookups.{thread_of}
use Rattle.hfs_catalog.specs.Sound.{IsSoundCatalog}
use Rattle.hfs_record_edits.proofs.StepsLaws.{IfThere, is_there}
use Rattle.hfs_record_edits.specs.Changes.{thread_record}
use Rattle.hfs_record_edits.proofs.ChangesLaws.{IsItsThread, thread_to, led_to, IsLedValue}
use Rattle.hfs_record_edits.proofs.ItemLaws.{is_folder_kind}
use Rattle.hfs_record_edits.proofs.Linked.{with_thread, sound_linked}
use Rattle.hfs_record_edits.proofs.MadeThreads.{made_thread}

thread_long : (body : List ℕ) → is_thread body ≡ true → eqb (length body) 46 ≡ true
thread_long body is = ⊎_elim
    (λ (d : is_dir_thread body ≡ true). (and_parts (eqb (type_byte body) 3) (eqb (length body) 46) d).1)
    (λ (f : is_file_thread body ≡ true). (and_parts (eqb (type_byte body) 4) (eqb (length body) 46) f).1)
    (or_cases (is_dir_thread body) (is_file_thread body) is)

kind_by : (b long : Bool) → long ≡ true → is_folder_kind (cond b Folder File) ≡ (b && long)
kind_by true long e = sym e
kind_by false long e = refl

-- the kind that is read of a thread's record
kind_is : (body : List ℕ) → is_thread body ≡ true → is_folder_kind (thread_record_of body).kind ≡ is_dir_thread body
unfolding thread_record_of
kind_is body is = kind_by (eqb (type_byte body) 3) (eqb (length body) 46) (thread_long body is)

pub led_there : (id : ℕ) (key : CatKey) (o : Option Record) → is_there (led_to id key o) ≡ is_there o
led_there id key None = refl
led_there id key (Some t) = refl

module _ (next : ℕ) (catalog : Catalog) (h : IsSoundCatalog next catalog) (id : ℕ) (r s : Record) (was : item_with catalog id ≡ Some r) (kind : is_dir s.1 ≡ is_dir r.1) (named : is_item_name s.0.name ≡ true) where
  led_by : (o : Option Record) → thread_of catalog id ≡ o → IsLedValue s.0 o → IfThere (IsItsThread id s) (led_to id s.0 o)
  led_by None e value = tt
  led_by (Some t) e value =
      let led = (sound_linked next catalog h).led id t e in
      let is : led.0 ≡ r = same_Some led.0 r (sym led.1 ∙ was) in
      let its_kind : is_folder_kind (thread_record_of t.1).kind ≡ is_dir s.1 = kind_is t.1 (with_thread catalog id t e).1 ∙ led.2.kind ∙ ap (λ (x : Record). is_dir x.1) is ∙ sym kind in
      made_thread id s (thread_to s.0 t) (value t refl) its_kind refl refl named

  -- the thread of an item that keeps its kind, led to the item's new key
  pub its_led : IsLedValue s.0 (thread_of catalog id) → IfThere (IsItsThread id s) (led_to id s.0 (thread_of catalog id))
  its_led = led_by (thread_of catalog id) refl

new_kind : (kind : ThreadKind) (dir : ℕ) (name : List ℕ) → (new_thread kind dir name).kind ≡ kind
unfolding new_thread
new_kind kind dir name = refl

new_parent : (kind : ThreadKind) (dir : ℕ) (name : List ℕ) → (new_thread kind dir name).parent ≡ dir
unfolding new_thread
new_parent kind dir name = refl

new_name : (kind : ThreadKind) (dir : ℕ) (name : List ℕ) → (new_thread kind dir name).name ≡ name
unfolding new_thread
new_name kind dir name = refl

-- a new thread of an item of its kind
pub new_thread_is : (kind : ThreadKind) (id : ℕ) (item : Record) → is_folder_kind kind ≡ is_dir item.1 → is_item_name item.0.name ≡ true
    → IsThreadRecordValue (new_thread kind item.0.parent item.0.name) → IsItsThread id item (thread_record id (new_thread kind item.0.parent item.0.name))
new_thread_is kind id item same named ok =
    made_thread id item (new_thread kind item.0.parent item.0.name) ok (ap is_folder_kind (new_kind kind item.0.parent item.0.name) ∙ same)
    (new_parent kind item.0.parent item.0.name) (new_name kind item.0.parent item.0.name) named
