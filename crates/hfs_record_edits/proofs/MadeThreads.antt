-- The records of threads that calls write.
use Rattle.std.proofs.Common.{◌≡◌, inr, ℕ, Bool, true, ◌&&◌, ◌||◌, List, [], length, refl, sym, ◌∙◌, ap, subst}
use Rattle.std.specs.Prelude.{IsTrue, ◌==◌}
use Rattle.std.specs.Ordering.{is_eq}
use Rattle.std.specs.Cmp.{tied_itself}
use Rattle.std.proofs.lemmas.List.{append-nil}
use Rattle.hfs_fields.specs.declared.thread_record.ThreadRecord.{ThreadRecord}
use Rattle.hfs_fields.specs.declared.thread_record.ThreadKind.{ThreadKind}
use Rattle.hfs_fields.specs.declared.thread_record.ThreadKind.TheVariants.{Folder, File}
use Rattle.hfs_fields.specs.Names.{is_item_name}
use Rattle.hfs_fields.specs.Order.{same_name, name_cmp_total}
use Rattle.hfs_fields.specs.Records.{is_dir, is_thread, is_dir_thread, is_file_thread, begins_thread, thread_record_of}
use Rattle.hfs_fields.specs.RecordForms.{IsThreadRecordValue, thread_type, thread_record_bytes}
use Rattle.hfs_fields.proofs.RecordFormLemmas.{length-thread_record_bytes, thread_record_of-written, begins_thread-written}
use Rattle.hfs_catalog.specs.Records.{Record}
use Rattle.hfs_record_edits.proofs.ChangesLaws.{IsItsThread}
use Rattle.hfs_record_edits.proofs.ItemLaws.{is_folder_kind}

dir_thread : (kind : ThreadKind) (t : ThreadRecord) → t.kind ≡ kind → IsThreadRecordValue t → is_dir_thread (thread_record_bytes t) ≡ is_folder_kind kind
unfolding thread_record_bytes
dir_thread Folder t e ok = (λ i. (thread_type (e i) == 3) && (length (thread_record_bytes t) == 46)) ∙ ap (λ (n : ℕ). n == 46) (length-thread_record_bytes t ok)
dir_thread File t e ok = λ i. (thread_type (e i) == 3) && (length (thread_record_bytes t) == 46)

file_thread : (t : ThreadRecord) → t.kind ≡ File → IsThreadRecordValue t → is_file_thread (thread_record_bytes t) ≡ true
unfolding thread_record_bytes
file_thread t e ok = (λ i. (thread_type (e i) == 4) && (length (thread_record_bytes t) == 46)) ∙ ap (λ (n : ℕ). n == 46) (length-thread_record_bytes t ok)

a_thread : (kind : ThreadKind) (t : ThreadRecord) → t.kind ≡ kind → IsThreadRecordValue t → is_thread (thread_record_bytes t) ≡ true
a_thread Folder t e ok = ap (λ (b : Bool). b || is_file_thread (thread_record_bytes t)) (dir_thread Folder t e ok)
a_thread File t e ok = λ i. dir_thread File t e ok i || file_thread t e ok i

same_itself : (name : List ℕ) → IsTrue (same_name name name)
same_itself name = ap is_eq (tied_itself name_cmp_total name)

-- the thread of an item with this ID, which says the item's parent and name
pub made_thread : (id : ℕ) (item : Record) (t : ThreadRecord) → IsThreadRecordValue t → is_folder_kind t.kind ≡ is_dir item.1 → t.parent ≡ item.0.parent → t.name ≡ item.0.name → IsTrue (is_item_name item.0.name)
    → IsItsThread id item (record { parent = id; name = [] }, thread_record_bytes t)
made_thread id item t ok kind parent name named =
    let read : thread_record_of (thread_record_bytes t) ≡ t = ap thread_record_of (sym (append-nil (thread_record_bytes t))) ∙ thread_record_of-written t [] ok in
    let is : is_thread (thread_record_bytes t) ≡ true = a_thread t.kind t refl ok in
    let its_name : item.0.name ≡ (thread_record_of (thread_record_bytes t)).name = sym name ∙ ap (λ (x : ThreadRecord). x.name) (sym read) in
    record {
      of = record { thread = is; id = refl };
      record_form = inr (is, refl);
      begins = ap begins_thread (sym (append-nil (thread_record_bytes t))) ∙ begins_thread-written t [] ok;
      name = subst (λ (n : List ℕ). IsTrue (is_item_name n)) its_name named;
      leads = record {
        kind = dir_thread t.kind t refl ok ∙ kind;
        parent = ap (λ (x : ThreadRecord). x.parent) read ∙ parent;
        name = subst (λ (n : List ℕ). IsTrue (same_name item.0.name n)) its_name (same_itself item.0.name);
      };
    }
