-- The records that calls write, and the items that they hold.
use Rattle.std.proofs.Common.{◌≡◌, ℕ, Bool, true, false, cond, not, ◌||◌, eqb, List, [], ◌∷◌, ◌++◌, length, drop, replicate, refl, sym, ◌∙◌, ap, arith}
use Rattle.std.specs.Prelude.{◌==◌, is_some}
use Rattle.std.proofs.lemmas.Bool.{eqb-true, eq-eqb, ne_eqb, and_parts}
use Rattle.std.proofs.lemmas.List.{append-nil, drop_at}
use Rattle.hfs_fields.specs.declared.key.CatKey.{CatKey}
use Rattle.hfs_fields.specs.declared.dir_record.DirRecord.{DirRecord}
use Rattle.hfs_fields.specs.declared.file_record.FileRecord.{FileRecord}
use Rattle.hfs_fields.specs.Records.{is_dir, is_file, is_item, type_byte, item_id, dir_record_of, file_record_of, is_bit_set, with_bit, new_dir, new_file}
use Rattle.hfs_fields.specs.RecordForms.{IsDirRecordValue, dir_record_bytes, IsFileRecordValue, file_record_bytes}
use Rattle.hfs_fields.proofs.RecordFormLemmas.{is_dir-written, dir_record_of-written, length-file_record_bytes, file_record_of-written}
use Rattle.hfs_model.specs.declared.item.Kind.TheVariants as kind
use Rattle.hfs_model.specs.Changes as model
use Rattle.hfs_model.specs.Changes.{new_item, with_lock}
use Rattle.hfs_catalog.proofs.FileRecords.{not-dir}
use Rattle.hfs_catalog.specs.Records.{Record, Catalog, has_thread}
use Rattle.hfs_catalog.specs.Lookups.{thread_of}
use Rattle.hfs_catalog.specs.Items.{Contents, folder_of, folder_kept, no_finder_info, fork_kept, file_of, file_kept, item_of}
use Rattle.hfs_record_edits.specs.Changes.{with_children}
use Rattle.hfs_record_edits.proofs.ChangesLaws.{IsAlike}
use Rattle.hfs_record_edits.proofs.Maps.{at_moment, thread_known}

-- ---- a file's body

pub file-no_dir : (f : FileRecord) → is_dir (file_record_bytes f) ≡ false
unfolding file_record_bytes
file-no_dir f = refl

pub file-is : (f : FileRecord) → IsFileRecordValue f → is_file (file_record_bytes f) ≡ true
unfolding file_record_bytes
file-is f ok = ap (λ (n : ℕ). n == 102) (length-file_record_bytes f ok)

pub file-read : (f : FileRecord) → IsFileRecordValue f → file_record_of (file_record_bytes f) ≡ f
file-read f ok = ap file_record_of (sym (append-nil (file_record_bytes f))) ∙ file_record_of-written f [] ok

pub file_id : (body : List ℕ) → is_dir body ≡ false → item_id body ≡ (file_record_of body).id
file_id body e = ap (λ (b : Bool). cond b (dir_record_of body).id (file_record_of body).id) e

pub dir_id : (body : List ℕ) → is_dir body ≡ true → item_id body ≡ (dir_record_of body).id
dir_id body e = ap (λ (b : Bool). cond b (dir_record_of body).id (file_record_of body).id) e

-- a body is not both
pub no_both : (body : List ℕ) → is_file body ≡ true → is_dir body ≡ true → ⊥
no_both body f d = omega (arith, eqb-true (type_byte body) 2 (and_parts (eqb (type_byte body) 2) (eqb (length body) 102) f).0, eqb-true (type_byte body) 1 (and_parts (eqb (type_byte body) 1) (eqb (length body) 70) d).0)

pub dir-not_file : (body : List ℕ) → is_dir body ≡ true → is_file body ≡ false
dir-not_file body d = elim (is_file body) as (λ (b : Bool). is_file body ≡ b → b ≡ false) [ true ↦ λ f. absurd (no_both body f d) | false ↦ λ f. refl ] refl

-- an item that is no folder is a file
pub other_kind : (r : Record) → is_item r.1 ≡ true → is_file r.1 ≡ not (is_dir r.1)
other_kind r item = by (is_dir r.1) refl
  where
    by : (b : Bool) → is_dir r.1 ≡ b → is_file r.1 ≡ not b
    by true d = dir-not_file r.1 d
    by false d = sym (ap (λ (b : Bool). b || is_file r.1) d) ∙ item

-- the item of a file's record
pub file_item : (c : Contents) (catalog : Catalog) (r : Record) → is_dir r.1 ≡ false → item_of c catalog r ≡ file_of (has_thread catalog (file_record_of r.1).id) (c (file_record_of r.1)) r.0 (file_record_of r.1)
unfolding item_of
file_item c catalog r e = ap (λ (b : Bool). cond b (folder_of r.0 (dir_record_of r.1)) (file_of (has_thread catalog (file_record_of r.1).id) (c (file_record_of r.1)) r.0 (file_record_of r.1))) e

-- ---- a file's record that was changed

module _ (r : Record) (g : FileRecord) (file : is_file r.1 ≡ true) (ok : IsFileRecordValue g) (id : g.id ≡ (file_record_of r.1).id) where
  abbrev s : Record
  s = (r.0, file_record_bytes g)

  pub file_alike : IsAlike r s
  file_alike = record {
    key = refl;
    dir = file-no_dir g ∙ sym (not-dir r.1 file);
    file = file-is g ok ∙ sym file;
    id = file_id (file_record_bytes g) (file-no_dir g) ∙ ap (λ (f : FileRecord). f.id) (file-read g ok) ∙ id ∙ sym (file_id r.1 (not-dir r.1 file));
  }

  -- its item, where the thread and the forks are as they were
  pub file_set : (c d : Contents) (old new : Catalog) → ((k : ℕ) → thread_of new k ≡ thread_of old k) → d g ≡ c (file_record_of r.1)
      → item_of d new s ≡ file_of (has_thread old (file_record_of r.1).id) (c (file_record_of r.1)) r.0 g
  file_set c d old new threads forks =
      file_item d new s (file-no_dir g)
      ∙ ap (λ (f : FileRecord). file_of (has_thread new f.id) (d f) r.0 f) (file-read g ok)
      ∙ (λ j. file_of ((thread_known new g.id ∙ ap is_some (threads g.id) ∙ sym (thread_known old g.id) ∙ ap (has_thread old) id) j) (forks j) r.0 g)

-- the first 16 Finder bytes
pub with_finder : (has : Bool) (forks : List ℕ × List ℕ) (key : CatKey) (f : FileRecord) (info : List ℕ) → length f.finder_info ≡ 16
    → file_of has forks key (record f { finder_info = info }) ≡ record (file_of has forks key f) { finder = info ++ drop 16 (file_of has forks key f).finder }
unfolding file_of file_kept
with_finder has forks key f info len =
    let rest : f.extended_finder_info ≡ drop 16 (f.finder_info ++ f.extended_finder_info) = sym (drop_at f.finder_info f.extended_finder_info 16 len) in
    λ j. record (file_of has forks key f) { finder = info ++ rest j }

-- three dates and all Finder bytes
pub with_dates : (has : Bool) (forks : List ℕ × List ℕ) (key : CatKey) (f : FileRecord) (created modified backup : ℕ) (info more : List ℕ)
    → file_of has forks key (record f { created = created; modified = modified; backup = backup; finder_info = info; extended_finder_info = more })
    ≡ record (file_of has forks key f) { created = created; modified = modified; backup = backup; finder = info ++ more }
unfolding file_of file_kept
with_dates has forks key f created modified backup info more = refl

-- the lock
lock_bit : (flags : ℕ) (locked : Bool) → is_bit_set 0 (with_bit 0 locked flags) ≡ locked
lock_bit flags true = eq-eqb _ 1 (omega arith)
lock_bit flags false = ne_eqb _ 1 (λ e. omega (arith, e))

kept_bits : (flags : ℕ) (locked : Bool) → with_bit 0 false (with_bit 0 locked flags) ≡ with_bit 0 false flags
kept_bits flags true = omega arith
kept_bits flags false = omega arith

-- the kept bytes, by the flags that are kept
unfoldable pub kept_with : FileRecord → ℕ → List ℕ
kept_with r flags =
    0 ∷ drop 1 (file_record_bytes (record r {
      flags = record { 0 = flags };
      finder_info = no_finder_info;
      id = 0;
      «data» = fork_kept r.«data»;
      resource = fork_kept r.resource;
      created = 0;
      modified = 0;
      backup = 0;
      extended_finder_info = no_finder_info;
    }))

kept_locked : (f : FileRecord) (locked : Bool) → file_kept (record f { flags = record { 0 = with_bit 0 locked f.flags.0 } }) ≡ file_kept f
unfolding file_kept kept_with
kept_locked f locked = ap (kept_with f) (kept_bits f.flags.0 locked)

pub with_locked : (has : Bool) (forks : List ℕ × List ℕ) (key : CatKey) (f : FileRecord) (locked : Bool)
    → file_of has forks key (record f { flags = record { 0 = with_bit 0 locked f.flags.0 } }) ≡ record (file_of has forks key f) { kind = with_lock locked (file_of has forks key f).kind }
unfolding file_of
with_locked has forks key f locked =
    λ j. record (file_of has forks key f) {
      kind = kind.File (record { kept = kept_locked f locked j; locked = lock_bit f.flags.0 locked j; has_thread = has; «data» = forks.0; resource = forks.1 });
    }

-- ---- a folder's record that was changed

pub dir-read : (d : DirRecord) → IsDirRecordValue d → dir_record_of (dir_record_bytes d) ≡ d
dir-read d ok = ap dir_record_of (sym (append-nil (dir_record_bytes d))) ∙ dir_record_of-written d [] ok

pub dir_alike : (r : Record) (d : DirRecord) → is_dir r.1 ≡ true → IsDirRecordValue d → d.id ≡ (dir_record_of r.1).id → IsAlike r (r.0, dir_record_bytes d)
dir_alike r d folder ok id = record {
  key = refl;
  dir = is_dir-written d ok ∙ sym folder;
  file = dir-not_file (dir_record_bytes d) (is_dir-written d ok) ∙ sym (dir-not_file r.1 folder);
  id = dir_id (dir_record_bytes d) (is_dir-written d ok) ∙ ap (λ (x : DirRecord). x.id) (dir-read d ok) ∙ id ∙ sym (dir_id r.1 folder);
}

-- a folder's record with other dates and Finder bytes
pub folder_dates : (key : CatKey) (r : DirRecord) (created modified backup : ℕ) (info more : List ℕ)
    → folder_of key (record r { created = created; modified = modified; backup = backup; finder_info = info; extended_finder_info = more })
    ≡ record (folder_of key r) { created = created; modified = modified; backup = backup; finder = info ++ more }
unfolding folder_of folder_kept
folder_dates key r created modified backup info more = refl

-- ---- a folder's record with another valence and moment

module _ (r : Record) (n now : ℕ) (folder : is_dir r.1 ≡ true) (ok : IsDirRecordValue (with_children n now (dir_record_of r.1))) where
  abbrev pub touched_record : Record
  touched_record = (r.0, dir_record_bytes (with_children n now (dir_record_of r.1)))

  pub folder_alike : IsAlike r touched_record
  folder_alike = dir_alike r (with_children n now (dir_record_of r.1)) folder ok refl

  pub folder_valence : (dir_record_of touched_record.1).valence ≡ n
  folder_valence = ap (λ (d : DirRecord). d.valence) (dir-read (with_children n now (dir_record_of r.1)) ok)

  folder_same : folder_of r.0 (with_children n now (dir_record_of r.1)) ≡ at_moment now (folder_of r.0 (dir_record_of r.1))
  unfolding folder_of folder_kept
  folder_same = refl

  pub folder_touched : folder_of touched_record.0 (dir_record_of touched_record.1) ≡ at_moment now (folder_of r.0 (dir_record_of r.1))
  folder_touched = ap (folder_of r.0) (dir-read (with_children n now (dir_record_of r.1)) ok) ∙ folder_same

-- ---- new items

new_file_kept : (id now : ℕ) → file_kept (new_file id now) ≡ 0 ∷ 0 ∷ 128 ∷ replicate 99 0
unfolding file_kept file_record_bytes new_file
new_file_kept id now = refl

-- the item of a new file's record: it has no thread, and its forks are empty
pub new_file_is : (id dir now : ℕ) (name : List ℕ) → file_of false ([], []) (record { parent = dir; name = name }) (new_file id now) ≡ new_item model.new_file dir name now
unfolding file_of new_file
new_file_is id dir now name =
    λ j. record (new_item model.new_file dir name now) { kind = kind.File (record { kept = new_file_kept id now j; locked = false; has_thread = false; «data» = []; resource = [] }) }

pub new_folder_is : (id dir now : ℕ) (name : List ℕ) → folder_of (record { parent = dir; name = name }) (new_dir id now) ≡ new_item model.new_folder dir name now
unfolding folder_of folder_kept dir_record_bytes new_dir
new_folder_is id dir now name = refl
