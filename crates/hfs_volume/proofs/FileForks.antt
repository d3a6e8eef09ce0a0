-- The replies of reading a file's fork.
use Rattle.std.proofs.Common.{◌≡◌, ℕ, Bool, true, false, cond, List, refl, sym, ◌∙◌, ap, Some, Result, Ok, Err}
use Rattle.std.specs.Prelude.{not, nat_lt}
use Rattle.std.specs.Option.{option_map_or}
use Rattle.hfs_fields.specs.Names.{is_item_name}
use Rattle.hfs_fields.specs.Records.{is_dir, dir_record_of, file_record_of}
use Rattle.hfs_fields.specs.declared.file_record.FileRecord.{FileRecord}
use Rattle.hfs_model.specs.declared.codes.TheConstants.{BAD_NAME, NOT_FOUND, PARAMETER, NOT_A_FOLDER}
use Rattle.hfs_model.specs.declared.call.Fork.{Fork}
use Rattle.hfs_model.specs.declared.call.Fork.TheVariants.{DataFork, ResFork}
use Rattle.hfs_model.specs.declared.reply.Reply.{Reply}
use Rattle.hfs_model.specs.Volume.{Entry}
use Rattle.hfs_model.specs.Children as model
use Rattle.hfs_model.specs.Reading.{read_fork, part_of, fork_part}
use Rattle.hfs_model.specs.Replies.{refusal}
use Rattle.hfs_catalog.specs.Records.{Record, Catalog, has_thread}
use Rattle.hfs_catalog.specs.Items.{Contents, folder_of, file_of, item_of}
use Rattle.hfs_items.specs.Told.{only_file, file_named, pick}
use Rattle.hfs_items.specs.Queries.{AreEntries}
use Rattle.hfs_items.proofs.NamedFileLemmas.{answer_of, answer_of-file_named}
use Rattle.hfs_volume.specs.declared.open_fork.Opened.{Opened}
use Rattle.hfs_volume.specs.declared.open_fork.Opened.TheVariants as opened
use Rattle.hfs_volume.specs.Opening.{opened_kind, opened_fork}

-- the reply of a part of a file, or the code that refuses it
abbrev pub file_reply : (FileRecord → Reply) → Result FileRecord Reply → Reply
file_reply part r = answer_of (λ reply. reply) part r

-- the fork of a file, or the code that refuses it
abbrev pub file_opened : (FileRecord → List ℕ) → Result FileRecord Reply → Opened
file_opened bytes r = answer_of opened.Refused (λ f. opened.Fork (bytes f)) r

module _ (contents : Contents) (catalog : Catalog) (es : List Entry) (h : AreEntries contents catalog es) where
  module _ (fork : Fork) where
    part_of_item : (offset count : ℕ) (r : Record) → file_reply (λ f. part_of (pick fork (contents f)) offset count) (only_file (Some r)) ≡ fork_part fork offset count (item_of contents catalog r).kind
    unfolding item_of folder_of file_of
    part_of_item offset count r = elim (is_dir r.1) as (λ (b : Bool). file_reply (λ f. part_of (pick fork (contents f)) offset count) (cond b (Err (refusal NOT_FOUND)) (Ok (file_record_of r.1)))
        ≡ fork_part fork offset count (cond b (folder_of r.0 (dir_record_of r.1)) (file_of (has_thread catalog (file_record_of r.1).id) (contents (file_record_of r.1)) r.0 (file_record_of r.1))).kind) [
          | true ↦ refl
          | false ↦ elim fork as (λ (f : Fork). part_of (pick f (contents (file_record_of r.1))) offset count
              ≡ fork_part f offset count (file_of (has_thread catalog (file_record_of r.1).id) (contents (file_record_of r.1)) r.0 (file_record_of r.1)).kind) [ DataFork ↦ refl | ResFork ↦ refl ]
        ]

    opened_of_item : (r : Record) → file_opened (λ f. pick fork (contents f)) (only_file (Some r)) ≡ opened_kind fork (item_of contents catalog r).kind
    unfolding item_of folder_of file_of
    opened_of_item r = elim (is_dir r.1) as (λ (b : Bool). file_opened (λ f. pick fork (contents f)) (cond b (Err (refusal NOT_FOUND)) (Ok (file_record_of r.1)))
        ≡ opened_kind fork (cond b (folder_of r.0 (dir_record_of r.1)) (file_of (has_thread catalog (file_record_of r.1).id) (contents (file_record_of r.1)) r.0 (file_record_of r.1))).kind) [
          | true ↦ refl
          | false ↦ elim fork as (λ (f : Fork). opened.Fork (pick f (contents (file_record_of r.1)))
              ≡ opened_kind f (file_of (has_thread catalog (file_record_of r.1).id) (contents (file_record_of r.1)) r.0 (file_record_of r.1)).kind) [ DataFork ↦ refl | ResFork ↦ refl ]
        ]

    pub forks : (dir : ℕ) (name : List ℕ) (offset count : ℕ) → nat_lt 65536 count ≡ false
        → file_reply (λ f. part_of (pick fork (contents f)) offset count) (file_named catalog dir name) ≡ read_fork es dir name fork offset count
    unfolding read_fork
    forks dir name offset count few =
        answer_of-file_named contents catalog es h (λ reply. reply) (λ f. part_of (pick fork (contents f)) offset count) (fork_part fork offset count) (part_of_item offset count) dir name
        ∙ sym (ap (λ b. cond b (refusal PARAMETER) (cond (not (is_item_name name)) (refusal BAD_NAME) (cond (not (model.is_folder es dir)) (refusal NOT_A_FOLDER)
        (option_map_or (λ (e : Entry). fork_part fork offset count e.1.kind) (model.child_named es dir name) (refusal NOT_FOUND))))) few)

    pub opens : (dir : ℕ) (name : List ℕ) → file_opened (λ f. pick fork (contents f)) (file_named catalog dir name) ≡ opened_fork es dir name fork
    unfolding opened_fork
    opens dir name = answer_of-file_named contents catalog es h opened.Refused (λ f. opened.Fork (pick fork (contents f))) (opened_kind fork) opened_of_item dir name

pub too_many : (es : List Entry) (dir : ℕ) (name : List ℕ) (fork : Fork) (offset count : ℕ) → nat_lt 65536 count ≡ true → read_fork es dir name fork offset count ≡ refusal PARAMETER
unfolding read_fork
too_many es dir name fork offset count many =
    ap (λ b. cond b (refusal PARAMETER) (cond (not (is_item_name name)) (refusal BAD_NAME) (cond (not (model.is_folder es dir)) (refusal NOT_A_FOLDER) (option_map_or (λ (e : Entry). fork_part fork offset count e.1.kind) (model.child_named es dir name) (refusal NOT_FOUND))))) many
