-- The file of a name that a folder holds, by the catalog's records and by the volume's items.
use Rattle.std.proofs.Common.{◌≡◌, ℕ, Bool, true, false, cond, List, [], refl, sym, ◌∙◌, ap, subst, ⊎_elim, Option, Some, None, Result, Ok, Err}
use Rattle.std.specs.Prelude.{not}
use Rattle.std.specs.Option.{option_map, option_map_or}
use Rattle.std.proofs.lemmas.Bool.{and_parts, or_cases, true≢false}
use Rattle.hfs_fields.specs.Names.{is_item_name}
use Rattle.hfs_fields.specs.Order.{same_name}
use Rattle.hfs_fields.specs.Records.{is_dir, is_file, is_item, file_record_of}
use Rattle.hfs_fields.specs.declared.file_record.FileRecord.{FileRecord}
use Rattle.hfs_fields.specs.Each.{Each}
use Rattle.hfs_model.specs.declared.codes.TheConstants.{BAD_NAME, NOT_FOUND, NOT_A_FOLDER}
use Rattle.hfs_model.specs.declared.item.Kind.{Kind}
use Rattle.hfs_model.specs.declared.reply.Reply.{Reply}
use Rattle.hfs_model.specs.Volume.{Entry}
use Rattle.hfs_model.specs.Children as model
use Rattle.hfs_model.specs.Replies.{refusal}
use Rattle.hfs_space.specs.Owners.{forks_of, forks_of_file}
use Rattle.hfs_space.specs.Sound.{IsForkSound}
use Rattle.hfs_catalog.specs.Records.{Record, Catalog, is_child_of}
use Rattle.hfs_catalog.specs.Items.{Contents, item_of, entry_of}
use Rattle.hfs_catalog.specs.Lookups.{is_child_named, child_named}
use Rattle.hfs_check.specs.Parts.{Blocks, mdb_in, overflow_in, catalog_in}
use Rattle.hfs_check.specs.Sound.{AreBlocksSound}
use Rattle.hfs_items.specs.Told.{is_folder, only_file, file_named}
use Rattle.hfs_items.specs.Queries.{AreEntries}
use Rattle.hfs_fields.specs.Members.{In}
use Rattle.hfs_fields.proofs.MemberLemmas.{each_in, found_in}
use Rattle.hfs_items.proofs.ReplyLemmas.{folder_same}

-- what is told of a file, or of the reply that refuses it
abbrev pub answer_of : {A : Type 0} → (Reply → A) → (FileRecord → A) → Result FileRecord Reply → A
answer_of refuse tell (Err reply) = refuse reply
answer_of refuse tell (Ok f) = tell f

answer_of-cond : {A : Type 0} (refuse : Reply → A) (tell : FileRecord → A) (b : Bool) (reply : Reply) (rest : Result FileRecord Reply)
    → answer_of refuse tell (cond b (Err reply) rest) ≡ cond b (refuse reply) (answer_of refuse tell rest)
answer_of-cond refuse tell true reply rest = refl
answer_of-cond refuse tell false reply rest = refl

module _ (contents : Contents) (catalog : Catalog) (es : List Entry) (h : AreEntries contents catalog es) where
  -- where it is told of each record what is told of its item, it is told of the file of a name what is told of the child
  module _ {A : Type 0} (refuse : Reply → A) (tell : FileRecord → A) (of : Kind → A)
      (kinds : (r : Record) → answer_of refuse tell (only_file (Some r)) ≡ of (item_of contents catalog r).kind) (dir : ℕ) (name : List ℕ) where
    abbrev told_at : Option Entry → A
    told_at o = option_map_or (λ (e : Entry). of e.1.kind) o (refuse (refusal NOT_FOUND))

    of_found : answer_of refuse tell (only_file (child_named catalog dir name)) ≡ told_at (model.child_named es dir name)
    of_found = sym (ap told_at (h.named dir name) ∙ elim (child_named catalog dir name) as (λ (o : Option Record). told_at (option_map (entry_of contents catalog) o) ≡ answer_of refuse tell (only_file o)) [
      | None ↦ refl
      | Some r ↦ sym (kinds r)
    ])

    pub answer_of-file_named : answer_of refuse tell (file_named catalog dir name)
        ≡ cond (not (is_item_name name)) (refuse (refusal BAD_NAME)) (cond (not (model.is_folder es dir)) (refuse (refusal NOT_A_FOLDER)) (told_at (model.child_named es dir name)))
    answer_of-file_named =
        answer_of-cond refuse tell (not (is_item_name name)) (refusal BAD_NAME) _
        ∙ ap (λ (a : A). cond (not (is_item_name name)) (refuse (refusal BAD_NAME)) a)
        (answer_of-cond refuse tell (not (is_folder catalog dir)) (refusal NOT_A_FOLDER) (only_file (child_named catalog dir name))
        ∙ (λ i. cond (not (sym (folder_same contents catalog es h dir) i)) (refuse (refusal NOT_A_FOLDER)) (of_found i)))

-- ---- the forks of a file that is found

err_ok : (reply : Reply) (f : FileRecord) → Err reply ≡ Ok f → ⊥
err_ok reply f e = cc

same_ok : (f g : FileRecord) → ◌≡◌ {A = Result FileRecord Reply} (Ok f) (Ok g) → f ≡ g
same_ok f g e = cc

module _ (catalog : Catalog) (dir : ℕ) (name : List ℕ) (f : FileRecord) where
  unrefused : (b : Bool) (reply : Reply) (rest : Result FileRecord Reply) → cond b (Err reply) rest ≡ Ok f → rest ≡ Ok f
  unrefused true reply rest e = absurd (err_ok reply f e)
  unrefused false reply rest e = e

  named : file_named catalog dir name ≡ Ok f → only_file (child_named catalog dir name) ≡ Ok f
  named e = unrefused (not (is_folder catalog dir)) (refusal NOT_A_FOLDER) _ (unrefused (not (is_item_name name)) (refusal BAD_NAME) _ e)

  -- the record of a file that is found
  pub record IsFound : Type 0 where
    pub of : Record
    pub there : In of catalog
    pub file : is_file of.1 ≡ true
    pub is : file_record_of of.1 ≡ f

  pub found_file : file_named catalog dir name ≡ Ok f → IsFound
  found_file e = elim (child_named catalog dir name) as (λ (o : Option Record). child_named catalog dir name ≡ o → only_file o ≡ Ok f → IsFound) [
    | None ↦ λ none refused. absurd (err_ok (refusal NOT_FOUND) f refused)
    | Some r ↦ λ some only.
        let found = found_in (is_child_named dir name) catalog r some in
        elim (is_dir r.1) as (λ (b : Bool). is_dir r.1 ≡ b → cond b (Err (refusal NOT_FOUND)) (Ok (file_record_of r.1)) ≡ Ok f → IsFound) [
          | true ↦ λ folder refused. absurd (err_ok (refusal NOT_FOUND) f refused)
          | false ↦ λ other same. record {
            of = r;
            there = found.0;
            file = ⊎_elim (λ (d : is_dir r.1 ≡ true). absurd (true≢false (sym d ∙ other))) (λ (x : is_file r.1 ≡ true). x) (or_cases (is_dir r.1) (is_file r.1) (item_of_child dir name r found.1));
            is = same_ok (file_record_of r.1) f same;
          }
        ] refl only
  ] refl (named e)
    where
      item_of_child : (d : ℕ) (n : List ℕ) (r : Record) → is_child_named d n r ≡ true → is_item r.1 ≡ true
      item_of_child d n r p = (and_parts (is_item r.1) _ (and_parts (is_child_of d r) (same_name r.0.name n) p).0).0

pub forks_in : (total : ℕ) (blocks : Blocks) → AreBlocksSound total blocks → (dir : ℕ) (name : List ℕ) (f : FileRecord) → file_named (catalog_in blocks) dir name ≡ Ok f → Each (IsForkSound (mdb_in blocks) (overflow_in blocks)) (forks_of_file f)
forks_in total blocks sound dir name f e =
    let found = found_file (catalog_in blocks) dir name f e in
    let forks : Each (IsForkSound (mdb_in blocks) (overflow_in blocks)) (forks_of found.of) = each_in _ (catalog_in blocks) found.of sound.forks.files found.there in
    subst (λ (g : FileRecord). Each (IsForkSound (mdb_in blocks) (overflow_in blocks)) (forks_of_file g)) found.is (subst (λ (b : Bool). Each (IsForkSound (mdb_in blocks) (overflow_in blocks)) (cond b (forks_of_file (file_record_of found.of.1)) [])) found.file forks)
