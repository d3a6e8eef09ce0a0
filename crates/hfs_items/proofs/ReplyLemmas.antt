-- The replies by a catalog's records are those of the volume.
use Rattle.std.proofs.Common.{◌≡◌, ℕ, ◌-◌, Bool, true, false, cond, eqb, List, [], ◌∷◌, map, filter, refl, sym, ◌∙◌, ap, Option, Some, None}
use Rattle.std.specs.Prelude.{not, nat_eq, is_some, slice_get, IsTrue}
use Rattle.std.specs.Option.{option_map, option_map_or, option_and_then, ok_or}
use Rattle.std.proofs.lemmas.Bool.{and_parts}
use Rattle.hfs_fields.specs.Names.{is_item_name}
use Rattle.hfs_fields.specs.Order.{same_name}
use Rattle.hfs_fields.specs.Records.{is_dir, is_item, item_id, dir_record_of, file_record_of}
use Rattle.hfs_fields.specs.Each.{Each}
use Rattle.hfs_btree.specs.Tree.{Store}
use Rattle.hfs_model.specs.declared.codes.TheConstants.{BAD_NAME, NOT_FOUND, PARAMETER, NOT_A_FOLDER, FILE_ID_NOT_FOUND, NOT_A_FILE}
use Rattle.hfs_model.specs.declared.reply.Info.{Info}
use Rattle.hfs_model.specs.declared.reply.Value.TheVariants as value
use Rattle.hfs_model.specs.declared.reply.Reply.{Reply}
use Rattle.hfs_model.specs.Volume.{Entry}
use Rattle.hfs_model.specs.Children.{is_folder_kind}
use Rattle.hfs_model.specs.Children as model
use Rattle.hfs_model.specs.Reading as calls
use Rattle.hfs_model.specs.Reading.{get_dir_info, get_cat_info, get_indexed, list}
use Rattle.hfs_model.specs.Replies.{refusal, success, info_of, infos}
use Rattle.hfs_model.specs.Choices.{and_then}
use Rattle.hfs_model.specs.FileIds.{if_has_thread, file_of_id, place_reply, resolve_file_id}
use Rattle.hfs_catalog.specs.Records.{Record, Catalog, item_with, has_thread, is_child_of}
use Rattle.hfs_catalog.specs.Items.{Contents, folder_of, file_of, item_of, entry_of}
use Rattle.hfs_catalog.specs.Lookups.{is_child_named, child_named}
use Rattle.hfs_catalog.specs.Tree.{catalog_of}
use Rattle.hfs_check.specs.Parts.{Blocks, catalog_nodes, catalog_in}
use Rattle.hfs_items.specs.Told.{told, one, only_folder, is_folder, dir_info, cat_info, child_infos, indexed, placed, resolved}
use Rattle.hfs_items.proofs.ToldLemmas.{listed}
use Rattle.hfs_items.specs.Queries.{AreEntries}
use Rattle.hfs_fields.specs.Members.{In}
use Rattle.hfs_fields.proofs.MemberLemmas.{each_in, found_in}
use Rattle.hfs_items.proofs.FolderLemmas.{found_with}

module _ (contents : Contents) (catalog : Catalog) (es : List Entry) (h : AreEntries contents catalog es) where
  abbrev entry : Record → Entry
  entry r = entry_of contents catalog r

  told_in : (r : Record) → In r catalog → is_item r.1 ≡ true → info_of es (entry r) ≡ told catalog r
  told_in r there item = each_in _ catalog r h.told there item

  pub folder_kind : (r : Record) → is_folder_kind (item_of contents catalog r).kind ≡ is_dir r.1
  unfolding item_of folder_of file_of
  folder_kind r = elim (is_dir r.1) as (λ (b : Bool). is_folder_kind (cond b (folder_of r.0 (dir_record_of r.1)) (file_of (has_thread catalog (file_record_of r.1).id) (contents (file_record_of r.1)) r.0 (file_record_of r.1))).kind ≡ b) [ true ↦ refl | false ↦ refl ]

  -- ---- folders

  abbrev of_folder : Option Entry → Bool
  of_folder o = option_map_or (λ (e : Entry). is_folder_kind e.1.kind) o false

  pub folder_same : (dir : ℕ) → model.is_folder es dir ≡ is_folder catalog dir
  folder_same dir = ap of_folder (h.by_id dir) ∙ elim (item_with catalog dir) as (λ (o : Option Record). of_folder (option_map entry o) ≡ is_some (option_and_then only_folder o)) [
    | None ↦ refl
    | Some r ↦ folder_kind r ∙ elim (is_dir r.1) as (λ (b : Bool). b ≡ is_some (cond b (Some r) None)) [ true ↦ refl | false ↦ refl ]
  ]

  abbrev if_folder : Option Entry → Reply
  if_folder o = option_map_or (λ (e : Entry). cond (is_folder_kind e.1.kind) (calls.one es e) (refusal NOT_A_FOLDER)) o (refusal NOT_A_FOLDER)

  pub dir_infos : (dir : ℕ) → dir_info catalog dir ≡ get_dir_info es dir
  unfolding get_dir_info
  dir_infos dir = sym (ap if_folder (h.by_id dir) ∙ elim (item_with catalog dir) as (λ (o : Option Record). item_with catalog dir ≡ o → if_folder (option_map entry o) ≡ option_map_or (one catalog) (option_and_then only_folder o) (refusal NOT_A_FOLDER)) [
    | None ↦ λ is. refl
    | Some r ↦ λ is.
        let found = found_with catalog dir r is in
        ap (λ b. cond b (calls.one es (entry r)) (refusal NOT_A_FOLDER)) (folder_kind r)
        ∙ ap (λ (i : Info). cond (is_dir r.1) (success (value.One i)) (refusal NOT_A_FOLDER)) (told_in r found.there found.item)
        ∙ elim (is_dir r.1) as (λ (b : Bool). cond b (one catalog r) (refusal NOT_A_FOLDER) ≡ option_map_or (one catalog) (cond b (Some r) None) (refusal NOT_A_FOLDER)) [ true ↦ refl | false ↦ refl ]
  ] refl)

  -- ---- children by name

  pub child_item : (dir : ℕ) (name : List ℕ) (r : Record) → is_child_named dir name r ≡ true → is_item r.1 ≡ true
  child_item dir name r e = (and_parts (is_item r.1) (eqb r.0.parent dir) (and_parts (is_child_of dir r) (same_name r.0.name name) e).0).0

  abbrev if_there : Option Entry → Reply
  if_there o = option_map_or (calls.one es) o (refusal NOT_FOUND)

  there_same : (dir : ℕ) (name : List ℕ) → if_there (model.child_named es dir name) ≡ option_map_or (one catalog) (child_named catalog dir name) (refusal NOT_FOUND)
  there_same dir name = ap if_there (h.named dir name) ∙ elim (child_named catalog dir name) as (λ (o : Option Record). child_named catalog dir name ≡ o → if_there (option_map entry o) ≡ option_map_or (one catalog) o (refusal NOT_FOUND)) [
    | None ↦ λ is. refl
    | Some r ↦ λ is. let found = found_in (is_child_named dir name) catalog r is in ap (λ (i : Info). success (value.One i)) (told_in r found.0 (child_item dir name r found.1))
  ] refl

  pub cat_infos : (dir : ℕ) (name : List ℕ) → cat_info catalog dir name ≡ get_cat_info es dir name
  unfolding get_cat_info
  cat_infos dir name = λ i.
      cond (not (is_item_name name)) (refusal BAD_NAME) (cond (not (sym (folder_same dir) i)) (refusal NOT_A_FOLDER) (sym (there_same dir name) i))

  -- ---- all children

  infos_same : (dir : ℕ) (rs : Catalog) → Each (λ r. IsTrue (is_item r.1) → info_of es (entry r) ≡ told catalog r) rs → map (info_of es) (map entry (filter (is_child_of dir) rs)) ≡ map (told catalog) (filter (is_child_of dir) rs)
  infos_same dir [] each = refl
  infos_same dir (r ∷ rs) each = elim (is_child_of dir r) as (λ (b : Bool). is_child_of dir r ≡ b → map (info_of es) (map entry (cond b (r ∷ filter (is_child_of dir) rs) (filter (is_child_of dir) rs))) ≡ map (told catalog) (cond b (r ∷ filter (is_child_of dir) rs) (filter (is_child_of dir) rs))) [
    | true ↦ λ e. λ i. each.0 (and_parts (is_item r.1) (eqb r.0.parent dir) e).0 i ∷ infos_same dir rs each.1 i
    | false ↦ λ e. infos_same dir rs each.1
  ] refl

  children_same : (dir : ℕ) → infos es dir ≡ child_infos catalog dir
  children_same dir = ap (map (info_of es)) (h.children dir) ∙ infos_same dir catalog h.told

  pub lists : (dir : ℕ) → listed catalog dir ≡ list es dir
  unfolding list
  lists dir = λ i. cond (not (sym (folder_same dir) i)) (refusal NOT_A_FOLDER) (success (value.Many (sym (children_same dir) i)))

  pub indexes : (dir index : ℕ) → indexed catalog dir index ≡ get_indexed es dir index
  unfolding get_indexed
  indexes dir index = λ i.
      cond (nat_eq index 0) (refusal PARAMETER) (cond (not (sym (folder_same dir) i)) (refusal NOT_A_FOLDER)
      (option_map_or (λ (info : Info). success (value.One info)) (slice_get (sym (children_same dir) i) (index - 1)) (refusal NOT_FOUND)))

  -- ---- file IDs

  -- a folder, or a file with a thread or without one
  kind_placed : (id : ℕ) (r : Record) (dir has : Bool)
      → place_reply (if_has_thread (id, cond dir (folder_of r.0 (dir_record_of r.1)) (file_of has (contents (file_record_of r.1)) r.0 (file_record_of r.1))))
      ≡ cond dir (refusal NOT_A_FILE) (cond has (success (value.Place r.0.parent r.0.name)) (refusal FILE_ID_NOT_FOUND))
  unfolding folder_of file_of
  kind_placed id r true has = refl
  kind_placed id r false true = refl
  kind_placed id r false false = refl

  pub places : (id : ℕ) → resolved catalog id ≡ resolve_file_id es id
  unfolding resolve_file_id file_of_id item_of
  places id = sym (ap (λ (o : Option Entry). place_reply (and_then (ok_or o FILE_ID_NOT_FOUND) if_has_thread)) (h.by_id id)
      ∙ elim (item_with catalog id) as (λ (o : Option Record). place_reply (and_then (ok_or (option_map entry o) FILE_ID_NOT_FOUND) if_has_thread) ≡ option_map_or (placed catalog) o (refusal FILE_ID_NOT_FOUND)) [
        | None ↦ refl
        | Some r ↦ kind_placed (item_id r.1) r (is_dir r.1) (has_thread catalog (file_record_of r.1).id)
      ])

-- what the records of the catalog's nodes say is what those of the volume's catalog say
pub by_nodes : {A : Type 0} (f : Catalog → A) (blocks : Blocks) (nodes : Store) → nodes ≡ catalog_nodes blocks → f (catalog_of nodes) ≡ f (catalog_in blocks)
unfolding catalog_in
by_nodes f blocks nodes e = ap (λ (n : Store). f (catalog_of n)) e
