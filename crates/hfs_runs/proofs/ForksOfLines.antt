-- The forks of the files that lines name, where they were read, are those of each image that has what was read.
use Rattle.std.proofs.Common.{◌≡◌, ◌≢◌, inl, inr, ⊎_elim, ℕ, ◌+◌, ◌-◌, ◌/◌, ◌<◌, Bool, true, false, cond, not, List, [], ◌∷◌, ◌++◌, length, Option, Some, None, Result, Ok, Err, unwrap_or, eqb, leb, refl, sym, ap, subst, ◌∙◌, arith, true≢false}
use Rattle.std.specs.Prelude.{IfOk, ◌&&◌, ◌||◌, ◌==◌}
use Rattle.std.specs.FinMap as fin
use Rattle.std.specs.List.{list_any}
use Rattle.std.specs.Option.{option_map, option_map_or}
use Rattle.std.proofs.lemmas.Bool.{and_from, and_parts, or_cases, or_left, or_right, eqb-true, eq-eqb, le-leb, leb-true}
use Rattle.hfs_fields.specs.declared.file_record.FileRecord.{FileRecord}
use Rattle.hfs_fields.specs.declared.mdb.Mdb.{Mdb}
use Rattle.hfs_fields.specs.Names.{is_item_name}
use Rattle.hfs_fields.specs.Order.{same_name}
use Rattle.hfs_fields.specs.Records.{is_dir, is_file, is_item, item_id, dir_record_of, file_record_of}
use Rattle.hfs_fields.specs.Each.{Each}
use Rattle.hfs_fields.specs.Members.{In}
use Rattle.hfs_fields.proofs.ElementLemmas.{each-left, each-right}
use Rattle.hfs_fields.proofs.MemberLemmas.{each_in, any-in}
use Rattle.hfs_model.specs.declared.call.Call.{Call}
use Rattle.hfs_model.specs.declared.item.Item.{Item}
use Rattle.hfs_model.specs.declared.reply.Reply.{Reply}
use Rattle.hfs_model.specs.declared.codes.TheConstants.{BAD_NAME, NOT_FOUND, NOT_A_FOLDER}
use Rattle.hfs_model.specs.Replies.{refusal}
use Rattle.hfs_model.specs.Volume.{Volume}
use Rattle.hfs_blocks.specs.Blocks.{block_at, block_count}
use Rattle.hfs_blocks.specs.Layers.{Numbered}
use Rattle.hfs_space.specs.declared.fork_kind.ForkKind.TheVariants.{Data, Resource}
use Rattle.hfs_space.specs.Extents.{Overflow, fork_extents, fork_byte}
use Rattle.hfs_space.specs.ForkLaws.{block_numbers}
use Rattle.hfs_space.specs.TreeKeys.{overflow_of}
use Rattle.hfs_catalog.specs.Items.{Contents, folder_of, file_of, item_of}
use Rattle.hfs_catalog.specs.Lookups.{child_named, is_child_named}
use Rattle.hfs_catalog.specs.Records.{Record, Catalog, has_thread, is_child_of}
use Rattle.hfs_catalog.specs.Sound.{IsSoundCatalog, IsRoot, IsGiven}
use Rattle.hfs_catalog.proofs.DistinctLemmas.{later_from_distinct}
use Rattle.hfs_catalog.proofs.Found.{only}
use Rattle.hfs_catalog.proofs.CatalogLawsProved.{items_are_records}
use Rattle.hfs_catalog.proofs.NameOrder.{found_by_id}
use Rattle.hfs_check.specs.declared.trees.VolumeTrees.{VolumeTrees}
use Rattle.hfs_check.specs.Parts.{Blocks, mdb_in, overflow_in, catalog_in}
use Rattle.hfs_check.specs.Sound.{IsImageLength}
use Rattle.hfs_check.specs.VolumeOf.{contents_in, volume_in, volume_of}
use Rattle.hfs_check.proofs.LawsProved.{catalog_is_sound}
use Rattle.hfs_image.specs.Needed.{AgreeOn}
use Rattle.hfs_items.specs.Told.{is_folder, only_file, file_named}
use Rattle.hfs_items.proofs.Holders.{is_folder-holder}
use Rattle.hfs_source.specs.Sparse.{sparse, zero_block, HasEach, IsOf}
use Rattle.hfs_source.proofs.SparseLemmas.{each-of}
use Rattle.hfs_volume.specs.Image.{copy_of}
use Rattle.hfs_volume.proofs.CopyLemmas.{block-copy, length-copy}
use Rattle.hfs_copy.specs.Opened.{IsWorking}
use Rattle.hfs_image.specs.Laws.{blocks_of_fork}
use Rattle.hfs_copy.specs.Working.{working_blocks, HasForksOf, IsWorkingCopy, SameForks}
use Rattle.hfs_copy.proofs.LawsProved.{kept_forks_are_alike}
use Rattle.hfs_copy.proofs.Copies.{each-image, is-copy}
use Rattle.hfs_copy.proofs.SameWork as work
use Rattle.hfs_model.specs.Alike.{AreAlike}
use Rattle.hfs_model.specs.Named.{named_by, KeepsNamed}
use Rattle.hfs_scripts.specs.declared.lines.ScriptLine.{ScriptLine}
use Rattle.hfs_runs.specs.NamedForks.{HasNamedForks, OfNamed, file_blocks, fork_blocks}
use Rattle.hfs_runs.specs.Naming.{line_calls}
use Rattle.hfs_runs.specs.OnImage.{NamedForksAreTheImages, ShareForks}
use Rattle.hfs_runs.proofs.ForkPlaces.{item-is}
use Rattle.hfs_catalog.proofs.FileRecords.{not-dir}
use Rattle.hfs_runs.proofs.SameNames.{name-kept}

-- ---- the file of a name

module _ (next : ℕ) (catalog : Catalog) (sound : IsSoundCatalog next catalog) where
  -- a file is found by each name that is the same as its own
  found-file : (r : Record) (dir : ℕ) (name : List ℕ) → In r catalog → is_file r.1 ≡ true → r.0.parent ≡ dir → same_name r.0.name name ≡ true
      → file_named catalog dir name ≡ Ok (file_record_of r.1)
  found-file r dir name there file parent same =
      let item : is_item r.1 ≡ true = item-is r.1 file in
      let child : is_child_named dir name r ≡ true =
      and_from (is_child_of dir r) (same_name r.0.name name) (and_from (is_item r.1) (r.0.parent == dir) item (eq-eqb r.0.parent dir parent)) same in
      let found : child_named catalog dir name ≡ Some r = only catalog dir name r sound.places.rises there child in
      let not-one : r.0.parent ≢ 1 = ⊎_elim
      (λ (root : IsRoot r). absurd (true≢false (sym root.folder ∙ not-dir r.1 file)))
      (λ (given : IsGiven next r). given.parent)
      (each_in _ catalog r sound.ids.each there item) in
      let folder : is_folder catalog dir ≡ true = is_folder-holder next catalog sound dir name r found (λ one. not-one (parent ∙ one)) in
      let named : is_item_name name ≡ true = name-kept r.0.name name same (each_in _ catalog r sound.names.items there item) in
      ap (λ (b : Bool). cond (not b) (Err (refusal BAD_NAME)) (cond (not (is_folder catalog dir)) (Err (refusal NOT_A_FOLDER)) (only_file (child_named catalog dir name)))) named
      ∙ ap (λ (b : Bool). cond (not b) (Err (refusal NOT_A_FOLDER)) (only_file (child_named catalog dir name))) folder
      ∙ ap only_file found
      ∙ ap (λ (b : Bool). cond b (Err (refusal NOT_FOUND)) (Ok (file_record_of r.1))) (not-dir r.1 file)

-- the item of a record stands where the record does
pub item-place : (contents : Contents) (catalog : Catalog) (r : Record) → ((item_of contents catalog r).parent ≡ r.0.parent) × ((item_of contents catalog r).name ≡ r.0.name)
unfolding item_of folder_of file_of
item-place contents catalog r =
    let f = file_record_of r.1 in
    elim (is_dir r.1)
    as (λ (b : Bool). ((cond b (folder_of r.0 (dir_record_of r.1)) (file_of (has_thread catalog f.id) (contents f) r.0 f)).parent ≡ r.0.parent)
    × ((cond b (folder_of r.0 (dir_record_of r.1)) (file_of (has_thread catalog f.id) (contents f) r.0 f)).name ≡ r.0.name)) [
      | true ↦ (refl, refl)
      | false ↦ (refl, refl)
    ]

-- ---- which items calls name

abbrev pub names : Item → Call → Bool
names item c = option_map_or (λ (place : ℕ × List ℕ). eqb item.parent place.0 && same_name item.name place.1) (named_by c) false

-- whether one of the calls names the item of that ID, or it is still to be made
abbrev pub keeps : List Call → Volume → ℕ → Bool
keeps calls v id = leb v.next_id id || option_map_or (λ (item : Item). list_any (names item) calls) (fin.get v.items id) false

any-found : {A : Type 0} (p : A → Bool) (xs : List A) → list_any p xs ≡ true → (x : A) × In x xs × (p x ≡ true)
any-found p [] e = absurd (true≢false (sym e))
any-found p (y ∷ ys) e = ⊎_elim
    (λ (here : p y ≡ true). (y, inl refl, here))
    (λ (later : list_any p ys ≡ true). let found = any-found p ys later in (found.0, inr found.1, found.2))
    (or_cases (p y) (list_any p ys) e)

pub keeps-named : (calls : List Call) (v : Volume) → KeepsNamed (keeps calls v) calls v
keeps-named calls v = record {
  named = λ c dir name asked is id item has stands.
      or_right (leb v.next_id id) _
      (ap (λ (o : Option Item). option_map_or (λ (i : Item). list_any (names i) calls) o false) has
      ∙ any-in (names item) calls c asked
      (ap (λ (o : Option (ℕ × List ℕ)). option_map_or (λ (place : ℕ × List ℕ). eqb item.parent place.0 && same_name item.name place.1) o false) is
      ∙ and_from (eqb item.parent dir) (same_name item.name name) (eq-eqb item.parent dir stands.0) stands.1));
  made = λ id above. or_left (leb v.next_id id) _ (le-leb v.next_id id above);
}

-- the call that names an item
pub record IsNamedBy (calls : List Call) (item : Item) : Type 0 where
  pub c : Call
  pub dir : ℕ
  pub name : List ℕ
  pub asked : In c calls
  pub names_it : named_by c ≡ Some (dir, name)
  pub parent : item.parent ≡ dir
  pub same : same_name item.name name ≡ true

names-found : (calls : List Call) (item : Item) (c : Call) → In c calls → names item c ≡ true → IsNamedBy calls item
names-found calls item c asked e = by (named_by c) refl e
  where
    by : (o : Option (ℕ × List ℕ)) → named_by c ≡ o
        → option_map_or (λ (place : ℕ × List ℕ). eqb item.parent place.0 && same_name item.name place.1) o false ≡ true → IsNamedBy calls item
    by None is e = absurd (true≢false (sym e))
    by (Some place) is e =
        let parts = and_parts (eqb item.parent place.0) (same_name item.name place.1) e in
        record { c = c; dir = place.0; name = place.1; asked = asked; names_it = is; parent = eqb-true item.parent place.0 parts.0; same = parts.1 }

pub keeps-found : (calls : List Call) (v : Volume) (id : ℕ) (item : Item) → id < v.next_id → fin.get v.items id ≡ Some item → keeps calls v id ≡ true → IsNamedBy calls item
keeps-found calls v id item given has e = ⊎_elim
    (λ (new : leb v.next_id id ≡ true). absurd (omega (arith, given, leb-true v.next_id id new)))
    (λ (old : option_map_or (λ (i : Item). list_any (names i) calls) (fin.get v.items id) false ≡ true).
    let any : list_any (names item) calls ≡ true = sym (ap (λ (o : Option Item). option_map_or (λ (i : Item). list_any (names i) calls) o false) has) ∙ old in
    let found = any-found (names item) calls any in
    names-found calls item found.0 found.1 found.2)
    (or_cases (leb v.next_id id) _ e)

of-call : (catalog : Catalog) (Fact : FileRecord → Type 0) (lines : List ScriptLine) → Each (λ (line : ScriptLine). OfNamed catalog Fact line.call) lines
    → (c : Call) → In c (line_calls lines) → OfNamed catalog Fact c
of-call catalog Fact [] h c i = absurd i
of-call catalog Fact (line ∷ lines) h c i = ⊎_elim
    (λ (same : line.call ≡ c). subst (OfNamed catalog Fact) same h.0)
    (λ (there : In c (line_calls lines)). of-call catalog Fact lines h.1 c there)
    i

-- ---- the blocks of forks

pub same-forks : (old new : Blocks) (f : FileRecord) → AgreeOn (file_blocks old f) old new → SameForks old new f
unfolding blocks_of_fork
same-forks old new f same = (
  each-left (λ k. new k ≡ old k) (fork_blocks old f.id Data f.«data») (fork_blocks old f.id Resource f.resource) same,
  each-right (λ k. new k ≡ old k) (fork_blocks old f.id Data f.«data») (fork_blocks old f.id Resource f.resource) same,
)

-- ---- of what was read

module _ (read : Numbered) (len count : ℕ) (mdb : Mdb) (trees : VolumeTrees) (is : IsWorking None (len / 512) read count mdb trees) (right : IsImageLength len) where
  abbrev copy : List ℕ
  copy = copy_of read len

  long : length copy ≡ len
  long = length-copy read len is.within

  copy-of : IsOf copy read
  copy-of n block e =
      sym (block-copy read len is.within n (is.within n block e).0 ∙ ap (λ (o : Option (List ℕ)). unwrap_or o zero_block) e)

  agree : AgreeOn (working_blocks (len / 512) (sparse read)) (sparse read) (block_at copy)
  agree = each-of copy read copy-of (working_blocks (len / 512) (sparse read)) is.working

  overflow-copy : overflow_in (block_at copy) ≡ overflow_in (sparse read)
  unfolding overflow_in
  overflow-copy = ap overflow_of (work.extents-is (len / 512) (sparse read) (block_at copy) agree)

  pub catalog-copy : catalog_in (block_at (copy_of read len)) ≡ catalog_in (sparse read)
  catalog-copy = work.records-are (len / 512) (sparse read) (block_at copy) agree

  -- of the copy, the forks that lines name were read
  named-copy : (lines : List ScriptLine) → HasNamedForks (sparse read) lines read → HasNamedForks (block_at copy) lines read
  named-copy lines named = subst P (λ i. (sym records i, sym directory i, sym overflow-copy i)) named
    where
      records : catalog_in (block_at copy) ≡ catalog_in (sparse read)
      records = work.records-are (len / 512) (sparse read) (block_at copy) agree

      directory : mdb_in (block_at copy) ≡ mdb_in (sparse read)
      directory = work.mdb-is (len / 512) (sparse read) (block_at copy) agree

      P : Catalog × Mdb × Overflow → Type 0
      P parts = Each (λ (line : ScriptLine). OfNamed parts.0 (λ (file : FileRecord). HasEach read
          (block_numbers parts.1 (fork_extents parts.2 file.id (fork_byte Data) file.«data».extents)
          ++ block_numbers parts.1 (fork_extents parts.2 file.id (fork_byte Resource) file.resource.extents))) line.call) lines

  module _ (lines : List ScriptLine) (named : HasNamedForks (sparse read) lines read) (image : List ℕ) (image-long : length image ≡ len) (of : IsOf image read) where
    abbrev catalog : Catalog
    catalog = catalog_in (block_at copy)

    abbrev keep : ℕ → Bool
    keep = keeps (line_calls lines) (volume_of copy)

    copy-is : IsWorkingCopy copy image
    copy-is = is-copy read len is.within is.working is.sound right image image-long of

    total : ℕ
    total = block_count copy

    sound : IsSoundCatalog (mdb_in (block_at copy)).next_id catalog
    sound = catalog_is_sound (block_count copy) (block_at copy) copy-is.sound.blocks

    -- the item of a file's record
    item-there : (r : Record) → In r catalog → is_item r.1 ≡ true → fin.get (volume_of copy).items (item_id r.1) ≡ Some (item_of (contents_in (block_at copy)) catalog r)
    unfolding volume_of volume_in
    item-there r there item =
        items_are_records (contents_in (block_at copy)) catalog (item_id r.1)
        ∙ ap (option_map (item_of (contents_in (block_at copy)) catalog)) (found_by_id catalog r (later_from_distinct catalog sound.ids.distinct) there item)

    given-before : (r : Record) → In r catalog → is_file r.1 ≡ true → item_id r.1 < (volume_of copy).next_id
    unfolding volume_of volume_in
    given-before r there file = ⊎_elim
        (λ (root : IsRoot r). absurd (true≢false (sym root.folder ∙ not-dir r.1 file)))
        (λ (given : IsGiven (mdb_in (block_at copy)).next_id r). given.given)
        (each_in _ catalog r sound.ids.each there (item-is r.1 file))

    -- a file that a line names was read
    read-file : (r : Record) → In r catalog → is_file r.1 ≡ true → keep (item_id r.1) ≡ true → HasEach read (file_blocks (block_at copy) (file_record_of r.1))
    read-file r there file kept =
        let contents = contents_in (block_at copy) in
        let place = item-place contents catalog r in
        let by = keeps-found (line_calls lines) (volume_of copy) (item_id r.1) (item_of contents catalog r) (given-before r there file) (item-there r there (item-is r.1 file)) kept in
        let found : file_named catalog by.dir by.name ≡ Ok (file_record_of r.1) =
        found-file (mdb_in (block_at copy)).next_id catalog sound r by.dir by.name there file (sym place.0 ∙ by.parent)
        (subst (λ (n : List ℕ). same_name n by.name ≡ true) place.1 by.same) in
        let Fact = λ (f : FileRecord). HasEach read (file_blocks (block_at copy) f) in
        subst (λ (o : Result FileRecord Reply). IfOk o Fact) found (of-call catalog Fact lines (named-copy lines named) by.c by.asked by.dir by.name by.names_it)

    file-same : (r : Record) → In r catalog → is_file r.1 ≡ true → keep (item_id r.1) ≡ true → SameForks (block_at copy) (block_at image) (file_record_of r.1)
    file-same r there file kept =
        same-forks (block_at copy) (block_at image) (file_record_of r.1)
        (each-image read len is.within image of (file_blocks (block_at copy) (file_record_of r.1)) (read-file r there file kept))

    files-same : (rs : Catalog) → ((r : Record) → In r rs → In r catalog) → Each (HasForksOf keep (block_at copy) (block_at image)) rs
    files-same [] within = tt
    files-same (r ∷ rs) within = (λ file kept. file-same r (within r (inl refl)) file kept, files-same rs (λ q i. within q (inr i)))

    pub lines-alike : AreAlike (keeps (line_calls lines) (volume_of (copy_of read len))) (volume_of (copy_of read len)) (volume_of image)
    lines-alike = kept_forks_are_alike keep copy image copy-is (files-same catalog (λ r i. i))

    pub share-forks : ShareForks (line_calls lines) copy image
    share-forks = record { keep = keep; alike = lines-alike; named = keeps-named (line_calls lines) (volume_of copy) }

pub named_forks_are_the_images : NamedForksAreTheImages
named_forks_are_the_images lines len working image is right named long of = record {
  working = is-copy working.read len is.within is.working is.sound right image long of;
  forks = λ reads. share-forks working.read len working.count working.sound.mdb working.sound.trees is right lines (named reads) image long of;
}
