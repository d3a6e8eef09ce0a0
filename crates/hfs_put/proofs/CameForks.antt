-- The forks of the files that came are as long as their records say.
use Rattle.std.proofs.Common.{◌≡◌, ℕ, Bool, true, false, cond, eqb, List, [], ◌∷◌, length, map, replicate, Option, Some, refl, sym, ap, ◌∙◌, Ok}
use Rattle.std.specs.Prelude.{◌||◌}
use Rattle.std.specs.FinMap as fin
use Rattle.std.specs.Option.{option_map}
use Rattle.std.specs.List.{cons_option}
use Rattle.std.proofs.lemmas.List.{length-replicate}
use Rattle.hfs_fields.specs.Records.{is_file, is_item, item_id, dir_record_of, file_record_of}
use Rattle.hfs_fields.specs.declared.file_record.FileRecord.{FileRecord}
use Rattle.hfs_fields.specs.Each.{Each}
use Rattle.hfs_fields.specs.Members.{In}
use Rattle.hfs_fields.proofs.MemberLemmas.{each_in}
use Rattle.hfs_model.proofs.Keeps.{same_item}
use Rattle.hfs_blocks.specs.Blocks.{block_at, block_count, length-block_at}
use Rattle.hfs_model.specs.declared.item.Item.{Item}
use Rattle.hfs_model.specs.declared.item.Kind.{Kind}
use Rattle.hfs_model.specs.declared.item.Kind.TheVariants as kind
use Rattle.hfs_model.specs.declared.reply.ItemKind.{ItemKind}
use Rattle.hfs_model.specs.declared.reply.ItemKind.TheVariants.{Folder, File}
use Rattle.hfs_model.specs.Volume.{Items, Volume}
use Rattle.hfs_model.proofs.MappedEntries.{mapped_item, mapped_items, get-mapped}
use Rattle.hfs_catalog.proofs.FileRecords.{not-dir}
use Rattle.hfs_catalog.specs.Records.{Record, Catalog, has_thread, item_with}
use Rattle.hfs_catalog.specs.Items.{Contents, folder_of, file_of, item_of, items_in}
use Rattle.hfs_catalog.proofs.DistinctLemmas.{later_from_distinct}
use Rattle.hfs_catalog.proofs.Held.{items_are_records}
use Rattle.hfs_catalog.proofs.NameOrder.{found_by_id}
use Rattle.hfs_check.specs.Parts.{Blocks, catalog_in}
use Rattle.hfs_check.specs.Sound.{IsSound}
use Rattle.hfs_check.specs.VolumeOf.{contents_in, volume_in, volume_of}
use Rattle.hfs_put_plan.specs.Laws.{IsWhole, with_zeros}
use Rattle.hfs_put_plan.specs.Put.{Arrival, came, file_forks, laid_volume}
use Rattle.hfs_put_plan.specs.WithForks.{FileForks, forks_of, kind_with_forks}
use Rattle.hfs_put_plan.proofs.LaidZeros.{laid_forks_are_zeros}
use Rattle.hfs_items.proofs.Queries.{AreLong, files_are_long}
use Rattle.hfs_volume.proofs.OwnedStay.{each_of}
use Rattle.hfs_put.specs.Forks.{OfTheirFiles, AreLongAs}
use Rattle.hfs_put.proofs.AlikeForks.{by_forks}

-- ---- zeros for the same files

abbrev zeros_of : FileForks → FileForks
zeros_of f = record { id = f.id; data_fork = replicate (length f.data_fork) 0; resource_fork = replicate (length f.resource_fork) 0 }

one-came : (kind : ItemKind) (a : Arrival) (id : ℕ) (forks : List FileForks)
    → cons_option (file_forks kind (with_zeros a) id) (map zeros_of forks) ≡ map zeros_of (cons_option (file_forks kind a id) forks)
one-came Folder a id forks = refl
one-came File a id forks = refl

zeros-came : (arrivals : List Arrival) (ids : List ℕ) (forks : List FileForks)
    → came (map with_zeros arrivals) ids (map zeros_of forks) ≡ map zeros_of (came arrivals ids forks)
zeros-came [] ids forks = refl
zeros-came (a ∷ more) [] forks = refl
zeros-came (a ∷ more) (id ∷ ids) forks =
    ap (came (map with_zeros more) ids) (one-came a.item.kind a id forks) ∙ zeros-came more ids (cons_option (file_forks a.item.kind a id) forks)

forks-zeros : (forks : List FileForks) (id : ℕ) → forks_of (map zeros_of forks) id ≡ option_map zeros_of (forks_of forks id)
forks-zeros [] id = refl
forks-zeros (f ∷ forks) id =
    elim (eqb f.id id)
    as (λ (b : Bool). cond b (Some (zeros_of f)) (forks_of (map zeros_of forks) id) ≡ option_map zeros_of (cond b (Some f) (forks_of forks id))) [
      | true ↦ refl
      | false ↦ forks-zeros forks id
    ]

-- ---- a file that has the bytes which it is given

data_of : Kind → List ℕ
data_of (kind.File file) = file.«data»
data_of (kind.Folder kept) = []

resource_of : Kind → List ℕ
resource_of (kind.File file) = file.resource
resource_of (kind.Folder kept) = []

module _ (contents : Contents) (catalog : Catalog) (forks : List FileForks) (r : Record) (own : FileForks) where
  abbrev f : FileRecord
  f = file_record_of r.1

  abbrev given : Item → Item
  given i = mapped_item (by_forks forks) (item_id r.1) i

  -- the item of the record's file
  of-file : is_file r.1 ≡ true → item_of contents catalog r ≡ file_of (has_thread catalog f.id) (contents f) r.0 f
  unfolding item_of
  of-file file = ap (λ (b : Bool). cond b (folder_of r.0 (dir_record_of r.1)) (file_of (has_thread catalog f.id) (contents f) r.0 f)) (not-dir r.1 file)

  data-is : (has : Bool) → data_of (file_of has (contents f) r.0 f).kind ≡ (contents f).0
  unfolding data_of file_of
  data-is has = refl

  resource-is : (has : Bool) → resource_of (file_of has (contents f) r.0 f).kind ≡ (contents f).1
  unfolding resource_of file_of
  resource-is has = refl

  data-given : (has : Bool) → forks_of forks (item_id r.1) ≡ Some own → data_of (given (file_of has (contents f) r.0 f)).kind ≡ own.data_fork
  unfolding data_of file_of
  data-given has some = ap (λ (o : Option FileForks). data_of (kind_with_forks o (file_of has (contents f) r.0 f).kind)) some

  resource-given : (has : Bool) → forks_of forks (item_id r.1) ≡ Some own → resource_of (given (file_of has (contents f) r.0 f)).kind ≡ own.resource_fork
  unfolding resource_of file_of
  resource-given has some = ap (λ (o : Option FileForks). resource_of (kind_with_forks o (file_of has (contents f) r.0 f).kind)) some

  module _ (holds : mapped_items (by_forks forks) (items_in contents catalog) ≡ items_in contents catalog) (found : item_with catalog (item_id r.1) ≡ Some r)
      (file : is_file r.1 ≡ true) (some : forks_of forks (item_id r.1) ≡ Some own) where
    abbrev items : Items
    items = items_in contents catalog

    got : fin.get items (item_id r.1) ≡ Some (item_of contents catalog r)
    got = items_are_records contents catalog (item_id r.1) ∙ ap (option_map (item_of contents catalog)) found

    item-given : item_of contents catalog r ≡ given (item_of contents catalog r)
    item-given = same_item (item_of contents catalog r) (given (item_of contents catalog r))
        (sym got ∙ ap (λ (m : Items). fin.get m (item_id r.1)) (sym holds) ∙ get-mapped (by_forks forks) items (item_id r.1) ∙ ap (option_map given) got)

    as-given : file_of (has_thread catalog f.id) (contents f) r.0 f ≡ given (file_of (has_thread catalog f.id) (contents f) r.0 f)
    as-given = sym (of-file file) ∙ item-given ∙ ap given (of-file file)

    pub own-data : (contents f).0 ≡ own.data_fork
    own-data = sym (data-is (has_thread catalog f.id)) ∙ ap (λ (i : Item). data_of i.kind) as-given ∙ data-given (has_thread catalog f.id) some

    pub own-resource : (contents f).1 ≡ own.resource_fork
    own-resource = sym (resource-is (has_thread catalog f.id)) ∙ ap (λ (i : Item). resource_of i.kind) as-given ∙ resource-given (has_thread catalog f.id) some

-- ---- the files of a list

module _ (target now : ℕ) (arrivals : List Arrival) (ids copy current : List ℕ) (whole : Each IsWhole arrivals) (sound : IsSound current)
    (laid : laid_volume (volume_of copy) target now arrivals ≡ Ok (record { volume = volume_of current; ids = ids })) where
  abbrev blocks : Blocks
  blocks = block_at current

  abbrev came_zeros : List FileForks
  came_zeros = came (map with_zeros arrivals) ids []

  holds-zeros : mapped_items (by_forks came_zeros) (items_in (contents_in blocks) (catalog_in blocks)) ≡ items_in (contents_in blocks) (catalog_in blocks)
  unfolding volume_of volume_in
  holds-zeros = ap (λ (v : Volume). v.items)
      (laid_forks_are_zeros (volume_of copy) target now arrivals (record { volume = volume_of current; ids = ids }) whole laid)

  zeros-for : (id : ℕ) (own : FileForks) → forks_of (came arrivals ids []) id ≡ Some own → forks_of came_zeros id ≡ Some (zeros_of own)
  zeros-for id own some =
      ap (λ (forks : List FileForks). forks_of forks id) (zeros-came arrivals ids []) ∙ forks-zeros (came arrivals ids []) id ∙ ap (option_map zeros_of) some

  one-long : (r : Record) → In r (catalog_in blocks) → is_file r.1 ≡ true → (own : FileForks) → forks_of (came arrivals ids []) (item_id r.1) ≡ Some own
      → AreLongAs (file_record_of r.1) own
  one-long r there file own some =
      let found = found_by_id (catalog_in blocks) r (later_from_distinct (catalog_in blocks) sound.blocks.ids.distinct) there (file-item r.1 file) in
      let zeros = zeros-for (item_id r.1) own some in
      let long : AreLong blocks (file_record_of r.1) =
      each_in _ (catalog_in blocks) r (files_are_long (block_count current) blocks (length-block_at current) sound.blocks) there file in
      let first = own-data (contents_in blocks) (catalog_in blocks) came_zeros r (zeros_of own) holds-zeros found file zeros in
      let second = own-resource (contents_in blocks) (catalog_in blocks) came_zeros r (zeros_of own) holds-zeros found file zeros in (
        sym (ap (λ (bytes : List ℕ). length bytes) first ∙ length-replicate {A = ℕ} (length own.data_fork) 0) ∙ long.is_data,
        sym (ap (λ (bytes : List ℕ). length bytes) second ∙ length-replicate {A = ℕ} (length own.resource_fork) 0) ∙ long.is_resource,
      )
    where
      file-item : (body : List ℕ) → is_file body ≡ true → is_item body ≡ true
      file-item body file = ap (λ (b : Bool). b || is_file body) (not-dir body file) ∙ file

  pub are-long : OfTheirFiles (came arrivals ids []) AreLongAs (catalog_in blocks)
  are-long = each_of _ (catalog_in blocks) one-long
