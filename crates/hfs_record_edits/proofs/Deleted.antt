-- A sound volume from which a file was deleted is sound, keeps what calls keep, and is the one that the step makes.
use Rattle.std.proofs.Common.{◌≡◌, inl, inr, ℕ, ◌+◌, ◌*◌, ◌<◌, ◌≤◌, List, refl, sym, ◌∙◌, ap, subst, arith, Option, Some, None}
use Rattle.std.specs.Cmp.{nat_cmp_total}
use Rattle.std.specs.Option.{option_map}
use Rattle.std.specs.FinMap as map
use Rattle.std.proofs.lemmas.Bool.{cases_lt}
use Rattle.hfs_fields.specs.declared.mdb.Mdb.{Mdb}
use Rattle.hfs_fields.specs.declared.extent.Extent.{Extent}
use Rattle.hfs_fields.specs.Counts.{with_counts}
use Rattle.hfs_fields.specs.Records.{is_bit_set}
use Rattle.hfs_btree_edits.proofs.KeptKeyLemmas.{keys-hold}
use Rattle.hfs_space.proofs.OwnedOnce.{distinct-once}
use Rattle.hfs_space.specs.Bitmap.{bitmap_len, is_used, clear_count}
use Rattle.hfs_space.specs.Extents.{Overflow}
use Rattle.hfs_space.specs.Owners.{owned_blocks, owners}
use Rattle.hfs_space.specs.Sound.{IsTreeFile, AreForksSound, IsSpaceSound}
use Rattle.hfs_space.proofs.LawTypes.{AreBlocksWithin, OwnedAreWithin}
use Rattle.hfs_space.specs.TreeKeys.{ext_keys}
use Rattle.hfs_record_edits.specs.Overflows.{without_file}
use Rattle.hfs_catalog.specs.Records.{Record, Catalog, item_with}
use Rattle.hfs_catalog.specs.Items.{Contents, item_of, items_in}
use Rattle.hfs_catalog.proofs.CatalogLawTypes.{ItemsAreRecords, SoundIsLawful}
use Rattle.hfs_catalog.specs.Sound.{AreIdsSound, AreCountsSound, IsSoundCatalog}
use Rattle.hfs_model.specs.declared.call.Call.{Call}
use Rattle.hfs_model.specs.Volume.{Volume, Items}
use Rattle.hfs_model.specs.Lawful.{AreLawful, IsLawful}
use Rattle.hfs_model.specs.Laws.{StepKeepsLawful}
use Rattle.hfs_model.specs.Step.{step}
use Rattle.hfs_check.specs.Parts.{Blocks, mdb_in, extents_nodes, overflow_in, catalog_extents, catalog_nodes, catalog_in, owned_in, is_marked_in}
use Rattle.hfs_check.specs.Sound.{IsMdbSound, IsForkKey, IsExtentsSound, IsCatalogFileSound, AreBlocksSound}
use Rattle.hfs_check.proofs.LawTypes.{CatalogIsSound}
use Rattle.hfs_check.specs.VolumeOf.{contents_in, volume_in}
use Rattle.hfs_check.proofs.Stays.{KeepsVolume}
use Rattle.hfs_record_edits.proofs.ChangesLaws.{KeepsContents}
use Rattle.hfs_record_edits.specs.Deletion.{MakesDeletion, DeletionsAreSteps}
use Rattle.hfs_record_edits.specs.Laws.{IsStepped}
use Rattle.hfs_record_edits.proofs.FromLawful.{sound}
use Rattle.hfs_catalog.proofs.Held.{with_id}
use Rattle.hfs_record_edits.proofs.Maps.{same_item_at}
use Rattle.hfs_record_edits.proofs.Space.{owned_each, each_owned, distinct_owned}
use Rattle.hfs_record_edits.proofs.DroppedSpace.{stray_same}
use Rattle.hfs_record_edits.proofs.DeletedFrames.{overflow_is, catalog_file_stays, contents_kept}

-- ---- items

-- the items of a catalog are the same where its files have the bytes that they had
same_items : ItemsAreRecords → (c d : Contents) (catalog : Catalog) → KeepsContents c d catalog → items_in d catalog ≡ items_in c catalog
same_items law c d catalog forks = map.same_map nat_cmp_total map.nat_cmp-IsAntisymmetric (items_in d catalog) (items_in c catalog) (λ q. law d catalog q ∙ by q (item_with catalog q) refl ∙ sym (law c catalog q))
  where
    by : (q : ℕ) (o : Option Record) → item_with catalog q ≡ o → option_map (item_of d catalog) o ≡ option_map (item_of c catalog) o
    by q None is = refl
    by q (Some y) is = ap Some (same_item_at c d catalog catalog q y (with_id catalog q y is).2 (forks q y is) refl)

-- ---- space

-- some blocks have lost their one owner and their marks
space_less : (blocks after : ℕ → List ℕ) (old new : Mdb) (owned now_owned freed : List ℕ) → ((b : ℕ) → owners now_owned b + owners freed b ≡ owners owned b)
    → ((b : ℕ) → 0 < owners owned b → owners freed b ≡ 0 → is_used after new.bitmap_start b ≡ is_used blocks old.bitmap_start b)
    → new.free_blocks ≡ clear_count after new.bitmap_start new.allocation_blocks → IsSpaceSound blocks old owned → IsSpaceSound after new now_owned
space_less blocks after old new owned now_owned freed fewer bits free h = record {
  once = distinct_owned now_owned (λ b. omega (arith, fewer b, distinct-once owned h.once b));
  marked = each_owned _ now_owned (λ b some.
      let before : 0 < owners owned b = omega (arith, fewer b, some) in
      let none : owners freed b ≡ 0 = omega (arith, some, fewer b, distinct-once owned h.once b) in
      bits b before none ∙ owned_each _ owned h.marked b before);
  counted = free;
}

module _ (law : OwnedAreWithin) (c : Call) (id : ℕ) (freed : List ℕ) (counts : Mdb) (total : ℕ) (old new : Blocks) (h : AreBlocksSound total old) (d : MakesDeletion c id freed counts old new)
    (catalog : IsSoundCatalog counts.next_id (catalog_in new)) where
  abbrev m : Mdb
  m = with_counts counts (mdb_in old)

  same_mdb : m ≡ mdb_in new
  same_mdb = sym d.edits.mdb

  abbrev rest : Overflow
  rest = without_file id (overflow_in old)

  same_overflow : rest ≡ overflow_in new
  same_overflow = sym (overflow_is counts total id old new h d.edits d.given d.overflow)

  same_extents : catalog_extents old ≡ catalog_extents new
  same_extents = sym (catalog_file_stays counts total id old new h d.edits d.given d.overflow)

  -- ---- the master directory block and the two files

  sound_mdb : IsMdbSound total m
  sound_mdb = record {
    signature = h.mdb.signature;
    some = h.mdb.some;
    least_size = h.mdb.least_size;
    whole_size = h.mdb.whole_size;
    bitmap_behind = h.mdb.bitmap_behind;
    bitmap_before = h.mdb.bitmap_before;
    area = h.mdb.area;
    next_id = d.least;
  }

  carried : (extents : List Extent) (size : ℕ) → IsTreeFile (mdb_in old) extents size → IsTreeFile m extents size
  carried extents size t = record { within = t.within; room = t.room; node = t.node }

  sound_extents : IsExtentsSound m (extents_nodes new)
  sound_extents = record {
    file = carried _ _ h.extents.file;
    shape = record {
      structure = d.overflow.shrunk.sound.structure;
      counts = d.overflow.shrunk.sound.counts;
      within = subst (λ (n : ℕ). 512 * n ≤ (mdb_in old).extents_file_size) (sym d.overflow.shrunk.frame.nodes) h.extents.shape.within;
    };
    forks = keys-hold ext_keys (extents_nodes old) (extents_nodes new) d.overflow.shrunk.keys IsForkKey h.extents.forks;
    ordered = d.overflow.shrunk.sound.ordered;
  }

  sound_file : IsCatalogFileSound m (catalog_extents old) (catalog_nodes new)
  sound_file = record {
    file = carried _ _ h.catalog.file;
    shape = record {
      structure = d.tree.structure;
      counts = d.tree.counts;
      within = subst (λ (n : ℕ). 512 * n ≤ (mdb_in old).catalog_file_size) (sym d.frame.nodes) h.catalog.shape.within;
    };
  }

  sound_counts : AreCountsSound m (catalog_in new)
  sound_counts = record { root_files = d.numbers.root_files; root_folders = d.numbers.root_folders; files = d.numbers.files; folders = d.numbers.folders }

  -- ---- space

  all_within : AreBlocksWithin (mdb_in old) (owned_in old)
  unfolding owned_in catalog_extents
  all_within = law (mdb_in old) (overflow_in old) (catalog_in old) h.extents.file h.catalog.file h.forks

  within : (b : ℕ) → 0 < owners (owned_in old) b → b < (mdb_in old).allocation_blocks
  within b some = owned_each (λ (x : ℕ). x < (mdb_in old).allocation_blocks) (owned_in old) all_within b some

  sound_space : IsSpaceSound new m (owned_blocks m rest (catalog_in new))
  sound_space =
      space_less old new (mdb_in old) m (owned_in old) (owned_blocks m rest (catalog_in new)) freed d.owned
      (λ b some none. let low = within b some in d.cleared.others b (omega (arith, low)) none) d.free h.space

  -- ---- the whole

  pub deleted_sound : AreBlocksSound total new
  unfolding owned_in
  deleted_sound = record {
    mdb = subst (IsMdbSound total) same_mdb sound_mdb;
    extents = subst (λ (x : Mdb). IsExtentsSound x (extents_nodes new)) same_mdb sound_extents;
    catalog = subst (λ (x : Mdb). IsCatalogFileSound x (catalog_extents new) (catalog_nodes new)) same_mdb (subst (λ (es : List Extent). IsCatalogFileSound m es (catalog_nodes new)) same_extents sound_file);
    records = catalog.records;
    ids = subst (λ (x : Mdb). AreIdsSound x.next_id (catalog_in new)) same_mdb catalog.ids;
    names = record { records = catalog.names; index = d.index };
    places = record { records = catalog.places; index = d.tree.ordered.keys };
    valences = catalog.valences;
    counts = subst (λ (x : Mdb). AreCountsSound x (catalog_in new)) same_mdb sound_counts;
    forks = subst (λ (x : Mdb). AreForksSound x (overflow_in new) (catalog_in new)) same_mdb (subst (λ (o : Overflow). AreForksSound m o (catalog_in new)) same_overflow d.forks);
    space = subst (λ (x : Mdb). IsSpaceSound new x (owned_blocks x (overflow_in new) (catalog_in new))) same_mdb
        (subst (λ (o : Overflow). IsSpaceSound new m (owned_blocks m o (catalog_in new))) same_overflow sound_space);
  }

  -- ---- what stays

  owned_after : (b : ℕ) → owners (owned_in new) b + owners freed b ≡ owners (owned_in old) b
  unfolding owned_in
  owned_after b = ap (λ (n : ℕ). n + owners freed b) (λ i. owners (owned_blocks (sym same_mdb i) (sym same_overflow i) (catalog_in new)) b) ∙ d.owned b

  here : (b : ℕ) → is_used new (mdb_in new).bitmap_start b ≡ is_used new (mdb_in old).bitmap_start b
  here b = ap (λ (x : Mdb). is_used new x.bitmap_start b) (sym same_mdb)

  -- a bit that stands for no allocation block is none of the file's
  spare_same : (i : ℕ) → (mdb_in old).allocation_blocks ≤ i → i < 4096 * bitmap_len (mdb_in old).allocation_blocks → is_marked_in new i ≡ is_marked_in old i
  unfolding is_marked_in
  spare_same i past low =
      let nobody : owners freed i ≡ 0 = elim (cases_lt 0 (owners freed i)) [
        | inl some ↦ (let own = owned_after i in let before = within i (omega (arith, own, some)) in absurd (omega (arith, before, past)))
        | inr none ↦ omega (arith, none)
      ] in
      here i ∙ d.cleared.others i low nobody

  pub deleted_keeps : KeepsVolume old new
  deleted_keeps = record {
    mdb = d.beside;
    bits = λ i spare. spare_same i spare.past spare.within;
    others = d.edits.others;
    extents = d.overflow.shrunk.frame;
    catalog = d.frame;
    catalog_file = catalog_file_stays counts total id old new h d.edits d.given d.overflow;
    stray = λ b low.
        stray_same old new (mdb_in old) (mdb_in new) (owned_in old) (owned_in new) (owners freed b) b (owned_after b)
        (λ none. here b ∙ d.cleared.others b (omega (arith, low)) none) (λ some. here b ∙ d.cleared.clear b some);
  }

-- ---- the volume that the step makes

module _ (records : ItemsAreRecords) (within : OwnedAreWithin) (catalogs : CatalogIsSound) (lawful : SoundIsLawful) (keeps : StepKeepsLawful) (c : Call) (id : ℕ) (freed : List ℕ) (counts : Mdb) (total : ℕ) (old new : Blocks)
    (h : AreBlocksSound total old) (d : MakesDeletion c id freed counts old new) where
  held : items_in (contents_in new) (catalog_in new) ≡ d.items
  held = same_items records (contents_in old) (contents_in new) (catalog_in new) (contents_kept counts total id old new h d.edits d.given d.overflow d.files) ∙ d.held

  old_lawful : IsLawful (volume_in old)
  unfolding volume_in
  old_lawful = lawful (contents_in old) (mdb_in old).next_id (catalog_in old) h.mdb.next_id (catalogs total old h)

  new_lawful : AreLawful (items_in (contents_in new) (catalog_in new)) counts.next_id
  new_lawful =
      let stepped : IsLawful (record (volume_in old) { items = d.items; next_id = counts.next_id; changed = counts.modified }) = subst IsLawful d.made (keeps (volume_in old) c old_lawful) in
      subst (λ (items : Items). AreLawful items counts.next_id) (sym held) stepped

  new_catalog : IsSoundCatalog counts.next_id (catalog_in new)
  new_catalog = sound records (contents_in new) counts.next_id (catalog_in new) d.near new_lawful

  abbrev volume_with : Items → Mdb → Volume
  volume_with items mdb = record { items = items; next_id = mdb.next_id; changed = mdb.modified; hardware_locked = is_bit_set 7 mdb.attributes.0; software_locked = is_bit_set 15 mdb.attributes.0; block_size = mdb.allocation_block_size }

  made_volume : volume_in new ≡ (step (volume_in old) c).0
  unfolding volume_in
  made_volume = (λ i. volume_with (held i) (d.edits.mdb i)) ∙ sym d.made

  stepped : IsStepped c total old new
  stepped = record {
    sound = deleted_sound within c id freed counts total old new h d new_catalog;
    kept = deleted_keeps within c id freed counts total old new h d new_catalog;
    volume = made_volume;
  }

pub deletions_are_steps : ItemsAreRecords → OwnedAreWithin → CatalogIsSound → SoundIsLawful → StepKeepsLawful → DeletionsAreSteps
deletions_are_steps records within catalogs lawful keeps c id freed counts total old new h d = stepped records within catalogs lawful keeps c id freed counts total old new h d
