-- A sound volume of which one fork was changed is sound, keeps what calls keep but for the blocks that were written, and is the one that
-- the call makes.
use Rattle.std.proofs.Common.{◌≡◌, inl, inr, ℕ, ◌+◌, ◌*◌, ◌<◌, ◌≤◌, Bool, true, false, cond, ◌&&◌, ◌||◌, eqb, List, refl, sym, ◌∙◌, ap, subst, arith, Option, Some, None}
use Rattle.std.specs.Prelude.{Result, ℤ, ◌==◌}
use Rattle.std.specs.Cmp.{nat_cmp_total}
use Rattle.std.specs.Option.{option_map, option_or}
use Rattle.std.specs.FinMap as map
use Rattle.std.proofs.lemmas.Bool.{cases_lt, ne_eqb, eq-eqb, true≢false}
use Rattle.hfs_fields.specs.declared.mdb.Mdb.{Mdb}
use Rattle.hfs_fields.specs.declared.extent.Extent.{Extent}
use Rattle.hfs_fields.specs.declared.file_record.FileRecord.{FileRecord}
use Rattle.hfs_fields.specs.Keys.{cat_cmp}
use Rattle.hfs_fields.specs.Records.{is_file, is_bit_set, file_record_of}
use Rattle.hfs_btree.specs.Pairs.{Rises}
use Rattle.hfs_space.proofs.OwnedOnce.{distinct-once}
use Rattle.hfs_space.specs.Bitmap.{bitmap_len, is_used, clear_count}
use Rattle.hfs_space.specs.Owners.{catalog_fork, extents_in, owned_blocks, owners, is_stray_block}
use Rattle.hfs_space.specs.Sound.{IsTreeFile, AreForksSound, IsSpaceSound}
use Rattle.hfs_space.proofs.LawTypes.{OwnedAreWithin}
use Rattle.hfs_model.specs.declared.item.Item.{Item}
use Rattle.hfs_model.specs.declared.call.Fork.{Fork}
use Rattle.hfs_model.specs.declared.call.Fork.TheVariants.{DataFork, ResFork}
use Rattle.hfs_model.specs.Volume.{Volume, Items, Entry}
use Rattle.hfs_model.specs.Lawful.{AreLawful, IsLawful, Has}
use Rattle.hfs_model.specs.Changes.{change, changed_to}
use Rattle.hfs_model.proofs.KeepsCalls.{edit_keeps, same_entry}
use Rattle.hfs_catalog.proofs.FileRecords.{not-dir}
use Rattle.hfs_catalog.specs.Records.{Record, has_id, item_with, has_thread}
use Rattle.hfs_catalog.specs.Lookups.{thread_of}
use Rattle.hfs_catalog.specs.Items.{file_of, item_of, items_in}
use Rattle.hfs_catalog.specs.Sound.{AreIdsSound, AreCountsSound, IsSoundCatalog}
use Rattle.hfs_catalog.proofs.CatalogLawTypes.{ItemsAreRecords, SoundIsLawful}
use Rattle.hfs_catalog.proofs.Held.{with_id}
use Rattle.hfs_check.specs.Parts.{Blocks, mdb_in, extents_nodes, overflow_in, catalog_extents, catalog_nodes, catalog_in, owned_in, is_marked_in}
use Rattle.hfs_check.specs.Sound.{IsMdbSound, IsExtentsSound, IsCatalogFileSound, AreBlocksSound}
use Rattle.hfs_check.specs.VolumeOf.{contents_in, volume_in}
use Rattle.hfs_check.specs.Agree.{KeepsBut, is_stray_in}
use Rattle.hfs_check.proofs.LawTypes.{CatalogIsSound}
use Rattle.hfs_record_edits.specs.Sound.{IsNearlySound}
use Rattle.hfs_record_edits.specs.SettingLaws.{IsChoice}
use Rattle.hfs_record_edits.proofs.FromLawful.{sound}
use Rattle.hfs_record_edits.proofs.Items.{has_item}
use Rattle.hfs_record_edits.proofs.Made.{file_item, file_set}
use Rattle.hfs_record_edits.proofs.Maps.{get_put, same_item_at}
use Rattle.hfs_record_edits.proofs.SetItems as setting
use Rattle.hfs_record_edits.proofs.SetMakes.{set_numbers}
use Rattle.hfs_record_edits.proofs.Linked.{sound_once}
use Rattle.hfs_record_edits.proofs.Space.{owned_each, each_owned, distinct_owned}
use Rattle.hfs_record_edits.specs.Swaps.{Swaps}
use Rattle.hfs_record_edits.proofs.SwapLemmas.{swapped_find}
use Rattle.hfs_model.specs.Forks.{resized, written, fork_bytes, item_with_fork}
use Rattle.hfs_model.specs.ForkCalls.{to_set_eof, to_write_fork, set_eof, write_fork}
use Rattle.hfs_model.proofs.ForkLemmas.{same-sort}
use Rattle.hfs_call_patches.specs.Edits.{bytes_of, ChangesFork}
use Rattle.hfs_call_patches.specs.Laws.{HasBecome, ForkEditsAreSetEof, ForkEditsAreWriteFork}
use Rattle.hfs_call_patches.proofs.Files.{with_content, changed_item}
use Rattle.hfs_call_patches.proofs.Changed as changed
use Rattle.hfs_call_patches.proofs.Contents as contents

-- ---- space

-- a block that came had no owner and no mark; one that went has neither now; any other is as it was
space_moved : (blocks after : ℕ → List ℕ) (old new : Mdb) (owned now_owned come go : List ℕ) → ((b : ℕ) → owners now_owned b + owners go b ≡ owners owned b + owners come b)
    → ((b : ℕ) → owners come b ≤ 1) → ((b : ℕ) → 0 < owners come b → owners owned b ≡ 0) → ((b : ℕ) → 0 < owners come b → is_used after new.bitmap_start b ≡ true)
    → ((b : ℕ) → 0 < owners owned b → owners come b ≡ 0 → owners go b ≡ 0 → is_used after new.bitmap_start b ≡ is_used blocks old.bitmap_start b)
    → new.free_blocks ≡ clear_count after new.bitmap_start new.allocation_blocks → IsSpaceSound blocks old owned → IsSpaceSound after new now_owned
space_moved blocks after old new owned now_owned come go moved once none set others free h = record {
  once = distinct_owned now_owned (λ b. elim (cases_lt 0 (owners come b)) [
    | inl some ↦ omega (arith, moved b, once b, none b some)
    | inr none_came ↦ omega (arith, moved b, none_came, distinct-once owned h.once b)
  ]);
  marked = each_owned _ now_owned (λ b some. elim (cases_lt 0 (owners come b)) [
    | inl came ↦ set b came
    | inr none_came ↦
        let before : 0 < owners owned b = omega (arith, moved b, none_came, some) in
        let stays : owners go b ≡ 0 = omega (arith, moved b, none_came, some, distinct-once owned h.once b) in
        others b before (omega (arith, none_came)) stays ∙ owned_each _ owned h.marked b before
  ]);
  counted = free;
}

-- the stray blocks are those of before
stray_moved : (blocks after : ℕ → List ℕ) (old new : Mdb) (owned now_owned : List ℕ) (came went b : ℕ) → owners now_owned b + went ≡ owners owned b + came
    → owners owned b ≤ 1 → (0 < came → owners owned b ≡ 0) → (0 < came → is_used blocks old.bitmap_start b ≡ false) → (0 < went → is_used after new.bitmap_start b ≡ false)
    → (0 < went → came ≡ 0)
    → (came ≡ 0 → went ≡ 0 → is_used after new.bitmap_start b ≡ is_used blocks old.bitmap_start b) → is_stray_block after new now_owned b ≡ is_stray_block blocks old owned b
unfolding is_stray_block
stray_moved blocks after old new owned now_owned came went b moved once none clear cleared apart others = elim (cases_lt 0 came) [
  | inl some ↦
      let owned_now : (owners now_owned b == 0) ≡ false = ne_eqb (owners now_owned b) 0 (λ e. elim (cases_lt 0 went) [ inl gone ↦ omega (arith, apart gone, some) | inr stays ↦ omega (arith, moved, e, some, stays) ]) in
      (λ i. owned_now i && is_used after new.bitmap_start b) ∙ sym (and_false (owners owned b == 0)) ∙ (λ i. (owners owned b == 0) && sym (clear some) i)
  | inr none_came ↦ elim (cases_lt 0 went) [
    | inl gone ↦
        let had : (owners owned b == 0) ≡ false = ne_eqb (owners owned b) 0 (λ e. omega (arith, moved, e, none_came, gone)) in
        (λ i. (owners now_owned b == 0) && cleared gone i) ∙ and_false (owners now_owned b == 0) ∙ (λ i. sym had i && is_used blocks old.bitmap_start b)
    | inr stays ↦
        let same : owners now_owned b ≡ owners owned b = omega (arith, moved, none_came, stays) in
        λ i. (same i == 0) && others (omega (arith, none_came)) (omega (arith, stays)) i
  ]
]
  where
    and_false : (t : Bool) → (t && false) ≡ false
    and_false true = refl
    and_false false = refl

-- a fork of the record's item has the bytes of the file's
pub is_file_bytes : (old : Blocks) (fork : Fork) (r : Record) → is_file r.1 ≡ true → fork_bytes fork (item_of (contents_in old) (catalog_in old) r).kind ≡ bytes_of old fork (file_record_of r.1)
unfolding file_of contents_in
is_file_bytes old fork r is = ap (λ (x : Item). fork_bytes fork x.kind) (file_item (contents_in old) (catalog_in old) r (not-dir r.1 is)) ∙ by fork
  where
    by : (k : Fork) → fork_bytes k (file_of (has_thread (catalog_in old) (file_record_of r.1).id) (contents_in old (file_record_of r.1)) r.0 (file_record_of r.1)).kind ≡ bytes_of old k (file_record_of r.1)
    by DataFork = refl
    by ResFork = refl

-- ---- one fork was changed

module _ (law : OwnedAreWithin) (records : ItemsAreRecords) (catalogs : CatalogIsSound) (total id : ℕ) (fork : Fork) (r : Record) (bytes : List ℕ) (now : ℕ) (wrote : List ℕ) (old new : Blocks) (h : AreBlocksSound total old)
    (was : item_with (catalog_in old) id ≡ Some r) (d : ChangesFork fork r bytes now wrote old new) where
  abbrev mdb : Mdb
  mdb = mdb_in old

  abbrev m : Mdb
  m = record mdb { modified = now; free_blocks = d.volume.free }

  abbrev s : Record
  s = changed.s catalogs total id fork r bytes now wrote old new h was d

  same_mdb : m ≡ mdb_in new
  same_mdb = sym d.volume.mdb

  old_catalog : IsSoundCatalog mdb.next_id (catalog_in old)
  old_catalog = catalogs total old h

  -- ---- the catalog's file

  same_fork : (x : Mdb) → x ≡ m → catalog_fork x ≡ catalog_fork mdb
  unfolding catalog_fork
  same_fork x e = ap catalog_fork e

  same_extents : catalog_extents new ≡ catalog_extents old
  unfolding catalog_extents
  same_extents = ap (extents_in (overflow_in new)) (same_fork (mdb_in new) d.volume.mdb) ∙ changed.catalog_stays catalogs total id fork r bytes now wrote old new h was d

  -- ---- the catalog

  swap : Swaps (Some r) (Some s) (catalog_in old) (catalog_in new)
  swap = changed.swap catalogs total id fork r bytes now wrote old new h was d

  rises : Rises cat_cmp (catalog_in new)
  unfolding catalog_in
  rises = d.set.tree.ordered.rises

  pub near : IsNearlySound (catalog_in new)
  near = setting.near records mdb.next_id id r s (catalog_in old) (catalog_in new) old_catalog rises (record { swap = swap; was = was; alike = changed.alike catalogs total id fork r bytes now wrote old new h was d; valence = changed.valence catalogs total id fork r bytes now wrote old new h was d })

  numbers : AreCountsSound m (catalog_in new)
  numbers = set_numbers id r s (catalog_in old) (catalog_in new) (record { swap = swap; was = was; alike = changed.alike catalogs total id fork r bytes now wrote old new h was d; valence = changed.valence catalogs total id fork r bytes now wrote old new h was d }) mdb m refl refl refl refl h.counts

  -- ---- space

  unmarked : (b : ℕ) → 0 < owners d.come b → owners (owned_in old) b ≡ 0
  unmarked b came = elim (cases_lt 0 (owners (owned_in old) b)) [
    | inl some ↦ (let none = contents.none_come catalogs total id fork r bytes now wrote old new h was d b some in absurd (omega (arith, none, came)))
    | inr none ↦ omega (arith, none)
  ]

  low : (b : ℕ) → 0 < owners (owned_in old) b → b < mdb.allocation_blocks
  low = changed.low catalogs total id fork r bytes now wrote old new h was d law

  gone_owned : (b : ℕ) → owners d.go b ≤ owners (owned_in old) b
  gone_owned b = omega (arith, changed.moved catalogs total id fork r bytes now wrote old new h was d b, changed.old_owns catalogs total id fork r bytes now wrote old new h was d b)

  abbrev owned_now : List ℕ
  owned_now = owned_blocks m (overflow_in new) (catalog_in new)

  moved : (b : ℕ) → owners owned_now b + owners d.go b ≡ owners (owned_in old) b + owners d.come b
  moved = changed.owned_after catalogs total id fork r bytes now wrote old new h was d

  space : IsSpaceSound new m owned_now
  space =
      space_moved old new mdb m (owned_in old) owned_now d.come d.go moved d.moves.once unmarked d.bits.set
      (λ b some none stays. let within = low b some in d.bits.others b (omega (arith, within)) none stays) d.volume.counted h.space

  -- ---- the whole

  sound_mdb : IsMdbSound total m
  sound_mdb = record {
    signature = h.mdb.signature;
    some = h.mdb.some;
    least_size = h.mdb.least_size;
    whole_size = h.mdb.whole_size;
    bitmap_behind = h.mdb.bitmap_behind;
    bitmap_before = h.mdb.bitmap_before;
    area = h.mdb.area;
    next_id = h.mdb.next_id;
  }

  carried : (extents : List Extent) (size : ℕ) → IsTreeFile mdb extents size → IsTreeFile m extents size
  carried extents size t = record { within = t.within; room = t.room; node = t.node }

  sound_extents : IsExtentsSound m (extents_nodes new)
  sound_extents = record {
    file = carried _ _ h.extents.file;
    shape = record {
      structure = d.extents.edits.sound.structure;
      counts = d.extents.edits.sound.counts;
      within = subst (λ (n : ℕ). 512 * n ≤ mdb.extents_file_size) (sym d.extents.edits.frame.nodes) h.extents.shape.within;
    };
    forks = changed.fork_keys catalogs total id fork r bytes now wrote old new h was d;
    ordered = d.extents.edits.sound.ordered;
  }

  sound_file : IsCatalogFileSound m (catalog_extents old) (catalog_nodes new)
  sound_file = record {
    file = carried _ _ h.catalog.file;
    shape = record {
      structure = d.set.tree.structure;
      counts = d.set.tree.counts;
      within = subst (λ (n : ℕ). 512 * n ≤ mdb.catalog_file_size) (sym d.set.frame.nodes) h.catalog.shape.within;
    };
  }

  pub sound_now : IsSoundCatalog mdb.next_id (catalog_in new) → AreBlocksSound total new
  unfolding owned_in
  sound_now catalog = record {
    mdb = subst (IsMdbSound total) same_mdb sound_mdb;
    extents = subst (λ (x : Mdb). IsExtentsSound x (extents_nodes new)) same_mdb sound_extents;
    catalog = subst (λ (x : Mdb). IsCatalogFileSound x (catalog_extents new) (catalog_nodes new)) same_mdb (subst (λ (es : List Extent). IsCatalogFileSound m es (catalog_nodes new)) (sym same_extents) sound_file);
    records = catalog.records;
    ids = subst (λ (x : Mdb). AreIdsSound x.next_id (catalog_in new)) same_mdb catalog.ids;
    names = record { records = catalog.names; index = d.set.index };
    places = record { records = catalog.places; index = d.set.tree.ordered.keys };
    valences = catalog.valences;
    counts = subst (λ (x : Mdb). AreCountsSound x (catalog_in new)) same_mdb numbers;
    forks = subst (λ (x : Mdb). AreForksSound x (overflow_in new) (catalog_in new)) same_mdb (changed.forks catalogs total id fork r bytes now wrote old new h was d law);
    space = subst (λ (x : Mdb). IsSpaceSound new x (owned_blocks x (overflow_in new) (catalog_in new))) same_mdb space;
  }

  -- ---- what stays

  here : (b : ℕ) → is_used new (mdb_in new).bitmap_start b ≡ is_used new mdb.bitmap_start b
  here b = ap (λ (x : Mdb). is_used new x.bitmap_start b) (sym same_mdb)

  owned_same : (b : ℕ) → owners (owned_in new) b + owners d.go b ≡ owners (owned_in old) b + owners d.come b
  unfolding owned_in
  owned_same b = ap (λ (n : ℕ). n + owners d.go b) (λ i. owners (owned_blocks (sym same_mdb i) (overflow_in new) (catalog_in new)) b) ∙ moved b

  none_past : (i : ℕ) → mdb.allocation_blocks ≤ i → (owners d.come i ≡ 0) × (owners d.go i ≡ 0)
  none_past i past = (
    elim (cases_lt 0 (owners d.come i)) [
      | inl some ↦ absurd (let within = d.moves.within i some in omega (arith, within, past))
      | inr none ↦ omega (arith, none)
    ],
    elim (cases_lt 0 (owners d.go i)) [
      | inl some ↦ absurd (let owns = gone_owned i in let within = low i (omega (arith, owns, some)) in omega (arith, within, past))
      | inr none ↦ omega (arith, none)
    ],
  )

  spare_same : (i : ℕ) → mdb.allocation_blocks ≤ i → i < 4096 * bitmap_len mdb.allocation_blocks → is_marked_in new i ≡ is_marked_in old i
  unfolding is_marked_in
  spare_same i past within = let none = none_past i past in here i ∙ d.bits.others i within none.0 none.1

  stray_same : (b : ℕ) → b < mdb.allocation_blocks → is_stray_in new b ≡ is_stray_in old b
  stray_same b within =
      stray_moved old new mdb (mdb_in new) (owned_in old) (owned_in new) (owners d.come b) (owners d.go b) b (owned_same b) (distinct-once (owned_in old) h.space.once b) (unmarked b)
      (d.moves.free b) (λ some. here b ∙ d.bits.clear b some)
      (λ some. let owns = gone_owned b in contents.none_come catalogs total id fork r bytes now wrote old new h was d b (omega (arith, owns, some)))
      (λ none stays. here b ∙ d.bits.others b (omega (arith, within)) none stays)

  pub keeps : KeepsBut wrote old new
  keeps = record {
    mdb = d.volume.beside;
    bits = λ i spare. spare_same i spare.past spare.within;
    others = d.volume.others;
    extents = d.extents.edits.frame;
    catalog = d.set.frame;
    catalog_file = same_extents;
    stray = stray_same;
  }

  -- ---- the items

  id_of : (q : ℕ) → (has_id q r ≡ eqb id q) × (has_id q s ≡ eqb id q)
  id_of q =
      let own = with_id (catalog_in old) id r was in
      let same = changed.alike catalogs total id fork r bytes now wrote old new h was d in
      let one : has_id q r ≡ eqb id q = λ i. own.1 i && eqb (own.2 i) q in
      (one, (λ i. (same.dir i || same.file i) && eqb (same.id i) q) ∙ one)

  items_after : (q : ℕ) → item_with (catalog_in new) q ≡ cond (eqb id q) (Some s) (item_with (catalog_in old) q)
  items_after q =
      let both = id_of q in
      swapped_find (has_id q) (Some r) (Some s) (catalog_in old) (catalog_in new) swap ((sound_once mdb.next_id (catalog_in old) old_catalog).items q) (near.once q)
      ∙ (λ i. option_or (cond (both.1 i) (Some s) None) (cond (both.0 i) None (item_with (catalog_in old) q)))
      ∙ by (eqb id q) (item_with (catalog_in old) q)
    where
      by : (t : Bool) (o : Option Record) → option_or (cond t (Some s) None) (cond t None o) ≡ cond t (Some s) o
      by true o = refl
      by false o = refl

  threads : (k : ℕ) → thread_of (catalog_in new) k ≡ thread_of (catalog_in old) k
  threads = setting.threads records mdb.next_id id r s (catalog_in old) (catalog_in new) old_catalog rises (record { swap = swap; was = was; alike = changed.alike catalogs total id fork r bytes now wrote old new h was d; valence = changed.valence catalogs total id fork r bytes now wrote old new h was d })

  kept_items : items_in (contents_in new) (catalog_in new) ≡ map.insert (items_in (contents_in old) (catalog_in old)) id (item_of (contents_in new) (catalog_in new) s)
  kept_items = map.same_map nat_cmp_total map.nat_cmp-IsAntisymmetric (items_in (contents_in new) (catalog_in new)) (map.insert (items_in (contents_in old) (catalog_in old)) id (item_of (contents_in new) (catalog_in new) s)) (λ q.
      records (contents_in new) (catalog_in new) q ∙ ap (option_map (item_of (contents_in new) (catalog_in new))) (items_after q)
      ∙ by q (eqb id q) refl
      ∙ sym (get_put (items_in (contents_in old) (catalog_in old)) id (item_of (contents_in new) (catalog_in new) s) q ∙ ap (cond (eqb id q) (Some (item_of (contents_in new) (catalog_in new) s))) (records (contents_in old) (catalog_in old) q)))
    where
      others : (q : ℕ) (o : Option Record) → eqb id q ≡ false → item_with (catalog_in old) q ≡ o → option_map (item_of (contents_in new) (catalog_in new)) o ≡ option_map (item_of (contents_in old) (catalog_in old)) o
      others q None other e = refl
      others q (Some x) other e =
          let apart : q ≡ id → ⊥ = λ same. true≢false (sym (eq-eqb id q (sym same)) ∙ other) in
          ap Some (same_item_at (contents_in old) (contents_in new) (catalog_in old) (catalog_in new) q x (with_id (catalog_in old) q x e).2
          (contents.keeps_others catalogs total id fork r bytes now wrote old new h was d q x apart e) (threads q))

      by : (q : ℕ) (b : Bool) → eqb id q ≡ b → option_map (item_of (contents_in new) (catalog_in new)) (cond b (Some s) (item_with (catalog_in old) q)) ≡ cond b (Some (item_of (contents_in new) (catalog_in new) s)) (option_map (item_of (contents_in old) (catalog_in old)) (item_with (catalog_in old) q))
      by q true e = refl
      by q false e = others q (item_with (catalog_in old) q) e refl

  abbrev f : FileRecord
  f = file_record_of r.1

  abbrev item : Item
  item = item_of (contents_in old) (catalog_in old) r

  item_now : item_of (contents_in new) (catalog_in new) s ≡ item_with_fork mdb.allocation_block_size fork bytes now item
  item_now =
      file_set r d.file d.was d.set.value (changed.g_id catalogs total id fork r bytes now wrote old new h was d) (λ x. with_content fork bytes (contents_in old x)) (contents_in new) (catalog_in old) (catalog_in new) threads
      (contents.own_contents catalogs total id fork r bytes now wrote old new h was d)
      ∙ ap (file_of (has_thread (catalog_in old) f.id) (with_content fork bytes (contents_in old f)) r.0) d.file_is
      ∙ changed_item (has_thread (catalog_in old) f.id) (contents_in old f) r.0 f mdb.allocation_block_size fork bytes d.first now
      ∙ ap (item_with_fork mdb.allocation_block_size fork bytes now) (sym (file_item (contents_in old) (catalog_in old) r (not-dir r.1 d.was)))

  pub held : items_in (contents_in new) (catalog_in new) ≡ map.insert (items_in (contents_in old) (catalog_in old)) id (item_with_fork mdb.allocation_block_size fork bytes now item)
  held = kept_items ∙ ap (map.insert (items_in (contents_in old) (catalog_in old)) id) item_now

  -- ---- the volume

  abbrev volume_with : Items → Mdb → Volume
  volume_with items x = record { items = items; next_id = x.next_id; changed = x.modified; hardware_locked = is_bit_set 7 x.attributes.0; software_locked = is_bit_set 15 x.attributes.0; block_size = x.allocation_block_size }

  pub made : volume_in new ≡ changed_to (volume_in old) (map.insert (volume_in old).items id (item_with_fork mdb.allocation_block_size fork bytes now item)) now
  unfolding volume_in
  made = λ i. volume_with (held i) (d.volume.mdb i)

-- ---- a call

module _ (law : OwnedAreWithin) (records : ItemsAreRecords) (catalogs : CatalogIsSound) (lawful : SoundIsLawful) (make : List ℕ → List ℕ) (chosen : Result Entry ℤ) (total : ℕ) (fork : Fork) (r : Record) (now : ℕ) (wrote : List ℕ) (old new : Blocks)
    (h : AreBlocksSound total old) (c : IsChoice old chosen r) (d : ChangesFork fork r (make (bytes_of old fork (file_record_of r.1))) now wrote old new) where
  abbrev size : ℕ
  size = (mdb_in old).allocation_block_size

  abbrev before : Item
  before = item_of (contents_in old) (catalog_in old) r

  abbrev edit : Item → Item
  edit i = item_with_fork size fork (make (fork_bytes fork i.kind)) now i

  abbrev outcome : Volume
  outcome = (change (volume_in old) chosen (λ e m. map.insert m e.0 (edit e.1)) now).0

  edited : outcome ≡ changed_to (volume_in old) (map.insert (volume_in old).items c.id (edit before)) now
  edited = ap (λ (e : Result Entry ℤ). (change (volume_in old) e (λ e m. map.insert m e.0 (edit e.1)) now).0) c.is

  bytes_same : make (fork_bytes fork before.kind) ≡ make (bytes_of old fork (file_record_of r.1))
  bytes_same = ap make (is_file_bytes old fork r d.was)

  is_outcome : volume_in new ≡ outcome
  is_outcome =
      made law records catalogs total c.id fork r (make (bytes_of old fork (file_record_of r.1))) now wrote old new h c.was d
      ∙ (λ i. changed_to (volume_in old) (map.insert (volume_in old).items c.id (item_with_fork size fork (sym bytes_same i) now before)) now)
      ∙ sym edited

  old_lawful : IsLawful (volume_in old)
  unfolding volume_in
  old_lawful = lawful (contents_in old) (mdb_in old).next_id (catalog_in old) h.mdb.next_id (catalogs total old h)

  has : Has (volume_in old).items c.id before
  unfolding volume_in
  has = has_item records (contents_in old) (catalog_in old) c.id r c.was

  made_lawful : IsLawful outcome
  made_lawful = edit_keeps (volume_in old) chosen edit now (λ i. refl, λ i. refl, λ i. same-sort size fork (make (fork_bytes fork i.kind)) i.kind)
      (λ e is. subst (λ (x : Entry). Has (volume_in old).items x.0 x.1) (same_entry (c.id, before) e (sym c.is ∙ is)) has) old_lawful

  new_lawful : AreLawful (items_in (contents_in new) (catalog_in new)) (mdb_in old).next_id
  unfolding volume_in
  new_lawful = subst (λ (n : ℕ). AreLawful (items_in (contents_in new) (catalog_in new)) n) (ap (λ (x : Mdb). x.next_id) d.volume.mdb) (subst IsLawful (sym is_outcome) made_lawful)

  pub has_become : HasBecome wrote outcome total old new
  has_become = record {
    sound = sound_now law records catalogs total c.id fork r (make (bytes_of old fork (file_record_of r.1))) now wrote old new h c.was d
        (sound records (contents_in new) (mdb_in old).next_id (catalog_in new) (near law records catalogs total c.id fork r (make (bytes_of old fork (file_record_of r.1))) now wrote old new h c.was d) new_lawful);
    kept = keeps law records catalogs total c.id fork r (make (bytes_of old fork (file_record_of r.1))) now wrote old new h c.was d;
    volume = is_outcome;
  }

-- ---- the calls

pub edits_are_set_eof : OwnedAreWithin → ItemsAreRecords → CatalogIsSound → SoundIsLawful → ForkEditsAreSetEof
unfolding set_eof
edits_are_set_eof law records catalogs lawful total dir name fork length now r blocks old new h c d =
    has_become law records catalogs lawful (resized length) (to_set_eof (volume_in old) dir name length) total fork r now blocks old new h c d

pub edits_are_write_fork : OwnedAreWithin → ItemsAreRecords → CatalogIsSound → SoundIsLawful → ForkEditsAreWriteFork
unfolding write_fork
edits_are_write_fork law records catalogs lawful total dir name fork offset bytes now r blocks old new h c d =
    has_become law records catalogs lawful (written offset bytes) (to_write_fork (volume_in old) dir name fork offset bytes) total fork r now blocks old new h c d
