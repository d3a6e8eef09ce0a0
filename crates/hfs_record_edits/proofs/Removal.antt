-- An item that Delete chose, whose record goes with its thread's, and its folder's record afterwards.
use Rattle.std.proofs.Common.{◌≡◌, ℕ, ◌+◌, ◌-◌, ◌<◌, Bool, true, false, eqb, List, count_by, refl, sym, ◌∙◌, ap, arith, Option, Some, None}
use Rattle.std.specs.List.{sum_by}
use Rattle.std.proofs.lemmas.Bool.{eq-eqb, true≢false, and_from, or_right}
use Rattle.std.proofs.lemmas.Option.{none-some, same_Some}
use Rattle.hfs_fields.specs.Records.{is_dir, is_file, is_item, is_thread, item_id, dir_record_of}
use Rattle.hfs_fields.specs.Members.{In}
use Rattle.hfs_model.specs.Choices.{to_delete}
use Rattle.hfs_catalog.specs.Records.{Record, Catalog, item_with, is_child_of, valence_of}
use Rattle.hfs_catalog.specs.Lookups.{thread_of}
use Rattle.hfs_catalog.specs.Sound.{IsSoundCatalog}
use Rattle.hfs_catalog.proofs.CatalogLawTypes.{ItemsAreRecords}
use Rattle.hfs_check.specs.Parts.{Blocks, mdb_in, catalog_in}
use Rattle.hfs_check.specs.Sound.{AreBlocksSound}
use Rattle.hfs_check.proofs.LawTypes.{CatalogIsSound}
use Rattle.hfs_check.specs.VolumeOf.{contents_in, volume_in}
use Rattle.hfs_record_edits.proofs.SwapLemmas.{passes, number_of}
use Rattle.hfs_record_edits.specs.Swaps.{one_if}
use Rattle.hfs_record_edits.proofs.OnceLemmas.{counted, item_found}
use Rattle.hfs_record_edits.proofs.StepLemmas.{with_one}
use Rattle.hfs_record_edits.specs.Changes.{folder_with}
use Rattle.hfs_record_edits.proofs.ChangesLaws.{HasDropped}
use Rattle.hfs_record_edits.specs.SettingLaws.{IsChoice}
use Rattle.hfs_record_edits.proofs.RemovalLaws.{HasDroppedItem, LeavesFiles}
use Rattle.hfs_catalog.proofs.Held.{with_id}
use Rattle.hfs_record_edits.proofs.Items.{item_parent}
use Rattle.hfs_record_edits.proofs.Linked.{with_thread, sound_counted}
use Rattle.hfs_record_edits.proofs.Relinked.{by_id}
use Rattle.hfs_record_edits.proofs.Chosen.{delete_chosen}
use Rattle.hfs_record_edits.proofs.KeptSpace.{thread_no_file}
use Rattle.hfs_record_edits.proofs.Made.{dir-not_file, folder_alike, folder_valence}
use Rattle.hfs_record_edits.proofs.Dropped.{once3, items3, one_fewer_count, dropped_sum}

-- a folder with a child has a valence
pub some_child : (next dir : ℕ) (catalog : Catalog) (item r : Record) → IsSoundCatalog next catalog → In item catalog → is_item item.1 ≡ true → item.0.parent ≡ dir
    → item_with catalog dir ≡ Some r → is_dir r.1 ≡ true → 0 < (dir_record_of r.1).valence
some_child next dir catalog item r h there is parent was folder =
    let some : 0 < valence_of catalog dir = counted (is_child_of dir) catalog item there (and_from (is_item item.1) (eqb item.0.parent dir) is (eq-eqb item.0.parent dir parent)) in
    omega (arith, some, (sound_counted next catalog h).counted dir r was folder)

module _ (law : ItemsAreRecords) (catalogs : CatalogIsSound) (total now dir : ℕ) (name : List ℕ) (item r : Record) (old : Blocks) (new : Catalog) (h : AreBlocksSound total old)
    (c : IsChoice old (to_delete (volume_in old) dir name) item) (d : HasDroppedItem c.id dir item r now (catalog_in old) new) where
  abbrev next : ℕ
  next = (mdb_in old).next_id

  abbrev thread : Option Record
  thread = thread_of (catalog_in old) c.id

  abbrev s : Record
  s = folder_with ((dir_record_of r.1).valence - 1) now r

  pub sound : IsSoundCatalog next (catalog_in old)
  sound = catalogs total old h

  own : In item (catalog_in old) × (is_item item.1 ≡ true) × (item_id item.1 ≡ c.id)
  own = with_id (catalog_in old) c.id item c.was

  pub under : item.0.parent ≡ dir
  unfolding volume_in
  under = sym (item_parent (contents_in old) (catalog_in old) item) ∙ (delete_chosen (volume_in old) dir name _ c.is).under

  pub dropped : HasDropped c.id dir item thread r s (catalog_in old) new
  dropped =
      let some : 0 < (dir_record_of r.1).valence = some_child next dir (catalog_in old) item r sound own.0 own.1 under d.parent.was d.parent.folder in
      record {
        first = d.first;
        second = d.second;
        item_went = d.item_went;
        thread_went = d.thread_went;
        folder_set = d.folder_set;
        item_was = c.was;
        thread_was = refl;
        parent = under;
        edit = record { was = d.parent.was; folder = d.parent.folder; alike = folder_alike r ((dir_record_of r.1).valence - 1) now d.parent.folder d.value };
        one_fewer = omega (arith, some, folder_valence r ((dir_record_of r.1).valence - 1) now d.parent.folder d.value);
      }

  -- ---- counts and sums of records

  off : (p : Record → Bool) → ((t : Record) → is_thread t.1 ≡ true → p t ≡ false) → (o : Option Record) → thread ≡ o → passes p o ≡ false
  off p none None e = refl
  off p none (Some t) e = none t (with_thread (catalog_in old) c.id t e).1

  pub fewer : (p : Record → Bool) → p s ≡ p r → ((t : Record) → is_thread t.1 ≡ true → p t ≡ false) → count_by p new + one_if (p item) ≡ count_by p (catalog_in old)
  fewer p alike none = one_fewer_count law next c.id dir item thread r s (catalog_in old) new sound dropped p alike (off p none thread refl)

  zero_number : (f : Record → ℕ) → ((t : Record) → is_thread t.1 ≡ true → f t ≡ 0) → (o : Option Record) → thread ≡ o → number_of f o ≡ 0
  zero_number f none None e = refl
  zero_number f none (Some t) e = none t (with_thread (catalog_in old) c.id t e).1

  pub less : (f : Record → ℕ) → f s ≡ f r → ((t : Record) → is_thread t.1 ≡ true → f t ≡ 0) → sum_by f new + f item ≡ sum_by f (catalog_in old)
  less f alike none = dropped_sum law next c.id dir item thread r s (catalog_in old) new sound dropped f alike (zero_number f none thread refl)

  -- ---- the files

  s_no_file : is_file s.1 ≡ false
  s_no_file = dropped.edit.alike.file ∙ dir-not_file r.1 d.parent.folder

  file_left : (x : Record) → In x new → is_file x.1 ≡ true → In x (catalog_in old) × (item_id x.1 ≡ item_id item.1 → ⊥)
  file_left x there file =
      let q = item_id x.1 in
      let is : item_with new q ≡ Some x = item_found new x (once3 law next c.id dir item thread r s (catalog_in old) new sound dropped).items there (file_is_item x file) in
      by_id (with_one (item_with (catalog_in old)) c.id None) dir (Some s) q x (In x (catalog_in old) × (q ≡ item_id item.1 → ⊥))
      (sym (items3 law next c.id dir item thread r s (catalog_in old) new sound dropped q) ∙ is)
      (λ same e here. absurd (true≢false (sym file ∙ ap (λ (y : Record). is_file y.1) (sym (same_Some s x here)) ∙ s_no_file)))
      (λ e below. by_id (item_with (catalog_in old)) c.id None q x (In x (catalog_in old) × (q ≡ item_id item.1 → ⊥)) below
      (λ same at here. absurd (none-some x here))
      (λ other before. let both : In x (catalog_in old) × (q ≡ item_id item.1 → ⊥) = ((with_id (catalog_in old) q x before).0, λ (same : q ≡ item_id item.1). true≢false (sym (eq-eqb c.id q (sym (same ∙ own.2))) ∙ other)) in both))
    where
      file_is_item : (y : Record) → is_file y.1 ≡ true → is_item y.1 ≡ true
      file_is_item y f = or_right (is_dir y.1) (is_file y.1) f

  pub leaves_files : LeavesFiles item (catalog_in old) new
  leaves_files = record {
    sums = λ f none. less f (none s s_no_file ∙ sym (none r (dir-not_file r.1 d.parent.folder))) (λ t thread. none t (thread_no_file t thread));
    counts = λ p none. fewer p (none s s_no_file ∙ sym (none r (dir-not_file r.1 d.parent.folder))) (λ t thread. none t (thread_no_file t thread));
    files = λ x there file. file_left x there file;
  }
