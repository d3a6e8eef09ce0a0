-- An item that CatMove chose, whose record stands under another folder, with its thread's, and both folders' records.
use Rattle.std.proofs.Common.{◌≡◌, inl, ⊎_elim, ℕ, zero, suc, ◌+◌, ◌-◌, ◌<◌, Bool, true, false, ◌&&◌, eqb, List, length, refl, sym, ◌∙◌, ap, arith, Option, Some}
use Rattle.std.specs.Prelude.{IsTrue, is_some}
use Rattle.std.specs.List.{sum_by}
use Rattle.std.proofs.lemmas.Bool.{eq-eqb, true≢false, or_left}
use Rattle.std.proofs.lemmas.Option.{same_Some}
use Rattle.hfs_fields.specs.Names.{is_item_name}
use Rattle.hfs_fields.specs.Records.{is_dir, is_item, is_thread, item_id, dir_record_of}
use Rattle.hfs_fields.specs.Members.{In}
use Rattle.hfs_fields.proofs.MemberLemmas.{each_in}
use Rattle.hfs_model.specs.Volume.{Entry}
use Rattle.hfs_model.specs.Children.{is_folder_kind, child_named, entries_of}
use Rattle.hfs_model.specs.Choices.{lies_in, is_bad_move, is_held, to_move}
use Rattle.hfs_catalog.specs.Records.{Record, Catalog, item_with}
use Rattle.hfs_catalog.specs.Lookups.{thread_of}
use Rattle.hfs_catalog.specs.Sound.{IsRecord, IsSoundCatalog}
use Rattle.hfs_catalog.specs.Items.{item_of}
use Rattle.hfs_catalog.proofs.CatalogLawTypes.{ItemsAreRecords, ValencesAreCounted}
use Rattle.hfs_check.specs.Parts.{Blocks, mdb_in, catalog_in}
use Rattle.hfs_check.specs.Sound.{AreBlocksSound}
use Rattle.hfs_check.proofs.LawTypes.{CatalogIsSound}
use Rattle.hfs_check.specs.VolumeOf.{contents_in, volume_in}
use Rattle.hfs_record_edits.proofs.SwapLemmas.{swapped_sum}
use Rattle.hfs_record_edits.proofs.OnceLemmas.{item_or_thread}
use Rattle.hfs_record_edits.specs.Changes.{IsFolderWith, folder_with}
use Rattle.hfs_record_edits.proofs.ChangesLaws.{led_to, HasRekeyed, HasMoved}
use Rattle.hfs_record_edits.specs.SettingLaws.{IsChoice}
use Rattle.hfs_record_edits.specs.MoveLaws.{under_folder}
use Rattle.hfs_record_edits.proofs.MoveLaws.{HasMovedItem}
use Rattle.hfs_catalog.proofs.Held.{with_id}
use Rattle.hfs_record_edits.proofs.Items.{item_parent, item_kind}
use Rattle.hfs_record_edits.proofs.Chosen.{MayMove, may_move}
use Rattle.hfs_record_edits.proofs.Made.{folder_alike, folder_valence}
use Rattle.hfs_record_edits.proofs.Dropped.{not_in_itself}
use Rattle.hfs_record_edits.proofs.CountBounds.{short_by}
use Rattle.hfs_record_edits.proofs.Removal.{some_child}
use Rattle.hfs_record_edits.proofs.LedThreads.{its_led, led_there}
use Rattle.hfs_record_edits.proofs.RenameMakes.{rekeyed_sum}

-- each lies in itself
pub lies_here : (es : List Entry) (n id up : ℕ) → id ≡ up → lies_in es n id up ≡ true
unfolding lies_in
lies_here es zero id up e = eq-eqb id up e
lies_here es (suc n) id up e = or_left (eqb id up) _ (eq-eqb id up e)

both_true : (a b : Bool) → (a && b) ≡ false → a ≡ true → b ≡ true → ⊥
both_true true true e f g = true≢false e
both_true true false e f g = true≢false (sym g)
both_true false b e f g = true≢false (sym f)

-- the folders are two, and neither is the item
pub record AreApart (id from to : ℕ) : Type 0 where
  pub others : from ≡ to → ⊥
  pub not_first : id ≡ from → ⊥
  pub not_second : id ≡ to → ⊥

module _ (catalogs : CatalogIsSound) (total from to : ℕ) (name : List ℕ) (r : Record) (old : Blocks) (h : AreBlocksSound total old) (c : IsChoice old (to_move (volume_in old) from name to) r) where
  abbrev e : Entry
  e = (c.id, item_of (contents_in old) (catalog_in old) r)

  abbrev es : List Entry
  es = entries_of (volume_in old)

  pub may : MayMove (volume_in old) from name to e
  may = may_move (volume_in old) from name to e c.is

  pub under : r.0.parent ≡ from
  under = sym (item_parent (contents_in old) (catalog_in old) r) ∙ may.child.under

  others : from ≡ to → ⊥
  unfolding is_held
  others same = true≢false (ap is_some (sym may.child.found) ∙ ap (λ (n : ℕ). is_some (child_named es n name)) same ∙ may.free)

  module _ (r2 : Record) (f : IsFolderWith (catalog_in old) to r2) where
    not_second : c.id ≡ to → ⊥
    unfolding is_bad_move
    not_second same =
        let is : r ≡ r2 = same_Some r r2 (sym c.was ∙ ap (item_with (catalog_in old)) same ∙ f.was) in
        let folder : is_dir r.1 ≡ true = ap (λ (x : Record). is_dir x.1) is ∙ f.folder in
        both_true (is_folder_kind e.1.kind) (lies_in es (length es) to c.id) may.fine (item_kind (contents_in old) (catalog_in old) r ∙ folder) (lies_here es (length es) to c.id (sym same))

    pub apart_from : AreApart c.id from to
    apart_from = record {
      others = others;
      not_first = λ same. not_in_itself (mdb_in old).next_id c.id (catalog_in old) r (catalogs total old h) c.was (under ∙ sym same);
      not_second = not_second;
    }

module _ (law : ItemsAreRecords) (catalogs : CatalogIsSound) (total now from to : ℕ) (name : List ℕ) (r r1 r2 : Record) (old : Blocks) (new : Catalog) (h : AreBlocksSound total old)
    (c : IsChoice old (to_move (volume_in old) from name to) r) (d : HasMovedItem c.id from to r r1 r2 now (catalog_in old) new) where
  abbrev next : ℕ
  next = (mdb_in old).next_id

  abbrev thread : Option Record
  thread = thread_of (catalog_in old) c.id

  abbrev turned : Option Record
  turned = led_to c.id (under_folder to r).0 thread

  pub sound : IsSoundCatalog next (catalog_in old)
  sound = catalogs total old h

  own : In r (catalog_in old) × (is_item r.1 ≡ true) × (item_id r.1 ≡ c.id)
  own = with_id (catalog_in old) c.id r c.was

  -- ---- the item's record, and its thread's

  its_form : IsRecord (under_folder to r)
  its_form = ⊎_elim (λ x. inl (own.1, x.1)) (λ x. absurd (item_or_thread r.1 own.1 x.0)) (each_in IsRecord (catalog_in old) r sound.records own.0)

  its_name : is_item_name r.0.name ≡ true
  its_name = each_in (λ (x : Record). is_item x.1 ≡ true → IsTrue (is_item_name x.0.name)) (catalog_in old) r sound.names.items own.0 own.1

  pub rekeyed : HasRekeyed c.id r (under_folder to r) thread turned (catalog_in old) d.middle
  rekeyed = record {
    second = d.second;
    item_moved = d.item_moved;
    thread_set = d.thread_set;
    was = c.was;
    thread_was = refl;
    dir = refl;
    file = refl;
    id = refl;
    name = its_name;
    record_form = its_form;
    valence = λ folder. refl;
    its = its_led next (catalog_in old) sound c.id r (under_folder to r) c.was refl its_name d.thread_value;
    both = led_there c.id (under_folder to r).0 thread;
  }

  pub moved : ValencesAreCounted → HasMoved c.id from to r (under_folder to r) thread turned r1 (folder_with ((dir_record_of r1.1).valence - 1) now r1) r2 (folder_with ((dir_record_of r2.1).valence + 1) now r2) (catalog_in old) new
  moved valences =
      let left = under catalogs total from to name r old h c in
      let apart = apart_from catalogs total from to name r old h c r2 d.entered in
      let some : 0 < (dir_record_of r1.1).valence = some_child next from (catalog_in old) r r1 sound own.0 own.1 left d.left.was d.left.folder in
      record {
        middle = d.middle;
        third = d.third;
        rekeyed = rekeyed;
        first_set = d.first_set;
        second_set = d.second_set;
        first = record { was = d.left.was; folder = d.left.folder; alike = folder_alike r1 ((dir_record_of r1.1).valence - 1) now d.left.folder d.left_value };
        second = record { was = d.entered.was; folder = d.entered.folder; alike = folder_alike r2 ((dir_record_of r2.1).valence + 1) now d.entered.folder d.entered_value };
        left = left;
        came = refl;
        others = apart.others;
        not_first = apart.not_first;
        not_second = apart.not_second;
        one_fewer = omega (arith, some, folder_valence r1 ((dir_record_of r1.1).valence - 1) now d.left.folder d.left_value);
        one_more = folder_valence r2 ((dir_record_of r2.1).valence + 1) now d.entered.folder d.entered_value;
        room = short_by catalogs total old h valences to r2 d.entered (may catalogs total from to name r old h c).room;
      }

  -- ---- sums over the records

  pub moved_sum : (f : Record → ℕ) → ((t : Record) → is_thread t.1 ≡ true → f t ≡ 0)
      → f (folder_with ((dir_record_of r1.1).valence - 1) now r1) ≡ f r1 → f (folder_with ((dir_record_of r2.1).valence + 1) now r2) ≡ f r2
      → sum_by f new + f r ≡ sum_by f (catalog_in old) + f (under_folder to r)
  moved_sum f none one two =
      omega (
        arith,
        one,
        two,
        rekeyed_sum next c.id r (under_folder to r).0 thread turned (catalog_in old) d.middle sound rekeyed f none,
        swapped_sum f (Some r1) (Some (folder_with ((dir_record_of r1.1).valence - 1) now r1)) d.middle d.third d.first_set,
        swapped_sum f (Some r2) (Some (folder_with ((dir_record_of r2.1).valence + 1) now r2)) d.third new d.second_set,
      )
