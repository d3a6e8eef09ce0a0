-- An item's record in place of one that is alike.
use Rattle.std.proofs.Common.{◌≡◌, ⊎_elim, inl, ℕ, ◌≤◌, Bool, true, false, cond, ◌&&◌, ◌||◌, eqb, length, refl, sym, ◌∙◌, ap, subst, arith, Option, Some, None}
use Rattle.std.specs.Prelude.{IsTrue}
use Rattle.std.specs.Cmp.{nat_cmp_total}
use Rattle.std.specs.Option.{option_map}
use Rattle.std.specs.FinMap as map
use Rattle.hfs_fields.specs.declared.key.CatKey.{CatKey}
use Rattle.hfs_fields.specs.Keys.{cat_cmp}
use Rattle.hfs_fields.specs.Names.{is_item_name}
use Rattle.hfs_fields.specs.Records.{is_dir, is_item, item_id, dir_record_of}
use Rattle.hfs_fields.specs.Each.{Each}
use Rattle.hfs_btree.specs.Pairs.{Rises}
use Rattle.hfs_fields.specs.Members.{In}
use Rattle.hfs_fields.proofs.MemberLemmas.{each_in}
use Rattle.hfs_model.specs.Lawful.{AreLawful}
use Rattle.hfs_catalog.specs.Records.{Record, Catalog, item_with, is_child_of, valence_of}
use Rattle.hfs_catalog.specs.Sound.{IsRecord, AreNamesSound, IsSoundCatalog}
use Rattle.hfs_catalog.specs.Items.{Contents, item_of, items_in}
use Rattle.hfs_catalog.specs.Lookups.{thread_of}
use Rattle.hfs_catalog.proofs.CatalogLawTypes.{ItemsAreRecords}
use Rattle.hfs_record_edits.specs.Swaps.{Swaps, one_if}
use Rattle.hfs_record_edits.proofs.SwapLemmas.{swapped_count, swapped_each}
use Rattle.hfs_record_edits.proofs.OnceLemmas.{item_or_thread}
use Rattle.hfs_record_edits.proofs.StepLemmas.{AreOnce, ItemStep, with_one, item_once, item_after, item_threads}
use Rattle.hfs_record_edits.proofs.LinkLemmas.{AreLinked, AreCounted}
use Rattle.hfs_record_edits.specs.Sound.{IsNearlySound}
use Rattle.hfs_record_edits.proofs.ChangesLaws.{IsAlike, KeepsContents}
use Rattle.hfs_record_edits.proofs.ChangeLemmas.{HasSet}
use Rattle.hfs_catalog.proofs.Held.{with_id}
use Rattle.hfs_record_edits.proofs.FromLawful.{sound}
use Rattle.hfs_record_edits.proofs.Linked.{sound_once, sound_linked, sound_counted, nearly_sound}
use Rattle.hfs_record_edits.proofs.Relinked.{by_id, linked_edit}
use Rattle.hfs_record_edits.proofs.Maps.{get_put, same_item_at}
use Rattle.hfs_model.proofs.Facts.{same_some}

pub alike_item : (r s : Record) → IsAlike r s → is_item s.1 ≡ is_item r.1
alike_item r s h = λ i. h.dir i || h.file i

-- what a record alike keeps of what holds of the one record
module _ (i : ℕ) (r s : Record) (old new : Catalog) (swap : Swaps (Some r) (Some s) old new) (was : item_with old i ≡ Some r) (alike : IsAlike r s) where
  there : In r old × (is_item r.1 ≡ true) × (item_id r.1 ≡ i)
  there = with_id old i r was

  pub edit_step : ItemStep i (Some r) (Some s) old new
  edit_step = record {
    swap = swap;
    was = was;
    left = record { item = there.1; id = there.2 };
    came = record { item = alike_item r s alike ∙ there.1; id = alike.id ∙ there.2 };
  }

  pub edit_records : Each IsRecord old → Each IsRecord new
  edit_records h =
      let own : IsRecord r = each_in IsRecord old r h there.0 in
      let named : 1 ≤ length r.0.name = ⊎_elim (λ x. x.1) (λ x. absurd (item_or_thread r.1 there.1 x.0)) own in
      let is : IsRecord s = inl (alike_item r s alike ∙ there.1, subst (λ (k : CatKey). 1 ≤ length k.name) (sym alike.key) named) in
      swapped_each IsRecord (Some r) (Some s) old new swap h (is, tt)

  pub edit_names : AreNamesSound old → AreNamesSound new
  edit_names h = record {
    items = swapped_each _ (Some r) (Some s) old new swap h.items
        (λ item. subst (λ (k : CatKey). IsTrue (is_item_name k.name)) (sym alike.key) (each_in _ old r h.items there.0 there.1), tt);
    threads = swapped_each _ (Some r) (Some s) old new swap h.threads
        (λ thread. absurd (item_or_thread s.1 (alike_item r s alike ∙ there.1) thread), tt);
  }

  -- each folder has as many children
  pub edit_children : (d : ℕ) → valence_of new d ≡ valence_of old d
  edit_children d =
      let same : ◌≡◌ {A = ℕ} (one_if (is_child_of d s)) (one_if (is_child_of d r)) = λ j. one_if (alike_item r s alike j && eqb (alike.key j).parent d) in
      omega (arith, same, swapped_count (is_child_of d) (Some r) (Some s) old new swap)

module _ (law : ItemsAreRecords) (next i : ℕ) (r s : Record) (old new : Catalog) (h : IsSoundCatalog next old) (rises : Rises cat_cmp new) (set : HasSet i r s old new) where
  step : ItemStep i (Some r) (Some s) old new
  step = edit_step i r s old new set.swap set.was set.alike

  once : AreOnce old
  once = sound_once next old h

  items : (k : ℕ) → item_with new k ≡ with_one (item_with old) i (Some s) k
  items = item_after i (Some r) (Some s) old new once step

  pub threads : (k : ℕ) → thread_of new k ≡ thread_of old k
  threads = item_threads i (Some r) (Some s) old new once step

  linked : AreLinked (item_with new) (thread_of new)
  linked =
      let old_linked = linked_edit (item_with old) (thread_of old) (sound_linked next old h) i r s set.was set.alike.key set.alike.dir in
      let by_items = subst (λ (f : ℕ → Option Record). AreLinked f (thread_of old)) (λ j k. sym (items k) j) old_linked in
      subst (λ (f : ℕ → Option Record). AreLinked (item_with new) f) (λ j k. sym (threads k) j) by_items

  counted : AreCounted (item_with new) (valence_of new)
  counted =
      let c = sound_counted next old h in
      record {
        counted = λ k q is folder. by_id (item_with old) i (Some s) k q ((dir_record_of q.1).valence ≡ valence_of new k) (sym (items k) ∙ is)
            (λ same e here.
            let q_is : s ≡ q = same_some s q here in
            let dir : is_dir r.1 ≡ true = sym set.alike.dir ∙ ap (λ (x : Record). is_dir x.1) q_is ∙ folder in
            ap (λ (x : Record). (dir_record_of x.1).valence) (sym q_is) ∙ set.valence dir ∙ c.counted k r (ap (item_with old) (sym same) ∙ set.was) dir
            ∙ sym (edit_children i r s old new set.swap set.was set.alike k))
            (λ e there. c.counted k q there folder ∙ sym (edit_children i r s old new set.swap set.was set.alike k));
        short = λ k q is folder. by_id (item_with old) i (Some s) k q ((dir_record_of q.1).valence ≤ 65535) (sym (items k) ∙ is)
            (λ same e here.
            let q_is : s ≡ q = same_some s q here in
            let dir : is_dir r.1 ≡ true = sym set.alike.dir ∙ ap (λ (x : Record). is_dir x.1) q_is ∙ folder in
            subst (λ (n : ℕ). n ≤ 65535) (sym (ap (λ (x : Record). (dir_record_of x.1).valence) (sym q_is) ∙ set.valence dir)) (c.short k r (ap (item_with old) (sym same) ∙ set.was) dir))
            (λ e there. c.short k q there folder);
      }

  pub near : IsNearlySound new
  near =
      nearly_sound new (item_once i (Some r) (Some s) old new once step) (edit_records i r s old new set.swap set.was set.alike h.records)
      (edit_names i r s old new set.swap set.was set.alike h.names) rises linked counted

  pub set_sound : (c : Contents) → AreLawful (items_in c new) next → IsSoundCatalog next new
  set_sound c lawful = sound law c next new near lawful

  -- the items are those of before, with the item of the new record
  pub set_items : (c d : Contents) → KeepsContents c d old → items_in d new ≡ map.insert (items_in c old) i (item_of d new s)
  set_items c d forks = map.same_map nat_cmp_total map.nat_cmp-IsAntisymmetric (items_in d new) (map.insert (items_in c old) i (item_of d new s)) (λ q.
      law d new q ∙ ap (option_map (item_of d new)) (items q)
      ∙ by q (eqb i q) refl
      ∙ sym (get_put (items_in c old) i (item_of d new s) q ∙ ap (cond (eqb i q) (Some (item_of d new s))) (law c old q)))
    where
      others : (q : ℕ) (o : Option Record) → item_with old q ≡ o → option_map (item_of d new) o ≡ option_map (item_of c old) o
      others q None e = refl
      others q (Some x) e = ap Some (same_item_at c d old new q x (with_id old q x e).2 (forks q x e) (threads q))

      by : (q : ℕ) (b : Bool) → eqb i q ≡ b → option_map (item_of d new) (cond b (Some s) (item_with old q)) ≡ cond b (Some (item_of d new s)) (option_map (item_of c old) (item_with old q))
      by q true e = refl
      by q false e = others q (item_with old q) refl
