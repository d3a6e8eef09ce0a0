-- A new item's record, its thread's, and its folder's with one more child.
use Rattle.std.proofs.Common.{◌≡◌, inl, inr, ⊎_elim, ℕ, ◌+◌, ◌≤◌, Bool, true, false, cond, ◌&&◌, eqb, [], ◌∷◌, count_by, refl, sym, ◌∙◌, ap, subst, arith, Option, Some, None}
use Rattle.std.specs.Cmp.{nat_cmp_total}
use Rattle.std.specs.Option.{option_map, option_map_or}
use Rattle.std.specs.List.{sum_by}
use Rattle.std.specs.FinMap as map
use Rattle.std.proofs.lemmas.Bool.{eqb-true, ne_eqb, true≢false, and_parts}
use Rattle.hfs_fields.specs.Keys.{cat_cmp}
use Rattle.hfs_fields.specs.Records.{is_dir, is_item, item_id, dir_record_of}
use Rattle.hfs_fields.specs.Each.{Each}
use Rattle.hfs_btree.specs.Pairs.{Rises}
use Rattle.hfs_fields.specs.Members.{In}
use Rattle.hfs_fields.proofs.MemberLemmas.{each_in}
use Rattle.hfs_model.specs.declared.item.Item.{Item}
use Rattle.hfs_model.specs.Lawful.{AreLawful}
use Rattle.hfs_model.specs.Changes.{touched}
use Rattle.hfs_catalog.specs.Records.{Record, Catalog, item_with, is_folder_id, is_child_of, valence_of}
use Rattle.hfs_catalog.specs.Sound.{IsRecord, IsRoot, IsGiven, HasPlace, AreNamesSound, IsSoundCatalog}
use Rattle.hfs_catalog.specs.Items.{Contents, folder_of, item_of, items_in}
use Rattle.hfs_catalog.specs.Lookups.{thread_of}
use Rattle.hfs_catalog.proofs.CatalogLawTypes.{ItemsAreRecords}
use Rattle.hfs_record_edits.specs.Swaps.{Swaps, list_of, one_if}
use Rattle.hfs_record_edits.proofs.SwapLemmas.{passes, swapped_count, swapped_each, number_of, swapped_sum}
use Rattle.hfs_record_edits.proofs.OnceLemmas.{item_or_thread}
use Rattle.hfs_record_edits.proofs.StepLemmas.{AreOnce, ItemStep, ThreadStep, with_one, item_once, item_after, item_threads, thread_once, thread_after, thread_items}
use Rattle.hfs_record_edits.proofs.StepsLaws.{IfThere, IsThreadOf, is_there}
use Rattle.hfs_record_edits.proofs.LinkLemmas.{AreLinked, AreCounted}
use Rattle.hfs_record_edits.specs.Sound.{IsNearlySound}
use Rattle.hfs_record_edits.proofs.ChangesLaws.{KeepsContents, IsItsThread, HasAdded}
use Rattle.hfs_catalog.proofs.Held.{with_id}
use Rattle.hfs_record_edits.proofs.FromLawful.{sound}
use Rattle.hfs_record_edits.proofs.Linked.{sound_once, sound_linked, sound_counted, nearly_sound}
use Rattle.hfs_record_edits.proofs.Relinked.{by_id, past_id, linked_edit, linked_both, linked_file}
use Rattle.hfs_record_edits.proofs.Maps.{get_put, get_touched, at_moment, same_item_at, folder_item}
use Rattle.hfs_record_edits.proofs.SetItems.{edit_step, edit_records, edit_names, edit_children}
use Rattle.hfs_catalog.proofs.Held.{none_some}
use Rattle.hfs_model.proofs.Facts.{same_some}

-- ---- the next ID is nobody's

module _ (next : ℕ) (old : Catalog) (least : 16 ≤ next) (h : IsSoundCatalog next old) where
  unused : (r : Record) → item_with old next ≡ Some r → ⊥
  unused r is =
      let there = with_id old next r is in
      ⊎_elim
      (λ (root : IsRoot r). omega (arith, least, root.id, there.2))
      (λ (given : IsGiven next r). omega (arith, given.given, there.2))
      (each_in _ old r h.ids.each there.0 there.1)

  pub no_item : item_with old next ≡ None
  no_item = by (item_with old next) refl
    where
      by : (o : Option Record) → item_with old next ≡ o → o ≡ None
      by None e = refl
      by (Some r) e = absurd (unused r e)

  pub no_thread : thread_of old next ≡ None
  no_thread = by (thread_of old next) refl
    where
      by : (o : Option Record) → thread_of old next ≡ o → o ≡ None
      by None e = refl
      by (Some t) e = absurd (let item = (sound_linked next old h).led next t e in unused item.0 item.1)

  no_parent : (r : Record) → In r old → is_child_of next r ≡ true → ⊥
  no_parent r there e =
      let parts = and_parts (is_item r.1) (eqb r.0.parent next) e in
      let parent : r.0.parent ≡ next = eqb-true r.0.parent next parts.1 in
      ⊎_elim
      (λ (two : item_id r.1 ≡ 2). ⊎_elim
      (λ (root : IsRoot r). omega (arith, least, root.parent, parent))
      (λ (given : IsGiven next r). omega (arith, given.least, two))
      (each_in _ old r h.ids.each there parts.0))
      (λ (place : HasPlace old r). true≢false (sym place.parent ∙ ap (is_folder_id old) parent ∙ ap (λ (o : Option Record). option_map_or (λ (q : Record). is_dir q.1) o false) no_item))
      (each_in _ old r h.places.parents there parts.0)

  pub no_children : valence_of old next ≡ 0
  no_children = none old (λ r there. there)
    where
      none : (rs : Catalog) → ((r : Record) → In r rs → In r old) → valence_of rs next ≡ 0
      none [] within = refl
      none (r ∷ rs) within = elim (is_child_of next r) as (λ (b : Bool). is_child_of next r ≡ b → valence_of (r ∷ rs) next ≡ 0) [
        | true ↦ λ e. absurd (no_parent r (within r (inl refl)) e)
        | false ↦ λ e. omega (arith, cons r rs, off e, none rs (λ q there. within q (inr there)))
      ] refl
        where
          cons : (r : Record) (rs : Catalog) → valence_of (r ∷ rs) next ≡ one_if (is_child_of next r) + valence_of rs next
          cons r rs = omega (arith, swapped_count (is_child_of next) None (Some r) rs (r ∷ rs) (record { before = []; behind = rs; was = refl; is = refl }))

          off : is_child_of next r ≡ false → ◌≡◌ {A = ℕ} (one_if (is_child_of next r)) 0
          off e = ap one_if e

-- ---- the records afterwards

module _ (law : ItemsAreRecords) (next dir : ℕ) (a : Record) (thread : Option Record) (r s : Record) (old new : Catalog) (least : 16 ≤ next) (h : IsSoundCatalog next old) (added : HasAdded next dir a thread r s old new) where
  abbrev first : Catalog
  first = added.first

  abbrev second : Catalog
  second = added.second

  once : AreOnce old
  once = sound_once next old h

  other : eqb next dir ≡ false
  other = ne_eqb next dir (λ (e : next ≡ dir). none_some r (sym (no_item next old least h) ∙ ap (item_with old) e ∙ added.edit.was))

  turned : eqb dir next ≡ false
  turned = ne_eqb dir next (λ (e : dir ≡ next). none_some r (sym (no_item next old least h) ∙ ap (item_with old) (sym e) ∙ added.edit.was))

  -- ---- the steps

  one : ItemStep next None (Some a) old first
  one = record { swap = added.item_came; was = no_item next old least h; left = tt; came = record { item = added.made.item; id = added.made.id } }

  once1 : AreOnce first
  once1 = item_once next None (Some a) old first once one

  items1 : (k : ℕ) → item_with first k ≡ with_one (item_with old) next (Some a) k
  items1 = item_after next None (Some a) old first once one

  threads1 : (k : ℕ) → thread_of first k ≡ thread_of old k
  threads1 = item_threads next None (Some a) old first once one

  its : (o : Option Record) → IfThere (IsItsThread next a) o → IfThere (IsThreadOf next) o
  its None i = tt
  its (Some t) i = i.of

  two : ThreadStep next None thread first second
  two = record { swap = added.thread_came; was = threads1 next ∙ no_thread next old least h; left = tt; came = its thread added.made.thread }

  once2 : AreOnce second
  once2 = thread_once next None thread first second once1 two

  items2 : (k : ℕ) → item_with second k ≡ with_one (item_with old) next (Some a) k
  items2 k = thread_items next None thread first second once1 two k ∙ items1 k

  threads2 : (k : ℕ) → thread_of second k ≡ with_one (thread_of old) next thread k
  threads2 k = thread_after next None thread first second once1 two k ∙ ap (λ o. cond (eqb next k) thread o) (threads1 k)

  was : item_with second dir ≡ Some r
  was = items2 dir ∙ past_id (item_with old) next (Some a) dir other ∙ added.edit.was

  three : ItemStep dir (Some r) (Some s) second new
  three = edit_step dir r s second new added.folder_set was added.edit.alike

  once3 : AreOnce new
  once3 = item_once dir (Some r) (Some s) second new once2 three

  abbrev with_item : ℕ → Option Record
  with_item = with_one (item_with old) next (Some a)

  pub items3 : (k : ℕ) → item_with new k ≡ with_one with_item dir (Some s) k
  items3 k = item_after dir (Some r) (Some s) second new once2 three k ∙ ap (λ o. cond (eqb dir k) (Some s) o) (items2 k)

  pub threads3 : (k : ℕ) → thread_of new k ≡ with_one (thread_of old) next thread k
  threads3 k = item_threads dir (Some r) (Some s) second new once2 three k ∙ threads2 k

  -- ---- their forms

  thread_records : (o : Option Record) → IfThere (IsItsThread next a) o → Each IsRecord (list_of o)
  thread_records None i = tt
  thread_records (Some t) i = (i.record_form, tt)

  records : Each IsRecord new
  records =
      edit_records dir r s second new added.folder_set was added.edit.alike
      (swapped_each IsRecord None thread first second added.thread_came
      (swapped_each IsRecord None (Some a) old first added.item_came h.records (added.made.record_form, tt))
      (thread_records thread added.made.thread))

  names1 : AreNamesSound first
  names1 = record {
    items = swapped_each _ None (Some a) old first added.item_came h.names.items (λ item. added.made.name, tt);
    threads = swapped_each _ None (Some a) old first added.item_came h.names.threads (λ t. absurd (item_or_thread a.1 added.made.item t), tt);
  }

  names2 : (o : Option Record) → IfThere (IsItsThread next a) o → Swaps None o first second → AreNamesSound second
  names2 None i swap = record {
    items = swapped_each _ None None first second swap names1.items tt;
    threads = swapped_each _ None None first second swap names1.threads tt;
  }
  names2 (Some t) i swap = record {
    items = swapped_each _ None (Some t) first second swap names1.items (λ item. absurd (item_or_thread t.1 item i.of.thread), tt);
    threads = swapped_each _ None (Some t) first second swap names1.threads (λ x. (i.begins, i.name), tt);
  }

  names : AreNamesSound new
  names = edit_names dir r s second new added.folder_set was added.edit.alike (names2 thread added.made.thread added.thread_came)

  -- ---- links

  linked_by : (o : Option Record) → IfThere (IsItsThread next a) o → is_there o ≡ is_dir a.1 → AreLinked with_item (with_one (thread_of old) next o)
  linked_by None i e =
      subst (λ (f : ℕ → Option Record). AreLinked with_item f) (λ j k. sym (same k) j)
      (linked_file (item_with old) (thread_of old) (sound_linked next old h) next a (no_thread next old least h) (sym e))
    where
      same : (k : ℕ) → with_one (thread_of old) next None k ≡ thread_of old k
      same k = elim (eqb next k) as (λ (b : Bool). eqb next k ≡ b → cond b None (thread_of old k) ≡ thread_of old k) [
        | true ↦ λ here. sym (ap (thread_of old) (sym (eqb-true next k here)) ∙ no_thread next old least h)
        | false ↦ λ there. refl
      ] refl
  linked_by (Some t) i e = linked_both (item_with old) (thread_of old) (sound_linked next old h) next a t i.leads

  linked : AreLinked (item_with new) (thread_of new)
  linked =
      let last = linked_edit with_item (with_one (thread_of old) next thread) (linked_by thread added.made.thread added.made.threaded) dir r s
      (past_id (item_with old) next (Some a) dir other ∙ added.edit.was) added.edit.alike.key added.edit.alike.dir in
      let by_items = subst (λ (f : ℕ → Option Record). AreLinked f (with_one (thread_of old) next thread)) (λ j k. sym (items3 k) j) last in
      subst (λ (f : ℕ → Option Record). AreLinked (item_with new) f) (λ j k. sym (threads3 k) j) by_items

  -- ---- children

  no_child : (d : ℕ) (o : Option Record) → IfThere (IsItsThread next a) o → ◌≡◌ {A = ℕ} (one_if (passes (is_child_of d) o)) 0
  no_child d None i = refl
  no_child d (Some t) i = elim (is_item t.1) as (λ (b : Bool). is_item t.1 ≡ b → ◌≡◌ {A = ℕ} (one_if (b && eqb t.0.parent d)) 0) [
    | true ↦ λ e. absurd (item_or_thread t.1 e i.of.thread)
    | false ↦ λ e. refl
  ] refl

  pub children : (d : ℕ) → valence_of new d ≡ valence_of old d + one_if (eqb dir d)
  children d =
      let its_one : ◌≡◌ {A = ℕ} (one_if (is_child_of d a)) (one_if (eqb dir d)) = λ j. one_if (added.made.item j && eqb (added.made.parent j) d) in
      omega (
        arith,
        its_one,
        no_child d thread added.made.thread,
        swapped_count (is_child_of d) None (Some a) old first added.item_came,
        swapped_count (is_child_of d) None thread first second added.thread_came,
        edit_children dir r s second new added.folder_set was added.edit.alike d,
      )

  -- of any test that takes both records of the folder alike, and no thread
  pub one_more_count : (p : Record → Bool) → p s ≡ p r → passes p thread ≡ false → count_by p new ≡ count_by p old + one_if (p a)
  one_more_count p alike none =
      let same : ◌≡◌ {A = ℕ} (one_if (p s)) (one_if (p r)) = ap one_if alike in
      let off : ◌≡◌ {A = ℕ} (one_if (passes p thread)) 0 = ap one_if none in
      omega (arith, same, off, swapped_count p None (Some a) old first added.item_came, swapped_count p None thread first second added.thread_came, swapped_count p (Some r) (Some s) second new added.folder_set)

  pub added_sum : (f : Record → ℕ) → f s ≡ f r → number_of f thread ≡ 0 → sum_by f new ≡ sum_by f old + f a
  added_sum f alike none =
      omega (arith, alike, none, swapped_sum f None (Some a) old first added.item_came, swapped_sum f None thread first second added.thread_came, swapped_sum f (Some r) (Some s) second new added.folder_set)

  abbrev Right : ℕ → Record → Type 0
  Right k q = ((dir_record_of q.1).valence ≡ valence_of new k) × ((dir_record_of q.1).valence ≤ 65535)

  right : (k : ℕ) (q : Record) → item_with new k ≡ Some q → is_dir q.1 ≡ true → Right k q
  right k q is folder =
      let c = sound_counted next old h in
      by_id with_item dir (Some s) k q (Right k q) (sym (items3 k) ∙ is)
      (λ same e here.
      let q_is : s ≡ q = same_some s q here in
      let valence : (dir_record_of q.1).valence ≡ (dir_record_of r.1).valence + 1 = ap (λ (x : Record). (dir_record_of x.1).valence) (sym q_is) ∙ added.one_more in
      let before : (dir_record_of r.1).valence ≡ valence_of old k = c.counted k r (ap (item_with old) (sym same) ∙ added.edit.was) added.edit.folder in
      let more : ◌≡◌ {A = ℕ} (one_if (eqb dir k)) 1 = ap one_if e in
      let both : Right k q = (omega (arith, valence, before, children k, more), omega (arith, valence, added.room)) in both)
      (λ e there. by_id (item_with old) next (Some a) k q (Right k q) there
      (λ same own here.
      let q_is : a ≡ q = same_some a q here in
      let dir_a : is_dir a.1 ≡ true = ap (λ (x : Record). is_dir x.1) q_is ∙ folder in
      let valence : (dir_record_of q.1).valence ≡ 0 = ap (λ (x : Record). (dir_record_of x.1).valence) (sym q_is) ∙ added.made.empty dir_a in
      let none : valence_of old k ≡ 0 = ap (valence_of old) (sym same) ∙ no_children next old least h in
      let no_more : ◌≡◌ {A = ℕ} (one_if (eqb dir k)) 0 = ap one_if e in
      let both : Right k q = (omega (arith, valence, none, children k, no_more), omega (arith, valence)) in both)
      (λ own before.
      let no_more : ◌≡◌ {A = ℕ} (one_if (eqb dir k)) 0 = ap one_if e in
      let both : Right k q = (omega (arith, c.counted k q before folder, children k, no_more), c.short k q before folder) in both))

  counted : AreCounted (item_with new) (valence_of new)
  counted = record { counted = λ k q is folder. (right k q is folder).0; short = λ k q is folder. (right k q is folder).1 }

  -- ---- the whole

  pub near : Rises cat_cmp new → IsNearlySound new
  near rises = nearly_sound new once3 records names rises linked counted

  pub added_sound : (c : Contents) (after : ℕ) → Rises cat_cmp new → AreLawful (items_in c new) after → IsSoundCatalog after new
  added_sound c after rises lawful = sound law c after new (near rises) lawful

  -- the new item is there, and the folder has another modified date
  pub added_items : (c d : Contents) (now : ℕ) (x : Item) → KeepsContents c d old → item_of d new a ≡ x → folder_of s.0 (dir_record_of s.1) ≡ at_moment now (folder_of r.0 (dir_record_of r.1))
      → items_in d new ≡ touched (map.insert (items_in c old) next x) dir now
  added_items c d now x forks made folder = map.same_map nat_cmp_total map.nat_cmp-IsAntisymmetric (items_in d new) (touched (map.insert (items_in c old) next x) dir now) (λ q.
      law d new q ∙ ap (option_map (item_of d new)) (items3 q)
      ∙ by q (eqb dir q) (eqb next q) refl refl
      ∙ sym (get_touched (map.insert (items_in c old) next x) dir now q ∙ ap (λ o. cond (eqb dir q) (option_map (at_moment now) o) o) (get_put (items_in c old) next x q ∙ ap (cond (eqb next q) (Some x)) (law c old q))))
    where
      dir_s : is_dir s.1 ≡ true
      dir_s = added.edit.alike.dir ∙ added.edit.folder

      of_folder : item_of d new s ≡ at_moment now (item_of c old r)
      of_folder = folder_item d new s dir_s ∙ folder ∙ ap (at_moment now) (sym (folder_item c old r added.edit.folder))

      others : (q : ℕ) (o : Option Record) → eqb next q ≡ false → item_with old q ≡ o → option_map (item_of d new) o ≡ option_map (item_of c old) o
      others q None e is = refl
      others q (Some y) e is = ap Some (same_item_at c d old new q y (with_id old q y is).2 (forks q y is) (threads3 q ∙ past_id (thread_of old) next thread q e))

      by : (q : ℕ) (b n : Bool) → eqb dir q ≡ b → eqb next q ≡ n
          → option_map (item_of d new) (cond b (Some s) (cond n (Some a) (item_with old q))) ≡ cond b (option_map (at_moment now) (cond n (Some x) (option_map (item_of c old) (item_with old q)))) (cond n (Some x) (option_map (item_of c old) (item_with old q)))
      by q true n e f =
          let n_is : n ≡ false = sym f ∙ ap (eqb next) (sym (eqb-true dir q e)) ∙ other in
          ap Some of_folder
          ∙ sym (ap (λ (m : Bool). option_map (at_moment now) (cond m (Some x) (option_map (item_of c old) (item_with old q)))) n_is ∙ ap (λ o. option_map (at_moment now) (option_map (item_of c old) o)) (ap (item_with old) (sym (eqb-true dir q e)) ∙ added.edit.was))
      by q false true e f = ap Some made
      by q false false e f = others q (item_with old q) f refl
