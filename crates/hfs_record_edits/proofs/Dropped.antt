-- An item's record goes, and its thread's, and then comes its folder's with one child fewer.
use Rattle.std.proofs.Common.{◌≡◌, ⊎_elim, ℕ, zero, suc, ◌+◌, ◌≤◌, Bool, true, false, cond, ◌&&◌, eqb, count_by, refl, sym, ◌∙◌, ap, subst, arith, Option, Some, None}
use Rattle.std.specs.Cmp.{nat_cmp_total}
use Rattle.std.specs.Option.{option_map}
use Rattle.std.specs.List.{sum_by}
use Rattle.std.specs.FinMap as map
use Rattle.std.proofs.lemmas.Bool.{eqb-true, eq-eqb, ne_eqb, true≢false}
use Rattle.hfs_fields.specs.Keys.{cat_cmp}
use Rattle.hfs_fields.specs.Records.{is_dir, is_item, item_id, dir_record_of}
use Rattle.hfs_fields.specs.Each.{Each}
use Rattle.hfs_btree.specs.Pairs.{Rises}
use Rattle.hfs_fields.specs.Members.{In}
use Rattle.hfs_fields.proofs.MemberLemmas.{each_in}
use Rattle.hfs_model.specs.Chains.{Leads}
use Rattle.hfs_model.specs.Lawful.{AreLawful}
use Rattle.hfs_model.specs.Changes.{touched}
use Rattle.hfs_catalog.specs.Records.{Record, Catalog, item_with, is_child_of, valence_of}
use Rattle.hfs_catalog.specs.Parents.{parent_in}
use Rattle.hfs_catalog.specs.Sound.{IsRecord, IsRoot, IsGiven, HasRightId, HasPlace, AreNamesSound, IsSoundCatalog}
use Rattle.hfs_catalog.specs.Items.{Contents, folder_of, item_of, items_in}
use Rattle.hfs_catalog.specs.Lookups.{thread_of}
use Rattle.hfs_catalog.proofs.CatalogLawTypes.{ItemsAreRecords}
use Rattle.hfs_record_edits.proofs.SwapLemmas.{passes, swapped_count, swapped_each, number_of, swapped_sum}
use Rattle.hfs_record_edits.specs.Swaps.{one_if}
use Rattle.hfs_record_edits.proofs.OnceLemmas.{item_or_thread}
use Rattle.hfs_record_edits.proofs.StepLemmas.{AreOnce, ItemStep, ThreadStep, with_one, item_once, item_after, item_threads, thread_once, thread_after, thread_items}
use Rattle.hfs_record_edits.proofs.StepsLaws.{IfThere, IsThreadOf}
use Rattle.hfs_record_edits.proofs.LinkLemmas.{AreLinked, AreCounted}
use Rattle.hfs_record_edits.specs.Sound.{IsNearlySound}
use Rattle.hfs_record_edits.proofs.ChangesLaws.{KeepsOthers, HasDropped}
use Rattle.hfs_catalog.proofs.Held.{with_id}
use Rattle.hfs_record_edits.proofs.FromLawful.{sound}
use Rattle.hfs_record_edits.proofs.Linked.{with_thread, sound_once, sound_linked, sound_counted, nearly_sound}
use Rattle.hfs_record_edits.proofs.Relinked.{by_id, past_id, linked_edit, linked_none}
use Rattle.hfs_record_edits.proofs.Maps.{get_removed, get_touched, at_moment, same_item_at, folder_item}
use Rattle.hfs_record_edits.proofs.SetItems.{edit_step, edit_records, edit_names, edit_children}
use Rattle.hfs_catalog.proofs.Held.{none_some}
use Rattle.hfs_model.proofs.Facts.{same_some}

-- ---- no item stands in itself

stays : (catalog : Catalog) (k n : ℕ) → parent_in catalog k ≡ Some k → Leads (parent_in catalog) n k 2 → k ≡ 2
stays catalog k zero own l = l
stays catalog k (suc n) own l =
    let same : l.0 ≡ k = same_some l.0 k (sym l.1 ∙ own) in
    stays catalog k n own (subst (λ (z : ℕ). Leads (parent_in catalog) n z 2) same l.2)

pub not_in_itself : (next k : ℕ) (old : Catalog) (r : Record) → IsSoundCatalog next old → item_with old k ≡ Some r → r.0.parent ≡ k → ⊥
not_in_itself next k old r h is own =
    let there = with_id old k r is in
    let right : HasRightId next r = each_in _ old r h.ids.each there.0 there.1 in
    let not_two : item_id r.1 ≡ 2 → ⊥ = λ (two : item_id r.1 ≡ 2). ⊎_elim
    (λ (root : IsRoot r). omega (arith, root.parent, own, there.2, two))
    (λ (given : IsGiven next r). omega (arith, given.least, two))
    right in
    ⊎_elim
    not_two
    (λ (place : HasPlace old r).
    let up : parent_in old k ≡ Some k = ap (option_map (λ (q : Record). q.0.parent)) is ∙ ap Some own in
    not_two (there.2 ∙ stays old k place.chain.0 up (subst (λ (z : ℕ). Leads (parent_in old) place.chain.0 z 2) there.2 place.chain.1)))
    (each_in _ old r h.places.parents there.0 there.1)

-- ---- the records afterwards

module _ (law : ItemsAreRecords) (next id dir : ℕ) (a : Record) (thread : Option Record) (r s : Record) (old new : Catalog) (h : IsSoundCatalog next old) (dropped : HasDropped id dir a thread r s old new) where
  abbrev first : Catalog
  first = dropped.first

  abbrev second : Catalog
  second = dropped.second

  once : AreOnce old
  once = sound_once next old h

  own : In a old × (is_item a.1 ≡ true) × (item_id a.1 ≡ id)
  own = with_id old id a dropped.item_was

  other : eqb id dir ≡ false
  other = ne_eqb id dir (λ (e : id ≡ dir). not_in_itself next id old a h dropped.item_was (dropped.parent ∙ sym e))

  -- ---- the steps

  one : ItemStep id (Some a) None old first
  one = record { swap = dropped.item_went; was = dropped.item_was; left = record { item = own.1; id = own.2 }; came = tt }

  once1 : AreOnce first
  once1 = item_once id (Some a) None old first once one

  items1 : (k : ℕ) → item_with first k ≡ with_one (item_with old) id None k
  items1 = item_after id (Some a) None old first once one

  threads1 : (k : ℕ) → thread_of first k ≡ thread_of old k
  threads1 = item_threads id (Some a) None old first once one

  its : (o : Option Record) → thread_of old id ≡ o → IfThere (IsThreadOf id) o
  its None e = tt
  its (Some t) e = let found = with_thread old id t e in record { thread = found.1; id = found.2 }

  two : ThreadStep id thread None first second
  two = record { swap = dropped.thread_went; was = threads1 id ∙ dropped.thread_was; left = its thread dropped.thread_was; came = tt }

  once2 : AreOnce second
  once2 = thread_once id thread None first second once1 two

  items2 : (k : ℕ) → item_with second k ≡ with_one (item_with old) id None k
  items2 k = thread_items id thread None first second once1 two k ∙ items1 k

  threads2 : (k : ℕ) → thread_of second k ≡ with_one (thread_of old) id None k
  threads2 k = thread_after id thread None first second once1 two k ∙ ap (λ o. cond (eqb id k) None o) (threads1 k)

  was : item_with second dir ≡ Some r
  was = items2 dir ∙ past_id (item_with old) id None dir other ∙ dropped.edit.was

  three : ItemStep dir (Some r) (Some s) second new
  three = edit_step dir r s second new dropped.folder_set was dropped.edit.alike

  pub once3 : AreOnce new
  once3 = item_once dir (Some r) (Some s) second new once2 three

  abbrev without : ℕ → Option Record
  without = with_one (item_with old) id None

  pub items3 : (k : ℕ) → item_with new k ≡ with_one without dir (Some s) k
  items3 k = item_after dir (Some r) (Some s) second new once2 three k ∙ ap (λ o. cond (eqb dir k) (Some s) o) (items2 k)

  pub threads3 : (k : ℕ) → thread_of new k ≡ with_one (thread_of old) id None k
  threads3 k = item_threads dir (Some r) (Some s) second new once2 three k ∙ threads2 k

  -- ---- their forms

  records : Each IsRecord new
  records =
      edit_records dir r s second new dropped.folder_set was dropped.edit.alike
      (swapped_each IsRecord thread None first second dropped.thread_went (swapped_each IsRecord (Some a) None old first dropped.item_went h.records tt) tt)

  names : AreNamesSound new
  names = edit_names dir r s second new dropped.folder_set was dropped.edit.alike (record {
    items = swapped_each _ thread None first second dropped.thread_went (swapped_each _ (Some a) None old first dropped.item_went h.names.items tt) tt;
    threads = swapped_each _ thread None first second dropped.thread_went (swapped_each _ (Some a) None old first dropped.item_went h.names.threads tt) tt;
  })

  linked : AreLinked (item_with new) (thread_of new)
  linked =
      let last = linked_edit without (with_one (thread_of old) id None) (linked_none (item_with old) (thread_of old) (sound_linked next old h) id) dir r s
      (past_id (item_with old) id None dir other ∙ dropped.edit.was) dropped.edit.alike.key dropped.edit.alike.dir in
      let by_items = subst (λ (f : ℕ → Option Record). AreLinked f (with_one (thread_of old) id None)) (λ j k. sym (items3 k) j) last in
      subst (λ (f : ℕ → Option Record). AreLinked (item_with new) f) (λ j k. sym (threads3 k) j) by_items

  -- ---- children

  no_child : (d : ℕ) (o : Option Record) → thread_of old id ≡ o → ◌≡◌ {A = ℕ} (one_if (passes (is_child_of d) o)) 0
  no_child d None e = refl
  no_child d (Some t) e = elim (is_item t.1) as (λ (b : Bool). is_item t.1 ≡ b → ◌≡◌ {A = ℕ} (one_if (b && eqb t.0.parent d)) 0) [
    | true ↦ λ item. absurd (item_or_thread t.1 item (with_thread old id t e).1)
    | false ↦ λ item. refl
  ] refl

  pub children : (d : ℕ) → valence_of new d + one_if (eqb dir d) ≡ valence_of old d
  children d =
      let its_one : ◌≡◌ {A = ℕ} (one_if (is_child_of d a)) (one_if (eqb dir d)) = λ j. one_if (own.1 j && eqb (dropped.parent j) d) in
      omega (
        arith,
        its_one,
        no_child d thread dropped.thread_was,
        swapped_count (is_child_of d) (Some a) None old first dropped.item_went,
        swapped_count (is_child_of d) thread None first second dropped.thread_went,
        edit_children dir r s second new dropped.folder_set was dropped.edit.alike d,
      )

  -- of any test that takes both records of the folder alike, and no thread
  pub one_fewer_count : (p : Record → Bool) → p s ≡ p r → passes p thread ≡ false → count_by p new + one_if (p a) ≡ count_by p old
  one_fewer_count p alike none =
      let same : ◌≡◌ {A = ℕ} (one_if (p s)) (one_if (p r)) = ap one_if alike in
      let off : ◌≡◌ {A = ℕ} (one_if (passes p thread)) 0 = ap one_if none in
      omega (arith, same, off, swapped_count p (Some a) None old first dropped.item_went, swapped_count p thread None first second dropped.thread_went, swapped_count p (Some r) (Some s) second new dropped.folder_set)

  pub dropped_sum : (f : Record → ℕ) → f s ≡ f r → number_of f thread ≡ 0 → sum_by f new + f a ≡ sum_by f old
  dropped_sum f alike none =
      omega (arith, alike, none, swapped_sum f (Some a) None old first dropped.item_went, swapped_sum f thread None first second dropped.thread_went, swapped_sum f (Some r) (Some s) second new dropped.folder_set)

  abbrev Right : ℕ → Record → Type 0
  Right k q = ((dir_record_of q.1).valence ≡ valence_of new k) × ((dir_record_of q.1).valence ≤ 65535)

  right : (k : ℕ) (q : Record) → item_with new k ≡ Some q → is_dir q.1 ≡ true → Right k q
  right k q is folder =
      let c = sound_counted next old h in
      by_id without dir (Some s) k q (Right k q) (sym (items3 k) ∙ is)
      (λ same e here.
      let q_is : s ≡ q = same_some s q here in
      let at_k : item_with old k ≡ Some r = ap (item_with old) (sym same) ∙ dropped.edit.was in
      let valence : (dir_record_of q.1).valence + 1 ≡ (dir_record_of r.1).valence = ap (λ (x : Record). (dir_record_of x.1).valence + 1) (sym q_is) ∙ dropped.one_fewer in
      let before : (dir_record_of r.1).valence ≡ valence_of old k = c.counted k r at_k dropped.edit.folder in
      let short : (dir_record_of r.1).valence ≤ 65535 = c.short k r at_k dropped.edit.folder in
      let fewer : ◌≡◌ {A = ℕ} (one_if (eqb dir k)) 1 = ap one_if e in
      let both : Right k q = (omega (arith, valence, before, children k, fewer), omega (arith, valence, short)) in both)
      (λ e there. by_id (item_with old) id None k q (Right k q) there
      (λ same gone here. absurd (none_some q here))
      (λ gone before.
      let no_fewer : ◌≡◌ {A = ℕ} (one_if (eqb dir k)) 0 = ap one_if e in
      let both : Right k q = (omega (arith, c.counted k q before folder, children k, no_fewer), c.short k q before folder) in both))

  counted : AreCounted (item_with new) (valence_of new)
  counted = record { counted = λ k q is folder. (right k q is folder).0; short = λ k q is folder. (right k q is folder).1 }

  -- ---- the whole

  pub near : Rises cat_cmp new → IsNearlySound new
  near rises = nearly_sound new once3 records names rises linked counted

  pub dropped_sound : (c : Contents) → Rises cat_cmp new → AreLawful (items_in c new) next → IsSoundCatalog next new
  dropped_sound c rises lawful = sound law c next new (near rises) lawful

  -- the item is gone, and the folder has another modified date
  pub dropped_items : (c d : Contents) (now : ℕ) → KeepsOthers id c d old → folder_of s.0 (dir_record_of s.1) ≡ at_moment now (folder_of r.0 (dir_record_of r.1))
      → items_in d new ≡ touched (map.remove (items_in c old) id) dir now
  dropped_items c d now forks folder = map.same_map nat_cmp_total map.nat_cmp-IsAntisymmetric (items_in d new) (touched (map.remove (items_in c old) id) dir now) (λ q.
      law d new q ∙ ap (option_map (item_of d new)) (items3 q)
      ∙ by q (eqb dir q) (eqb id q) refl refl
      ∙ sym (get_touched (map.remove (items_in c old) id) dir now q ∙ ap (λ o. cond (eqb dir q) (option_map (at_moment now) o) o) (get_removed (items_in c old) id q ∙ ap (cond (eqb id q) None) (law c old q))))
    where
      dir_s : is_dir s.1 ≡ true
      dir_s = dropped.edit.alike.dir ∙ dropped.edit.folder

      of_folder : item_of d new s ≡ at_moment now (item_of c old r)
      of_folder = folder_item d new s dir_s ∙ folder ∙ ap (at_moment now) (sym (folder_item c old r dropped.edit.folder))

      others : (q : ℕ) (o : Option Record) → eqb id q ≡ false → item_with old q ≡ o → option_map (item_of d new) o ≡ option_map (item_of c old) o
      others q None e is = refl
      others q (Some y) e is = ap Some (same_item_at c d old new q y (with_id old q y is).2 (forks q y (λ (same : q ≡ id). true≢false (sym (eq-eqb id q (sym same)) ∙ e)) is) (threads3 q ∙ past_id (thread_of old) id None q e))

      by : (q : ℕ) (b n : Bool) → eqb dir q ≡ b → eqb id q ≡ n
          → option_map (item_of d new) (cond b (Some s) (cond n None (item_with old q))) ≡ cond b (option_map (at_moment now) (cond n None (option_map (item_of c old) (item_with old q)))) (cond n None (option_map (item_of c old) (item_with old q)))
      by q true n e f =
          let n_is : n ≡ false = sym f ∙ ap (eqb id) (sym (eqb-true dir q e)) ∙ other in
          ap Some of_folder
          ∙ sym (ap (λ (m : Bool). option_map (at_moment now) (cond m None (option_map (item_of c old) (item_with old q)))) n_is ∙ ap (λ o. option_map (at_moment now) (option_map (item_of c old) o)) (ap (item_with old) (sym (eqb-true dir q e)) ∙ dropped.edit.was))
      by q false true e f = refl
      by q false false e f = others q (item_with old q) f refl
