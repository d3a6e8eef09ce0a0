-- An item in another folder.
use Rattle.std.proofs.Common.{◌≡◌, ℕ, ◌+◌, ◌≤◌, Bool, true, false, cond, eqb, refl, sym, ◌∙◌, ap, subst, arith, Option, Some, None}
use Rattle.std.specs.Cmp.{nat_cmp_total}
use Rattle.std.specs.Option.{option_map}
use Rattle.std.specs.FinMap as map
use Rattle.std.proofs.lemmas.Bool.{eqb-true, ne_eqb}
use Rattle.hfs_fields.specs.Keys.{cat_cmp}
use Rattle.hfs_fields.specs.Records.{is_dir, dir_record_of}
use Rattle.hfs_fields.specs.Each.{Each}
use Rattle.hfs_btree.specs.Pairs.{Rises}
use Rattle.hfs_model.specs.declared.item.Item.{Item}
use Rattle.hfs_model.specs.Changes.{touched}
use Rattle.hfs_catalog.specs.Records.{Record, Catalog, item_with, valence_of}
use Rattle.hfs_catalog.specs.Sound.{IsRecord, AreNamesSound, IsSoundCatalog}
use Rattle.hfs_catalog.specs.Items.{Contents, folder_of, item_of, items_in}
use Rattle.hfs_catalog.specs.Lookups.{thread_of}
use Rattle.hfs_catalog.proofs.CatalogLawTypes.{ItemsAreRecords}
use Rattle.hfs_record_edits.specs.Swaps.{one_if}
use Rattle.hfs_record_edits.proofs.StepLemmas.{AreOnce, ItemStep, with_one, item_once, item_after, item_threads}
use Rattle.hfs_record_edits.proofs.LinkLemmas.{AreLinked}
use Rattle.hfs_record_edits.specs.Sound.{IsNearlySound}
use Rattle.hfs_record_edits.proofs.ChangesLaws.{KeepsContents, HasMoved}
use Rattle.hfs_catalog.proofs.Held.{with_id}
use Rattle.hfs_record_edits.proofs.Linked.{sound_counted, nearly_sound}
use Rattle.hfs_record_edits.proofs.Relinked.{by_id, past_id, linked_edit}
use Rattle.hfs_record_edits.proofs.Maps.{get_put, get_touched, at_moment, same_item_at, folder_item}
use Rattle.hfs_record_edits.proofs.SetItems.{edit_step, edit_records, edit_names, edit_children}
use Rattle.hfs_record_edits.proofs.Rekeyed.{once_after, items_after, threads_after, records_after, names_after, linked_after, children_after}
use Rattle.hfs_model.proofs.Facts.{same_some}

module _ (next k from to : ℕ) (r s : Record) (thread turned : Option Record) (r1 s1 r2 s2 : Record) (old new : Catalog) (h : IsSoundCatalog next old) (moved : HasMoved k from to r s thread turned r1 s1 r2 s2 old new) where
  abbrev middle : Catalog
  middle = moved.middle

  abbrev third : Catalog
  third = moved.third

  k_first : eqb k from ≡ false
  k_first = ne_eqb k from moved.not_first

  k_second : eqb k to ≡ false
  k_second = ne_eqb k to moved.not_second

  first_second : eqb from to ≡ false
  first_second = ne_eqb from to moved.others

  -- ---- the steps

  once0 : AreOnce middle
  once0 = once_after next k r s thread turned old middle h moved.rekeyed

  abbrev with_item : ℕ → Option Record
  with_item = with_one (item_with old) k (Some s)

  items0 : (q : ℕ) → item_with middle q ≡ with_item q
  items0 = items_after next k r s thread turned old middle h moved.rekeyed

  was1 : item_with middle from ≡ Some r1
  was1 = items0 from ∙ past_id (item_with old) k (Some s) from k_first ∙ moved.first.was

  one : ItemStep from (Some r1) (Some s1) middle third
  one = edit_step from r1 s1 middle third moved.first_set was1 moved.first.alike

  once1 : AreOnce third
  once1 = item_once from (Some r1) (Some s1) middle third once0 one

  abbrev with_first : ℕ → Option Record
  with_first = with_one with_item from (Some s1)

  items1 : (q : ℕ) → item_with third q ≡ with_first q
  items1 q = item_after from (Some r1) (Some s1) middle third once0 one q ∙ ap (λ o. cond (eqb from q) (Some s1) o) (items0 q)

  at_second : with_item to ≡ Some r2
  at_second = past_id (item_with old) k (Some s) to k_second ∙ moved.second.was

  was2 : item_with third to ≡ Some r2
  was2 = items1 to ∙ past_id with_item from (Some s1) to first_second ∙ at_second

  two : ItemStep to (Some r2) (Some s2) third new
  two = edit_step to r2 s2 third new moved.second_set was2 moved.second.alike

  once2 : AreOnce new
  once2 = item_once to (Some r2) (Some s2) third new once1 two

  items2 : (q : ℕ) → item_with new q ≡ with_one with_first to (Some s2) q
  items2 q = item_after to (Some r2) (Some s2) third new once1 two q ∙ ap (λ o. cond (eqb to q) (Some s2) o) (items1 q)

  pub threads2 : (q : ℕ) → thread_of new q ≡ with_one (thread_of old) k turned q
  threads2 q = item_threads to (Some r2) (Some s2) third new once1 two q ∙ item_threads from (Some r1) (Some s1) middle third once0 one q ∙ threads_after next k r s thread turned old middle h moved.rekeyed q

  -- ---- forms and links

  records : Each IsRecord new
  records =
      edit_records to r2 s2 third new moved.second_set was2 moved.second.alike
      (edit_records from r1 s1 middle third moved.first_set was1 moved.first.alike (records_after next k r s thread turned old middle h moved.rekeyed))

  names : AreNamesSound new
  names =
      edit_names to r2 s2 third new moved.second_set was2 moved.second.alike
      (edit_names from r1 s1 middle third moved.first_set was1 moved.first.alike (names_after next k r s thread turned old middle h moved.rekeyed))

  linked : AreLinked (item_with new) (thread_of new)
  linked =
      let t0 = λ (q : ℕ). threads_after next k r s thread turned old middle h moved.rekeyed q in
      let l0 : AreLinked (item_with middle) (thread_of middle) = linked_after next k r s thread turned old middle h moved.rekeyed in
      let l1 = linked_edit (item_with middle) (thread_of middle) l0 from r1 s1 was1 moved.first.alike.key moved.first.alike.dir in
      let same_third : (q : ℕ) → with_one (item_with middle) from (Some s1) q ≡ item_with third q = λ q. sym (item_after from (Some r1) (Some s1) middle third once0 one q) in
      let m1 = subst (λ (f : ℕ → Option Record). AreLinked f (thread_of middle)) (λ j q. same_third q j) l1 in
      let l2 = linked_edit (item_with third) (thread_of middle) m1 to r2 s2 was2 moved.second.alike.key moved.second.alike.dir in
      let same_new : (q : ℕ) → with_one (item_with third) to (Some s2) q ≡ item_with new q = λ q. sym (item_after to (Some r2) (Some s2) third new once1 two q) in
      let m2 = subst (λ (f : ℕ → Option Record). AreLinked f (thread_of middle)) (λ j q. same_new q j) l2 in
      subst (λ (f : ℕ → Option Record). AreLinked (item_with new) f) (λ j q. (t0 q ∙ sym (threads2 q)) j) m2

  -- ---- children

  pub children : (d : ℕ) → valence_of new d + one_if (eqb from d) ≡ valence_of old d + one_if (eqb to d)
  children d =
      let a : ◌≡◌ {A = ℕ} (one_if (eqb r.0.parent d)) (one_if (eqb from d)) = λ j. one_if (eqb (moved.left j) d) in
      let b : ◌≡◌ {A = ℕ} (one_if (eqb s.0.parent d)) (one_if (eqb to d)) = λ j. one_if (eqb (moved.came j) d) in
      omega (arith, a, b, children_after next k r s thread turned old middle h moved.rekeyed d, edit_children from r1 s1 middle third moved.first_set was1 moved.first.alike d, edit_children to r2 s2 third new moved.second_set was2 moved.second.alike d)

  abbrev Right : ℕ → Record → Type 0
  Right q x = ((dir_record_of x.1).valence ≡ valence_of new q) × ((dir_record_of x.1).valence ≤ 65535)

  yes : (b : Bool) → b ≡ true → ◌≡◌ {A = ℕ} (one_if b) 1
  yes b e = ap one_if e

  no : (b : Bool) → b ≡ false → ◌≡◌ {A = ℕ} (one_if b) 0
  no b e = ap one_if e

  right : (q : ℕ) (x : Record) → item_with new q ≡ Some x → is_dir x.1 ≡ true → Right q x
  right q x is folder =
      let c = sound_counted next old h in
      by_id with_first to (Some s2) q x (Right q x) (sym (items2 q) ∙ is)
      (λ same e here.
      let x_is : s2 ≡ x = same_some s2 x here in
      let at_q : item_with old q ≡ Some r2 = ap (item_with old) (sym same) ∙ moved.second.was in
      let valence : (dir_record_of x.1).valence ≡ (dir_record_of r2.1).valence + 1 = ap (λ (y : Record). (dir_record_of y.1).valence) (sym x_is) ∙ moved.one_more in
      let before : (dir_record_of r2.1).valence ≡ valence_of old q = c.counted q r2 at_q moved.second.folder in
      let first : eqb from q ≡ false = ap (eqb from) (sym same) ∙ first_second in
      let both : Right q x = (omega (arith, valence, before, children q, yes (eqb to q) e, no (eqb from q) first), omega (arith, valence, moved.room)) in both)
      (λ not_to there. by_id with_item from (Some s1) q x (Right q x) there
      (λ same e here.
      let x_is : s1 ≡ x = same_some s1 x here in
      let at_q : item_with old q ≡ Some r1 = ap (item_with old) (sym same) ∙ moved.first.was in
      let valence : (dir_record_of x.1).valence + 1 ≡ (dir_record_of r1.1).valence = ap (λ (y : Record). (dir_record_of y.1).valence + 1) (sym x_is) ∙ moved.one_fewer in
      let before : (dir_record_of r1.1).valence ≡ valence_of old q = c.counted q r1 at_q moved.first.folder in
      let short : (dir_record_of r1.1).valence ≤ 65535 = c.short q r1 at_q moved.first.folder in
      let both : Right q x = (omega (arith, valence, before, children q, no (eqb to q) not_to, yes (eqb from q) e), omega (arith, valence, short)) in both)
      (λ not_from below. by_id (item_with old) k (Some s) q x (Right q x) below
      (λ same e here.
      let x_is : s ≡ x = same_some s x here in
      let dir_r : is_dir r.1 ≡ true = sym moved.rekeyed.dir ∙ ap (λ (y : Record). is_dir y.1) x_is ∙ folder in
      let at_q : item_with old q ≡ Some r = ap (item_with old) (sym same) ∙ moved.rekeyed.was in
      let valence : (dir_record_of x.1).valence ≡ (dir_record_of r.1).valence = ap (λ (y : Record). (dir_record_of y.1).valence) (sym x_is) ∙ moved.rekeyed.valence dir_r in
      let both : Right q x = (omega (arith, valence, c.counted q r at_q dir_r, children q, no (eqb to q) not_to, no (eqb from q) not_from), omega (arith, valence, c.short q r at_q dir_r)) in both)
      (λ e before.
      let both : Right q x = (omega (arith, c.counted q x before folder, children q, no (eqb to q) not_to, no (eqb from q) not_from), c.short q x before folder) in both)))

  pub moved_near : Rises cat_cmp new → IsNearlySound new
  moved_near rises = nearly_sound new once2 records names rises linked (record { counted = λ q x is folder. (right q x is folder).0; short = λ q x is folder. (right q x is folder).1 })

  -- ---- the items

  pub moved_items : (law : ItemsAreRecords) (c d : Contents) (now : ℕ) (x : Item) → KeepsContents c d old → item_of d new s ≡ x
      → folder_of s1.0 (dir_record_of s1.1) ≡ at_moment now (folder_of r1.0 (dir_record_of r1.1)) → folder_of s2.0 (dir_record_of s2.1) ≡ at_moment now (folder_of r2.0 (dir_record_of r2.1))
      → items_in d new ≡ touched (touched (map.insert (items_in c old) k x) from now) to now
  moved_items law c d now x forks made one_folder two_folder = map.same_map nat_cmp_total map.nat_cmp-IsAntisymmetric (items_in d new) (touched (touched (map.insert (items_in c old) k x) from now) to now) (λ q.
      law d new q ∙ ap (option_map (item_of d new)) (items2 q)
      ∙ by q (eqb to q) (eqb from q) (eqb k q) refl refl refl
      ∙ sym (get_touched (touched (map.insert (items_in c old) k x) from now) to now q
      ∙ ap (λ o. cond (eqb to q) (option_map (at_moment now) o) o) (get_touched (map.insert (items_in c old) k x) from now q
      ∙ ap (λ o. cond (eqb from q) (option_map (at_moment now) o) o) (get_put (items_in c old) k x q ∙ ap (cond (eqb k q) (Some x)) (law c old q)))))
    where
      of_first : item_of d new s1 ≡ at_moment now (item_of c old r1)
      of_first = folder_item d new s1 (moved.first.alike.dir ∙ moved.first.folder) ∙ one_folder ∙ ap (at_moment now) (sym (folder_item c old r1 moved.first.folder))

      of_second : item_of d new s2 ≡ at_moment now (item_of c old r2)
      of_second = folder_item d new s2 (moved.second.alike.dir ∙ moved.second.folder) ∙ two_folder ∙ ap (at_moment now) (sym (folder_item c old r2 moved.second.folder))

      others : (q : ℕ) (o : Option Record) → eqb k q ≡ false → item_with old q ≡ o → option_map (item_of d new) o ≡ option_map (item_of c old) o
      others q None e is = refl
      others q (Some y) e is = ap Some (same_item_at c d old new q y (with_id old q y is).2 (forks q y is) (threads2 q ∙ past_id (thread_of old) k turned q e))

      by : (q : ℕ) (b1 b2 b3 : Bool) → eqb to q ≡ b1 → eqb from q ≡ b2 → eqb k q ≡ b3
          → option_map (item_of d new) (cond b1 (Some s2) (cond b2 (Some s1) (cond b3 (Some s) (item_with old q))))
          ≡ cond b1 (option_map (at_moment now) (cond b2 (option_map (at_moment now) (cond b3 (Some x) (option_map (item_of c old) (item_with old q)))) (cond b3 (Some x) (option_map (item_of c old) (item_with old q)))))
          (cond b2 (option_map (at_moment now) (cond b3 (Some x) (option_map (item_of c old) (item_with old q)))) (cond b3 (Some x) (option_map (item_of c old) (item_with old q))))
      by q true b2 b3 e f g =
          let here : to ≡ q = eqb-true to q e in
          let n2 : b2 ≡ false = sym f ∙ ap (eqb from) (sym here) ∙ first_second in
          let n3 : b3 ≡ false = sym g ∙ ap (eqb k) (sym here) ∙ k_second in
          ap Some of_second
          ∙ sym ((λ i. option_map (at_moment now) (cond (n2 i) (option_map (at_moment now) (cond (n3 i) (Some x) (option_map (item_of c old) (item_with old q)))) (cond (n3 i) (Some x) (option_map (item_of c old) (item_with old q)))))
          ∙ ap (λ o. option_map (at_moment now) (option_map (item_of c old) o)) (ap (item_with old) (sym here) ∙ moved.second.was))
      by q false true b3 e f g =
          let here : from ≡ q = eqb-true from q f in
          let n3 : b3 ≡ false = sym g ∙ ap (eqb k) (sym here) ∙ k_first in
          ap Some of_first
          ∙ sym ((λ i. option_map (at_moment now) (cond (n3 i) (Some x) (option_map (item_of c old) (item_with old q))))
          ∙ ap (λ o. option_map (at_moment now) (option_map (item_of c old) o)) (ap (item_with old) (sym here) ∙ moved.first.was))
      by q false false true e f g = ap Some made
      by q false false false e f g = others q (item_with old q) g refl
