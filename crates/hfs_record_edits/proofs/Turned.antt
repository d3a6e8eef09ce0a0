-- An item's record under another key or in its place, and its thread's.
use Rattle.std.proofs.Common.{◌≡◌, inl, inr, ℕ, ◌+◌, ◌≤◌, Bool, true, false, cond, ◌&&◌, ◌||◌, eqb, refl, sym, ◌∙◌, ap, subst, arith, Option, Some, None}
use Rattle.std.specs.List.{sum_by}
use Rattle.std.specs.Cmp.{nat_cmp_total}
use Rattle.std.specs.Option.{option_map}
use Rattle.std.specs.FinMap as map
use Rattle.std.proofs.lemmas.Bool.{eq-eqb, true≢false}
use Rattle.std.specs.Prelude.{IsTrue}
use Rattle.hfs_fields.specs.Keys.{cat_cmp}
use Rattle.hfs_fields.specs.Names.{is_item_name}
use Rattle.hfs_fields.specs.Records.{is_dir, is_file, is_item, item_id, dir_record_of}
use Rattle.hfs_fields.specs.Each.{Each}
use Rattle.hfs_btree.specs.Pairs.{Rises}
use Rattle.hfs_fields.specs.Members.{In}
use Rattle.hfs_catalog.specs.Records.{Record, Catalog, item_with, is_child_of, valence_of}
use Rattle.hfs_catalog.specs.Sound.{IsRecord, AreNamesSound, IsSoundCatalog}
use Rattle.hfs_catalog.specs.Items.{Contents, item_of, items_in}
use Rattle.hfs_catalog.specs.Lookups.{thread_of}
use Rattle.hfs_catalog.proofs.CatalogLawTypes.{ItemsAreRecords}
use Rattle.hfs_record_edits.specs.Swaps.{Swaps, list_of, one_if}
use Rattle.hfs_record_edits.proofs.SwapLemmas.{number_of, swapped_each, swapped_sum}
use Rattle.hfs_record_edits.proofs.OnceLemmas.{item_or_thread}
use Rattle.hfs_record_edits.proofs.StepLemmas.{AreOnce, IsItemOf, ItemStep, ThreadStep, with_one, item_once, item_after, item_threads, thread_once, thread_after, thread_items}
use Rattle.hfs_record_edits.proofs.StepsLaws.{IfThere, IsThreadOf, is_there}
use Rattle.hfs_record_edits.proofs.LinkLemmas.{AreLinked}
use Rattle.hfs_record_edits.specs.Sound.{IsNearlySound}
use Rattle.hfs_record_edits.proofs.ChangesLaws.{KeepsContents, IsItsThread, ItemRekeyed}
use Rattle.hfs_catalog.proofs.Held.{with_id}
use Rattle.hfs_record_edits.proofs.Linked.{with_thread, sound_once, sound_linked, sound_counted, nearly_sound}
use Rattle.hfs_record_edits.proofs.Relinked.{by_id, past_id, linked_both, linked_unthreaded}
use Rattle.hfs_record_edits.proofs.Maps.{get_put, same_item_at}
use Rattle.hfs_model.proofs.Facts.{same_some}

-- an item's record came under another key or in its place, and its thread's came, went or stands in its place, and leads to it; the
-- item stays what it is, and a folder has a thread
pub record HasTurned (k : ℕ) (r s : Record) (thread turned : Option Record) (old new : Catalog) : Type 0 where
  pub second : Catalog
  pub item_moved : ItemRekeyed r s old second
  pub thread_set : Swaps thread turned second new
  pub was : item_with old k ≡ Some r
  pub thread_was : thread_of old k ≡ thread
  pub dir : is_dir s.1 ≡ is_dir r.1
  pub file : is_file s.1 ≡ is_file r.1
  pub id : item_id s.1 ≡ item_id r.1
  pub name : IsTrue (is_item_name s.0.name)
  pub record_form : IsRecord s
  pub valence : is_dir r.1 ≡ true → (dir_record_of s.1).valence ≡ (dir_record_of r.1).valence
  pub its : IfThere (IsItsThread k s) turned
  pub threaded : is_dir r.1 ≡ true → is_there turned ≡ true

-- what both ways of moving a record give
pub record Moved (k : ℕ) (r s : Record) (old new : Catalog) : Type 1 where
  pub once : AreOnce new
  pub items : (q : ℕ) → item_with new q ≡ with_one (item_with old) k (Some s) q
  pub threads : (q : ℕ) → thread_of new q ≡ thread_of old q
  pub sums : (f : Record → ℕ) → sum_by f new + f r ≡ sum_by f old + f s
  pub each : (P : Record → Type 0) → Each P old → P s → Each P new

module _ (next k : ℕ) (r s : Record) (thread turned : Option Record) (old new : Catalog) (h : IsSoundCatalog next old) (moved : HasTurned k r s thread turned old new) where
  once : AreOnce old
  once = sound_once next old h

  own : In r old × (is_item r.1 ≡ true) × (item_id r.1 ≡ k)
  own = with_id old k r moved.was

  item_s : is_item s.1 ≡ true
  item_s = (λ i. moved.dir i || moved.file i) ∙ own.1

  of_r : IsItemOf k r
  of_r = record { item = own.1; id = own.2 }

  of_s : IsItemOf k s
  of_s = record { item = item_s; id = moved.id ∙ own.2 }

  in_place : Swaps (Some r) (Some s) old moved.second → Moved k r s old moved.second
  in_place swap =
      let step : ItemStep k (Some r) (Some s) old moved.second = record { swap = swap; was = moved.was; left = of_r; came = of_s } in
      record {
        once = item_once k (Some r) (Some s) old moved.second once step;
        items = item_after k (Some r) (Some s) old moved.second once step;
        threads = item_threads k (Some r) (Some s) old moved.second once step;
        sums = λ f. swapped_sum f (Some r) (Some s) old moved.second swap;
        each = λ P each here. swapped_each P (Some r) (Some s) old moved.second swap each (here, tt);
      }

  twice : (o : Option Record) (q : ℕ) → with_one (with_one (item_with old) k None) k o q ≡ with_one (item_with old) k o q
  twice o q = by (eqb k q)
    where
      by : (b : Bool) → cond b o (cond b None (item_with old q)) ≡ cond b o (item_with old q)
      by true = refl
      by false = refl

  elsewhere : (between : Catalog) → Swaps (Some r) None old between → Swaps None (Some s) between moved.second → Moved k r s old moved.second
  elsewhere between out back =
      let one : ItemStep k (Some r) None old between = record { swap = out; was = moved.was; left = of_r; came = tt } in
      let once1 : AreOnce between = item_once k (Some r) None old between once one in
      let gone : item_with between k ≡ None = item_after k (Some r) None old between once one k ∙ ap (λ (b : Bool). cond b None (item_with old k)) (same k) in
      let two : ItemStep k None (Some s) between moved.second = record { swap = back; was = gone; left = tt; came = of_s } in
      record {
        once = item_once k None (Some s) between moved.second once1 two;
        items = λ q. item_after k None (Some s) between moved.second once1 two q ∙ ap (λ o. cond (eqb k q) (Some s) o) (item_after k (Some r) None old between once one q) ∙ twice (Some s) q;
        threads = λ q. item_threads k None (Some s) between moved.second once1 two q ∙ item_threads k (Some r) None old between once one q;
        sums = λ f. omega (arith, swapped_sum f (Some r) None old between out, swapped_sum f None (Some s) between moved.second back);
        each = λ P each here. swapped_each P None (Some s) between moved.second back (swapped_each P (Some r) None old between out each tt) (here, tt);
      }
    where
      same : (n : ℕ) → eqb n n ≡ true
      same n = eq-eqb n n refl

  pub item_way : Moved k r s old moved.second
  item_way = elim moved.item_moved [ inl swap ↦ in_place swap | inr two ↦ elsewhere two.0 two.1 two.2 ]

  -- ---- the thread

  left : (o : Option Record) → thread_of old k ≡ o → IfThere (IsThreadOf k) o
  left None e = tt
  left (Some t) e = let found = with_thread old k t e in record { thread = found.1; id = found.2 }

  came : (o : Option Record) → IfThere (IsItsThread k s) o → IfThere (IsThreadOf k) o
  came None i = tt
  came (Some t) i = i.of

  last : ThreadStep k thread turned moved.second new
  last = record { swap = moved.thread_set; was = item_way.threads k ∙ moved.thread_was; left = left thread moved.thread_was; came = came turned moved.its }

  pub once_after : AreOnce new
  once_after = thread_once k thread turned moved.second new item_way.once last

  pub items_after : (q : ℕ) → item_with new q ≡ with_one (item_with old) k (Some s) q
  items_after q = thread_items k thread turned moved.second new item_way.once last q ∙ item_way.items q

  pub threads_after : (q : ℕ) → thread_of new q ≡ with_one (thread_of old) k turned q
  threads_after q = thread_after k thread turned moved.second new item_way.once last q ∙ ap (λ o. cond (eqb k q) turned o) (item_way.threads q)

  -- ---- forms

  turned_records : (o : Option Record) → IfThere (IsItsThread k s) o → Each IsRecord (list_of o)
  turned_records None i = tt
  turned_records (Some t) i = (i.record_form, tt)

  pub records_after : Each IsRecord new
  records_after = swapped_each IsRecord thread turned moved.second new moved.thread_set (item_way.each IsRecord h.records moved.record_form) (turned_records turned moved.its)

  names_by : (o : Option Record) → IfThere (IsItsThread k s) o → Swaps thread o moved.second new → AreNamesSound new
  names_by None i swap = record {
    items = swapped_each _ thread None moved.second new swap (item_way.each _ h.names.items (λ item. moved.name)) tt;
    threads = swapped_each _ thread None moved.second new swap (item_way.each _ h.names.threads (λ t. absurd (item_or_thread s.1 item_s t))) tt;
  }
  names_by (Some t) i swap = record {
    items = swapped_each _ thread (Some t) moved.second new swap (item_way.each _ h.names.items (λ item. moved.name)) (λ item. absurd (item_or_thread t.1 item i.of.thread), tt);
    threads = swapped_each _ thread (Some t) moved.second new swap (item_way.each _ h.names.threads (λ x. absurd (item_or_thread s.1 item_s x))) (λ x. (i.begins, i.name), tt);
  }

  pub names_after : AreNamesSound new
  names_after = names_by turned moved.its moved.thread_set

  -- ---- links

  linked_by : (o : Option Record) → IfThere (IsItsThread k s) o → (is_dir r.1 ≡ true → is_there o ≡ true) → AreLinked (with_one (item_with old) k (Some s)) (with_one (thread_of old) k o)
  linked_by (Some t) i threaded = linked_both (item_with old) (thread_of old) (sound_linked next old h) k s t i.leads
  linked_by None i threaded = linked_unthreaded (item_with old) (thread_of old) (sound_linked next old h) k s (moved.dir ∙ no_folder (is_dir r.1) refl)
    where
      no_folder : (b : Bool) → is_dir r.1 ≡ b → b ≡ false
      no_folder true d = absurd (true≢false (sym (threaded d)))
      no_folder false d = refl

  pub linked_after : AreLinked (item_with new) (thread_of new)
  linked_after =
      let both = linked_by turned moved.its moved.threaded in
      let by_items = subst (λ (f : ℕ → Option Record). AreLinked f (with_one (thread_of old) k turned)) (λ j q. sym (items_after q) j) both in
      subst (λ (f : ℕ → Option Record). AreLinked (item_with new) f) (λ j q. sym (threads_after q) j) by_items

  -- ---- numbers of records

  thread_sum : (f : Record → ℕ) → number_of f thread ≡ number_of f turned → sum_by f new + f r ≡ sum_by f old + f s
  thread_sum f same = omega (arith, same, item_way.sums f, swapped_sum f thread turned moved.second new moved.thread_set)

  no_child : (d : ℕ) (o : Option Record) → IfThere (IsThreadOf k) o → ◌≡◌ {A = ℕ} (number_of (λ x. one_if (is_child_of d x)) o) 0
  no_child d None i = refl
  no_child d (Some t) i = elim (is_item t.1) as (λ (b : Bool). is_item t.1 ≡ b → ◌≡◌ {A = ℕ} (one_if (b && eqb t.0.parent d)) 0) [
    | true ↦ λ item. absurd (item_or_thread t.1 item i.thread)
    | false ↦ λ item. refl
  ] refl

  pub children_after : (d : ℕ) → valence_of new d + one_if (eqb r.0.parent d) ≡ valence_of old d + one_if (eqb s.0.parent d)
  children_after d =
      let of_r_one : ◌≡◌ {A = ℕ} (one_if (is_child_of d r)) (one_if (eqb r.0.parent d)) = λ j. one_if (own.1 j && eqb r.0.parent d) in
      let of_s_one : ◌≡◌ {A = ℕ} (one_if (is_child_of d s)) (one_if (eqb s.0.parent d)) = λ j. one_if (item_s j && eqb s.0.parent d) in
      let none : ◌≡◌ {A = ℕ} (number_of (λ x. one_if (is_child_of d x)) thread) (number_of (λ x. one_if (is_child_of d x)) turned) = no_child d thread (left thread moved.thread_was) ∙ sym (no_child d turned (came turned moved.its)) in
      omega (arith, of_r_one, of_s_one, thread_sum (λ x. one_if (is_child_of d x)) none)

  -- ---- a new name in the same folder

  module _ (stays : s.0.parent ≡ r.0.parent) where
    same_children : (d : ℕ) → valence_of new d ≡ valence_of old d
    same_children d = let same : ◌≡◌ {A = ℕ} (one_if (eqb s.0.parent d)) (one_if (eqb r.0.parent d)) = λ j. one_if (eqb (stays j) d) in omega (arith, same, children_after d)

    abbrev Right : ℕ → Record → Type 0
    Right q x = ((dir_record_of x.1).valence ≡ valence_of new q) × ((dir_record_of x.1).valence ≤ 65535)

    right : (q : ℕ) (x : Record) → item_with new q ≡ Some x → is_dir x.1 ≡ true → Right q x
    right q x is folder =
        let c = sound_counted next old h in
        by_id (item_with old) k (Some s) q x (Right q x) (sym (items_after q) ∙ is)
        (λ same e here.
        let x_is : s ≡ x = same_some s x here in
        let dir_r : is_dir r.1 ≡ true = sym moved.dir ∙ ap (λ (y : Record). is_dir y.1) x_is ∙ folder in
        let at_q : item_with old q ≡ Some r = ap (item_with old) (sym same) ∙ moved.was in
        let valence : (dir_record_of x.1).valence ≡ (dir_record_of r.1).valence = ap (λ (y : Record). (dir_record_of y.1).valence) (sym x_is) ∙ moved.valence dir_r in
        let both : Right q x = (valence ∙ c.counted q r at_q dir_r ∙ sym (same_children q), omega (arith, valence, c.short q r at_q dir_r)) in both)
        (λ e there. let both : Right q x = (c.counted q x there folder ∙ sym (same_children q), c.short q x there folder) in both)

    pub renamed_near : Rises cat_cmp new → IsNearlySound new
    renamed_near rises = nearly_sound new once_after records_after names_after rises linked_after (record { counted = λ q x is folder. (right q x is folder).0; short = λ q x is folder. (right q x is folder).1 })

  -- the items are those of before, with the item of the moved record; its thread is another, but it is there as before
  pub rekeyed_items : (law : ItemsAreRecords) (c d : Contents) → KeepsContents c d old → items_in d new ≡ map.insert (items_in c old) k (item_of d new s)
  rekeyed_items law c d forks = map.same_map nat_cmp_total map.nat_cmp-IsAntisymmetric (items_in d new) (map.insert (items_in c old) k (item_of d new s)) (λ q.
      law d new q ∙ ap (option_map (item_of d new)) (items_after q)
      ∙ by q (eqb k q) refl
      ∙ sym (get_put (items_in c old) k (item_of d new s) q ∙ ap (cond (eqb k q) (Some (item_of d new s))) (law c old q)))
    where
      others : (q : ℕ) (o : Option Record) → eqb k q ≡ false → item_with old q ≡ o → option_map (item_of d new) o ≡ option_map (item_of c old) o
      others q None e is = refl
      others q (Some x) e is = ap Some (same_item_at c d old new q x (with_id old q x is).2 (forks q x is) (threads_after q ∙ past_id (thread_of old) k turned q e))

      by : (q : ℕ) (b : Bool) → eqb k q ≡ b → option_map (item_of d new) (cond b (Some s) (item_with old q)) ≡ cond b (Some (item_of d new s)) (option_map (item_of c old) (item_with old q))
      by q true e = refl
      by q false e = others q (item_with old q) e refl
