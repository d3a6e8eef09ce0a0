-- The links of a sound catalog, and a nearly sound one from its links.
use Rattle.std.proofs.Common.{◌≡◌, ℕ, Bool, true, false, cond, ◌||◌, eqb, List, [], ◌∷◌, refl, sym, ◌∙◌, ap, subst, Option, Some, None}
use Rattle.std.specs.Prelude.{is_some}
use Rattle.std.specs.List.{find, list_any}
use Rattle.std.proofs.lemmas.Bool.{eqb-true, eq-eqb, true≢false, and_parts, and_from}
use Rattle.hfs_fields.specs.Keys.{cat_cmp}
use Rattle.hfs_fields.specs.Records.{is_dir, is_file, is_item, is_thread, item_id}
use Rattle.hfs_fields.specs.Each.{Each}
use Rattle.hfs_btree.specs.Pairs.{Rises}
use Rattle.hfs_fields.specs.Members.{In}
use Rattle.hfs_fields.proofs.MemberLemmas.{each_in, found_in}
use Rattle.hfs_catalog.specs.Records.{Record, Catalog, item_with, has_thread, is_thread_of, valence_of}
use Rattle.hfs_catalog.specs.Sound.{IsRecord, AreNamesSound, IsSoundCatalog}
use Rattle.hfs_catalog.specs.Lookups.{thread_of}
use Rattle.hfs_record_edits.proofs.OnceLemmas.{distinct_once, thread_once, item_found, thread_found}
use Rattle.hfs_record_edits.proofs.StepLemmas.{AreOnce}
use Rattle.hfs_record_edits.proofs.LinkLemmas.{AreLinked, AreCounted}
use Rattle.hfs_record_edits.specs.Sound.{IsNearlySound}
use Rattle.hfs_catalog.proofs.Held.{with_id}
use Rattle.hfs_record_edits.proofs.FromLawful.{each_of}

any_found : {X : Type 0} (p : X → Bool) (xs : List X) → list_any p xs ≡ is_some (find p xs)
any_found p [] = refl
any_found {X} p (x ∷ xs) = by (p x) (any_found p xs)
  where
    by : (b : Bool) → list_any p xs ≡ is_some (find p xs) → (b || list_any p xs) ≡ is_some (cond b (Some x) (find p xs))
    by true e = refl
    by false e = e

dir_item : (body : List ℕ) → is_dir body ≡ true → is_item body ≡ true
dir_item body e = ap (λ (b : Bool). b || is_file body) e

pub with_thread : (catalog : Catalog) (k : ℕ) (t : Record) → thread_of catalog k ≡ Some t → In t catalog × (is_thread t.1 ≡ true) × (t.0.parent ≡ k)
with_thread catalog k t is =
    let found = found_in (is_thread_of k) catalog t is in
    let parts = and_parts (is_thread t.1) (eqb t.0.parent k) found.1 in
    (found.0, parts.0, eqb-true t.0.parent k parts.1)

module _ (next : ℕ) (catalog : Catalog) (h : IsSoundCatalog next catalog) where
  pub sound_once : AreOnce catalog
  sound_once = record { items = distinct_once catalog h.ids.distinct; threads = thread_once catalog h.places.rises h.records }

  pub sound_linked : AreLinked (item_with catalog) (thread_of catalog)
  sound_linked = record {
    threaded = λ k r is dir.
        let there = with_id catalog k r is in
        some (thread_of catalog k) (sym (any_found (is_thread_of k) catalog) ∙ subst (λ (n : ℕ). has_thread catalog n ≡ true) there.2 (each_in _ catalog r h.places.threaded there.0 dir));
    led = λ k t is.
        let there = with_thread catalog k t is in
        let item = each_in _ catalog t h.places.threads there.0 there.1 in
        (item.0, ap (item_with catalog) (sym there.2) ∙ item.1, item.2);
  }
    where
      some : (o : Option Record) → is_some o ≡ true → (t : Record) × (o ≡ Some t)
      some None e = absurd (true≢false (sym e))
      some (Some t) e = (t, refl)

  pub sound_counted : AreCounted (item_with catalog) (valence_of catalog)
  sound_counted = record {
    counted = λ k r is dir.
        let there = with_id catalog k r is in
        (each_in _ catalog r h.valences there.0 dir).counted ∙ ap (valence_of catalog) there.2;
    short = λ k r is dir. (each_in _ catalog r h.valences (with_id catalog k r is).0 dir).short;
  }

module _ (catalog : Catalog) (once : AreOnce catalog) (records : Each IsRecord catalog) (names : AreNamesSound catalog) (rises : Rises cat_cmp catalog) (linked : AreLinked (item_with catalog) (thread_of catalog)) (counted : AreCounted (item_with catalog) (valence_of catalog)) where
  found : (r : Record) → In r catalog → is_dir r.1 ≡ true → item_with catalog (item_id r.1) ≡ Some r
  found r there dir = item_found catalog r once.items there (dir_item r.1 dir)

  pub nearly_sound : IsNearlySound catalog
  nearly_sound = record {
    records = records;
    once = once.items;
    names = names;
    rises = rises;
    threaded = each_of _ catalog (λ r there dir.
        let t = linked.threaded (item_id r.1) r (found r there dir) dir in
        any_found (is_thread_of (item_id r.1)) catalog ∙ ap is_some t.1);
    threads = each_of _ catalog (λ t there thread.
        linked.led t.0.parent t (thread_found catalog t t.0.parent (once.threads t.0.parent) there (and_from (is_thread t.1) (eqb t.0.parent t.0.parent) thread (eq-eqb t.0.parent t.0.parent refl))));
    valences = each_of _ catalog (λ r there dir. record {
      counted = counted.counted (item_id r.1) r (found r there dir) dir;
      short = counted.short (item_id r.1) r (found r there dir) dir;
    });
  }
