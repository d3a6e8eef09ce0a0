-- Threads that go, and that lead elsewhere.
use Rattle.std.proofs.Common.{◌≡◌, ℕ, true, eqb, List, [], ◌∷◌, length, sym, ap, ◌∙◌, subst, refl, arith, Option, Some, None}
use Rattle.std.specs.Bool.{IsTrue}
use Rattle.std.specs.Option.{option_map, unwrap_or}
use Rattle.std.proofs.lemmas.Bool.{and_parts}
use Rattle.hfs_fields.specs.declared.key.CatKey.{CatKey}
use Rattle.hfs_fields.specs.declared.thread_record.ThreadRecord.{ThreadRecord}
use Rattle.hfs_fields.specs.Keys.{cat_cmp}
use Rattle.hfs_fields.specs.Records.{is_thread, begins_thread, thread_record_of}
use Rattle.hfs_fields.specs.RecordForms.{IsThreadRecordValue, thread_record_bytes}
use Rattle.hfs_fields.proofs.RecordFormLemmas.{length-thread_record_bytes}
use Rattle.hfs_fields.specs.Each.{Each}
use Rattle.hfs_fields.specs.Members.{In}
use Rattle.hfs_fields.proofs.MemberLemmas.{each_in, found_in}
use Rattle.hfs_btree.specs.Tree.{Store}
use Rattle.hfs_btree.specs.Pairs.{lookup}
use Rattle.hfs_btree_edits.specs.Conditions.{IsNoLonger}
use Rattle.hfs_catalog.specs.Records.{Record, is_thread_of}
use Rattle.hfs_catalog.specs.Tree.{IsCatalogTree, catalog_of}
use Rattle.hfs_catalog.specs.Lookups.{thread_of, first_key}
use Rattle.hfs_catalog.specs.Sound.{IsRecord}
use Rattle.hfs_record_edits.specs.Swaps.{Swaps}
use Rattle.hfs_record_edits.proofs.KeepLemmas.{keeps_itself, keeps_more}
use Rattle.hfs_record_edits.specs.Finds.{record_at, AreThreadsReadable}
use Rattle.hfs_catalog.proofs.Found.{thread_is_short}
use Rattle.hfs_record_edits.proofs.FindLemmas.{thread_at_key}
use Rattle.hfs_record_edits.specs.Bodies.{turned, turned_record}
use Rattle.hfs_record_edits.specs.RecordEdits.{RecordWent, RecordSet}
use Rattle.hfs_record_edits.specs.ItemEdits.{ThreadTurned}
use Rattle.hfs_record_edits.proofs.FoundBodies.{record_with, no_record}

no_swap : {X : Type 0} (xs : List X) → Swaps None None xs xs
no_swap xs = record { before = []; behind = xs; was = refl; is = refl }

-- no record went
none_went : (nodes : Store) → IsCatalogTree nodes → RecordWent None nodes nodes
none_went nodes sound = record { keeps = keeps_itself nodes sound; swap = no_swap (catalog_of nodes); took = record { free = omega arith; depth = omega arith } }

module _ (id : ℕ) (key : CatKey) (is_key : key ≡ first_key id) (old : Store) (sound : IsCatalogTree old) (records : Each IsRecord (catalog_of old)) where
  under_key : record_at key (catalog_of old) ≡ thread_of (catalog_of old) id
  under_key = ap (λ (k : CatKey). record_at k (catalog_of old)) is_key ∙ thread_at_key id (catalog_of old) records

  -- what went is the thread
  pub thread_went : (new : Store) → RecordWent (record_at key (catalog_of old)) old new → RecordWent (thread_of (catalog_of old) id) old new
  thread_went new h = subst (λ (o : Option Record). RecordWent o old new) under_key h

  no_thread : lookup cat_cmp key (catalog_of old) ≡ None → thread_of (catalog_of old) id ≡ None
  no_thread none = sym under_key ∙ no_record key (catalog_of old) none

  pub no_thread_went : lookup cat_cmp key (catalog_of old) ≡ None → RecordWent (thread_of (catalog_of old) id) old old
  no_thread_went none = subst (λ (o : Option Record). RecordWent o old old) (sym (no_thread none)) (none_went old sound)

  -- no thread, none that leads elsewhere
  pub none_turned : (to : CatKey) → lookup cat_cmp key (catalog_of old) ≡ None → ThreadTurned id to old old
  none_turned to none = record {
    keeps = keeps_more (first_key id ∷ []) [] old old (keeps_itself old sound);
    swap = subst (λ (o : Option Record). Swaps o (option_map (turned_record id to) o) (catalog_of old) (catalog_of old)) (sym (no_thread none)) (no_swap (catalog_of old));
    value = λ thread is. absurd (none_some thread (sym (no_thread none) ∙ is));
    free = refl;
    depth = refl;
  }
    where
      none_some : (x : Record) → None ≡ Some x → ⊥
      none_some x e = cc

  module _ (body : List ℕ) (found : lookup cat_cmp key (catalog_of old) ≡ Some body) where
    pub its_thread : (thread : Record) × (thread_of (catalog_of old) id ≡ Some thread) × (thread.1 ≡ body)
    its_thread = let r = record_with key (catalog_of old) body found in (r.0, sym under_key ∙ r.1, r.2)

    thread_there : In its_thread.0 (catalog_of old) × (is_thread_of id its_thread.0 ≡ true)
    thread_there = found_in (is_thread_of id) (catalog_of old) its_thread.0 its_thread.1

    is_its_thread : is_thread its_thread.0.1 ≡ true
    is_its_thread = (and_parts (is_thread its_thread.0.1) (eqb its_thread.0.0.parent id) thread_there.1).0

    -- its record can be read
    pub thread_begins : AreThreadsReadable (catalog_of old) → begins_thread body ≡ true
    thread_begins readable =
        subst (λ (b : List ℕ). begins_thread b ≡ true) its_thread.2
        (each_in (λ (r : Record). IsTrue (is_thread r.1) → IsTrue (begins_thread r.1)) (catalog_of old) its_thread.0 readable thread_there.0 is_its_thread)

    -- and has 46 bytes, as many as are written
    pub thread_no_longer : (t : ThreadRecord) (bytes : List ℕ) → bytes ≡ thread_record_bytes t → IsThreadRecordValue t → IsNoLonger bytes (lookup cat_cmp key (catalog_of old))
    thread_no_longer t bytes written value =
        subst (IsNoLonger bytes) (sym found)
        (omega (arith, ap (λ (b : List ℕ). length b) written, length-thread_record_bytes t value, thread_is_short its_thread.0.1 is_its_thread, ap (λ (b : List ℕ). length b) its_thread.2))

    -- it leads elsewhere
    pub thread_turned : (to : CatKey) (t : ThreadRecord) (bytes : List ℕ) (new : Store) → t ≡ record (thread_record_of body) { parent = to.parent; name = to.name } → bytes ≡ thread_record_bytes t
        → IsThreadRecordValue t → RecordSet (key, bytes) old new → ThreadTurned id to old new
    thread_turned to t bytes new is written value h = record {
      keeps = subst (λ (r : Record). Rattle.hfs_record_edits.specs.Keeps.KeepsCatalog (r.0 ∷ []) old new) same h.keeps;
      swap =
          subst (λ (o : Option Record). Swaps o (option_map (turned_record id to) o) (catalog_of old) (catalog_of new)) (sym its_thread.1)
          (subst (λ (r : Record). Swaps (Some its_thread.0) (Some r) (catalog_of old) (catalog_of new)) same
          (subst (λ (o : Option Record). Swaps o (Some (key, bytes)) (catalog_of old) (catalog_of new)) (under_key ∙ its_thread.1) h.swap));
      value = λ thread other. subst IsThreadRecordValue (turned_is ∙ ap (λ (o : Option Record). turned to (unwrap_or o thread)) (sym its_thread.1 ∙ other)) value;
      free = h.free;
      depth = h.depth;
    }
      where
        turned_is : t ≡ turned to its_thread.0
        turned_is = is ∙ ap (λ (b : List ℕ). record (thread_record_of b) { parent = to.parent; name = to.name }) (sym its_thread.2)

        same : (key, bytes) ≡ turned_record id to its_thread.0
        same = λ i. (is_key i, (written ∙ ap thread_record_bytes turned_is) i)
