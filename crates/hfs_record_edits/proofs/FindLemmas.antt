-- Lemmas about the definitions of specs/Finds.antt.
use Rattle.std.proofs.Common.{◌≡◌, inl, inr, ℕ, ◌≤◌, Bool, true, false, cond, ◌&&◌, eqb, List, [], ◌∷◌, ◌++◌, length, refl, sym, ap, ◌∙◌, arith}
use Rattle.std.specs.Prelude.{Option, Some, None}
use Rattle.std.specs.Bool.{IsTrue}
use Rattle.std.specs.List.{find}
use Rattle.std.specs.Option.{option_map}
use Rattle.std.specs.declared.cmp.Ordering.{Ordering}
use Rattle.std.specs.declared.cmp.Ordering.TheVariants.{Less, Equal, Greater}
use Rattle.std.specs.Ordering.{nat_cmp, is_eq, ordering_then}
use Rattle.std.specs.Cmp.{tied_itself, unsigned_tied}
use Rattle.std.proofs.lemmas.Bool.{eqb-true, eq-eqb, ne_eqb, true≢false}
use Rattle.hfs_fields.specs.declared.key.CatKey.{CatKey}
use Rattle.hfs_fields.specs.Keys.{cat_cmp, cat_cmp_total}
use Rattle.hfs_fields.specs.Names.{is_item_name}
use Rattle.hfs_fields.specs.Order.{name_cmp}
use Rattle.hfs_fields.specs.Records.{is_item, is_thread, begins_thread, thread_record_of}
use Rattle.hfs_fields.specs.Each.{Each}
use Rattle.hfs_fields.specs.Members.{In}
use Rattle.hfs_fields.proofs.MemberLemmas.{each_in}
use Rattle.hfs_fields.proofs.ElementLemmas.{each-mono}
use Rattle.hfs_btree.specs.Pairs.{Rises, lookup}
use Rattle.hfs_catalog.specs.Records.{Record, Catalog, is_thread_of}
use Rattle.hfs_catalog.specs.Sound.{IsRecord, AreNamesSound}
use Rattle.hfs_catalog.specs.Lookups.{thread_of, first_key}
use Rattle.hfs_record_edits.specs.Swaps.{Swaps, list_of}
use Rattle.hfs_record_edits.proofs.SwapLemmas.{passes, swapped_each}
use Rattle.hfs_record_edits.proofs.EditedLemmas.{at_equal_key}
use Rattle.hfs_record_edits.specs.Finds.{has_key, record_at, AreThreadsReadable}
use Rattle.hfs_catalog.proofs.Found.{thread_is_short, item_is_long}

-- ---- the record and its body

-- it is the one whose body is looked up
pub body_at : (key : CatKey) (catalog : Catalog) → option_map (λ (r : Record). r.1) (record_at key catalog) ≡ lookup cat_cmp key catalog
body_at key [] = refl
body_at key (r ∷ rest) = elim (has_key key r) as (λ (b : Bool). option_map (λ (q : Record). q.1) (cond b (Some r) (record_at key rest)) ≡ cond b (Some r.1) (lookup cat_cmp key rest)) [
  | true ↦ refl
  | false ↦ body_at key rest
]

-- a record that stands there is found by its key
pub own_record : (catalog : Catalog) (r : Record) → Rises cat_cmp catalog → In r catalog → record_at r.0 catalog ≡ Some r
own_record catalog r rises there = at_equal_key cat_cmp cat_cmp_total r.0 catalog r rises there (tied_itself cat_cmp_total r.0)

-- ---- no record under a key

none_each : (key : CatKey) (catalog : Catalog) → lookup cat_cmp key catalog ≡ None → Each (λ r. has_key key r ≡ false) catalog
none_each key [] none = tt
none_each key (r ∷ rest) none = elim (has_key key r) as (λ (b : Bool). has_key key r ≡ b → cond b (Some r.1) (lookup cat_cmp key rest) ≡ None → Each (λ q. has_key key q ≡ false) (r ∷ rest)) [
  | true ↦ λ e some. absurd (some_none r.1 some)
  | false ↦ λ e later. (e, none_each key rest later)
] refl none
  where
    some_none : (x : List ℕ) → Some x ≡ None → ⊥
    some_none x e = cc

-- a record that stands there doesn't have a key under which none is found
pub other_key : (key : CatKey) (catalog : Catalog) (r : Record) → lookup cat_cmp key catalog ≡ None → In r catalog → has_key key r ≡ false
other_key key catalog r none there = each_in (λ (q : Record). has_key key q ≡ false) catalog r (none_each key catalog none) there

each_none : (key : CatKey) (catalog : Catalog) → Each (λ r. has_key key r ≡ false) catalog → lookup cat_cmp key catalog ≡ None
each_none key [] h = refl
each_none key (r ∷ rest) h = ap (λ (b : Bool). cond b (Some r.1) (lookup cat_cmp key rest)) h.0 ∙ each_none key rest h.1

-- there is none afterwards either, where what came isn't one
pub still_none : (key : CatKey) (went come : Option Record) (old new : Catalog) → Swaps went come old new → Each (λ r. has_key key r ≡ false) (list_of come) → lookup cat_cmp key old ≡ None → lookup cat_cmp key new ≡ None
still_none key went come old new swap other none =
    each_none key new (swapped_each (λ (r : Record). has_key key r ≡ false) went come old new swap (none_each key old none) other)

-- ---- searches that pass by what went and what came

module _ {X : Type 0} (p : X → Bool) where
  skipped : (xs ys : List X) (o : Option X) → passes p o ≡ false → find p (xs ++ (list_of o ++ ys)) ≡ find p (xs ++ ys)
  skipped [] ys None h = refl
  skipped [] ys (Some x) h = ap (λ (b : Bool). cond b (Some x) (find p ys)) h
  skipped (x ∷ xs) ys o h = ap (cond (p x) (Some x)) (skipped xs ys o h)

  pub passed_by : (went come : Option X) (old new : List X) → Swaps went come old new → passes p went ≡ false → passes p come ≡ false → find p new ≡ find p old
  passed_by went come old new swap out in_ =
      ap (find p) swap.is ∙ skipped swap.before swap.behind come in_ ∙ sym (ap (find p) swap.was ∙ skipped swap.before swap.behind went out)

  pub same_tests : (q : X → Bool) (xs : List X) → Each (λ x. p x ≡ q x) xs → find p xs ≡ find q xs
  same_tests q [] h = refl
  same_tests q (x ∷ xs) h = (λ j. cond (h.0 j) (Some x) (find p xs)) ∙ ap (cond (q x) (Some x)) (same_tests q xs h.1)

-- ---- threads, by their keys

pub no_text : (xs : List ℕ) → length xs ≡ 0 → xs ≡ []
no_text [] e = refl
no_text (x ∷ xs) e = absurd (omega arith)

pub some_text : (id : ℕ) (r : Record) → 1 ≤ length r.0.name → has_key (first_key id) r ≡ false
some_text id r some = unnamed_first (nat_cmp id r.0.parent) r.0.name some
  where
    unnamed_first : (o : Ordering) (name : List ℕ) → 1 ≤ length name → is_eq (ordering_then o (name_cmp [] name)) ≡ false
    unnamed_first o [] le = absurd (omega arith)
    unnamed_first Less (c ∷ name) le = refl
    unnamed_first Equal (c ∷ name) le = refl
    unnamed_first Greater (c ∷ name) le = refl

pub turned_test : (x y : ℕ) → eqb x y ≡ eqb y x
turned_test x y = by (eqb x y) refl
  where
    by : (b : Bool) → eqb x y ≡ b → eqb x y ≡ eqb y x
    by true e = e ∙ sym (eq-eqb y x (sym (eqb-true x y e)))
    by false e = e ∙ sym (ne_eqb y x (λ (same : y ≡ x). true≢false (sym (eq-eqb x y (sym same)) ∙ e)))

no_text_first : (id : ℕ) (r : Record) → r.0.name ≡ [] → has_key (first_key id) r ≡ eqb r.0.parent id
no_text_first id r empty =
    ap (λ (name : List ℕ). is_eq (ordering_then (nat_cmp id r.0.parent) (name_cmp [] name))) empty
    ∙ by (nat_cmp id r.0.parent) ∙ unsigned_tied id r.0.parent ∙ turned_test id r.0.parent
  where
    by : (o : Ordering) → is_eq (ordering_then o Equal) ≡ is_eq o
    by Less = refl
    by Equal = refl
    by Greater = refl

pub item_no_thread : (body : List ℕ) → is_item body ≡ true → is_thread body ≡ false
item_no_thread body item = by (is_thread body) refl
  where
    by : (b : Bool) → is_thread body ≡ b → b ≡ false
    by true thread = absurd (omega (arith, thread_is_short body thread, item_is_long body item))
    by false thread = refl

-- a record stands under a thread's key exactly where it is the thread
key_or_thread : (id : ℕ) (r : Record) → IsRecord r → has_key (first_key id) r ≡ is_thread_of id r
key_or_thread id r (inl item) = some_text id r item.1 ∙ sym (ap (λ (b : Bool). b && eqb r.0.parent id) (item_no_thread r.1 item.0))
key_or_thread id r (inr thread) = no_text_first id r (no_text r.0.name thread.1) ∙ sym (ap (λ (b : Bool). b && eqb r.0.parent id) thread.0)

each_key_or_thread : (id : ℕ) (catalog : Catalog) → Each IsRecord catalog → Each (λ r. has_key (first_key id) r ≡ is_thread_of id r) catalog
each_key_or_thread id [] h = tt
each_key_or_thread id (r ∷ rest) h = (key_or_thread id r h.0, each_key_or_thread id rest h.1)

-- what stands under a thread's key is the thread
pub thread_at_key : (id : ℕ) (catalog : Catalog) → Each IsRecord catalog → record_at (first_key id) catalog ≡ thread_of catalog id
thread_at_key id catalog records = same_tests (has_key (first_key id)) (is_thread_of id) catalog (each_key_or_thread id catalog records)

pub readable_threads : (catalog : Catalog) → AreNamesSound catalog → AreThreadsReadable catalog
readable_threads catalog names = each-mono (λ (r : Record). IsTrue (is_thread r.1) → IsTrue (begins_thread r.1) × IsTrue (is_item_name (thread_record_of r.1).name)) (λ (r : Record). IsTrue (is_thread r.1) → IsTrue (begins_thread r.1)) catalog (λ r f thread. (f thread).0) names.threads

-- no thread of an ID, no record under its key
pub no_thread_key : (id : ℕ) (catalog : Catalog) → Each IsRecord catalog → thread_of catalog id ≡ None → lookup cat_cmp (first_key id) catalog ≡ None
no_thread_key id catalog records none = sym (body_at (first_key id) catalog) ∙ ap (λ (o : Option Record). option_map (λ (r : Record). r.1) o) (thread_at_key id catalog records ∙ none)
