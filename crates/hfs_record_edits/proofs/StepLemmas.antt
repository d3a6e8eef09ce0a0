-- Lemmas about the definitions of specs/Steps.antt.
use Rattle.std.proofs.Common.{◌≡◌, ℕ, ◌≤◌, Bool, true, false, cond, ◌&&◌, eqb, count_by, refl, sym, ap, ◌∙◌, arith, Option, Some, None}
use Rattle.std.specs.List.{find}
use Rattle.std.specs.Option.{option_or}
use Rattle.std.proofs.lemmas.Bool.{eqb-true, and_from}
use Rattle.hfs_fields.specs.Records.{is_item, is_thread, item_id}
use Rattle.hfs_catalog.specs.Records.{Record, Catalog, has_id, item_with, is_thread_of}
use Rattle.hfs_catalog.specs.Lookups.{thread_of}
use Rattle.hfs_record_edits.specs.Swaps.{Swaps, one_if}
use Rattle.hfs_record_edits.proofs.SwapLemmas.{passes, only, swapped_count, swapped_find}
use Rattle.hfs_record_edits.specs.Once.{IsOnce}
use Rattle.hfs_record_edits.proofs.OnceLemmas.{item_or_thread, none_counted}
use Rattle.hfs_record_edits.proofs.StepsLaws.{IfThere, IsThreadOf, is_there}

-- no ID of an item stands twice, and no ID of a thread
pub record AreOnce (catalog : Catalog) : Type 0 where
  pub items : IsOnce catalog
  pub threads : (k : ℕ) → count_by (is_thread_of k) catalog ≤ 1

pub record IsItemOf (i : ℕ) (r : Record) : Type 0 where
  pub item : is_item r.1 ≡ true
  pub id : item_id r.1 ≡ i

-- an item's record comes, goes, or stands in place of the one with its ID
pub record ItemStep (i : ℕ) (gone come : Option Record) (old new : Catalog) : Type 0 where
  pub swap : Swaps gone come old new
  pub was : item_with old i ≡ gone
  pub left : IfThere (IsItemOf i) gone
  pub came : IfThere (IsItemOf i) come

-- the same of a thread's
pub record ThreadStep (i : ℕ) (gone come : Option Record) (old new : Catalog) : Type 0 where
  pub swap : Swaps gone come old new
  pub was : thread_of old i ≡ gone
  pub left : IfThere (IsThreadOf i) gone
  pub came : IfThere (IsThreadOf i) come

-- the one that came stands under its ID, and the others as they did
abbrev pub with_one : (ℕ → Option Record) → ℕ → Option Record → ℕ → Option Record
with_one records i one k = cond (eqb i k) one (records k)

module _ (p : Record → Bool) (gone come : Option Record) (old new : Catalog) (swap : Swaps gone come old new) (le : count_by p old ≤ 1) where
  at_most_one : (b : Bool) → one_if b ≤ 1
  at_most_one true = omega arith
  at_most_one false = omega arith

  no_one : (b : Bool) → b ≡ false → ◌≡◌ {A = ℕ} (one_if b) 0
  no_one b e = ap one_if e

  a_one : (b : Bool) → b ≡ true → ◌≡◌ {A = ℕ} (one_if b) 1
  a_one b e = ap one_if e

  -- none of the two passes
  pub past_count : passes p gone ≡ false → passes p come ≡ false → count_by p new ≡ count_by p old
  past_count g c = omega (arith, swapped_count p gone come old new swap, no_one (passes p gone) g, no_one (passes p come) c)

  pub past_find : passes p gone ≡ false → passes p come ≡ false → find p new ≡ find p old
  past_find g c =
      swapped_find p gone come old new swap le (omega (arith, le, past_count g c))
      ∙ ap (λ o. option_or o (cond (passes p gone) None (find p old))) (none come c)
      ∙ ap (λ (b : Bool). cond b None (find p old)) g
    where
      none : (o : Option Record) → passes p o ≡ false → only p o ≡ None
      none None e = refl
      none (Some r) e = ap (λ b. cond b (Some r) None) e

  nothing : (b : Bool) (o : Option Record) → o ≡ None → cond b None o ≡ None
  nothing true o e = refl
  nothing false o e = e

  -- all of them pass, and what went is what was found
  module _ (was : find p old ≡ gone) (g : passes p gone ≡ is_there gone) (c : passes p come ≡ is_there come) where
    pub here_count : count_by p new ≤ 1
    here_count = by gone refl
      where
        by : (o : Option Record) → gone ≡ o → count_by p new ≤ 1
        by None e =
            let none : count_by p old ≡ 0 = none_counted p old (was ∙ e) in
            omega (arith, swapped_count p gone come old new swap, none, at_most_one (passes p come))
        by (Some r) e =
            let there : passes p gone ≡ true = g ∙ ap is_there e in
            omega (arith, swapped_count p gone come old new swap, le, a_one (passes p gone) there, at_most_one (passes p come))

    pub here_find : find p new ≡ come
    here_find =
        swapped_find p gone come old new swap le here_count
        ∙ ap (λ o. option_or (only p come) o) (rest gone refl)
        ∙ first come c
      where
        rest : (o : Option Record) → gone ≡ o → cond (passes p gone) None (find p old) ≡ None
        rest None e = nothing (passes p gone) (find p old) (was ∙ e)
        rest (Some r) e = ap (λ (b : Bool). cond b None (find p old)) (g ∙ ap is_there e)

        first : (o : Option Record) → passes p o ≡ is_there o → option_or (only p o) None ≡ o
        first None e = refl
        first (Some r) e = ap (λ b. option_or (cond b (Some r) None) None) e

-- ---- the tests

module _ (i : ℕ) where
  all_items : (k : ℕ) (o : Option Record) → IfThere (IsItemOf i) o → eqb i k ≡ true → passes (has_id k) o ≡ is_there o
  all_items k None h e = refl
  all_items k (Some r) h e = and_from (is_item r.1) (eqb (item_id r.1) k) h.item (ap (λ (n : ℕ). eqb n k) h.id ∙ e)

  no_items : (k : ℕ) (o : Option Record) → IfThere (IsItemOf i) o → eqb i k ≡ false → passes (has_id k) o ≡ false
  no_items k None h e = refl
  no_items k (Some r) h e = (λ j. h.item j && eqb (h.id j) k) ∙ e

  no_threads : (k : ℕ) (o : Option Record) → IfThere (IsItemOf i) o → passes (is_thread_of k) o ≡ false
  no_threads k None h = refl
  no_threads k (Some r) h = elim (is_thread r.1) as (λ (b : Bool). is_thread r.1 ≡ b → (b && eqb r.0.parent k) ≡ false) [
    | true ↦ λ e. absurd (item_or_thread r.1 h.item e)
    | false ↦ λ e. refl
  ] refl

  all_threads : (k : ℕ) (o : Option Record) → IfThere (IsThreadOf i) o → eqb i k ≡ true → passes (is_thread_of k) o ≡ is_there o
  all_threads k None h e = refl
  all_threads k (Some r) h e = and_from (is_thread r.1) (eqb r.0.parent k) h.thread (ap (λ (n : ℕ). eqb n k) h.id ∙ e)

  other_threads : (k : ℕ) (o : Option Record) → IfThere (IsThreadOf i) o → eqb i k ≡ false → passes (is_thread_of k) o ≡ false
  other_threads k None h e = refl
  other_threads k (Some r) h e = (λ j. h.thread j && eqb (h.id j) k) ∙ e

  not_items : (k : ℕ) (o : Option Record) → IfThere (IsThreadOf i) o → passes (has_id k) o ≡ false
  not_items k None h = refl
  not_items k (Some r) h = elim (is_item r.1) as (λ (b : Bool). is_item r.1 ≡ b → (b && eqb (item_id r.1) k) ≡ false) [
    | true ↦ λ e. absurd (item_or_thread r.1 e h.thread)
    | false ↦ λ e. refl
  ] refl

-- ---- what a step makes of the look-ups

module _ (i : ℕ) (gone come : Option Record) (old new : Catalog) (once : AreOnce old) where
  found_by : (p : ℕ → Record → Bool) (k : ℕ) → find (p i) old ≡ gone → eqb i k ≡ true → find (p k) old ≡ gone
  found_by p k was e = ap (λ (n : ℕ). find (p n) old) (sym (eqb-true i k e)) ∙ was

  module _ (step : ItemStep i gone come old new) where
    pub item_once : AreOnce new
    item_once = record {
      items = λ k. elim (eqb i k) as (λ (b : Bool). eqb i k ≡ b → count_by (has_id k) new ≤ 1) [
        | true ↦ λ e. here_count (has_id k) gone come old new step.swap (once.items k) (found_by has_id k step.was e) (all_items i k gone step.left e) (all_items i k come step.came e)
        | false ↦ λ e. omega (arith, once.items k, past_count (has_id k) gone come old new step.swap (once.items k) (no_items i k gone step.left e) (no_items i k come step.came e))
      ] refl;
      threads = λ k. omega (arith, once.threads k, past_count (is_thread_of k) gone come old new step.swap (once.threads k) (no_threads i k gone step.left) (no_threads i k come step.came));
    }

    pub item_after : (k : ℕ) → item_with new k ≡ with_one (item_with old) i come k
    item_after k = elim (eqb i k) as (λ (b : Bool). eqb i k ≡ b → item_with new k ≡ cond b come (item_with old k)) [
      | true ↦ λ e. here_find (has_id k) gone come old new step.swap (once.items k) (found_by has_id k step.was e) (all_items i k gone step.left e) (all_items i k come step.came e)
      | false ↦ λ e. past_find (has_id k) gone come old new step.swap (once.items k) (no_items i k gone step.left e) (no_items i k come step.came e)
    ] refl

    pub item_threads : (k : ℕ) → thread_of new k ≡ thread_of old k
    item_threads k = past_find (is_thread_of k) gone come old new step.swap (once.threads k) (no_threads i k gone step.left) (no_threads i k come step.came)

  module _ (step : ThreadStep i gone come old new) where
    pub thread_once : AreOnce new
    thread_once = record {
      items = λ k. omega (arith, once.items k, past_count (has_id k) gone come old new step.swap (once.items k) (not_items i k gone step.left) (not_items i k come step.came));
      threads = λ k. elim (eqb i k) as (λ (b : Bool). eqb i k ≡ b → count_by (is_thread_of k) new ≤ 1) [
        | true ↦ λ e. here_count (is_thread_of k) gone come old new step.swap (once.threads k) (found_by is_thread_of k step.was e) (all_threads i k gone step.left e) (all_threads i k come step.came e)
        | false ↦ λ e. omega (arith, once.threads k, past_count (is_thread_of k) gone come old new step.swap (once.threads k) (other_threads i k gone step.left e) (other_threads i k come step.came e))
      ] refl;
    }

    pub thread_after : (k : ℕ) → thread_of new k ≡ with_one (thread_of old) i come k
    thread_after k = elim (eqb i k) as (λ (b : Bool). eqb i k ≡ b → thread_of new k ≡ cond b come (thread_of old k)) [
      | true ↦ λ e. here_find (is_thread_of k) gone come old new step.swap (once.threads k) (found_by is_thread_of k step.was e) (all_threads i k gone step.left e) (all_threads i k come step.came e)
      | false ↦ λ e. past_find (is_thread_of k) gone come old new step.swap (once.threads k) (other_threads i k gone step.left e) (other_threads i k come step.came e)
    ] refl

    pub thread_items : (k : ℕ) → item_with new k ≡ item_with old k
    thread_items k = past_find (has_id k) gone come old new step.swap (once.items k) (not_items i k gone step.left) (not_items i k come step.came)
