-- Counts, forks and space where an item's record and its thread's have turned.
use Rattle.std.proofs.Common.{◌≡◌, inl, inr, ℕ, ◌+◌, Bool, true, false, List, [], count_by, refl, sym, ap, subst, arith, Option, Some, None}
use Rattle.std.specs.List.{list_any, sum_by}
use Rattle.hfs_fields.specs.declared.mdb.Mdb.{Mdb}
use Rattle.hfs_fields.specs.Counts.{with_counts}
use Rattle.hfs_fields.specs.Records.{is_thread}
use Rattle.hfs_fields.specs.Each.{Each}
use Rattle.hfs_fields.proofs.MemberLemmas.{each_in}
use Rattle.hfs_space.specs.Extents.{Overflow}
use Rattle.hfs_space.specs.Owners.{Fork, forks_of, owned_blocks, owners}
use Rattle.hfs_space.specs.Sound.{IsForkSound, AreForksSound}
use Rattle.hfs_catalog.specs.Records.{Record, Catalog}
use Rattle.hfs_catalog.specs.Lookups.{thread_of}
use Rattle.hfs_catalog.specs.Sound.{IsSoundCatalog}
use Rattle.hfs_record_edits.specs.Swaps.{one_if, list_of}
use Rattle.hfs_record_edits.proofs.SwapLemmas.{passes, number_of, swapped_count, swapped_sum, swapped_each}
use Rattle.hfs_record_edits.proofs.StepsLaws.{IfThere}
use Rattle.hfs_record_edits.proofs.ChangesLaws.{IsItsThread}
use Rattle.hfs_catalog.proofs.Held.{with_id}
use Rattle.hfs_record_edits.proofs.Linked.{with_thread}
use Rattle.hfs_record_edits.proofs.Turned.{HasTurned, item_way}
use Rattle.hfs_record_edits.proofs.Space.{record_has, forks_have}
use Rattle.hfs_record_edits.proofs.ForkLemmas.{forks_kept, owners_kept}
use Rattle.hfs_record_edits.proofs.KeptSpace.{no_file_forks, thread_no_file}

-- ---- records that are counted

module _ (next k : ℕ) (r s : Record) (thread turned : Option Record) (old new : Catalog) (h : IsSoundCatalog next old) (moved : HasTurned k r s thread turned old new) where
  was_thread : (o : Option Record) → thread_of old k ≡ o → IfThere (λ t. is_thread t.1 ≡ true) o
  was_thread None e = tt
  was_thread (Some t) e = (with_thread old k t e).1

  is_thread_now : (o : Option Record) → IfThere (IsItsThread k s) o → IfThere (λ t. is_thread t.1 ≡ true) o
  is_thread_now None i = tt
  is_thread_now (Some t) i = i.of.thread

  off : (p : Record → Bool) → ((t : Record) → is_thread t.1 ≡ true → p t ≡ false) → (o : Option Record) → IfThere (λ t. is_thread t.1 ≡ true) o → ◌≡◌ {A = ℕ} (one_if (passes p o)) 0
  off p none None i = refl
  off p none (Some t) i = ap one_if (none t i)

  no_number : (f : Record → ℕ) → ((t : Record) → is_thread t.1 ≡ true → f t ≡ 0) → (o : Option Record) → IfThere (λ t. is_thread t.1 ≡ true) o → number_of f o ≡ 0
  no_number f none None i = refl
  no_number f none (Some t) i = none t i

  count_way : (p : Record → Bool) → p s ≡ p r → count_by p moved.second ≡ count_by p old
  count_way p alike =
      let same : ◌≡◌ {A = ℕ} (one_if (p s)) (one_if (p r)) = ap one_if alike in
      elim moved.item_moved [
        | inl swap ↦ omega (arith, same, swapped_count p (Some r) (Some s) old moved.second swap)
        | inr two ↦ omega (arith, same, swapped_count p (Some r) None old two.0 two.1, swapped_count p None (Some s) two.0 moved.second two.2)
      ]

  pub as_many : (p : Record → Bool) → p s ≡ p r → ((t : Record) → is_thread t.1 ≡ true → p t ≡ false) → count_by p new ≡ count_by p old
  as_many p alike none =
      omega (
        arith,
        count_way p alike,
        off p none thread (was_thread thread moved.thread_was),
        off p none turned (is_thread_now turned moved.its),
        swapped_count p thread turned moved.second new moved.thread_set,
      )

  -- of any number that a thread doesn't have
  pub turned_sum : (f : Record → ℕ) → ((t : Record) → is_thread t.1 ≡ true → f t ≡ 0) → sum_by f new + f r ≡ sum_by f old + f s
  turned_sum f none =
      omega (
        arith,
        (item_way next k r s thread turned old new h moved).sums f,
        no_number f none thread (was_thread thread moved.thread_was),
        no_number f none turned (is_thread_now turned moved.its),
        swapped_sum f thread turned moved.second new moved.thread_set,
      )

  pub as_much : (f : Record → ℕ) → f s ≡ f r → ((t : Record) → is_thread t.1 ≡ true → f t ≡ 0) → sum_by f new ≡ sum_by f old
  as_much f alike none = omega (arith, alike, turned_sum f none)

  -- ---- forks

  module _ (counts mdb : Mdb) (overflow : Overflow) (sound : AreForksSound mdb overflow old) (same : forks_of s ≡ forks_of r) where
    abbrev AreSound : Record → Type 0
    AreSound x = Each (IsForkSound mdb overflow) (forks_of x)

    of_thread : (o : Option Record) → IfThere (λ t. is_thread t.1 ≡ true) o → Each AreSound (list_of o)
    of_thread None i = tt
    of_thread (Some t) i = (subst (Each (IsForkSound mdb overflow)) (sym (no_file_forks t (thread_no_file t i))) tt, tt)

    pub turned_forks : AreForksSound (with_counts counts mdb) overflow new
    turned_forks =
        let own : AreSound s = subst (Each (IsForkSound mdb overflow)) (sym same) (each_in AreSound old r sound.files (with_id old k r moved.was).0) in
        let as_before = λ (p : Fork → Bool). as_many (λ x. list_any p (forks_of x)) (ap (λ (fs : List Fork). list_any p fs) same) (λ t thread. ap (λ (fs : List Fork). list_any p fs) (no_file_forks t (thread_no_file t thread))) in
        forks_kept counts mdb overflow old new (λ p. omega (arith, as_before p))
        (swapped_each AreSound thread turned moved.second new moved.thread_set ((item_way next k r s thread turned old new h moved).each AreSound sound.files own) (of_thread turned (is_thread_now turned moved.its)))
        sound

    pub turned_owners : (b : ℕ) → owners (owned_blocks (with_counts counts mdb) overflow new) b ≡ owners (owned_blocks mdb overflow old) b
    turned_owners b = owners_kept counts mdb overflow old new b (as_much (record_has mdb overflow b) (ap (forks_have mdb overflow b) same) (λ t thread. has_none (forks_of t) (no_file_forks t (thread_no_file t thread))))
      where
        has_none : (fs : List Fork) → fs ≡ [] → forks_have mdb overflow b fs ≡ 0
        has_none fs e = ap (forks_have mdb overflow b) e
