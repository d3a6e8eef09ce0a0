-- The forks of a volume whose catalog has changed, where the extents tree has not.
use Rattle.std.proofs.Common.{◌≡◌, ⊎_elim, ℕ, ◌<◌, ◌≤◌, Bool, true, false, cond, ◌||◌, List, [], ◌∷◌, count_by, refl, sym, ◌∙◌, ap, arith}
use Rattle.std.specs.List.{flat_map, sum_by, list_any}
use Rattle.std.specs.Ordering.{is_eq}
use Rattle.std.proofs.lemmas.Bool.{or_cases, or_left, or_right, true≢false}
use Rattle.std.proofs.lemmas.List.Sums.{sum_by-cons}
use Rattle.std.proofs.lemmas.List.Folds.{list_any-append}
use Rattle.hfs_fields.specs.declared.mdb.Mdb.{Mdb}
use Rattle.hfs_fields.specs.declared.key.ExtKey.{ExtKey}
use Rattle.hfs_fields.specs.Counts.{with_counts}
use Rattle.hfs_fields.specs.Keys.{ext_cmp}
use Rattle.hfs_fields.specs.Each.{Each}
use Rattle.hfs_fields.proofs.ElementLemmas.{each-mono}
use Rattle.hfs_space.specs.Extents.{Overflow}
use Rattle.hfs_space.specs.Owners.{Fork, forks_of, catalog_fork, all_forks, records_in, goes_on_with, owners, owned_blocks}
use Rattle.hfs_space.specs.Sound.{IsForkSound, AreForksSound}
use Rattle.hfs_catalog.specs.Records.{Record, Catalog}
use Rattle.hfs_record_edits.specs.Swaps.{one_if}
use Rattle.hfs_record_edits.proofs.Space.{record_has, others_have, owners_sum}

-- ---- whether one passes, by how many do

pub any_counts : {X : Type 0} (p : X → Bool) (xs : List X) → list_any p xs ≡ true → 0 < count_by p xs
any_counts p [] e = absurd (true≢false (sym e))
any_counts {X} p (x ∷ xs) e = elim (p x) as (λ (b : Bool). p x ≡ b → (b || list_any p xs) ≡ true → 0 < count_by p (x ∷ xs)) [
  | true ↦ λ h some. let here : ◌≡◌ {A = ℕ} (one_if (p x)) 1 = ap one_if h in omega (arith, here, sum_by-cons (λ (y : X). cond (p y) 1 0) x xs)
  | false ↦ λ h some. omega (arith, any_counts p xs some, sum_by-cons (λ (y : X). cond (p y) 1 0) x xs)
] refl e

pub counts_any : {X : Type 0} (p : X → Bool) (xs : List X) → 0 < count_by p xs → list_any p xs ≡ true
counts_any p [] some = absurd (omega arith)
counts_any {X} p (x ∷ xs) some = elim (p x) as (λ (b : Bool). p x ≡ b → (b || list_any p xs) ≡ true) [
  | true ↦ λ h. refl
  | false ↦ λ h. let off : ◌≡◌ {A = ℕ} (one_if (p x)) 0 = ap one_if h in counts_any p xs (omega (arith, some, off, sum_by-cons (λ (y : X). cond (p y) 1 0) x xs))
] refl

pub any_in : {X Y : Type 0} (p : Y → Bool) (f : X → List Y) (xs : List X) → list_any p (flat_map f xs) ≡ list_any (λ x. list_any p (f x)) xs
any_in p f [] = refl
any_in p f (x ∷ xs) = list_any-append p (f x) (flat_map f xs) ∙ ap (λ b. list_any p (f x) || b) (any_in p f xs)

-- ---- forks that are still there

same_fork : (counts mdb : Mdb) → catalog_fork (with_counts counts mdb) ≡ catalog_fork mdb
unfolding catalog_fork
same_fork counts mdb = refl

module _ (counts mdb : Mdb) (overflow : Overflow) (old new : Catalog) where
  abbrev Right : Mdb → Record → Type 0
  Right m r = Each (IsForkSound m overflow) (forks_of r)

  carried : (f : Fork) → IsForkSound mdb overflow f → IsForkSound (with_counts counts mdb) overflow f
  carried f h = record { within = h.within; room = h.room }

  -- where at least as many records have forks that pass a test, a record of the extents tree that was used is used
  module _ (more : (p : Fork → Bool) → count_by (λ r. list_any p (forks_of r)) old ≤ count_by (λ r. list_any p (forks_of r)) new) where
    still_used : (q : ExtKey × List ℕ) → goes_on_with overflow (all_forks mdb old) q ≡ true → goes_on_with overflow (all_forks (with_counts counts mdb) new) q ≡ true
    unfolding goes_on_with
    still_used q e =
        let p = λ (f : Fork). list_any (λ (x : ExtKey × List ℕ). is_eq (ext_cmp q.0 x.0)) (records_in overflow f) in
        ⊎_elim
        (λ (first : p (catalog_fork mdb) ≡ true). or_left _ _ (ap p (same_fork counts mdb) ∙ first))
        (λ (some : list_any p (flat_map forks_of old) ≡ true).
        let before : list_any (λ r. list_any p (forks_of r)) old ≡ true = sym (any_in p forks_of old) ∙ some in
        or_right _ _ (any_in p forks_of new ∙ counts_any (λ r. list_any p (forks_of r)) new (omega (arith, more p, any_counts (λ r. list_any p (forks_of r)) old before))))
        (or_cases _ _ e)

    pub forks_kept : Each (Right mdb) new → AreForksSound mdb overflow old → AreForksSound (with_counts counts mdb) overflow new
    forks_kept right h = record {
      files = each-mono _ _ new (λ r each. each-mono _ _ (forks_of r) carried each) right;
      records = each-mono _ _ overflow (λ q sound. record { some = sound.some; bad = sound.bad; used = λ other. still_used q (sound.used other) }) h.records;
    }

  -- where the records have each block as often, so do all
  same_others : (b : ℕ) → others_have (with_counts counts mdb) overflow b ≡ others_have mdb overflow b
  unfolding catalog_fork
  same_others b = refl

  pub owners_kept : (b : ℕ) → sum_by (record_has mdb overflow b) new ≡ sum_by (record_has mdb overflow b) old
      → owners (owned_blocks (with_counts counts mdb) overflow new) b ≡ owners (owned_blocks mdb overflow old) b
  owners_kept b same = omega (arith, owners_sum (with_counts counts mdb) overflow b new, owners_sum mdb overflow b old, same_others b, same)
