-- The records of one fork stand together.
use Rattle.std.proofs.Common.{◌≡◌, ℕ, ◌<◌, ◌≤◌, Bool, true, false, ◌&&◌, ◌||◌, eqb, ltb, length, get_or, refl, sym, ap, ◌∙◌, inl, inr, arith}
use Rattle.std.specs.Ordering.{nat_cmp, ordering_then}
use Rattle.std.specs.declared.cmp.Ordering.{Ordering}
use Rattle.std.specs.declared.cmp.Ordering.TheVariants.{Less, Greater}
use Rattle.std.proofs.lemmas.Cmp.{ranked, by_ranked}
use Rattle.std.proofs.lemmas.Bool.{cases_lt}
use Rattle.std.proofs.lemmas.Bool.Decides.{nat_tests}
use Rattle.std.specs.List.Sorted.{IsPartitionedBy}
use Rattle.hfs_fields.specs.Keys.{ext_cmp}
use Rattle.hfs_btree.specs.Pairs.{Rises}
use Rattle.hfs_space.specs.Extents.{Overflow}
use Rattle.hfs_space.specs.Runs.{is_of_fork, is_before_fork}
use Rattle.hfs_space.proofs.RunSteps.{Record, rises-at}

-- what stands before is not after, by file and fork
record IsUpTo (a b c d : ℕ) : Type 0 where
  first : a ≤ c
  second : a ≡ c → b ≤ d

up_to : (a b c d : ℕ) (rest : Ordering) → ordering_then (nat_cmp a c) (ordering_then (nat_cmp b d) rest) ≡ Less → IsUpTo a b c d
up_to a b c d rest e =
    by_ranked (a < c) (a ≡ c) (c < a) (nat_cmp a c) (ranked a c (nat_cmp a c) refl)
    (λ less h. record { first = omega arith; second = λ same. absurd (omega arith) })
    (λ equal h. record { first = omega arith; second = λ same. inner (sym (ap (λ o. ordering_then o (ordering_then (nat_cmp b d) rest)) equal) ∙ e) })
    (λ greater h. absurd (let no : Greater ≡ Less = sym (ap (λ o. ordering_then o (ordering_then (nat_cmp b d) rest)) greater) ∙ e in cc))
  where
    inner : ordering_then (nat_cmp b d) rest ≡ Less → b ≤ d
    inner f =
        by_ranked (b < d) (b ≡ d) (d < b) (nat_cmp b d) (ranked b d (nat_cmp b d) refl)
        (λ less h. omega arith)
        (λ equal h. omega arith)
        (λ greater h. absurd (let no : Greater ≡ Less = sym (ap (λ o. ordering_then o rest) greater) ∙ f in cc))

abbrev before : ℕ → ℕ → ℕ → ℕ → Bool
before file fork a b = ltb a file || (eqb a file && ltb b fork)

abbrev at : ℕ → ℕ → ℕ → ℕ → Bool
at file fork a b = eqb a file && eqb b fork

before-down : (file fork a b c d : ℕ) → a ≤ c → (a ≡ c → b ≤ d) → before file fork c d ≡ true → before file fork a b ≡ true
before-down file fork a b c d le le' h = grind (arith, nat_tests)

before-away : (file fork a b : ℕ) → before file fork a b ≡ true → at file fork a b ≡ false
before-away file fork a b h = grind (arith, nat_tests)

behind-away : (file fork a b c d : ℕ) → a ≤ c → (a ≡ c → b ≤ d) → before file fork a b ≡ false → at file fork a b ≡ false → at file fork c d ≡ false
behind-away file fork a b c d le le' h k = grind (arith, nat_tests)

module _ (xs : Overflow) (rises : Rises ext_cmp xs) (file fork : ℕ) where
  parts : (i j : ℕ) (d : Record) → i < j → j < length xs → IsUpTo (get_or xs i d).0.file (get_or xs i d).0.fork (get_or xs j d).0.file (get_or xs j d).0.fork
  parts i j d lt within = up_to _ _ _ _ _ (rises-at xs i j d rises lt within)

  pub parted : IsPartitionedBy (is_before_fork file fork) xs
  parted i j d le within h = elim (cases_lt i j) as (λ _. is_before_fork file fork (get_or xs i d) ≡ true) [
    | inl lt ↦
        let p = parts i j d lt within in
        before-down file fork (get_or xs i d).0.file (get_or xs i d).0.fork (get_or xs j d).0.file (get_or xs j d).0.fork p.first p.second h
    | inr ge ↦ ap (λ k. is_before_fork file fork (get_or xs k d)) (let same : i ≡ j = omega arith in same) ∙ h
  ]

  pub away_before : (r : Record) → is_before_fork file fork r ≡ true → is_of_fork file fork r ≡ false
  away_before r h = before-away file fork r.0.file r.0.fork h

  pub away_behind : (i k : ℕ) (d : Record) → i ≤ k → k < length xs → is_before_fork file fork (get_or xs i d) ≡ false → is_of_fork file fork (get_or xs i d) ≡ false → is_of_fork file fork (get_or xs k d) ≡ false
  away_behind i k d le within h away = elim (cases_lt i k) as (λ _. is_of_fork file fork (get_or xs k d) ≡ false) [
    | inl lt ↦
        let p = parts i k d lt within in
        behind-away file fork (get_or xs i d).0.file (get_or xs i d).0.fork (get_or xs k d).0.file (get_or xs k d).0.fork p.first p.second h away
    | inr ge ↦ ap (λ j. is_of_fork file fork (get_or xs j d)) (let same : k ≡ i = omega arith in same) ∙ away
  ]
