-- The changed blocks of an image by their numbers: those that are kept, and behind them those of zeros.
use Rattle.std.proofs.Common.{◌≡◌, ⊎_elim, ℕ, zero, suc, ◌+◌, ◌<◌, ◌≤◌, Bool, true, false, cond, List, [], ◌∷◌, ◌++◌, length, length-append, Option, Some, None, refl, sym, ap, ◌∙◌, subst, arith, rules, true≢false, Result, Ok, Err}
use Rattle.std.specs.Prelude.{◌&&◌, ◌||◌, not, nat_lt, nat_eq, is_some, unwrap_or, OnOk, OnErr}
use Rattle.std.specs.List.{list_any, range_with_len, IsDistinct}
use Rattle.std.specs.Option.{option_or}
use Rattle.std.proofs.lemmas.Cmp.{nat_eq_equiv}
use Rattle.std.proofs.lemmas.Bool.{cases_eq, cases_lt, eq-eqb, eqb-true, ne_eqb, lt-ltb, le-ltb}
use Rattle.std.proofs.lemmas.List.{length-replicate}
use Rattle.std.proofs.lemmas.List.FromFn.{length-range_with_len}
use Rattle.std.proofs.lemmas.Map.Keys.{IsDistinct-push}
use Rattle.std.proofs.lemmas.Map.Made.{is_some-lookup, length-le_from_is_member}
use Rattle.std.proofs.lemmas.Option.{none-some, same_Some}
use Rattle.hfs_blocks.proofs.LaidLemmas.{over_or}
use Rattle.hfs_blocks.specs.declared.run.Run.{Run}
use Rattle.hfs_blocks.specs.Layers.{Numbered, Changes, changes, numbers, over, with_change, AreWhole, AreWithin}
use Rattle.hfs_space.specs.Parts.{zeros}
use Rattle.hfs_space.specs.Zeros.{is_of_run, zero_blocks, AreAmong}
use Rattle.hfs_space.specs.Clearing.{patched}
use Rattle.hfs_space.specs.Flags.{is_flagged, flagged, zeros_if, AreSameFlags, IsFlaggedAt, AreWhole-flagged}
use Rattle.hfs_space.specs.Laying.{shown, is_changed}
use Rattle.hfs_space.proofs.RunLemmas.{in_total}
use Rattle.hfs_space.specs.Changed.{is_zeros, blocks_below, all_blocks, laid_changes}

-- ---- numbers

-- a number is among the numbers of the blocks where it has a block
pub has-numbers : (es : Numbered) (k : ℕ) → list_any (nat_eq k) (numbers es) ≡ is_some (changes es k)
has-numbers es k = sym (is_some-lookup (nat_eq k) es)

in_range : (q a n : ℕ) → a ≤ q → q < a + n → list_any (nat_eq q) (range_with_len a n) ≡ true
in_range q a zero low high = absurd (let e : q < a = omega arith in omega arith)
in_range q a (suc n) low high = ⊎_elim
    (λ (same : q ≡ a). ap (λ b. b || list_any (nat_eq q) (range_with_len (a + 1) n)) (is_same q a same))
    (λ (other : q ≡ a → ⊥). or_right (nat_eq q a) _ (in_range q (a + 1) n (above q a low other) (omega arith)))
    (cases_eq q a)
  where
    is_same : (x y : ℕ) → x ≡ y → nat_eq x y ≡ true
    is_same x y = search rules

    or_right : (a b : Bool) → b ≡ true → a || b ≡ true
    or_right true b e = refl
    or_right false b e = e

    above : (q a : ℕ) → a ≤ q → (q ≡ a → ⊥) → a + 1 ≤ q
    above q a low other = omega (arith, low, other)

-- there are no more numbers than blocks
pub few_numbers : (es : Numbered) (count : ℕ) → IsDistinct nat_eq (numbers es) → AreWithin (changes es) count → length (numbers es) ≤ count
few_numbers es count once within =
    subst (λ m. length (numbers es) ≤ m) (length-range_with_len 0 count)
    (length-le_from_is_member nat_eq_equiv (numbers es) (range_with_len 0 count) once
    (λ q member. in_range q 0 count (omega arith) (low (changes es q) refl (sym (has-numbers es q) ∙ member))))
  where
    low : {q : ℕ} (o : Option (List ℕ)) → changes es q ≡ o → is_some o ≡ true → q < 0 + count
    low {q} (Some b) e some = let w : q < count = (within q b e).0 in omega (arith, w)
    low {q} None e some = absurd (true≢false (sym some))

-- ---- one block more

changes-push : (xs : Numbered) (y : ℕ × List ℕ) (k : ℕ) → changes (xs ++ y ∷ []) k ≡ option_or (changes xs k) (cond (nat_eq k y.0) (Some y.1) None)
changes-push [] y k = refl
changes-push (x ∷ xs) y k = by (nat_eq k x.0) (changes-push xs y k)
  where
    by : (t : Bool) → changes (xs ++ y ∷ []) k ≡ option_or (changes xs k) (cond (nat_eq k y.0) (Some y.1) None)
        → cond t (Some x.1) (changes (xs ++ y ∷ []) k) ≡ option_or (cond t (Some x.1) (changes xs k)) (cond (nat_eq k y.0) (Some y.1) None)
    by true h = refl
    by false h = h

numbers-push : (xs : Numbered) (y : ℕ × List ℕ) → numbers (xs ++ y ∷ []) ≡ numbers xs ++ y.0 ∷ []
numbers-push [] y = refl
numbers-push (x ∷ xs) y = ap (λ (l : List ℕ). x.0 ∷ l) (numbers-push xs y)

-- there is no flag behind the last
past : (flags : List Bool) (k : ℕ) → length flags ≤ k → is_flagged flags k ≡ false
past [] k le = refl
past (f ∷ fs) zero le = absurd (omega (arith, le))
past (f ∷ fs) (suc k) le = past fs k (omega (arith, le))

pub unset_pushed : (flags : List Bool) (k : ℕ) → is_flagged (flags ++ false ∷ []) k ≡ is_flagged flags k
unset_pushed [] zero = refl
unset_pushed [] (suc k) = refl
unset_pushed (f ∷ fs) zero = refl
unset_pushed (f ∷ fs) (suc k) = unset_pushed fs k

-- ---- the blocks below one

or-none : {A : Type 0} (o : Option A) → option_or o None ≡ o
or-none None = refl
or-none (Some x) = refl

module _ (kept : Numbered) (flags : List Bool) where
  abbrev shown_below : ℕ → ℕ → Option (List ℕ)
  shown_below n k = option_or (changes kept k) (zeros_if (is_flagged flags k && nat_lt k n))

  not_next : (n k : ℕ) → (k ≡ n → ⊥) → nat_lt k (n + 1) ≡ nat_lt k n
  not_next n k other = ⊎_elim
      (λ (l : k < n). lt-ltb k (n + 1) (omega (arith, l)) ∙ sym (lt-ltb k n l))
      (λ (ge : n ≤ k). le-ltb k (n + 1) (next n k ge other) ∙ sym (le-ltb k n ge))
      (cases_lt k n)
    where
      next : (n k : ℕ) → n ≤ k → (k ≡ n → ⊥) → n + 1 ≤ k
      next n k ge other = omega (arith, ge, other)

  -- the number itself
  here : (n : ℕ) (c : Option (List ℕ)) (f : Bool) → option_or (option_or c (zeros_if (f && nat_lt n n))) (cond (f && not (is_some c)) (Some (zeros 512)) None) ≡ option_or c (zeros_if (f && nat_lt n (n + 1)))
  here n (Some b) f = refl
  here n None true = ap (λ (t : Bool). option_or (zeros_if t) (Some (zeros 512))) (le-ltb n n (omega arith)) ∙ sym (ap zeros_if (lt-ltb n (n + 1) (omega arith)))
  here n None false = refl

  -- the blocks below, and the one of this number where it is one of zeros
  abbrev next_blocks : ℕ → Bool → Numbered
  next_blocks n t = cond t (blocks_below kept flags n ++ (n, zeros 512) ∷ []) (blocks_below kept flags n)

  beside : (n k : ℕ) (t : Bool) → (k ≡ n → ⊥) → changes (next_blocks n t) k ≡ changes (blocks_below kept flags n) k
  beside n k true other =
      changes-push (blocks_below kept flags n) (n, zeros 512) k
      ∙ ap (λ (b : Bool). option_or (changes (blocks_below kept flags n) k) (cond b (Some (zeros 512)) None)) (ne_eqb k n other)
      ∙ or-none (changes (blocks_below kept flags n) k)
  beside n k false other = refl

  whole : (n k : ℕ) (t : Bool) → k ≡ n → changes (next_blocks n t) k ≡ option_or (changes (blocks_below kept flags n) k) (cond t (Some (zeros 512)) None)
  whole n k true same =
      changes-push (blocks_below kept flags n) (n, zeros 512) k
      ∙ ap (λ (b : Bool). option_or (changes (blocks_below kept flags n) k) (cond b (Some (zeros 512)) None)) (eq-eqb k n same)
  whole n k false same = sym (or-none (changes (blocks_below kept flags n) k))

  at : (n k : ℕ) (t : Bool) → is_zeros kept flags n ≡ t → k ≡ n → changes (blocks_below kept flags n) k ≡ shown_below n k → changes (next_blocks n t) k ≡ shown_below (n + 1) k
  at n k t e same before =
      whole n k t same
      ∙ ap (λ (o : Option (List ℕ)). option_or o (cond t (Some (zeros 512)) None)) before
      ∙ ap (λ (b : Bool). option_or (shown_below n k) (cond b (Some (zeros 512)) None)) (sym e ∙ ap (is_zeros kept flags) (sym same))
      ∙ ap (λ (m : ℕ). option_or (option_or (changes kept k) (zeros_if (is_flagged flags k && nat_lt k m))) (cond (is_zeros kept flags k) (Some (zeros 512)) None)) (sym same)
      ∙ here k (changes kept k) (is_flagged flags k)
      ∙ ap (λ (m : ℕ). option_or (changes kept k) (zeros_if (is_flagged flags k && nat_lt k (m + 1)))) same

  next_below : (n k : ℕ) (t : Bool) → is_zeros kept flags n ≡ t → changes (blocks_below kept flags n) k ≡ shown_below n k → changes (next_blocks n t) k ≡ shown_below (n + 1) k
  next_below n k t e before = ⊎_elim
      (λ (same : k ≡ n). at n k t e same before)
      (λ (other : k ≡ n → ⊥). beside n k t other ∙ before ∙ ap (λ (b : Bool). option_or (changes kept k) (zeros_if (is_flagged flags k && b))) (sym (not_next n k other)))
      (cases_eq k n)

  none_below : (k : ℕ) (f : Bool) → (f && nat_lt k 0) ≡ false
  none_below k true = le-ltb k 0 (omega arith)
  none_below k false = refl

  pub changes-below : (n k : ℕ) → changes (blocks_below kept flags n) k ≡ shown_below n k
  unfolding blocks_below
  changes-below zero k = sym (ap (λ (t : Bool). option_or (changes kept k) (zeros_if t)) (none_below k (is_flagged flags k)) ∙ or-none (changes kept k))
  changes-below (suc n) k =
      next_below n k (is_zeros kept flags n) refl (changes-below n k)
      ∙ ap (λ (m : ℕ). option_or (changes kept k) (zeros_if (is_flagged flags k && nat_lt k m))) (let e : n + 1 ≡ suc n = omega arith in e)

  -- no block below has the next number, unless it is kept
  pub absent-below : (n : ℕ) → is_some (changes kept n) ≡ false → is_some (changes (blocks_below kept flags n) n) ≡ false
  absent-below n none = ap is_some (changes-below n n ∙ ap (λ (t : Bool). option_or (changes kept n) (zeros_if t)) (and-false (is_flagged flags n) ∙ refl)) ∙ by (changes kept n) none
    where
      and-false : (f : Bool) → (f && nat_lt n n) ≡ false
      and-false true = le-ltb n n (omega arith)
      and-false false = refl

      by : (o : Option (List ℕ)) → is_some o ≡ false → is_some (option_or o (zeros_if false)) ≡ false
      by None e = refl
      by (Some b) e = e

  is_absent : (n : ℕ) → is_zeros kept flags n ≡ true → is_some (changes kept n) ≡ false
  is_absent n = by (is_flagged flags n) (is_some (changes kept n))
    where
      by : (f s : Bool) → (f && not s) ≡ true → s ≡ false
      by f false e = refl
      by true true e = sym e
      by false true e = sym e

  next_once : (n : ℕ) (t : Bool) → is_zeros kept flags n ≡ t → IsDistinct nat_eq (numbers (blocks_below kept flags n)) → IsDistinct nat_eq (numbers (next_blocks n t))
  next_once n true e h =
      subst (λ (l : List ℕ). IsDistinct nat_eq l) (sym (numbers-push (blocks_below kept flags n) (n, zeros 512)))
      (IsDistinct-push nat_eq_equiv (numbers (blocks_below kept flags n)) n h (has-numbers (blocks_below kept flags n) n ∙ absent-below n (is_absent n e)))
  next_once n false e h = h

  pub once-below : IsDistinct nat_eq (numbers kept) → (n : ℕ) → IsDistinct nat_eq (numbers (blocks_below kept flags n))
  unfolding blocks_below
  once-below once zero = once
  once-below once (suc n) = next_once n (is_zeros kept flags n) refl (once-below once n)

  -- how many there are
  after_next : (n : ℕ) → blocks_below kept flags (n + 1) ≡ next_blocks n (is_zeros kept flags n)
  unfolding blocks_below
  after_next n = ap (λ (m : ℕ). blocks_below kept flags m) (let e : n + 1 ≡ suc n = omega arith in e)

  pub count_next : (n : ℕ) → is_zeros kept flags n ≡ true → length (numbers (blocks_below kept flags (n + 1))) ≡ length (numbers (blocks_below kept flags n)) + 1
  count_next n e =
      ap (λ (l : Numbered). length (numbers l)) (after_next n ∙ ap (next_blocks n) e)
      ∙ ap (λ (l : List ℕ). length l) (numbers-push (blocks_below kept flags n) (n, zeros 512))
      ∙ length-append (numbers (blocks_below kept flags n)) (n ∷ [])

  pub count_same : (n : ℕ) → is_zeros kept flags n ≡ false → length (numbers (blocks_below kept flags (n + 1))) ≡ length (numbers (blocks_below kept flags n))
  count_same n e = ap (λ (l : Numbered). length (numbers l)) (after_next n ∙ ap (next_blocks n) e)

  -- ---- all of them

  flag_past : (k : ℕ) → (is_flagged flags k && nat_lt k (length flags)) ≡ is_flagged flags k
  flag_past k = ⊎_elim
      (λ (l : k < length flags). ap (λ (b : Bool). is_flagged flags k && b) (lt-ltb k (length flags) l) ∙ and-true (is_flagged flags k))
      (λ (ge : length flags ≤ k). ap (λ (f : Bool). f && nat_lt k (length flags)) (past flags k ge) ∙ sym (past flags k ge))
      (cases_lt k (length flags))
    where
      and-true : (f : Bool) → (f && true) ≡ f
      and-true true = refl
      and-true false = refl

  pub changes-all : (k : ℕ) → changes (all_blocks kept flags) k ≡ option_or (changes kept k) (flagged flags k)
  changes-all k = changes-below (length flags) k ∙ ap (λ (t : Bool). option_or (changes kept k) (zeros_if t)) (flag_past k)

-- ---- what is shown

pub shown-all : (kept : Numbered) (flags : List Bool) (below : ℕ → List ℕ) (k : ℕ) → over (changes (all_blocks kept flags)) below k ≡ shown kept flags below k
shown-all kept flags below k = ap (λ (o : Option (List ℕ)). unwrap_or o (below k)) (changes-all kept flags k) ∙ over_or (changes kept k) (flagged flags k) (below k)

pub shown-same : (kept : Numbered) (old new : List Bool) (below : ℕ → List ℕ) (k : ℕ) → AreSameFlags old new → shown kept new below k ≡ shown kept old below k
shown-same kept old new below k same = ap (λ (f : Bool). unwrap_or (changes kept k) (unwrap_or (zeros_if f) (below k))) (same k)

pub patched-laid : (patch : Numbered) (runs : List Run) (below : ℕ → List ℕ) (k : ℕ) → patched patch runs below k ≡ over (laid_changes patch runs) below k
patched-laid patch runs below k = sym (over_or (changes patch k) (zero_blocks runs k) (below k))

-- over what is shown so
pub patched-same : (patch : Numbered) (runs : List Run) (a b : ℕ → List ℕ) (k : ℕ) → a k ≡ b k → patched patch runs a k ≡ patched patch runs b k
patched-same patch runs a b k e = ap (λ (x : List ℕ). unwrap_or (changes patch k) (unwrap_or (zero_blocks runs k) x)) e

-- ---- whether a block is changed

some_both : (a : Option (List ℕ)) (f : Bool) → is_some (option_or a (zeros_if f)) ≡ (is_some a || f)
some_both None true = refl
some_both None false = refl
some_both (Some x) f = refl

pub is_changed-all : (kept : Numbered) (flags : List Bool) (k : ℕ) → is_some (changes (all_blocks kept flags) k) ≡ is_changed kept flags k
is_changed-all kept flags k = ap is_some (changes-all kept flags k) ∙ some_both (changes kept k) (is_flagged flags k)

pub is_laid : (patch : Numbered) (runs : List Run) (k : ℕ) → is_some (laid_changes patch runs k) ≡ (is_some (changes patch k) || list_any (is_of_run k) runs)
is_laid patch runs k = some_both (changes patch k) (list_any (is_of_run k) runs)

-- ---- where the changed blocks are

pub whole-all : (kept : Numbered) (flags : List Bool) → AreWhole (changes kept) → AreWhole (changes (all_blocks kept flags))
whole-all kept flags whole n b found = by (changes kept n) refl (sym (changes-all kept flags n) ∙ found)
  where
    by : (o : Option (List ℕ)) → changes kept n ≡ o → option_or o (flagged flags n) ≡ Some b → length b ≡ 512
    by None e f = AreWhole-flagged flags n b f
    by (Some x) e f = whole n b (e ∙ f)

pub kept-within : (kept : Numbered) (flags : List Bool) (total : ℕ) → AreWithin (changes (all_blocks kept flags)) total → AreWithin (changes kept) total
kept-within kept flags total within n b found = within n b (changes-all kept flags n ∙ ap (λ (o : Option (List ℕ)). option_or o (flagged flags n)) found)

pub flags-within : (kept : Numbered) (flags : List Bool) (total n : ℕ) → AreWithin (changes (all_blocks kept flags)) total → is_flagged flags n ≡ true → n < total
flags-within kept flags total n within is = by (changes kept n) refl
  where
    by : (o : Option (List ℕ)) → changes kept n ≡ o → n < total
    by None e = (within n (zeros 512) (changes-all kept flags n ∙ ap (λ (c : Option (List ℕ)). option_or c (flagged flags n)) e ∙ ap zeros_if is)).0
    by (Some x) e = (within n x (changes-all kept flags n ∙ ap (λ (c : Option (List ℕ)). option_or c (flagged flags n)) e)).0

pub all-within : (kept : Numbered) (flags : List Bool) (total : ℕ) → AreWithin (changes kept) total → ((n : ℕ) → is_flagged flags n ≡ true → n < total) → AreWithin (changes (all_blocks kept flags)) total
all-within kept flags total within low n b found = by (changes kept n) refl (sym (changes-all kept flags n) ∙ found)
  where
    flag : (f : Bool) → is_flagged flags n ≡ f → zeros_if f ≡ Some b → (n < total) × (length b ≡ 512)
    flag true e z = (low n e, AreWhole-flagged flags n b (ap zeros_if e ∙ z))
    flag false e z = absurd (none-some b z)

    by : (o : Option (List ℕ)) → changes kept n ≡ o → option_or o (flagged flags n) ≡ Some b → (n < total) × (length b ≡ 512)
    by None e f = flag (is_flagged flags n) refl f
    by (Some x) e f = within n b (e ∙ f)

-- those below a number are some of them
pub below-within : (kept : Numbered) (flags : List Bool) (total m : ℕ) → AreWithin (changes (all_blocks kept flags)) total → AreWithin (changes (blocks_below kept flags m)) total
below-within kept flags total m within n b found = by (changes kept n) refl (sym (changes-below kept flags m n) ∙ found)
  where
    flag : (f : Bool) → is_flagged flags n ≡ f → zeros_if (f && nat_lt n m) ≡ Some b → (n < total) × (length b ≡ 512)
    flag true e z = (flags-within kept flags total n within e, length_of (nat_lt n m) z)
      where
        length_of : (t : Bool) → zeros_if (true && t) ≡ Some b → length b ≡ 512
        length_of true is = let zero_byte : ℕ = 0 in ap (λ (l : List ℕ). length l) (sym (same_Some (zeros 512) b is)) ∙ length-replicate 512 zero_byte
        length_of false is = absurd (none-some b is)
    flag false e z = absurd (none-some b z)

    by : (o : Option (List ℕ)) → changes kept n ≡ o → option_or o (zeros_if (is_flagged flags n && nat_lt n m)) ≡ Some b → (n < total) × (length b ≡ 512)
    by None e f = flag (is_flagged flags n) refl f
    by (Some x) e f = within n b (changes-all kept flags n ∙ ap (λ (c : Option (List ℕ)). option_or c (flagged flags n)) (e ∙ f))

-- ---- where a patch and runs of zeros are

pub laid-within : (patch : Numbered) (runs : List Run) (total : ℕ) → AreWithin (changes patch) total → AreAmong runs total → AreWithin (laid_changes patch runs) total
laid-within patch runs total within among n b found = by (changes patch n) refl found
  where
    zero : (t : Bool) → list_any (is_of_run n) runs ≡ t → zeros_if t ≡ Some b → (n < total) × (length b ≡ 512)
    zero true e z = let zero_byte : ℕ = 0 in (in_total total n runs e among, ap (λ (l : List ℕ). length l) (sym (same_Some (zeros 512) b z)) ∙ length-replicate 512 zero_byte)
    zero false e z = absurd (none-some b z)

    by : (o : Option (List ℕ)) → changes patch n ≡ o → option_or o (zero_blocks runs n) ≡ Some b → (n < total) × (length b ≡ 512)
    by None e f = zero (list_any (is_of_run n) runs) refl f
    by (Some x) e f = within n b (e ∙ f)

-- ---- what is shown of a block

pub below-zero : (kept : Numbered) (flags : List Bool) → blocks_below kept flags 0 ≡ kept
unfolding blocks_below
below-zero kept flags = refl

pub all-none : all_blocks [] [] ≡ []
all-none = below-zero [] []

module _ (kept : Numbered) (flags : List Bool) (n : ℕ) where
  pub kept-shown : (b : List ℕ) → Some b ≡ changes kept n → Some b ≡ changes (all_blocks kept flags) n
  kept-shown b e = ap (λ (o : Option (List ℕ)). option_or o (flagged flags n)) e ∙ sym (changes-all kept flags n)

  pub zeros-shown : None ≡ changes kept n → is_flagged flags n ≡ true → Some (zeros 512) ≡ changes (all_blocks kept flags) n
  zeros-shown none is = sym (ap zeros_if is) ∙ ap (λ (o : Option (List ℕ)). option_or o (flagged flags n)) none ∙ sym (changes-all kept flags n)

  pub none-shown : None ≡ changes kept n → is_flagged flags n ≡ false → None ≡ changes (all_blocks kept flags) n
  none-shown none is = sym (ap zeros_if is) ∙ ap (λ (o : Option (List ℕ)). option_or o (flagged flags n)) none ∙ sym (changes-all kept flags n)

-- ---- a block that is put among them

module _ (kept : Numbered) (flags : List Bool) (n : ℕ) where
  -- as a flag
  pub changes-flagged : (new : List Bool) → IsFlaggedAt n flags new → changes kept n ≡ None → changes (all_blocks kept new) ≡ with_change (changes (all_blocks kept flags)) n (zeros 512)
  changes-flagged new set none = λ i k. at k i
    where
      by : (k : ℕ) (t : Bool) → nat_eq n k ≡ t → option_or (changes kept k) (zeros_if (t || is_flagged flags k)) ≡ cond t (Some (zeros 512)) (changes (all_blocks kept flags) k)
      by k true e = ap (λ (o : Option (List ℕ)). option_or o (Some (zeros 512))) (ap (changes kept) (sym (eqb-true n k e)) ∙ none)
      by k false e = sym (changes-all kept flags k)

      at : (k : ℕ) → changes (all_blocks kept new) k ≡ with_change (changes (all_blocks kept flags)) n (zeros 512) k
      at k = changes-all kept new k ∙ ap (λ (f : Bool). option_or (changes kept k) (zeros_if f)) (set k) ∙ by k (nat_eq n k) refl

  -- as a kept one
  pub changes-kept : (new : Numbered) (b : List ℕ) → changes new ≡ with_change (changes kept) n b → changes (all_blocks new flags) ≡ with_change (changes (all_blocks kept flags)) n b
  changes-kept new b put = λ i k. at k i
    where
      by : (k : ℕ) (t : Bool) → option_or (cond t (Some b) (changes kept k)) (flagged flags k) ≡ cond t (Some b) (changes (all_blocks kept flags) k)
      by k true = refl
      by k false = sym (changes-all kept flags k)

      at : (k : ℕ) → changes (all_blocks new flags) k ≡ with_change (changes (all_blocks kept flags)) n b k
      at k = changes-all new flags k ∙ ap (λ (o : Option (List ℕ)). option_or o (flagged flags k)) (ap (λ (c : Changes). c k) put) ∙ by k (nat_eq n k)

-- with the same flags the changes are the same
pub changes-same_flags : (kept : Numbered) (flags new : List Bool) → AreSameFlags flags new → changes (all_blocks kept new) ≡ changes (all_blocks kept flags)
changes-same_flags kept flags new same = λ i k. (changes-all kept new k ∙ ap (λ (f : Bool). option_or (changes kept k) (zeros_if f)) (same k) ∙ sym (changes-all kept flags k)) i

-- so they are where it is put
module _ (now kept : Numbered) (flags : List Bool) (view_is : all_blocks kept flags ≡ now) (n : ℕ) (b : List ℕ) where
  pub put-flagged : {A E : Type 0} (r : Result A E) (new : List Bool) → OnOk r (IsFlaggedAt n flags new) → changes kept n ≡ None → b ≡ zeros 512 → OnOk r (changes (all_blocks kept new) ≡ with_change (changes now) n b)
  put-flagged (Ok x) new set none blank = changes-flagged kept flags n new set none ∙ (λ i. with_change (changes (view_is i)) n (sym blank i))
  put-flagged (Err e) new set none blank = tt

  pub put-kept : {A E : Type 0} (r : Result A E) (new : Numbered) → OnOk r (changes new ≡ with_change (changes kept) n b) → OnOk r (changes (all_blocks new flags) ≡ with_change (changes now) n b)
  put-kept (Ok x) new put = changes-kept kept flags n new b put ∙ (λ i. with_change (changes (view_is i)) n b)
  put-kept (Err e) new put = tt

  pub not-put : {A E : Type 0} (r : Result A E) (new : List Bool) → OnErr r (AreSameFlags flags new) → OnErr r (changes (all_blocks kept new) ≡ changes now)
  not-put (Ok x) new same = tt
  not-put (Err e) new same = changes-same_flags kept flags new same ∙ ap (λ (v : Numbered). changes v) view_is
