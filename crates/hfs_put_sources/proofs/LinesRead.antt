-- Lines of a text, and what is told in them.
use Rattle.std.proofs.Common.{◌≡◌, ◌∙◌, sym, ap, refl, ℕ, suc, ◌+◌, ◌-◌, ◌<◌, ◌≤◌, Bool, true, false, not, cond, List, [], ◌∷◌, ◌++◌, length, take, drop, Some, None, arith, inl, inr}
use Rattle.std.specs.Prelude.{◌==◌, nat_lt, if◌then◌else◌, position}
use Rattle.std.specs.List.{list_all, position_or_len}
use Rattle.std.proofs.lemmas.Bool.{and_parts, cases_Bool, not-true, ltb-true, ltb-false}
use Rattle.std.proofs.lemmas.List.{length-drop, take_all}
use Rattle.std.specs.Option.{option_or}
use Rattle.hfs_put_sources.specs.Lines.{behind_label, first_value, lines, onto_first}

-- ---- the first line

line-end : (c : ℕ) (rest : List ℕ) → (c == 10) ≡ true → lines (c ∷ rest) ≡ [] ∷ lines rest
unfolding lines
line-end c rest e = ap (λ t. if t then [] ∷ lines rest else onto_first c (lines rest)) e

line-more : (c : ℕ) (rest : List ℕ) → (c == 10) ≡ false → lines (c ∷ rest) ≡ onto_first c (lines rest)
unfolding lines
line-more c rest e = ap (λ t. if t then [] ∷ lines rest else onto_first c (lines rest)) e

-- bytes with no line feed, and one behind them
pub line-before : (xs rest : List ℕ) → list_all (λ c. not (c == 10)) xs ≡ true → lines (xs ++ (10 ∷ rest)) ≡ xs ∷ lines rest
line-before [] rest h = line-end 10 rest refl
line-before (x ∷ xs) rest h =
    let two = and_parts _ _ h in
    line-more x (xs ++ (10 ∷ rest)) (not-true _ two.0) ∙ ap (onto_first x) (line-before xs rest two.1)

-- ---- the line up to a place

abbrev feeds : ℕ → Bool
feeds c = c == 10

place-here : (x : ℕ) (xs : List ℕ) → (x == 10) ≡ true → position_or_len feeds (x ∷ xs) ≡ 0
place-here x xs e = ap (λ t. cond (not t) (1 + position_or_len feeds xs) 0) e

place-later : (x : ℕ) (xs : List ℕ) → (x == 10) ≡ false → position_or_len feeds (x ∷ xs) ≡ suc (position_or_len feeds xs)
place-later x xs e =
    let one : 1 + position_or_len feeds xs ≡ suc (position_or_len feeds xs) = omega arith in
    ap (λ t. cond (not t) (1 + position_or_len feeds xs) 0) e ∙ one

cut : (n m : ℕ) (xs : List ℕ) → n ≡ m → take n xs ∷ lines (drop (n + 1) xs) ≡ take m xs ∷ lines (drop (m + 1) xs)
cut n m xs e = λ i. take (e i) xs ∷ lines (drop (e i + 1) xs)

one-more : (x n : ℕ) (xs : List ℕ) → drop (n + 1) xs ≡ drop (suc n + 1) (x ∷ xs)
one-more x n xs = let e : suc (n + 1) ≡ suc n + 1 = omega arith in ap (λ k. drop k (x ∷ xs)) e

lines-at : (xs : List ℕ) → position_or_len feeds xs < length xs → lines xs ≡ take (position_or_len feeds xs) xs ∷ lines (drop (position_or_len feeds xs + 1) xs)
lines-at [] h = absurd (omega (arith, h))
lines-at (x ∷ xs) h = elim (cases_Bool (x == 10)) [
  | inl here ↦ line-end x xs here ∙ sym (cut (position_or_len feeds (x ∷ xs)) 0 (x ∷ xs) (place-here x xs here))
  | inr later ↦
      line-more x xs later
      ∙ ap (onto_first x) (lines-at xs (omega (arith, h, place-later x xs later)))
      ∙ ap (λ (l : List ℕ). (x ∷ take (position_or_len feeds xs) xs) ∷ lines l) (one-more x (position_or_len feeds xs) xs)
      ∙ sym (cut (position_or_len feeds (x ∷ xs)) (suc (position_or_len feeds xs)) (x ∷ xs) (place-later x xs later))
]

lines-whole : (x : ℕ) (xs : List ℕ) → length (x ∷ xs) ≤ position_or_len feeds (x ∷ xs) → lines (x ∷ xs) ≡ (x ∷ xs) ∷ []
unfolding lines
lines-whole x [] h = elim (cases_Bool (x == 10)) [
  | inl here ↦ absurd (omega (arith, h, place-here x [] here))
  | inr later ↦ line-more x [] later
]
lines-whole x (y ∷ ys) h = elim (cases_Bool (x == 10)) [
  | inl here ↦ absurd (omega (arith, h, place-here x (y ∷ ys) here))
  | inr later ↦ line-more x (y ∷ ys) later ∙ ap (onto_first x) (lines-whole y ys (omega (arith, h, place-later x (y ∷ ys) later)))
]

of-some : (b : Bool) (n i : ℕ) → Some i ≡ cond b (Some n) None → (b ≡ true) × (i ≡ n)
of-some true n i e = (refl, cc)
of-some false n i e = cc

of-none : (b : Bool) (n : ℕ) → None ≡ cond b (Some n) None → b ≡ false
of-none true n e = cc
of-none false n e = refl

-- what stands from a place on
tail-is : (text : List ℕ) (start : ℕ) → take (length text - start) (drop start text) ≡ drop start text
tail-is text start = take_all (length text - start) (drop start text) (omega (arith, length-drop start text))

pub first-line : (text : List ℕ) (end : ℕ) → Some end ≡ position feeds text
    → lines text ≡ take end text ∷ lines (take (length text - (end + 1)) (drop (end + 1) text))
first-line text end e =
    let found = of-some (nat_lt (position_or_len feeds text) (length text)) (position_or_len feeds text) end e in
    lines-at text (ltb-true _ _ found.0) ∙ cut (position_or_len feeds text) end text (sym found.1)
    ∙ ap (λ (l : List ℕ). take end text ∷ lines l) (sym (tail-is text (end + 1)))

pub last-line : (text : List ℕ) → 0 < length text → None ≡ position feeds text → lines text ≡ text ∷ lines []
unfolding lines
last-line [] some e = absurd (omega (arith, some))
last-line (x ∷ xs) some e = lines-whole x xs (ltb-false _ _ (of-none (nat_lt (position_or_len feeds (x ∷ xs)) (length (x ∷ xs))) (position_or_len feeds (x ∷ xs)) e))

-- ---- what is told in the first line that tells it

module _ (label rest line : List ℕ) (more : List (List ℕ)) (is : lines rest ≡ line ∷ more) where
  pub value-here : (found : List ℕ) → behind_label label line ≡ Some found → first_value label (lines rest) ≡ Some found
  unfolding first_value
  value-here found told = ap (first_value label) is ∙ ap (λ o. option_or o (first_value label more)) told

  pub value-later : behind_label label line ≡ None → first_value label (lines rest) ≡ first_value label more
  unfolding first_value
  value-later none = ap (first_value label) is ∙ ap (λ o. option_or o (first_value label more)) none

pub value-none : (label rest : List ℕ) → length rest ≡ 0 → first_value label (lines rest) ≡ None
unfolding first_value lines
value-none label [] none = refl
value-none label (c ∷ rest) none = absurd (omega (arith, none))
