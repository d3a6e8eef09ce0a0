-- How often numbers stand in lists, and how long a list is in which each of so many numbers stands once at most.
use Rattle.std.proofs.Common.{◌≡◌, ◌∙◌, ℕ, zero, suc, ◌+◌, ◌<◌, ◌≤◌, Bool, true, false, ◌==◌, List, [], ◌∷◌, ◌++◌, length, refl, sym, ap, subst, arith}
use Rattle.std.specs.Prelude.{⊤, filter, if◌then◌else◌, nat_lt}
use Rattle.std.specs.List.{flat_map, range_with_len}
use Rattle.std.proofs.lemmas.Bool.{eqb-false, eqb-true, eq-eqb, lt-ltb, ltb-false, ltb-true, ne_eqb}

-- ---- how often a number stands in a list

abbrev pub one_if : Bool → ℕ
one_if true = 1
one_if false = 0

abbrev pub count : ℕ → List ℕ → ℕ
count j [] = 0
count j (x ∷ l) = one_if (x == j) + count j l

-- of all elements of a list
abbrev pub total : (ℕ → ℕ) → List ℕ → ℕ
total f [] = 0
total f (x ∷ l) = f x + total f l

more : (c x y z : ℕ) → x ≡ y + z → c + x ≡ (c + y) + z
more c x y z e = omega (arith, e)

pub count-append : (j : ℕ) (a b : List ℕ) → count j (a ++ b) ≡ count j a + count j b
count-append j [] b = omega arith
count-append j (x ∷ a) b = more (one_if (x == j)) (count j (a ++ b)) (count j a) (count j b) (count-append j a b)

pub count-flat : (j : ℕ) (f : ℕ → List ℕ) (l : List ℕ) → count j (flat_map f l) ≡ total (λ x. count j (f x)) l
count-flat j f [] = refl
count-flat j f (x ∷ l) = count-append j (f x) (flat_map f l) ∙ ap (λ (n : ℕ). count j (f x) + n) (count-flat j f l)

pub total-ones : (j : ℕ) (l : List ℕ) → total (λ x. one_if (x == j)) l ≡ count j l
total-ones j [] = refl
total-ones j (x ∷ l) = ap (λ (n : ℕ). one_if (x == j) + n) (total-ones j l)

shuffled : (a b c d : ℕ) → (a + b) + (c + d) ≡ (a + c) + (b + d)
shuffled a b c d = omega arith

pub total-sum : (f g : ℕ → ℕ) (l : List ℕ) → total (λ x. f x + g x) l ≡ total f l + total g l
total-sum f g [] = refl
total-sum f g (x ∷ l) = ap (λ (n : ℕ). (f x + g x) + n) (total-sum f g l) ∙ shuffled (f x) (g x) (total f l) (total g l)

-- ---- what holds of each element

abbrev pub Each : (ℕ → Type 0) → List ℕ → Type 0
Each P [] = ⊤
Each P (x ∷ l) = P x × Each P l

pub each-map : (P Q : ℕ → Type 0) → ((x : ℕ) → P x → Q x) → (l : List ℕ) → Each P l → Each Q l
each-map P Q f [] each = tt
each-map P Q f (x ∷ l) (one, rest) = (f x one, each-map P Q f l rest)

pub same-flat : (f g : ℕ → List ℕ) (l : List ℕ) → Each (λ x. f x ≡ g x) l → flat_map f l ≡ flat_map g l
same-flat f g [] each = refl
same-flat f g (x ∷ l) (one, rest) = λ i. one i ++ same-flat f g l rest i

pub same-total : (f g : ℕ → ℕ) (l : List ℕ) → Each (λ x. f x ≡ g x) l → total f l ≡ total g l
same-total f g [] each = refl
same-total f g (x ∷ l) (one, rest) = λ i. one i + same-total f g l rest i

-- no element is more than the sum of all
pub within-total : (f : ℕ → ℕ) (m a i : ℕ) → a ≤ i → i < a + m → f i ≤ total f (range_with_len a m)
within-total f zero a i from to = absurd (omega (arith, from, to))
within-total f (suc m) a i from to = by (a == i) refl (λ late. within-total f m (a + 1) i late (omega (arith, to)))
  where
    by : (b : Bool) → (a == i) ≡ b → (a + 1 ≤ i → f i ≤ total f (range_with_len (a + 1) m)) → f i ≤ f a + total f (range_with_len (a + 1) m)
    by true e rest = let same : f i ≡ f a = ap f (sym (eqb-true a i e)) in omega (arith, same)
    by false e rest = let apart = eqb-false a i e in let held = rest (omega (arith, from, apart)) in omega (arith, held)

-- ---- numbers that pass a test

-- where a number lies in a range
abbrev pub gate : Bool → ℕ → ℕ
gate true n = n
gate false n = 0

none-below : (p : ℕ → Bool) (m a j : ℕ) → j < a → count j (filter p (range_with_len a m)) ≡ 0
none-below p zero a j lt = refl
none-below p (suc m) a j lt = by (p a) (none-below p m (a + 1) j (omega (arith, lt)))
  where
    by : (b : Bool) → count j (filter p (range_with_len (a + 1) m)) ≡ 0
        → count j (if b then a ∷ filter p (range_with_len (a + 1) m) else filter p (range_with_len (a + 1) m)) ≡ 0
    by true rest =
        ap (λ (t : Bool). one_if t + count j (filter p (range_with_len (a + 1) m))) (ne_eqb a j (λ e. absurd (omega (arith, lt, e))))
        ∙ ap (λ (n : ℕ). 0 + n) rest
    by false rest = rest

pub count-filter : (p : ℕ → Bool) (m a j : ℕ) → a ≤ j → count j (filter p (range_with_len a m)) ≡ gate (nat_lt j (a + m)) (one_if (p j))
count-filter p zero a j from = sym (ap (λ (b : Bool). gate b (one_if (p j))) (past (nat_lt j (a + 0)) refl))
  where
    past : (b : Bool) → nat_lt j (a + 0) ≡ b → nat_lt j (a + 0) ≡ false
    past true e = absurd (omega (arith, from, ltb-true j (a + 0) e))
    past false e = e
count-filter p (suc m) a j from = by (a == j) refl (λ late. count-filter p m (a + 1) j late)
  where
    later : List ℕ
    later = filter p (range_with_len (a + 1) m)

    here : (b : Bool) → p a ≡ b → a ≡ j → count j (if b then a ∷ later else later) ≡ one_if b
    here true h e = λ i. one_if (eq-eqb a j e i) + none-below p m (a + 1) j (omega (arith, e)) i
    here false h e = none-below p m (a + 1) j (omega (arith, e))

    there : (b : Bool) → (a == j) ≡ false → count j (if b then a ∷ later else later) ≡ count j later
    there true e = ap (λ (t : Bool). one_if t + count j later) e ∙ bare (count j later)
      where
        bare : (n : ℕ) → 0 + n ≡ n
        bare n = omega arith
    there false e = refl

    by : (b : Bool) → (a == j) ≡ b → (a + 1 ≤ j → count j later ≡ gate (nat_lt j ((a + 1) + m)) (one_if (p j)))
        → count j (if p a then a ∷ later else later) ≡ gate (nat_lt j (a + suc m)) (one_if (p j))
    by true e rest =
        let same : a ≡ j = eqb-true a j e in
        here (p a) refl same ∙ ap (λ (k : ℕ). one_if (p k)) same ∙ sym (ap (λ (b : Bool). gate b (one_if (p j))) (lt-ltb j (a + suc m) (omega (arith, same))))
    by false e rest =
        let step : (a + 1) + m ≡ a + suc m = omega arith in
        there (p a) e ∙ rest (omega (arith, from, eqb-false a j e)) ∙ ap (λ (k : ℕ). gate (nat_lt j k) (one_if (p j))) step

-- ---- how long a list is

abbrev without : ℕ → List ℕ → List ℕ
without k [] = []
without k (x ∷ l) = if x == k then without k l else x ∷ without k l

longer : (k : ℕ) (l : List ℕ) → length l ≡ count k l + length (without k l)
longer k [] = refl
longer k (x ∷ l) = by (x == k) (longer k l)
  where
    by : (b : Bool) → length l ≡ count k l + length (without k l) → suc (length l) ≡ (one_if b + count k l) + length (if b then without k l else x ∷ without k l)
    by true rest = omega (arith, rest)
    by false rest = let one : length (x ∷ without k l) ≡ suc (length (without k l)) = refl in omega (arith, rest, one)

count-without : (k j : ℕ) (l : List ℕ) → count j (without k l) ≤ count j l
count-without k j [] = omega arith
count-without k j (x ∷ l) = by (x == k) (count-without k j l)
  where
    by : (b : Bool) → count j (without k l) ≤ count j l → count j (if b then without k l else x ∷ without k l) ≤ one_if (x == j) + count j l
    by true rest = omega (arith, rest)
    by false rest = omega (arith, rest)

none-without : (k : ℕ) (l : List ℕ) → count k (without k l) ≡ 0
none-without k [] = refl
none-without k (x ∷ l) = by (x == k) refl (none-without k l)
  where
    by : (b : Bool) → (x == k) ≡ b → count k (without k l) ≡ 0 → count k (if b then without k l else x ∷ without k l) ≡ 0
    by true e rest = rest
    by false e rest = ap (λ (t : Bool). one_if t + count k (without k l)) e ∙ ap (λ (n : ℕ). 0 + n) rest

-- each number below this one stands once at most, and no other
abbrev pub StandOnce : ℕ → List ℕ → Type 0
StandOnce m l = (j : ℕ) → count j l ≤ one_if (nat_lt j m)

most : (m j : ℕ) (l : List ℕ) → StandOnce m l → count j l ≤ 1
most m j l once = by (nat_lt j m) (once j)
  where
    by : (b : Bool) → count j l ≤ one_if b → count j l ≤ 1
    by true few = few
    by false few = omega (arith, few)

-- one number less
less-once : (m : ℕ) (l : List ℕ) → StandOnce (suc m) l → StandOnce m (without m l)
less-once m l once = λ j. by j (j == m) refl
  where
    past : (j : ℕ) (t : Bool) → nat_lt j (suc m) ≡ t → m ≤ j → (j ≡ m → ⊥) → count j l ≤ one_if t → count j l ≤ 0
    past j true e far apart few = let lt = ltb-true j (suc m) e in absurd (omega (arith, lt, far, apart))
    past j false e far apart few = few

    at : (j : ℕ) (t : Bool) → nat_lt j m ≡ t → (j ≡ m → ⊥) → count j (without m l) ≤ one_if t
    at j true e apart = let fewer = count-without m j l in let one = most (suc m) j l once in omega (arith, fewer, one)
    at j false e apart =
        let fewer = count-without m j l in
        let none = past j (nat_lt j (suc m)) refl (ltb-false j m e) apart (once j) in
        omega (arith, fewer, none)

    by : (j : ℕ) (b : Bool) → (j == m) ≡ b → count j (without m l) ≤ one_if (nat_lt j m)
    by j true e =
        let same : count j (without m l) ≡ 0 = ap (λ (k : ℕ). count k (without m l)) (eqb-true j m e) ∙ none-without m l in
        omega (arith, same)
    by j false e = at j (nat_lt j m) refl (eqb-false j m e)

at-zero : (x c : ℕ) (t : Bool) → nat_lt x 0 ≡ t → c ≤ one_if t → c ≤ 0
at-zero x c true e few = let lt = ltb-true x 0 e in absurd (omega (arith, lt))
at-zero x c false e few = few

pub short : (m : ℕ) (l : List ℕ) → StandOnce m l → length l ≤ m
short zero [] once = omega arith
short zero (x ∷ l) once =
    let none = at-zero x (one_if (x == x) + count x l) (nat_lt x 0) refl (once x) in
    let first : one_if (x == x) ≡ 1 = ap one_if (eq-eqb x x refl) in
    absurd (omega (arith, none, first))
short (suc m) l once =
    let rest : length (without m l) ≤ m = short m (without m l) (less-once m l once) in
    let all : length l ≡ count m l + length (without m l) = longer m l in
    let top : count m l ≤ 1 = most (suc m) m l once in
    omega (arith, rest, all, top)
