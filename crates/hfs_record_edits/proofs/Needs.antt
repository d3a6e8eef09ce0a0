-- How many nodes records may want, and that this leaves enough for the others when the first has come.
use Rattle.std.proofs.Common.{◌≡◌, ℕ, zero, suc, ◌+◌, ◌-◌, ◌*◌, ◌/◌, ◌<◌, ◌≤◌, Bool, true, false, refl, sym, ap, ◌∙◌, subst, arith, inl, inr}
use Rattle.std.specs.Prelude.{◌==◌, ◌&&◌, nat_le, nat_lt}
use Rattle.std.proofs.Math.Nat.{mul-suc, suc-mul}
use Rattle.std.proofs.lemmas.Bool.{cases_eq, cases_lt, cond-true, cond-false, le-leb, ne_eqb}
use Rattle.std.proofs.lemmas.Bool.Decides.{leb_tells}
use Rattle.hfs_fields.proofs.DecisionLemmas.{both_true}
use Rattle.hfs_record_edits.specs.Need.{extents_need}

not-first : (a b : Bool) → a ≡ false → (a && b) ≡ false
not-first a b p = ap (λ (x : Bool). x && b) p

not-second : (a b : Bool) → a ≡ true → b ≡ false → (a && b) ≡ false
not-second a b p q = ap (λ (x : Bool). x && b) p ∙ q

le-no : (a b : ℕ) → b < a → nat_le a b ≡ false
le-no a b lt = elim (leb_tells a b) [ inl most ↦ absurd (let le = most.1 in omega (arith, le, lt)) | inr above ↦ above.0 ]

-- the records don't fit into one leaf
abbrev IsOver : ℕ → ℕ → ℕ → Type 0
IsOver n d r = d ≤ 1 → 22 < r + n

over-no : (n d r : ℕ) → IsOver n d r → (nat_le d 1 && nat_le (r + n) 22) ≡ false
over-no n d r over =
    elim (cases_lt 1 d) [
      | inl deep ↦ not-first (nat_le d 1) (nat_le (r + n) 22) (le-no d 1 deep)
      | inr flat ↦ not-second (nat_le d 1) (nat_le (r + n) 22) (le-leb d 1 flat) (le-no (r + n) 22 (over flat))
    ]

some-no : (n : ℕ) → 0 < n → (n == 0) ≡ false
some-no n some = ne_eqb n 0 (λ e. omega (arith, e, some))

pub need-none : (d r : ℕ) → extents_need 0 d r ≡ 0
unfolding extents_need
need-none d r = refl

pub need-leaf : (n d r : ℕ) → 0 < n → d ≤ 1 → r + n ≤ 22 → extents_need n d r ≡ 1 - d
unfolding extents_need
need-leaf n d r some flat few =
    cond-false (n == 0) 0 _ (some-no n some) ∙ cond-true (nat_le d 1 && nat_le (r + n) 22) (1 - d) _ (both_true (nat_le d 1) (nat_le (r + n) 22) (le-leb d 1 flat) (le-leb (r + n) 22 few))

pub need-many : (n d r : ℕ) → 0 < n → IsOver n d r → 16 < d + n → extents_need n d r ≡ 4294967296
unfolding extents_need
need-many n d r some over deep =
    cond-false (n == 0) 0 _ (some-no n some)
    ∙ cond-false (nat_le d 1 && nat_le (r + n) 22) (1 - d) _ (over-no n d r over)
    ∙ cond-true (nat_lt 16 (d + n)) 4294967296 _ (le-leb 17 (d + n) (omega (arith, deep)))

pub need-rest : (n d r : ℕ) → 0 < n → IsOver n d r → d + n ≤ 16 → extents_need n d r ≡ n * d + n * (n + 1) / 2
unfolding extents_need
need-rest n d r some over shallow =
    cond-false (n == 0) 0 _ (some-no n some)
    ∙ cond-false (nat_le d 1 && nat_le (r + n) 22) (1 - d) _ (over-no n d r over)
    ∙ cond-false (nat_lt 16 (d + n)) 4294967296 _ (le-no 17 (d + n) (omega (arith, shallow)))

-- ---- one record

-- the first record of all
pub need-first : (r : ℕ) → r ≡ 0 → extents_need 1 0 r ≡ 1
need-first r none = need-leaf 1 0 r (omega arith) (omega arith) (omega (arith, none))

-- one that may want nodes on each level
pub need-one : (d r f : ℕ) → IsOver 1 d r → f < 4294967296 → extents_need 1 d r ≤ f → (d ≤ 15) × (d + 1 ≤ f)
need-one d r f over small enough =
    elim (cases_lt 15 d) [
      | inl deep ↦ absurd (let e = need-many 1 d r (omega arith) over (omega (arith, deep)) in omega (arith, e, small, enough))
      | inr shallow ↦
          (let e = need-rest 1 d r (omega arith) over (omega (arith, shallow)) in
          let half : 1 * (1 + 1) / 2 ≡ 1 = refl in
          let once : 1 * d ≡ d = omega arith in
          (omega (arith, shallow), omega (arith, e, half, once, enough)))
    ]

-- ---- several

halves : (p q k : ℕ) → q ≡ p + 2 * k → q / 2 ≡ p / 2 + k
halves p q k e = omega (arith, e)

triangle : (m : ℕ) → suc m * (suc m + 1) / 2 ≡ m * (m + 1) / 2 + suc m
triangle m =
    let a = suc-mul m (suc m + 1) in
    let up : suc m + 1 ≡ suc (m + 1) = omega arith in
    let b : m * (suc m + 1) ≡ m * (m + 1) + m = ap (λ (x : ℕ). m * x) up ∙ mul-suc m (m + 1) in
    halves (m * (m + 1)) (suc m * (suc m + 1)) (suc m) (grow (m * (m + 1)) (m * (suc m + 1)) (suc m * (suc m + 1)) m a b)
  where
    grow : (p q s m : ℕ) → s ≡ q + (suc m + 1) → q ≡ p + m → s ≡ p + 2 * suc m
    grow p q s m a b = omega (arith, a, b)

-- a tree that is at most one level higher
higher : (m d d' : ℕ) → d ≤ d' → d' ≤ d + 1 → m * d' ≤ m * d + m
higher m d d' least most =
    elim (cases_eq d' d) [
      | inl same ↦ (let e = ap (λ (x : ℕ). m * x) same in bound (m * d') (m * d) m e)
      | inr more ↦ (let up : d' ≡ suc d = omega (arith, more, least, most) in let e = ap (λ (x : ℕ). m * x) up ∙ mul-suc m d in equal (m * d') (m * d) m e)
    ]
  where
    bound : (x y m : ℕ) → x ≡ y → x ≤ y + m
    bound x y m e = omega (arith, e)

    equal : (x y m : ℕ) → x ≡ y + m → x ≤ y + m
    equal x y m e = omega (arith, e)

sums : (x y z t u d d' m f f' : ℕ) → z ≡ x + d → u ≡ t + suc m → y ≤ x + m → d' ≤ d + 1 → f ≤ f' + d' → z + u ≤ f → y + t ≤ f'
sums x y z t u d d' m f f' a b c e g h = omega (arith, a, b, c, e, g, h)

pub need-next : (n d r f d' f' : ℕ) → d ≤ d' → d' ≤ d + 1 → f ≤ f' + d' → (d ≤ 1 → r < 22 → d' ≡ 1) → f < 4294967296 → extents_need (suc n) d r ≤ f → extents_need n d' (r + 1) ≤ f'
need-next zero d r f d' f' least most taken leaf small enough = let e = need-none d' (r + 1) in omega (arith, e)
need-next (suc m) d r f d' f' least most taken leaf small enough =
    let fit : d ≤ 1 → r + suc (suc m) ≤ 22 → extents_need (suc m) d' (r + 1) ≤ f' =
    λ flat few. (let one = leaf flat (omega (arith, few)) in
    let e = need-leaf (suc m) d' (r + 1) (omega arith) (omega (arith, one)) (omega (arith, few)) in
    omega (arith, e, one)) in
    let grow : IsOver (suc (suc m)) d r → extents_need (suc m) d' (r + 1) ≤ f' = λ over. over-next m d r f d' f' least most taken small enough over in
    elim (cases_lt 1 d) [
      | inl deep ↦ grow (λ flat. absurd (omega (arith, flat, deep)))
      | inr flat ↦ elim (cases_lt 22 (r + suc (suc m))) [ inl many ↦ grow (λ f'. many) | inr few ↦ fit flat few ]
    ]
  where
    over-next : (m d r f d' f' : ℕ) → d ≤ d' → d' ≤ d + 1 → f ≤ f' + d' → f < 4294967296 → extents_need (suc (suc m)) d r ≤ f → IsOver (suc (suc m)) d r → extents_need (suc m) d' (r + 1) ≤ f'
    over-next m d r f d' f' least most taken small enough over =
        let n = suc m in
        let over' : IsOver (suc m) d' (r + 1) = λ flat. (let many = over (omega (arith, flat, least)) in omega (arith, many)) in
        elim (cases_lt 16 (d + suc (suc m))) [
          | inl deep ↦ absurd (let e = need-many (suc (suc m)) d r (omega arith) over deep in omega (arith, e, small, enough))
          | inr shallow ↦
              (let was = need-rest (suc (suc m)) d r (omega arith) over (omega (arith, shallow)) in
              let is = need-rest (suc m) d' (r + 1) (omega arith) over' (omega (arith, shallow, most)) in
              let few : suc (suc m) * d + suc (suc m) * (suc (suc m) + 1) / 2 ≤ f = subst (λ (x : ℕ). x ≤ f) was enough in
              subst (λ (x : ℕ). x ≤ f') (sym is)
              (sums (suc m * d) (suc m * d') (suc (suc m) * d) (suc m * (suc m + 1) / 2) (suc (suc m) * (suc (suc m) + 1) / 2) d d' (suc m) f f' (suc-mul (suc m) d) (triangle (suc m)) (higher (suc m) d d' least most) most taken few))
        ]
