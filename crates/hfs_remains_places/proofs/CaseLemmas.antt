-- Letters without regard to case, and decimal digits, which have none.
use Rattle.std.proofs.Common.{◌≡◌, ℕ, ◌+◌, ◌-◌, ◌%◌, ◌^◌, ◌<◌, ◌≤◌, Bool, true, false, ◌&&◌, nat_le, if◌then◌else◌, List, [], ◌∷◌, ◌++◌, map, refl, sym, ap, ◌∙◌, arith, inl, inr}
use Rattle.std.specs.Char.{to_ascii_lowercase}
use Rattle.std.specs.Fmt.{decimal}
use Rattle.std.specs.List.{list_all}
use Rattle.std.proofs.lemmas.Bool.{cases_Bool, and_parts, and_from, and_left, leb-true, le-leb, lt-leb}
use Rattle.std.proofs.lemmas.Fmt.{decimal_by_steps}
use Rattle.std.proofs.lemmas.List.Folds.{list_all-append}
use Rattle.std.proofs.lemmas.Nat.{mod_below}
use Rattle.std.proofs.lemmas.Str.Ascii.{lowercase_is}
use Rattle.hfs_fields.specs.Order.{fold_letter, folded}

pub stays : (c : ℕ) → (nat_le 97 c && nat_le c 122) ≡ false → fold_letter c ≡ c
stays c other = ap (λ (b : Bool). if b then c - 32 else c) other

-- ---- lower case of what is folded

lowered-folded-letter : (c : ℕ) → to_ascii_lowercase (fold_letter c) ≡ to_ascii_lowercase c
lowered-folded-letter c =
    elim (cases_Bool (nat_le 97 c && nat_le c 122)) [
      | inl so ↦
          let two = and_parts (nat_le 97 c) (nat_le c 122) so in
          let low : 97 ≤ c = leb-true 97 c two.0 in
          let high : c ≤ 122 = leb-true c 122 two.1 in
          let back : c - 32 + 32 ≡ c = omega (arith, low) in
          let first : 65 ≤ c - 32 = omega (arith, low) in
          let last : c - 32 ≤ 90 = omega (arith, high) in
          ap (λ (b : Bool). to_ascii_lowercase (if b then c - 32 else c)) so
          ∙ (lowercase_is (c - 32)).0 (first, last)
          ∙ back
          ∙ sym ((lowercase_is c).2 (omega (arith, low)))
      | inr other ↦ ap to_ascii_lowercase (stays c other)
    ]

lowered-folded : (text : List ℕ) → map to_ascii_lowercase (folded text) ≡ map to_ascii_lowercase text
lowered-folded [] = refl
lowered-folded (c ∷ text) = λ i. lowered-folded-letter c i ∷ lowered-folded text i

-- texts that are the same but for case are the same in lower case
pub lowered-alike : (a b : List ℕ) → folded a ≡ folded b → map to_ascii_lowercase a ≡ map to_ascii_lowercase b
lowered-alike a b same = sym (lowered-folded a) ∙ ap (map to_ascii_lowercase) same ∙ lowered-folded b

-- ---- digits

abbrev pub is-digit : ℕ → Bool
is-digit c = nat_le 48 c && nat_le c 57

pub digit-range : (c : ℕ) → is-digit c ≡ true → (48 ≤ c) × (c ≤ 57)
digit-range c digit = let two = and_parts (nat_le 48 c) (nat_le c 57) digit in (leb-true 48 c two.0, leb-true c 57 two.1)

one-digit : (n : ℕ) → n < 10 → list_all is-digit ((48 + n) ∷ []) ≡ true
one-digit n few = and_from (is-digit (48 + n)) true (and_from (nat_le 48 (48 + n)) (nat_le (48 + n) 57) (le-leb 48 (48 + n) (omega arith)) (le-leb (48 + n) 57 (omega (arith, few)))) refl

pub decimal-digits : (n : ℕ) → n < 2 ^ 64 → list_all is-digit (decimal n) ≡ true
decimal-digits n few = decimal_by_steps (λ m ds. list_all is-digit ds ≡ true) one-digit more n few
  where
    more : (m : ℕ) (ds : List ℕ) → 10 ≤ m → list_all is-digit ds ≡ true → list_all is-digit (ds ++ ((48 + m % 10) ∷ [])) ≡ true
    more m ds big all = list_all-append is-digit ds ((48 + m % 10) ∷ []) ∙ and_from (list_all is-digit ds) (list_all is-digit ((48 + m % 10) ∷ [])) all (one-digit (m % 10) (mod_below m 10 (omega arith)))

digit-stays : (c : ℕ) → is-digit c ≡ true → fold_letter c ≡ c
digit-stays c digit =
    let range = digit-range c digit in
    stays c (and_left (nat_le 97 c) (nat_le c 122) (lt-leb 97 c (omega (arith, range.1))))

folded-digits : (ds : List ℕ) → list_all is-digit ds ≡ true → folded ds ≡ ds
folded-digits [] all = refl
folded-digits (d ∷ ds) all =
    let two = and_parts (is-digit d) (list_all is-digit ds) all in
    let first = digit-stays d two.0 in
    let others = folded-digits ds two.1 in
    λ i. first i ∷ others i

pub folded-decimal : (n : ℕ) → n < 2 ^ 64 → folded (decimal n) ≡ decimal n
folded-decimal n few = folded-digits (decimal n) (decimal-digits n few)
