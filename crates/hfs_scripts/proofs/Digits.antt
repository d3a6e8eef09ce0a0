-- Digits read from the left, and what makes a field a number or none.
use Rattle.std.proofs.Common.{◌≡◌, ℕ, ◌+◌, ◌*◌, ◌-◌, ◌^◌, ◌<◌, ◌≤◌, Bool, true, false, ◌&&◌, List, [], ◌∷◌, length, take, get_or, Some, None, refl, arith, add-one, suc, zero}
use Rattle.std.specs.Str.{all_ascii_digits}
use Rattle.std.specs.Char.{is_ascii_digit}
use Rattle.std.specs.Str.Parse.{digits_value}
use Rattle.std.proofs.lemmas.Int.Digits.{digits_value_more}
use Rattle.std.proofs.lemmas.Str.{digit_value_digit}
use Rattle.std.proofs.lemmas.Str.Parse.{digits_value-take-le, tells_all_ascii_digits}
use Rattle.std.proofs.lemmas.Grind.{common_steps}
use Rattle.hfs_scripts.specs.Numbers.{number_of}

pub and-parts : (a b : Bool) → a && b ≡ true → (a ≡ true) × (b ≡ true)
and-parts true b h = (refl, h)
and-parts false b h = cc

pub and-false : (a : Bool) → a && false ≡ false
and-false true = refl
and-false false = refl

all_digits-next : (field : List ℕ) (i : ℕ) → i < length field → all_ascii_digits (take i field) ≡ true → is_ascii_digit (get_or field i 0) ≡ true
    → all_ascii_digits (take (suc i) field) ≡ true
all_digits-next [] i h before digit = let no : ⊥ = omega arith in absurd no
all_digits-next (c ∷ cs) zero h before digit = rw digit refl
all_digits-next (c ∷ cs) (suc i) h before digit =
    let parts = and-parts (is_ascii_digit c) (all_ascii_digits (take i cs)) before in
    rw (parts.0, all_digits-next cs i (omega arith) parts.1 digit) refl

pub all_digits-more : (field : List ℕ) (i : ℕ) → i < length field → all_ascii_digits (take i field) ≡ true → is_ascii_digit (get_or field i 0) ≡ true
    → all_ascii_digits (take (i + 1) field) ≡ true
all_digits-more field i h before digit = rw add-one (all_digits-next field i h before digit)

pub all_digits-none : (field : List ℕ) (i : ℕ) → i < length field → is_ascii_digit (get_or field i 0) ≡ false → all_ascii_digits field ≡ false
all_digits-none [] i h none = let no : ⊥ = omega arith in absurd no
all_digits-none (c ∷ cs) zero h none = rw none refl
all_digits-none (c ∷ cs) (suc i) h none = rw (all_digits-none cs i (omega arith) none) (and-false _)

pub number_of-yes : (field : List ℕ) → 1 ≤ length field → length field ≤ 10 → all_ascii_digits field ≡ true → digits_value 10 field < 2 ^ 32
    → number_of field ≡ Some (digits_value 10 field)
unfolding number_of
number_of-yes field some short digits small = grind (arith, common_steps)

pub number_of-undigit : (field : List ℕ) → all_ascii_digits field ≡ false → number_of field ≡ None
unfolding number_of
number_of-undigit field h = grind (arith, common_steps)

pub number_of-large : (field : List ℕ) → 2 ^ 32 ≤ digits_value 10 field → number_of field ≡ None
unfolding number_of
number_of-large field h = grind (arith, common_steps)

pub digit-range : (c : ℕ) → is_ascii_digit c ≡ true → (48 ≤ c) × (c ≤ 57)
digit-range c h = let parts = tells_all_ascii_digits.parts c [] (rw h refl) in (parts.0.0, parts.0.1)

pub value-more : (field : List ℕ) (i value longer : ℕ) → i < length field → is_ascii_digit (get_or field i 0) ≡ true → value ≡ digits_value 10 (take i field)
    → longer ≡ value * 10 + (get_or field i 0 - 48) → longer ≡ digits_value 10 (take (i + 1) field)
value-more field i value longer h digit before e =
    let range : (48 ≤ get_or field i 0) × (get_or field i 0 ≤ 57) = digit-range _ digit in
    omega (arith, digits_value_more 10 field i h, digit_value_digit (get_or field i 0) range)

pub number_of-too_large : (field : List ℕ) (i longer : ℕ) → longer ≡ digits_value 10 (take i field) → 4294967295 < longer → number_of field ≡ None
number_of-too_large field i longer e large = number_of-large field (omega (arith, digits_value-take-le 10 field i (omega arith)))
