-- Digits are text.
use Rattle.std.proofs.Common.{◌≡◌, subst, ℕ, zero, suc, ◌<◌, ◌≤◌, List, [], ◌∷◌, length, get_or, drop, refl, inl, inr, arith}
use Rattle.std.specs.Str.{IsAscii, IsUtf8}
use Rattle.std.specs.Str.Parse.{IsNumeral, AllDigits}
use Rattle.std.proofs.lemmas.Bool.{cases_lt, cases_eq}
use Rattle.std.proofs.lemmas.Str.{IsUtf8-from_ascii}
use Rattle.std.proofs.lemmas.Str.Parse.{digit_at, without_leading_plus_none, without_leading_plus_plus}
use Rattle.hfs_format.specs.TypedSizes.{numeral_in}

behind-end : (xs : List ℕ) (i : ℕ) → length xs ≤ i → get_or xs i 0 ≡ 0
behind-end [] i far = refl
behind-end (x ∷ xs) zero far = absurd (omega arith)
behind-end (x ∷ xs) (suc i) far = behind-end xs i (omega arith)

digit-small : (ds : List ℕ) → AllDigits 10 ds → (i : ℕ) → get_or ds i 0 < 128
digit-small ds digits i =
    elim (cases_lt i (length ds)) [
      | inl within ↦ let d = digit_at ds i digits within in omega arith
      | inr far ↦ let none = behind-end ds i far in omega arith
    ]

-- a digit of what stands behind the first character
next-small : (xs : List ℕ) → get_or xs 0 0 ≡ 43 → AllDigits 10 (drop 1 xs) → (i : ℕ) → get_or xs i 0 < 128
next-small [] plus digits i = let none = behind-end [] i (omega arith) in omega arith
next-small (x ∷ xs) plus digits zero = omega arith
next-small (x ∷ xs) plus digits (suc i) = digit-small xs digits i

numeral-ascii : (ds : List ℕ) → IsNumeral 10 (numeral_in ds) → IsAscii ds
numeral-ascii ds numeral =
    elim (cases_eq (get_or ds 0 0) 43) [
      | inl plus ↦ next-small ds plus (subst (AllDigits 10) (without_leading_plus_plus ds plus) numeral.1)
      | inr none ↦ digit-small ds (subst (AllDigits 10) (without_leading_plus_none ds none) numeral.1)
    ]

pub not-numeral : (ds : List ℕ) → ¬ (IsUtf8 ds) → IsNumeral 10 (numeral_in ds) → ⊥
not-numeral ds none numeral = none (IsUtf8-from_ascii ds (numeral-ascii ds numeral))
