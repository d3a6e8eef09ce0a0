-- Numbers and bytes that were written are read again.
use Rattle.std.proofs.Common.{◌≡◌, ℕ, ◌^◌, ◌∙◌, ◌<◌, ◌≤◌, List, length, Some, refl, ap, arith, true}
use Rattle.std.specs.Fmt.{decimal}
use Rattle.std.specs.Str.{all_ascii_digits}
use Rattle.std.specs.Str.Parse.{digits_value}
use Rattle.std.proofs.lemmas.Bool.{le-ltb}
use Rattle.std.proofs.lemmas.Fmt.{decimal_nonempty, length-decimal-le, digits_decimal, digits_value-decimal}
use Rattle.std.proofs.lemmas.Str.Parse.{IsNumeralModel, numerals_by_value, tells_all_ascii_digits}
use Rattle.hex.specs.Hex.{encode_lower, lower_digits, IsBytes}
use Rattle.hex.proofs.HexLemmas.{length-encode_with, decode_of-encode_lower, decode_sized-twice}
use Rattle.hfs_scripts.specs.Fields.{bytes_of, few_bytes_of}
use Rattle.hfs_scripts.specs.Readable.{Reads, ReadsBytes, ReadsFewBytes}
use Rattle.hfs_scripts.proofs.Digits.{number_of-yes}

own : IsNumeralModel (λ ds. all_ascii_digits ds ≡ true) (digits_value 10)
own = numerals_by_value _ tells_all_ascii_digits

pub number_of-decimal : (number : ℕ) → number < 2 ^ 32 → Reads number
number_of-decimal number small =
    let value : digits_value 10 (decimal number) ≡ number = digits_value-decimal own number (omega arith) in
    number_of-yes (decimal number) (omega (arith, decimal_nonempty number (omega arith))) (length-decimal-le 10 number (omega arith) (omega arith) (omega arith))
    (digits_decimal own number (omega arith)) (omega arith)
    ∙ ap Some value

pub bytes_of-encode_lower : (bytes : List ℕ) → IsBytes bytes → ReadsBytes (length bytes) bytes
unfolding bytes_of
bytes_of-encode_lower bytes h =
    rw (decode_sized-twice (encode_lower bytes) (length bytes) (length-encode_with lower_digits bytes), decode_of-encode_lower bytes h) refl

pub few_bytes_of-encode_lower : (bytes : List ℕ) → IsBytes bytes → ReadsFewBytes bytes
unfolding few_bytes_of
few_bytes_of-encode_lower bytes h few =
    let digits : length (encode_lower bytes) ≤ 131072 = omega (arith, length-encode_with lower_digits bytes) in
    rw (le-ltb 131072 (length (encode_lower bytes)) digits, decode_of-encode_lower bytes h) refl
