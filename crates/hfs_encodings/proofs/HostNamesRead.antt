-- Each name comes back from its host name. What holds of the word of each character was tried on all 256 bytes.
use Rattle.std.proofs.Common.{◌≡◌, ◌≢◌, ◌∙◌, sym, ap, refl, ℕ, ◌/◌, ◌%◌, ◌<◌, ◌≤◌, min, Bool, true, false, not, ◌&&◌, ◌||◌, List, [], ◌∷◌, ◌++◌, length, map, take, chars, IsUtf8, arith}
use Rattle.std.specs.Prelude.{◌==◌, nat_lt, nat_le, if◌then◌else◌}
use Rattle.std.specs.List.{list_all}
use lib.Utf8.{encode, scalars}
use Rattle.std.proofs.lemmas.Bool.{and_parts, and_from, eqb-true, ltb-true, leb-true, lt-ltb, le-leb, not-true}
use Rattle.std.proofs.lemmas.List.{append-nil, length-map, length-take}
use Rattle.std.proofs.lemmas.Str.{chars-nil, chars-append, chars_from_encodes, chars-IsAscii, IsUtf8-from_ascii}
use Rattle.std.proofs.lemmas.Str.Ascii.{IsAscii-nil, IsAscii-cons}
use Rattle.hfs_fields.specs.Names.{is_item_name, is_name_character}
use Rattle.hfs_fields.proofs.CommonLemmas.{each_below}
use Rattle.hfs_fields.proofs.CommonLemmas.{at-each}
use Rattle.hfs_texts.specs.Digits.{upper_digit, upper_byte}
use Rattle.hfs_texts.specs.MacRoman.{high_characters, roman_character, character_text}
use Rattle.hfs_texts.specs.HostNames.{is_reserved, is_device_name, is_dropped_at_end, is_first_escaped, host_character, host_rest, host_name}
use Rattle.hfs_texts.specs.NameLaws.{is_bytes}
use Rattle.hfs_encodings.specs.declared.names.GivenName.TheVariants.{Item, Other}
use Rattle.hfs_encodings.specs.declared.spelled.Spelling.TheVariants.{HostName}
use Rattle.hfs_encodings.specs.Names.{given_name, named_letter, renamed}
use Rattle.hfs_encodings.specs.Spelled.{are_digits, digit_value, digits_byte, host_letters, letter_value, letters_in, roman_byte}
use Rattle.hfs_encodings.specs.Laws.{AreHostNamesRead}
use Rattle.hfs_encodings.proofs.Letters.{plain}
use Rattle.hfs_texts.proofs.HostNameLemmas.{rest-marks, first-marks}

-- ---- what was tried of each byte

high-digit : ℕ → ℕ
high-digit b = upper_digit (b / 16)

low-digit : ℕ → ℕ
low-digit b = upper_digit (b % 16)

escaped-test : ℕ → Bool
escaped-test b = (are_digits HostName (high-digit b) (low-digit b) && (digits_byte HostName (high-digit b) (low-digit b) == b)) && (nat_lt (high-digit b) 128 && nat_lt (low-digit b) 128)

itself-test : ℕ → Bool
itself-test b = (roman_byte (roman_character b) == b) && scalars (roman_character b ∷ [])

unequal-test : ℕ → Bool
unequal-test b = is_reserved b || not (roman_character b == 61)

escaped-tried : (b : ℕ) → b < 256 → escaped-test b ≡ true
unfolding each_below escaped-test high-digit low-digit digit_value letter_value
escaped-tried b h = at-each 256 escaped-test refl b h

itself-tried : (b : ℕ) → b < 256 → itself-test b ≡ true
unfolding each_below itself-test roman_byte roman_character high_characters
itself-tried b h = at-each 256 itself-test refl b h

unequal-tried : (b : ℕ) → b < 256 → unequal-test b ≡ true
unfolding each_below unequal-test is_reserved roman_character high_characters
unequal-tried b h = at-each 256 unequal-test refl b h

-- the byte of a byte's character is the byte
pub itself-back : (b : ℕ) → b < 256 → roman_byte (roman_character b) ≡ b
unfolding itself-test
itself-back b h = eqb-true _ _ (and_parts _ _ (itself-tried b h)).0

-- ---- one word

pub itself-chars : (b : ℕ) (t : List ℕ) → b < 256 → chars (character_text b ++ t) ≡ roman_character b ∷ chars t
unfolding character_text itself-test
itself-chars b t h =
    let one : scalars (roman_character b ∷ []) ≡ true = (and_parts _ _ (itself-tried b h)).1 in
    let text : IsUtf8 (encode (roman_character b)) = (roman_character b ∷ [], (one, append-nil (encode (roman_character b)))) in
    chars-append (encode (roman_character b)) t text
    ∙ ap (λ (l : List ℕ). l ++ chars t) (sym (chars_from_encodes (roman_character b ∷ []) (encode (roman_character b)) text (append-nil (encode (roman_character b)))))

escaped-chars : (b : ℕ) (t : List ℕ) → b < 256 → chars ((61 ∷ upper_byte b) ++ t) ≡ 61 ∷ high-digit b ∷ low-digit b ∷ chars t
unfolding upper_byte escaped-test high-digit low-digit
escaped-chars b t h =
    let small = and_parts _ _ (and_parts _ _ (escaped-tried b h)).1 in
    let ascii = IsAscii-cons 61 (high-digit b ∷ low-digit b ∷ []) (omega arith) (IsAscii-cons (high-digit b) (low-digit b ∷ []) (ltb-true _ 128 small.0) (IsAscii-cons (low-digit b) [] (ltb-true _ 128 small.1) IsAscii-nil)) in
    chars-append (61 ∷ high-digit b ∷ low-digit b ∷ []) t (IsUtf8-from_ascii _ ascii) ∙ ap (λ (l : List ℕ). l ++ chars t) (chars-IsAscii _ ascii)

escaped-letter : (b : ℕ) (t : List ℕ) → b < 256 → host_letters (61 ∷ high-digit b ∷ low-digit b ∷ t) ≡ b ∷ host_letters t
unfolding letters_in escaped-test
escaped-letter b t h =
    let two = and_parts _ _ (and_parts _ _ (escaped-tried b h)).0 in
    ap (λ c. if (61 == 61) && c then digits_byte HostName (high-digit b) (low-digit b) ∷ host_letters t else roman_byte 61 ∷ host_letters (high-digit b ∷ low-digit b ∷ t)) two.0
    ∙ ap (λ (n : ℕ). n ∷ host_letters t) (eqb-true _ _ two.1)

open-test : (r b : Bool) → (r || b) ≡ true → not r ≡ true → b ≡ true
open-test true b p q = cc
open-test false b p q = p

itself-letter : (b : ℕ) (t : List ℕ) → b < 256 → not (is_reserved b) ≡ true → host_letters (roman_character b ∷ t) ≡ b ∷ host_letters t
unfolding unequal-test
itself-letter b t h free =
    plain HostName (roman_character b) t (not-true _ (open-test (is_reserved b) _ (unequal-tried b h) free))
    ∙ ap (λ (n : ℕ). n ∷ host_letters t) (itself-back b h)

word-back : (escaped : Bool) (b : ℕ) (t xs : List ℕ) → b < 256 → (escaped || not (is_reserved b)) ≡ true → host_letters (chars t) ≡ xs
    → host_letters (chars (host_character escaped b ++ t)) ≡ b ∷ xs
unfolding host_character
word-back true b t xs h free e = ap host_letters (escaped-chars b t h) ∙ escaped-letter b (chars t) h ∙ ap (λ (l : List ℕ). b ∷ l) e
word-back false b t xs h free e = ap host_letters (itself-chars b t h) ∙ itself-letter b (chars t) h free ∙ ap (λ (l : List ℕ). b ∷ l) e

-- ---- a name

no-letters : host_letters (chars []) ≡ []
unfolding letters_in
no-letters = ap host_letters chars-nil

rest-back : (a : List ℕ) → is_bytes a ≡ true → host_letters (chars (host_rest a)) ≡ a
unfolding host_rest
rest-back [] h = no-letters
rest-back (c ∷ behind) h =
    let two = and_parts _ _ h in
    word-back (is_reserved c || length behind == 0 && is_dropped_at_end c) c (host_rest behind) behind (ltb-true c 256 two.0)
    (rest-marks (is_reserved c) (length behind == 0 && is_dropped_at_end c)) (rest-back behind two.1)

name-back : (a : List ℕ) → is_bytes a ≡ true → a ≢ [] → host_letters (chars (host_name a)) ≡ a
unfolding host_name
name-back [] h some = absurd (some refl)
name-back (c ∷ behind) h some =
    let two = and_parts _ _ h in
    word-back (is_first_escaped c behind) c (host_rest behind) behind (ltb-true c 256 two.0)
    (first-marks (is_reserved c) (c == 46) (is_device_name (c ∷ behind)) (length behind == 0 && is_dropped_at_end c)) (rest-back behind two.1)

-- ---- item names

pub characters-bytes : (a : List ℕ) → list_all is_name_character a ≡ true → is_bytes a ≡ true
characters-bytes [] h = refl
characters-bytes (x ∷ a) h =
    let two = and_parts _ _ h in
    let range : nat_le 32 x && nat_le x 126 ≡ true = (and_parts _ _ (and_parts _ _ two.0).0).0 in
    let most : x ≤ 126 = leb-true x 126 (and_parts (nat_le 32 x) (nat_le x 126) range).1 in
    and_from _ _ (lt-ltb x 256 (omega (arith, most))) (characters-bytes a two.1)

no-item : (a : List ℕ) → is_item_name a ≡ true → a ≢ []
no-item [] h e = cc
no-item (x ∷ a) h e = absurd (omega (arith, ap length e))

item-back : (a : List ℕ) → is_item_name a ≡ true → given_name (host_letters (chars (host_name a))) ≡ Item a
unfolding given_name
item-back a h =
    ap given_name (name-back a (characters-bytes a (and_parts _ _ h).1) (no-item a h)) ∙ ap (λ t. if t then Item a else Other (renamed a)) h

-- ---- in the place of others

named-letter-is : (x : ℕ) → is_name_character (named_letter x) ≡ true
unfolding named_letter
named-letter-is x = by (is_name_character x) refl
  where
    by : (t : Bool) → is_name_character x ≡ t → is_name_character (if t then x else 95) ≡ true
    by true e = e
    by false e = refl

named-are : (xs : List ℕ) → list_all is_name_character (map named_letter xs) ≡ true
named-are [] = refl
named-are (x ∷ xs) = and_from _ _ (named-letter-is x) (named-are xs)

renamed-is : (letters : List ℕ) → is_item_name (renamed letters) ≡ true
unfolding renamed
renamed-is [] = refl
renamed-is (x ∷ xs) =
    let size : length (map named_letter (take 31 (x ∷ xs))) ≡ min 31 (length (x ∷ xs)) = length-map (take 31 (x ∷ xs)) named_letter ∙ length-take 31 (x ∷ xs) in
    let least : 1 ≤ length (map named_letter (take 31 (x ∷ xs))) = omega (arith, size) in
    let most : length (map named_letter (take 31 (x ∷ xs))) ≤ 31 = omega (arith, size) in
    and_from _ _ (and_from _ _ (le-leb 1 (length (map named_letter (take 31 (x ∷ xs)))) least) (le-leb (length (map named_letter (take 31 (x ∷ xs)))) 31 most))
    (named-are (take 31 (x ∷ xs)))

pub host-names-read : AreHostNamesRead host_name
host-names-read = record { back = name-back; item = item-back; other = renamed-is }
