-- Any bytes come back from their plain text. What holds of the text of each byte was tried on all 256 of them.
use Rattle.std.proofs.Common.{◌≡◌, ◌∙◌, sym, ap, refl, ℕ, ◌/◌, ◌%◌, ◌<◌, Bool, true, false, not, ◌&&◌, ◌||◌, List, [], ◌∷◌, ◌++◌, chars, arith}
use Rattle.std.specs.Prelude.{◌==◌, nat_lt, if◌then◌else◌, flat_map}
use Rattle.std.proofs.lemmas.Bool.{and_parts, eqb-true, ltb-true, not-true}
use Rattle.std.proofs.lemmas.List.{append_assoc}
use Rattle.std.proofs.lemmas.Str.{chars-nil, chars-append, chars-IsAscii, IsUtf8-from_ascii}
use Rattle.std.proofs.lemmas.Str.Ascii.{IsAscii-nil, IsAscii-cons}
use Rattle.hfs_fields.specs.Names.{is_item_name}
use Rattle.hfs_fields.proofs.CommonLemmas.{each_below}
use Rattle.hfs_fields.proofs.CommonLemmas.{at-each}
use Rattle.hfs_texts.specs.Digits.{hex_byte, lower_digit}
use Rattle.hfs_texts.specs.MacRoman.{character_text, high_characters, roman_character}
use Rattle.hfs_texts.specs.PlainTexts.{is_control, plain_character, plain_text}
use Rattle.hfs_texts.specs.NameLaws.{is_bytes}
use Rattle.hfs_encodings.specs.declared.names.GivenName.TheVariants.{Item, Other}
use Rattle.hfs_encodings.specs.declared.spelled.Spelling.TheVariants.{PlainText}
use Rattle.hfs_encodings.specs.Names.{given_name, renamed}
use Rattle.hfs_encodings.specs.Spelled.{are_digits, digit_value, digits_byte, letter_value, letters_in, plain_letters, roman_byte}
use Rattle.hfs_encodings.specs.Laws.{IsPlainTextRead}
use Rattle.hfs_encodings.proofs.Letters.{plain}
use Rattle.hfs_encodings.proofs.HostNamesRead.{characters-bytes, itself-back, itself-chars}

-- ---- what was tried of each byte

high-digit : ℕ → ℕ
high-digit b = lower_digit (b / 16)

low-digit : ℕ → ℕ
low-digit b = lower_digit (b % 16)

escaped-test : ℕ → Bool
escaped-test b =
    (are_digits PlainText (high-digit b) (low-digit b) && (digits_byte PlainText (high-digit b) (low-digit b) == b)) && (nat_lt (high-digit b) 128 && nat_lt (low-digit b) 128)

-- a byte that stands by its character, which is no backslash
unequal-test : ℕ → Bool
unequal-test b = (is_control b || b == 0x5C) || not (roman_character b == 92)

escaped-tried : (b : ℕ) → b < 256 → escaped-test b ≡ true
unfolding each_below escaped-test high-digit low-digit digit_value letter_value
escaped-tried b h = at-each 256 escaped-test refl b h

unequal-tried : (b : ℕ) → b < 256 → unequal-test b ≡ true
unfolding each_below unequal-test roman_character high_characters
unequal-tried b h = at-each 256 unequal-test refl b h

-- ---- one byte

escaped-chars : (b : ℕ) (t : List ℕ) → b < 256 → chars ((0x5C ∷ hex_byte b) ++ t) ≡ 92 ∷ high-digit b ∷ low-digit b ∷ chars t
unfolding hex_byte escaped-test high-digit low-digit
escaped-chars b t h =
    let small = and_parts _ _ (and_parts _ _ (escaped-tried b h)).1 in
    let ascii = IsAscii-cons 92 (high-digit b ∷ low-digit b ∷ []) (omega arith) (IsAscii-cons (high-digit b) (low-digit b ∷ []) (ltb-true _ 128 small.0) (IsAscii-cons (low-digit b) [] (ltb-true _ 128 small.1) IsAscii-nil)) in
    chars-append (92 ∷ high-digit b ∷ low-digit b ∷ []) t (IsUtf8-from_ascii _ ascii) ∙ ap (λ (l : List ℕ). l ++ chars t) (chars-IsAscii _ ascii)

escaped-letter : (b : ℕ) (t : List ℕ) → b < 256 → plain_letters (92 ∷ high-digit b ∷ low-digit b ∷ t) ≡ b ∷ plain_letters t
unfolding letters_in escaped-test
escaped-letter b t h =
    let two = and_parts _ _ (and_parts _ _ (escaped-tried b h)).0 in
    ap (λ c. if (92 == 92) && c then digits_byte PlainText (high-digit b) (low-digit b) ∷ plain_letters t else roman_byte 92 ∷ plain_letters (high-digit b ∷ low-digit b ∷ t)) two.0
    ∙ ap (λ (n : ℕ). n ∷ plain_letters t) (eqb-true _ _ two.1)

itself-letter : (b : ℕ) (t : List ℕ) → b < 256 → (is_control b || b == 0x5C) ≡ false → plain_letters (roman_character b ∷ t) ≡ b ∷ plain_letters t
unfolding unequal-test
itself-letter b t h free =
    plain PlainText (roman_character b) t (not-true _ (sym (ap (λ x. x || not (roman_character b == 92)) free) ∙ unequal-tried b h))
    ∙ ap (λ (n : ℕ). n ∷ plain_letters t) (itself-back b h)

character-back : (marked : Bool) (b : ℕ) (t xs : List ℕ) → b < 256 → (is_control b || b == 0x5C) ≡ marked → plain_letters (chars t) ≡ xs
    → plain_letters (chars (plain_character b ++ t)) ≡ b ∷ xs
unfolding plain_character
character-back true b t xs h is e =
    ap (λ c. plain_letters (chars ((if c then 0x5C ∷ hex_byte b else character_text b) ++ t))) is
    ∙ ap plain_letters (escaped-chars b t h) ∙ escaped-letter b (chars t) h ∙ ap (λ (l : List ℕ). b ∷ l) e
character-back false b t xs h is e =
    ap (λ c. plain_letters (chars ((if c then 0x5C ∷ hex_byte b else character_text b) ++ t))) is
    ∙ ap plain_letters (itself-chars b t h) ∙ itself-letter b (chars t) h is ∙ ap (λ (l : List ℕ). b ∷ l) e

-- ---- all of them

no-letters : plain_letters (chars []) ≡ []
unfolding letters_in
no-letters = ap plain_letters chars-nil

text-back : (a : List ℕ) → is_bytes a ≡ true → plain_letters (chars (plain_text a)) ≡ a
unfolding plain_text
text-back [] h = no-letters
text-back (b ∷ behind) h =
    let two = and_parts _ _ h in
    character-back _ b (flat_map plain_character behind) behind (ltb-true b 256 two.0) refl (text-back behind two.1)

item-back : (a : List ℕ) → is_item_name a ≡ true → given_name (plain_letters (chars (plain_text a))) ≡ Item a
unfolding given_name
item-back a h =
    ap given_name (text-back a (characters-bytes a (and_parts _ _ h).1)) ∙ ap (λ t. if t then Item a else Other (renamed a)) h

pub plain-text-read : IsPlainTextRead plain_text
plain-text-read = record { back = text-back; item = item-back }
