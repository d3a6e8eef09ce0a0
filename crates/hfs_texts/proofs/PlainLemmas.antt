-- Bytes that are their own plain text.
use Rattle.std.proofs.Common.{◌≡◌, ◌∙◌, sym, ap, refl, ℕ, ◌+◌, ◌-◌, ◌<◌, Bool, true, false, not, ◌&&◌, ◌||◌, List, [], ◌∷◌, ◌++◌, length, get_or, take, drop, append_assoc}
use Rattle.std.specs.Prelude.{◌==◌, nat_lt, if◌then◌else◌, slice_index, encode_utf8, flat_map, IsAscii}
use Rattle.std.proofs.lemmas.Bool.{and_parts, not-true, ltb-true}
use Rattle.std.proofs.lemmas.List.{take_more, take-append-drop}
use Rattle.std.proofs.lemmas.List.Concat.{flat_map-append}
use Rattle.std.proofs.lemmas.Str.Ascii.{IsAscii-nil, IsAscii-more, encode_ascii}
use Rattle.hfs_texts.specs.Digits.{hex_byte}
use Rattle.hfs_texts.specs.MacRoman.{high_characters, roman_character, character_text}
use Rattle.hfs_texts.specs.PlainTexts.{IsOwnText, is_control, is_itself, plain_character, plain_text}

pub own_byte : (b : ℕ) → is_itself b ≡ true → b < 128
unfolding is_itself
own_byte b h = ltb-true b 128 (and_parts _ _ (and_parts _ _ h).0).0

own_character : (b : ℕ) → is_itself b ≡ true → plain_character b ≡ b ∷ []
unfolding is_itself plain_character character_text roman_character
own_character b h =
    let outer = and_parts _ _ h in
    let inner = and_parts _ _ outer.0 in
    let control : is_control b ≡ false = not-true _ inner.1 in
    let slash : (b == 0x5C) ≡ false = not-true _ outer.1 in
    (λ i. if control i || slash i then 0x5C ∷ hex_byte b else encode_utf8 (if inner.0 i then b else slice_index high_characters (b - 0x80)))
    ∙ encode_ascii b (ltb-true b 128 inner.0)

pub own_none : (bytes : List ℕ) → IsOwnText (take 0 bytes)
unfolding plain_text
own_none bytes = (IsAscii-nil, refl)

-- what stands for itself and one byte more that does
pub own_more : (bytes : List ℕ) (n : ℕ) → n < length bytes → is_itself (get_or bytes n 0) ≡ true → IsOwnText (take n bytes) → IsOwnText (take (n + 1) bytes)
unfolding plain_text
own_more bytes n below itself own =
    let b : ℕ = get_or bytes n 0 in
    let more : take (n + 1) bytes ≡ take n bytes ++ b ∷ [] = take_more bytes n 0 below in
    let last : flat_map plain_character (b ∷ []) ≡ b ∷ [] = ap (λ t. t ++ []) (own_character b itself) in (
      IsAscii-more bytes n below own.0 (own_byte b itself),
      ap (flat_map plain_character) more ∙ flat_map-append plain_character (take n bytes) (b ∷ []) ∙ (λ i. own.1 i ++ last i) ∙ sym more,
    )

-- a text that has got a beginning which stands for itself, and then the plain text of the rest, has got the plain text of all
pub own_begun : (bytes own behind : List ℕ) (n : ℕ) (old mid new : List ℕ) → IsOwnText (take n bytes) → own ≡ take n bytes → behind ≡ drop n bytes
    → mid ≡ old ++ own → new ≡ mid ++ plain_text behind → new ≡ old ++ plain_text bytes
unfolding plain_text
own_begun bytes own behind n old mid new itself front back begun ended =
    let rest : List ℕ = flat_map plain_character (drop n bytes) in
    let whole : flat_map plain_character bytes ≡ take n bytes ++ rest =
    ap (flat_map plain_character) (sym (take-append-drop n bytes)) ∙ flat_map-append plain_character (take n bytes) (drop n bytes) ∙ ap (λ t. t ++ rest) itself.1 in
    ended
    ∙ (λ i. begun i ++ flat_map plain_character (back i))
    ∙ ap (λ t. (old ++ t) ++ rest) front
    ∙ append_assoc old (take n bytes) rest
    ∙ ap (λ t. old ++ t) (sym whole)
