-- The paths that a table prints are read as the names that they are printed of.
use Rattle.std.proofs.Common.{◌≡◌, ◌∙◌, sym, ap, subst, refl, ℕ, ◌<◌, ◌≤◌, Bool, true, false, not, ◌&&◌, ◌||◌, List, [], ◌∷◌, ◌++◌, length, Some, arith}
use Rattle.std.specs.Prelude.{◌==◌, nat_lt, nat_le, codes}
use Rattle.std.specs.List.{flat_map, fold, list_all}
use Rattle.std.specs.Str.{bytes_eq}
use Rattle.std.proofs.lemmas.Bool.{and_parts, or_from, not-true, leb-true, lt-ltb, le-leb, le-ltb, eqb-true, ne_eqb, false≢true}
use Rattle.std.proofs.lemmas.List.{append_assoc, append-nil}
use Rattle.std.proofs.lemmas.List.Sums.{fold-append}
use Rattle.std.proofs.lemmas.Str.{encode_ascii}
use Rattle.hfs_fields.specs.Names.{is_item_name, is_name_character}
use Rattle.hfs_texts.specs.Digits.{hex_byte}
use Rattle.hfs_texts.specs.MacRoman.{character_text, roman_character}
use Rattle.hfs_texts.specs.MacPaths.{mac_path}
use Rattle.hfs_texts.specs.PlainTexts.{is_control, plain_character, plain_text}
use Rattle.hfs_texts.specs.declared.reading.Stage.TheVariants.{Character}
use Rattle.hfs_texts.specs.Paths.{Read, byte_of, closed, digit_value, names_read, path_names, read_byte, unread, with_character, with_second_digit}

-- in the middle of a name
abbrev state : List (List ℕ) → List ℕ → Read
state names name = record { names = names; name = name; stage = Character }

-- ---- a character

-- a backslash is printed by its digits
backslash : (names : List (List ℕ)) (name : List ℕ) → fold read_byte (state names name) (plain_character 92) ≡ state names (name ++ 92 ∷ [])
unfolding plain_character hex_byte read_byte with_character with_second_digit byte_of digit_value
backslash names name = refl

-- and any other as it is
printed : (c : ℕ) → is_control c ≡ false → (c == 92) ≡ false → c < 128 → plain_character c ≡ c ∷ []
unfolding plain_character character_text roman_character
printed c control other low =
    let plain : (is_control c || c == 92) ≡ false = or_from (is_control c) (c == 92) control other in
    let ascii : nat_lt c 0x80 ≡ true = lt-ltb c 128 low in
    rw plain (rw ascii (encode_ascii c low))

taken : (names : List (List ℕ)) (name : List ℕ) (c : ℕ) → (c == 58) ≡ false → (c == 92) ≡ false → read_byte (state names name) c ≡ state names (name ++ c ∷ [])
unfolding read_byte with_character
taken names name c colon other = rw colon (rw other refl)

-- ---- what a name's character is

record IsPlain (c : ℕ) : Type 0 where
  low : c < 128
  control : is_control c ≡ false
  colon : (c == 58) ≡ false

is-plain : (c : ℕ) → is_name_character c ≡ true → IsPlain c
is-plain c h =
    let first = and_parts (nat_le 32 c && nat_le c 126 && not (c == 58)) (not (c == 96)) h in
    let second = and_parts (nat_le 32 c && nat_le c 126) (not (c == 58)) first.0 in
    let third = and_parts (nat_le 32 c) (nat_le c 126) second.0 in
    let least : 32 ≤ c = leb-true 32 c third.0 in
    let most : c ≤ 126 = leb-true c 126 third.1 in
    record {
      low = omega (arith, most);
      control = or_from (nat_lt c 32) (c == 0x7F) (le-ltb c 32 least) (ne_eqb c 0x7F (λ e. omega (arith, most, e)));
      colon = not-true (c == 58) second.1;
    }

-- ---- a name

with-character : (names : List (List ℕ)) (name : List ℕ) (c : ℕ) → IsPlain c → (b : Bool) → (c == 92) ≡ b
    → fold read_byte (state names name) (plain_character c) ≡ state names (name ++ c ∷ [])
with-character names name c plain true e =
    let is : c ≡ 92 = eqb-true c 92 e in
    subst (λ (k : ℕ). fold read_byte (state names name) (plain_character k) ≡ state names (name ++ k ∷ [])) (sym is) (backslash names name)
with-character names name c plain false e =
    ap (fold read_byte (state names name)) (printed c plain.control e plain.low) ∙ taken names name c plain.colon e

with-name : (names : List (List ℕ)) (name more : List ℕ) → list_all is_name_character more ≡ true
    → fold read_byte (state names name) (plain_text more) ≡ state names (name ++ more)
unfolding plain_text
with-name names name [] h = ap (state names) (sym (append-nil name))
with-name names name (c ∷ more) h =
    let parts = and_parts (is_name_character c) (list_all is_name_character more) h in
    fold-append read_byte (state names name) (plain_character c) (flat_map plain_character more)
    ∙ ap (λ (r : Read). fold read_byte r (flat_map plain_character more)) (with-character names name c (is-plain c parts.0) (c == 92) refl)
    ∙ with-name names (name ++ c ∷ []) more parts.1
    ∙ ap (state names) (append_assoc name (c ∷ []) more)

-- ---- the names behind it

abbrev pub behind : List (List ℕ) → List ℕ
behind names = flat_map (λ (name : List ℕ). codes ":" ++ plain_text name) names

closes : (names : List (List ℕ)) (name : List ℕ) → length name ≤ 31 → closed (state names name) ≡ state (names ++ name ∷ []) []
unfolding closed
closes names name short = let e : nat_le (length name) 31 ≡ true = le-leb (length name) 31 short in rw e refl

colon-closes : (names : List (List ℕ)) (name : List ℕ) → read_byte (state names name) 58 ≡ closed (state names name)
unfolding read_byte with_character closed
colon-closes names name = refl

ends : (names : List (List ℕ)) (name : List ℕ) → length name ≤ 31 → names_read (state names name) ≡ Some (names ++ name ∷ [])
unfolding names_read
ends names name short = let e = closes names name short in rw e refl

record IsShort (name : List ℕ) : Type 0 where
  short : length name ≤ 31
  characters : list_all is_name_character name ≡ true

is-short : (name : List ℕ) → is_item_name name ≡ true → IsShort name
is-short name h =
    let first = and_parts (nat_le 1 (length name) && nat_le (length name) 31) (list_all is_name_character name) h in
    let second = and_parts (nat_le 1 (length name)) (nat_le (length name) 31) first.0 in
    record { short = leb-true (length name) 31 second.1; characters = first.1 }

with-names : (names : List (List ℕ)) (name : List ℕ) (more : List (List ℕ)) → length name ≤ 31 → list_all is_item_name more ≡ true
    → names_read (fold read_byte (state names name) (behind more)) ≡ Some (names ++ name ∷ more)
with-names names name [] short h = ends names name short
with-names names name (next ∷ more) short h =
    let parts = and_parts (is_item_name next) (list_all is_item_name more) h in
    let is = is-short next parts.0 in
    ap names_read (
    ap (λ (r : Read). fold read_byte r (plain_text next ++ behind more)) (colon-closes names name ∙ closes names name short)
    ∙ fold-append read_byte (state (names ++ name ∷ []) []) (plain_text next) (behind more)
    ∙ ap (λ (r : Read). fold read_byte r (behind more)) (with-name (names ++ name ∷ []) [] next is.characters)
    )
    ∙ with-names (names ++ name ∷ []) next more is.short parts.1
    ∙ ap Some (append_assoc names (name ∷ []) (next ∷ more))

-- ---- no printed path is `:`

first-is : (c : ℕ) → IsPlain c → (rest : List ℕ) (b : Bool) → (c == 92) ≡ b → bytes_eq (plain_character c ++ rest) (codes ":") ≡ false
unfolding plain_character hex_byte
first-is c plain rest true e =
    let is : c ≡ 92 = eqb-true c 92 e in
    subst (λ (k : ℕ). bytes_eq (plain_character k ++ rest) (codes ":") ≡ false) (sym is) refl
first-is c plain rest false e =
    ap (λ (text : List ℕ). bytes_eq (text ++ rest) (codes ":")) (printed c plain.control e plain.low) ∙ other-first c rest plain.colon
  where
    other-first : (c : ℕ) (rest : List ℕ) → (c == 58) ≡ false → bytes_eq (c ∷ rest) (codes ":") ≡ false
    other-first c rest e = ap (λ (t : Bool). t && bytes_eq rest []) e

no-colon : (name : List ℕ) (rest : List ℕ) → is_item_name name ≡ true → bytes_eq (plain_text name ++ rest) (codes ":") ≡ false
unfolding plain_text
no-colon [] rest h = absurd (false≢true h)
no-colon (c ∷ name) rest h =
    let parts = and_parts (is_name_character c) (list_all is_name_character name) (is-short (c ∷ name) h).characters in
    ap (λ (text : List ℕ). bytes_eq text (codes ":")) (append_assoc (plain_character c) (flat_map plain_character name) rest)
    ∙ first-is c (is-plain c parts.0) (flat_map plain_character name ++ rest) (c == 92) refl

-- and none is empty

not-empty : (x : ℕ) (xs : List ℕ) → (length (x ∷ xs) == 0) ≡ false
not-empty x xs = ne_eqb (length (x ∷ xs)) 0 (λ e. omega (arith, e))

first-some : (c : ℕ) → IsPlain c → (rest : List ℕ) (b : Bool) → (c == 92) ≡ b → (length (plain_character c ++ rest) == 0) ≡ false
unfolding plain_character hex_byte
first-some c plain rest true e =
    let is : c ≡ 92 = eqb-true c 92 e in
    subst (λ (k : ℕ). (length (plain_character k ++ rest) == 0) ≡ false) (sym is) (not-empty 92 (53 ∷ 99 ∷ rest))
first-some c plain rest false e = ap (λ (text : List ℕ). length (text ++ rest) == 0) (printed c plain.control e plain.low) ∙ not-empty c rest

some-text : (name : List ℕ) (rest : List ℕ) → is_item_name name ≡ true → (length (plain_text name ++ rest) == 0) ≡ false
unfolding plain_text
some-text [] rest h = absurd (false≢true h)
some-text (c ∷ name) rest h =
    let parts = and_parts (is_name_character c) (list_all is_name_character name) (is-short (c ∷ name) h).characters in
    ap (λ (text : List ℕ). length text == 0) (append_assoc (plain_character c) (flat_map plain_character name) rest)
    ∙ first-some c (is-plain c parts.0) (flat_map plain_character name ++ rest) (c == 92) refl

-- ---- all

pub printed-read : (name : List ℕ) (names : List (List ℕ)) → list_all is_item_name (name ∷ names) ≡ true → path_names (mac_path (name ∷ names)) ≡ Some (name ∷ names)
unfolding path_names mac_path
printed-read name names h =
    let parts = and_parts (is_item_name name) (list_all is_item_name names) h in
    let is = is-short name parts.0 in
    let some : (length (plain_text name ++ behind names) == 0) ≡ false = some-text name (behind names) parts.0 in
    let other : bytes_eq (plain_text name ++ behind names) (codes ":") ≡ false = no-colon name (behind names) parts.0 in
    let read =
    ap names_read (
    fold-append read_byte unread (plain_text name) (behind names)
    ∙ ap (λ (r : Read). fold read_byte r (behind names)) (with-name [] [] name is.characters)
    )
    ∙ with-names [] name names is.short parts.1 in
    rw some (rw other read)
