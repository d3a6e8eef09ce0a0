-- The letters of a text, one by one.
use Rattle.std.proofs.Common.{◌≡◌, ◌≢◌, ◌∙◌, sym, ap, refl, ℕ, ◌+◌, ◌<◌, ◌≤◌, Bool, true, false, ◌&&◌, List, [], ◌∷◌, map, Option, Some, None, arith}
use Rattle.std.specs.Prelude.{◌==◌, if◌then◌else◌}
use Rattle.std.specs.List.{position}
use Rattle.std.proofs.lemmas.Bool.{lt-ltb, le-ltb, eq-eqb, ne_eqb, and_from, and_left, and_right}
use Rattle.hfs_texts.specs.MacRoman.{high_characters}
use Rattle.hfs_encodings.specs.declared.spelled.Spelling.{Spelling}
use Rattle.hfs_encodings.specs.Spelled.{high_byte, roman_byte, mark, are_digits, digits_byte, letters_in, digits_in, seen_letter, seen_letters}
use Rattle.hfs_encodings.proofs.AppleDoubleRead.{chosen}

-- ---- the letter of one character

pub ascii_seen : (code : ℕ) → code < 128 → code ≡ seen_letter (roman_byte code)
unfolding seen_letter roman_byte
ascii_seen code h =
    let own : roman_byte code ≡ code = ap (λ t. if t then code else high_byte (position (λ c. c == code) high_characters)) (lt-ltb code 128 h) in
    sym (ap seen_letter own ∙ ap (λ t. if t then code else 0) (lt-ltb code 128 h))

high-seen : (place : Option ℕ) → 0 ≡ seen_letter (high_byte place)
unfolding seen_letter
high-seen None = refl
high-seen (Some place) = sym (ap (λ t. if t then 0x80 + place else 0) (le-ltb (0x80 + place) 128 (omega arith)))

pub other_seen : (code : ℕ) → 128 ≤ code → 0 ≡ seen_letter (roman_byte code)
unfolding roman_byte
other_seen code h =
    let place : Option ℕ = position (λ c. c == code) high_characters in
    high-seen place ∙ ap seen_letter (sym (ap (λ t. if t then code else high_byte place) (le-ltb code 128 h)))

-- ---- the first letter

other : {A : Type 0} (t : Bool) (x y : A) → t ≡ false → (if t then x else y) ≡ y
other true x y e = cc
other false x y e = refl

pub plain : (s : Spelling) (a : ℕ) (rest : List ℕ) → (a == mark s) ≡ false → letters_in s (a ∷ rest) ≡ roman_byte a ∷ letters_in s rest
unfolding letters_in
plain s a [] e = refl
plain s a (b ∷ []) e = refl
plain s a (b ∷ c ∷ rest) e = other ((a == mark s) && are_digits s b c) (digits_byte s b c ∷ letters_in s rest) (roman_byte a ∷ letters_in s (b ∷ c ∷ rest)) (and_left (a == mark s) (are_digits s b c) e)

no-pair : (t : Bool) (n : ℕ) (rest : List ℕ) → if◌then◌else◌ {A = Option (ℕ × List ℕ)} t (Some (n, rest)) None ≡ None → t ≡ false
no-pair true n rest e = cc
no-pair false n rest e = refl

bare : (s : Spelling) (a : ℕ) (rest : List ℕ) → digits_in s rest ≡ None → letters_in s (a ∷ rest) ≡ roman_byte a ∷ letters_in s rest
unfolding letters_in digits_in
bare s a [] e = refl
bare s a (b ∷ []) e = refl
bare s a (b ∷ c ∷ rest) e =
    other ((a == mark s) && are_digits s b c) (digits_byte s b c ∷ letters_in s rest) (roman_byte a ∷ letters_in s (b ∷ c ∷ rest))
    (and_right (a == mark s) (are_digits s b c) (no-pair (are_digits s b c) (digits_byte s b c) rest e))

inside : (p q : ℕ × List ℕ) → Some p ≡ Some q → p ≡ q
inside p q e = cc

record Pair (t : Bool) (m n : ℕ) (rest more : List ℕ) : Type 0 where
  pub are : t ≡ true
  pub number : m ≡ n
  pub behind : rest ≡ more

pair : (t : Bool) (m n : ℕ) (rest more : List ℕ) → if◌then◌else◌ {A = Option (ℕ × List ℕ)} t (Some (m, rest)) None ≡ Some (n, more) → Pair t m n rest more
pair true m n rest more e =
    let same : (m, rest) ≡ (n, more) = inside (m, rest) (n, more) e in
    record { are = refl; number = ap (λ (p : ℕ × List ℕ). p.0) same; behind = ap (λ (p : ℕ × List ℕ). p.1) same }
pair false m n rest more e = cc

escape : (s : Spelling) (a n : ℕ) (rest more : List ℕ) → (a == mark s) ≡ true → digits_in s rest ≡ Some (n, more) → letters_in s (a ∷ rest) ≡ n ∷ letters_in s more
unfolding letters_in digits_in
escape s a n [] more first e = cc
escape s a n (b ∷ []) more first e = cc
escape s a n (b ∷ c ∷ rest) more first e =
    let two = pair (are_digits s b c) (digits_byte s b c) n rest more e in
    chosen ((a == mark s) && are_digits s b c) (digits_byte s b c ∷ letters_in s rest) (roman_byte a ∷ letters_in s (b ∷ c ∷ rest)) (and_from _ _ first two.are)
    ∙ (λ i. two.number i ∷ letters_in s (two.behind i))

-- as they are read
pub plain_first : (s : Spelling) (a m letter : ℕ) (rest : List ℕ) → m ≡ mark s → a ≢ m → letter ≡ seen_letter (roman_byte a) → seen_letters s (a ∷ rest) ≡ letter ∷ seen_letters s rest
plain_first s a m letter rest own differs is = ap (map seen_letter) (plain s a rest (ap (λ (x : ℕ). a == x) (sym own) ∙ ne_eqb a m differs)) ∙ ap (λ (x : ℕ). x ∷ seen_letters s rest) (sym is)

pub no_digits : (s : Spelling) (a letter : ℕ) (rest : List ℕ) → digits_in s rest ≡ None → letter ≡ seen_letter (roman_byte a) → seen_letters s (a ∷ rest) ≡ letter ∷ seen_letters s rest
no_digits s a letter rest none is = ap (map seen_letter) (bare s a rest none) ∙ ap (λ (x : ℕ). x ∷ seen_letters s rest) (sym is)

pub escape_first : (s : Spelling) (a m n letter : ℕ) (rest more : List ℕ) → m ≡ mark s → a ≡ m → digits_in s rest ≡ Some (n, more) → letter ≡ seen_letter n → seen_letters s (a ∷ rest) ≡ letter ∷ seen_letters s more
escape_first s a m n letter rest more own first found is =
    ap (map seen_letter) (escape s a n rest more (eq-eqb a (mark s) (first ∙ own)) found) ∙ ap (λ (x : ℕ). x ∷ seen_letters s more) (sym is)
