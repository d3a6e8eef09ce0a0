-- Marks: `=` before a letter that is no hexadecimal digit. No host name has one, in any case of letters, so what stands before the first in an entry is its host name.
use Rattle.std.proofs.Common.{◌≡◌, ℕ, ◌<◌, Bool, true, false, not, ◌&&◌, ◌||◌, ◌==◌, if◌then◌else◌, List, [], ◌∷◌, ◌++◌, length, refl, sym, ap, ◌∙◌, arith}
use Rattle.std.specs.Prelude.{nat_lt}
use lib.Utf8.{encode}
use Rattle.std.proofs.lemmas.Bool.{true≢false, and_parts, and_from, and_left, and_right, eqb-true, ltb-true, not-true, or_parts, false_from_ne_true}
use Rattle.std.proofs.lemmas.List.{map-append}
use Rattle.hfs_fields.specs.Order.{fold_letter, folded}
use Rattle.hfs_fields.proofs.CommonLemmas.{each_below, at-each}
use Rattle.hfs_texts.specs.Digits.{upper_byte}
use Rattle.hfs_texts.specs.MacRoman.{high_characters, roman_character, character_text}
use Rattle.hfs_texts.specs.HostNames.{is_reserved, is_device_name, is_dropped_at_end, is_first_escaped, host_character, host_rest, host_name}
use Rattle.hfs_texts.specs.NameLaws.{is_bytes}

-- L of `=lost`, O of `=old`, R and T of what stands behind a host name that is there already
abbrev pub is-marker : ℕ → Bool
is-marker d = ((d == 76 || d == 79) || d == 82) || d == 84

abbrev pub is-mark : ℕ → ℕ → Bool
is-mark c d = c == 61 && is-marker d

-- a text without a mark
abbrev pub unmarked : List ℕ → Bool
unmarked [] = true
unmarked (c ∷ []) = true
unmarked (c ∷ d ∷ rest) = if is-mark c d then false else unmarked (d ∷ rest)

-- nor does it end as a mark begins
abbrev closed : List ℕ → Bool
closed [] = true
closed (c ∷ []) = not (c == 61)
closed (c ∷ d ∷ rest) = if is-mark c d then false else closed (d ∷ rest)

-- what stands before the first mark
abbrev pub before-mark : List ℕ → List ℕ
before-mark [] = []
before-mark (c ∷ []) = c ∷ []
before-mark (c ∷ d ∷ rest) = if is-mark c d then [] else c ∷ before-mark (d ∷ rest)

-- a text begins with `=` and this letter
abbrev pub begins : ℕ → List ℕ → Bool
begins letter [] = false
begins letter (c ∷ []) = false
begins letter (c ∷ d ∷ rest) = c == 61 && d == letter

-- ---- texts side by side

unmarked-appended : (word text : List ℕ) → closed word ≡ true → unmarked text ≡ true → unmarked (word ++ text) ≡ true
unmarked-appended [] text here behind = behind
unmarked-appended (c ∷ []) [] here behind = refl
unmarked-appended (c ∷ []) (d ∷ text) here behind =
    ap (λ (b : Bool). if b then false else unmarked (d ∷ text)) (and_left (c == 61) (is-marker d) (not-true (c == 61) here)) ∙ behind
unmarked-appended (c ∷ d ∷ word) text here behind = by (is-mark c d) here (λ inner. unmarked-appended (d ∷ word) text inner behind)
  where
    by : (b : Bool) → (if b then false else closed (d ∷ word)) ≡ true → (closed (d ∷ word) ≡ true → unmarked (d ∷ (word ++ text)) ≡ true)
        → (if b then false else unmarked (d ∷ (word ++ text))) ≡ true
    by true here more = absurd (true≢false (sym here))
    by false here more = more here

pub cut-whole : (host : List ℕ) → unmarked host ≡ true → before-mark host ≡ host
cut-whole [] none = refl
cut-whole (c ∷ []) none = refl
cut-whole (c ∷ d ∷ host) none = by (is-mark c d) none (λ inner. cut-whole (d ∷ host) inner)
  where
    by : (b : Bool) → (if b then false else unmarked (d ∷ host)) ≡ true → (unmarked (d ∷ host) ≡ true → before-mark (d ∷ host) ≡ d ∷ host)
        → (if b then [] else c ∷ before-mark (d ∷ host)) ≡ c ∷ d ∷ host
    by true none more = absurd (true≢false (sym none))
    by false none more = ap (λ (l : List ℕ). c ∷ l) (more none)

pub cut-marked : (host : List ℕ) (letter : ℕ) (rest : List ℕ) → unmarked host ≡ true → is-marker letter ≡ true → before-mark (host ++ 61 ∷ letter ∷ rest) ≡ host
cut-marked [] letter rest none marker = ap (λ (b : Bool). if b then [] else 61 ∷ before-mark (letter ∷ rest)) marker
cut-marked (c ∷ []) letter rest none marker =
    ap (λ (b : Bool). if b then [] else c ∷ before-mark (61 ∷ letter ∷ rest)) (and_right (c == 61) (is-marker 61) refl)
    ∙ ap (λ (l : List ℕ). c ∷ l) (cut-marked [] letter rest refl marker)
cut-marked (c ∷ d ∷ host) letter rest none marker = by (is-mark c d) none (λ inner. cut-marked (d ∷ host) letter rest inner marker)
  where
    by : (b : Bool) → (if b then false else unmarked (d ∷ host)) ≡ true → (unmarked (d ∷ host) ≡ true → before-mark (d ∷ (host ++ 61 ∷ letter ∷ rest)) ≡ d ∷ host)
        → (if b then [] else c ∷ before-mark (d ∷ (host ++ 61 ∷ letter ∷ rest))) ≡ c ∷ d ∷ host
    by true none more = absurd (true≢false (sym none))
    by false none more = ap (λ (l : List ℕ). c ∷ l) (more none)

-- ---- beginnings

pub begins-appended : (letter x : ℕ) (text rest : List ℕ) → 0 < length text → (x == letter) ≡ false → begins letter (text ++ x ∷ rest) ≡ begins letter text
begins-appended letter x [] rest some other = absurd (omega (arith, some))
begins-appended letter x (c ∷ []) rest some other = and_right (c == 61) (x == letter) other
begins-appended letter x (c ∷ d ∷ text) rest some other = refl

pub unmarked-begins : (letter : ℕ) (text : List ℕ) → is-marker letter ≡ true → unmarked text ≡ true → begins letter text ≡ false
unmarked-begins letter [] marker none = refl
unmarked-begins letter (c ∷ []) marker none = refl
unmarked-begins letter (c ∷ d ∷ text) marker none = false_from_ne_true (c == 61 && d == letter) begun
  where
    begun : (c == 61 && d == letter) ≡ true → ⊥
    begun so =
        let two = and_parts (c == 61) (d == letter) so in
        let mark : is-mark c d ≡ true = and_from (c == 61) (is-marker d) two.0 (ap is-marker (eqb-true d letter two.1) ∙ marker) in
        true≢false (sym none ∙ ap (λ (b : Bool). if b then false else unmarked (d ∷ text)) mark)

-- ---- host names

-- what was tried of the word of each character
unfoldable escaped-test : ℕ → Bool
escaped-test c = closed (folded (host_character true c))

unfoldable plain-test : ℕ → Bool
plain-test c = is_reserved c || closed (folded (host_character false c))

escaped-tried : (c : ℕ) → c < 256 → escaped-test c ≡ true
unfolding each_below escaped-test host_character upper_byte character_text roman_character high_characters encode
escaped-tried c small = at-each 256 escaped-test refl c small

plain-tried : (c : ℕ) → c < 256 → plain-test c ≡ true
unfolding each_below plain-test host_character upper_byte character_text roman_character high_characters encode is_reserved
plain-tried c small = at-each 256 plain-test refl c small

word-closed : (escaped : Bool) (c : ℕ) → c < 256 → (escaped ≡ false → is_reserved c ≡ false) → closed (folded (host_character escaped c)) ≡ true
unfolding escaped-test plain-test
word-closed true c small plain = escaped-tried c small
word-closed false c small plain = ap (λ (b : Bool). b || closed (folded (host_character false c))) (sym (plain refl)) ∙ plain-tried c small

unmarked-rest : (name : List ℕ) → is_bytes name ≡ true → unmarked (folded (host_rest name)) ≡ true
unfolding host_rest
unmarked-rest [] bytes = refl
unmarked-rest (c ∷ behind) bytes =
    let two = and_parts (nat_lt c 256) (is_bytes behind) bytes in
    let escaped : Bool = is_reserved c || length behind == 0 && is_dropped_at_end c in
    let word = word-closed escaped c (ltb-true c 256 two.0) (λ e. (or_parts (is_reserved c) (length behind == 0 && is_dropped_at_end c) e).0) in
    ap unmarked (map-append fold_letter (host_character escaped c) (host_rest behind))
    ∙ unmarked-appended (folded (host_character escaped c)) (folded (host_rest behind)) word (unmarked-rest behind two.1)

first-plain : (r x y z : Bool) → (((r || x) || y) || z) ≡ false → r ≡ false
first-plain r x y z e = (or_parts r x (or_parts (r || x) y (or_parts ((r || x) || y) z e).0).0).0

pub unmarked-host : (name : List ℕ) → is_bytes name ≡ true → unmarked (folded (host_name name)) ≡ true
unfolding host_name
unmarked-host [] bytes = refl
unmarked-host (c ∷ behind) bytes =
    let two = and_parts (nat_lt c 256) (is_bytes behind) bytes in
    let escaped : Bool = is_first_escaped c behind in
    let word = word-closed escaped c (ltb-true c 256 two.0) (λ e. first-plain (is_reserved c) (c == 46) (is_device_name (c ∷ behind)) (length behind == 0 && is_dropped_at_end c) e) in
    ap unmarked (map-append fold_letter (host_character escaped c) (host_rest behind))
    ∙ unmarked-appended (folded (host_character escaped c)) (folded (host_rest behind)) word (unmarked-rest behind two.1)
