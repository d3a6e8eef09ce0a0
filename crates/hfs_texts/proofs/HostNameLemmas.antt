-- The laws of host names. What holds of the word of each character was tried on all 256 bytes.
use Rattle.std.proofs.Common.{◌≡◌, ◌≢◌, ◌∙◌, sym, ap, subst, refl, ℕ, suc, ◌+◌, ◌-◌, ◌*◌, ◌<◌, ◌≤◌, Bool, true, false, not, ◌&&◌, ◌||◌, List, [], ◌∷◌, ◌++◌, length, get_or, arith, length-append}
use Rattle.std.specs.Prelude.{◌==◌, nat_lt, if◌then◌else◌, slice_index}
use Rattle.std.specs.List.{list_all}
use lib.Utf8.{encode}
use Rattle.std.proofs.Math.ListN.{get_or-append}
use Rattle.std.proofs.lemmas.Bool.{and_parts, and_from, eqb-true, eqb-false, ltb-true, leb-true, not-true}
use Rattle.std.proofs.lemmas.List.{map-id}
use Rattle.hfs_fields.specs.Names.{is_item_name, is_name_character}
use Rattle.hfs_fields.specs.Order.{fold_letter, folded, name_order}
use Rattle.hfs_texts.specs.Digits.{upper_byte}
use Rattle.hfs_texts.specs.MacRoman.{high_characters, roman_character, character_text}
use Rattle.hfs_texts.specs.HostNames.{is_reserved, is_device_name, is_dropped_at_end, is_first_escaped, host_character, host_rest, host_name}
use Rattle.hfs_texts.specs.NameLaws.{is_bytes, IsSafe, AreHostNames}
use Rattle.hfs_fields.proofs.CommonLemmas.{each_below}
use Rattle.hfs_fields.proofs.CommonLemmas.{at-each}
use Rattle.hfs_texts.proofs.Codes.{Spells, word_length, IsCode, spells-one, spells-pass, spells-short, spells-mapped, all-at}

-- ---- what a word is of

digit-value : ℕ → ℕ
digit-value d = if nat_lt d 58 then d - 48 else d - 55

place-of : ℕ → List ℕ → ℕ
place-of code [] = 0
place-of code (x ∷ xs) = if x == code then 0 else suc (place-of code xs)

byte-of : ℕ → ℕ
byte-of code = if nat_lt code 0x80 then code else 0x80 + place-of code high_characters

read-word : List ℕ → ℕ
read-word [] = 0
read-word (a ∷ []) = byte-of a
read-word (a ∷ b ∷ []) = byte-of ((a - 192) * 64 + (b - 128))
read-word (a ∷ b ∷ c ∷ rest) = if a == 61 then digit-value b * 16 + digit-value c else byte-of ((a - 224) * 4096 + (b - 128) * 64 + (c - 128))

-- ---- what was tried of each word

-- the bytes that no word has
unfoldable pub is-safe-byte : ℕ → Bool
is-safe-byte x = not (x == 47) && not (x == 0)

word-test : List ℕ → ℕ → Bool
word-test word c =
    (read-word word == c) && ((word_length (get_or word 0 0) == length word) && (nat_lt 0 (length word) && (nat_lt (length word) 4 && list_all is-safe-byte word)))

-- the same without regard to case
folded-test : List ℕ → ℕ → Bool
folded-test word c =
    (fold_letter (read-word word) == fold_letter c) && ((word_length (get_or word 0 0) == length word) && (nat_lt 0 (length word) && list_all is-safe-byte word))

both-tests : Bool → ℕ → Bool
both-tests escaped c = word-test (host_character escaped c) c && folded-test (folded (host_character escaped c)) c

escaped-test : ℕ → Bool
escaped-test c = both-tests true c

itself-test : ℕ → Bool
itself-test c = is_reserved c || both-tests false c

escaped-tried : (c : ℕ) → c < 256 → escaped-test c ≡ true
unfolding each_below escaped-test both-tests word-test folded-test is-safe-byte digit-value place-of byte-of read-word word_length host_character upper_byte character_text roman_character high_characters encode
escaped-tried c h = at-each 256 escaped-test refl c h

itself-tried : (c : ℕ) → c < 256 → itself-test c ≡ true
unfolding each_below itself-test both-tests word-test folded-test is-safe-byte digit-value place-of byte-of read-word word_length host_character upper_byte character_text roman_character high_characters encode is_reserved
itself-tried c h = at-each 256 itself-test refl c h

-- ---- letters

-- a character, escaped where it is reserved
is-letter : (ℕ → Bool) → Bool → ℕ → Bool
is-letter is_character escaped c = is_character c && (escaped || not (is_reserved c))

is-byte : ℕ → Bool
is-byte x = nat_lt x 256

unreserved : (r b : Bool) → (r || b) ≡ true → not r ≡ true → b ≡ true
unreserved true b p q = cc
unreserved false b p q = p

tests-of : (escaped : Bool) (c : ℕ) → is-letter is-byte escaped c ≡ true → both-tests escaped c ≡ true
unfolding is-letter is-byte escaped-test itself-test
tests-of true c h = escaped-tried c (ltb-true c 256 (and_parts _ _ h).0)
tests-of false c h =
    let two = and_parts _ _ h in
    unreserved (is_reserved c) (both-tests false c) (itself-tried c (ltb-true c 256 two.0)) two.1

record WordFacts (word : List ℕ) (c : ℕ) : Type 0 where
  pub reads : read-word word ≡ c
  pub len : word_length (get_or word 0 0) ≡ length word
  pub begun : 0 < length word
  pub short : length word ≤ 3
  pub safe : list_all is-safe-byte word ≡ true

record FoldedFacts (word : List ℕ) (c : ℕ) : Type 0 where
  pub reads : fold_letter (read-word word) ≡ fold_letter c
  pub len : word_length (get_or word 0 0) ≡ length word
  pub begun : 0 < length word
  pub safe : list_all is-safe-byte word ≡ true

word-facts : (escaped : Bool) (c : ℕ) → is-letter is-byte escaped c ≡ true → WordFacts (host_character escaped c) c
unfolding both-tests word-test
word-facts escaped c h =
    let all = (and_parts _ _ (tests-of escaped c h)).0 in
    let a = and_parts _ _ all in
    let b = and_parts _ _ a.1 in
    let d = and_parts _ _ b.1 in
    let e = and_parts _ _ d.1 in
    let short : length (host_character escaped c) < 4 = ltb-true _ _ e.0 in
    record { reads = eqb-true _ _ a.0; len = eqb-true _ _ b.0; begun = ltb-true _ _ d.0; short = omega arith; safe = e.1 }

folded-facts : (escaped : Bool) (c : ℕ) → is-letter is-byte escaped c ≡ true → FoldedFacts (folded (host_character escaped c)) c
unfolding both-tests folded-test
folded-facts escaped c h =
    let all = (and_parts _ _ (tests-of escaped c h)).1 in
    let a = and_parts _ _ all in
    let b = and_parts _ _ a.1 in
    let d = and_parts _ _ b.1 in
    record { reads = eqb-true _ _ a.0; len = eqb-true _ _ b.0; begun = ltb-true _ _ d.0; safe = d.1 }

-- ---- what a host name spells

pub rest-marks : (r x : Bool) → ((r || x) || not r) ≡ true
rest-marks true x = refl
rest-marks false true = refl
rest-marks false false = refl

pub first-marks : (r x y z : Bool) → ((((r || x) || y) || z) || not r) ≡ true
first-marks true x y z = refl
first-marks false true y z = refl
first-marks false false true z = refl
first-marks false false false true = refl
first-marks false false false false = refl

rest-spells : (is_character : ℕ → Bool) (name : List ℕ) → list_all is_character name ≡ true
    → Spells host_character (is-letter is_character) name (host_rest name)
unfolding host_rest is-letter
rest-spells is_character [] h = refl
rest-spells is_character (c ∷ behind) h =
    let two = and_parts _ _ h in
    (_, host_rest behind, refl, and_from _ _ two.0 (rest-marks (is_reserved c) (length behind == 0 && is_dropped_at_end c)), rest-spells is_character behind two.1)

name-spells : (is_character : ℕ → Bool) (c : ℕ) (behind : List ℕ) → list_all is_character (c ∷ behind) ≡ true
    → Spells host_character (is-letter is_character) (c ∷ behind) (host_name (c ∷ behind))
unfolding host_name is-letter
name-spells is_character c behind h =
    let two = and_parts _ _ h in (
      is_first_escaped c behind,
      host_rest behind,
      refl,
      and_from _ _ two.0 (first-marks (is_reserved c) (c == 46) (is_device_name (c ∷ behind)) (length behind == 0 && is_dropped_at_end c)),
      rest-spells is_character behind two.1,
    )

empty-name : host_name [] ≡ 61 ∷ []
unfolding host_name
empty-name = refl

-- ---- one name

plain-code : IsCode host_character (is-letter is-byte) (λ c. c) read-word
plain-code = record {
  begun = λ e c h. (word-facts e c h).begun;
  len = λ e c h. (word-facts e c h).len;
  reads = λ e c h. (word-facts e c h).reads;
}

folded-code : IsCode (λ e c. folded (host_character e c)) (is-letter is-byte) fold_letter (λ w. fold_letter (read-word w))
folded-code = record {
  begun = λ e c h. (folded-facts e c h).begun;
  len = λ e c h. (folded-facts e c h).len;
  reads = λ e c h. (folded-facts e c h).reads;
}

-- the text of the empty name spells no other
no-word : (w u : List ℕ) → 61 ∷ [] ≡ w ++ u → 0 < length w → word_length (get_or w 0 0) ≡ length w → ⊥
unfolding word_length
no-word w u e h len =
    let first : 61 ≡ get_or w 0 0 = ap (λ x. get_or x 0 0) e ∙ get_or-append w u 0 0 h in
    let three : 3 ≡ length w = ap word_length first ∙ len in
    absurd (omega (arith, ap length e, length-append w u))

pub one-name : (a b : List ℕ) → is_bytes a ≡ true → is_bytes b ≡ true → host_name a ≡ host_name b → a ≡ b
unfolding is-byte
one-name [] [] p q e = refl
one-name [] (d ∷ b) p q e =
    let s = name-spells is-byte d b q in
    let f = word-facts s.0 d s.3 in
    absurd (no-word (host_character s.0 d) s.1 (sym empty-name ∙ e ∙ s.2) f.begun f.len)
one-name (c ∷ a) [] p q e =
    let s = name-spells is-byte c a p in
    let f = word-facts s.0 c s.3 in
    absurd (no-word (host_character s.0 c) s.1 (sym empty-name ∙ sym e ∙ s.2) f.begun f.len)
one-name (c ∷ a) (d ∷ b) p q e =
    let s = subst (Spells host_character (is-letter is-byte) (c ∷ a)) e (name-spells is-byte c a p) in
    sym (map-id (c ∷ a)) ∙ spells-one host_character (is-letter is-byte) (λ c. c) read-word plain-code (c ∷ a) (d ∷ b) _ s (name-spells is-byte d b q) ∙ map-id (d ∷ b)

folded-empty : folded (host_name []) ≡ 61 ∷ []
unfolding host_name
folded-empty = refl

folded-spells : (c : ℕ) (behind : List ℕ) → is_bytes (c ∷ behind) ≡ true
    → Spells (λ e c. folded (host_character e c)) (is-letter is-byte) (c ∷ behind) (folded (host_name (c ∷ behind)))
unfolding is-byte
folded-spells c behind h = spells-mapped fold_letter host_character (is-letter is-byte) (c ∷ behind) _ (name-spells is-byte c behind h)

pub one-folded : (a b : List ℕ) → is_bytes a ≡ true → is_bytes b ≡ true → folded (host_name a) ≡ folded (host_name b) → folded a ≡ folded b
one-folded [] [] p q e = refl
one-folded [] (d ∷ b) p q e =
    let s = folded-spells d b q in
    let f = folded-facts s.0 d s.3 in
    absurd (no-word (folded (host_character s.0 d)) s.1 (sym folded-empty ∙ e ∙ s.2) f.begun f.len)
one-folded (c ∷ a) [] p q e =
    let s = folded-spells c a p in
    let f = folded-facts s.0 c s.3 in
    absurd (no-word (folded (host_character s.0 c)) s.1 (sym folded-empty ∙ sym e ∙ s.2) f.begun f.len)
one-folded (c ∷ a) (d ∷ b) p q e =
    let s = subst (Spells (λ e c. folded (host_character e c)) (is-letter is-byte) (c ∷ a)) e (folded-spells c a p) in
    spells-one (λ e c. folded (host_character e c)) (is-letter is-byte) fold_letter (λ w. fold_letter (read-word w)) folded-code (c ∷ a) (d ∷ b) _ s (folded-spells d b q)

-- ---- safe and short

pub text-safe : (a : List ℕ) → is_bytes a ≡ true → list_all is-safe-byte (host_name a) ≡ true
unfolding is-byte is-safe-byte host_name
text-safe [] h = refl
text-safe (c ∷ behind) h =
    spells-pass host_character (is-letter is-byte) is-safe-byte (λ e c h. (word-facts e c h).safe) (c ∷ behind) _ (name-spells is-byte c behind h)

pub text-short : (a : List ℕ) → is_bytes a ≡ true → length a ≤ 31 → length (host_name a) ≤ 93
unfolding is-byte host_name
text-short [] h small = omega arith
text-short (c ∷ behind) h small =
    let s = spells-short host_character (is-letter is-byte) (λ e c h. (word-facts e c h).short) (c ∷ behind) _ (name-spells is-byte c behind h) in
    omega (arith, s)

point-test : ℕ → Bool
point-test c = is_reserved c || (c == 46 || not (get_or (host_character false c) 0 0 == 46))

points-tried : (c : ℕ) → c < 256 → point-test c ≡ true
unfolding each_below point-test host_character character_text roman_character high_characters encode is_reserved
points-tried c h = at-each 256 point-test refl c h

no-first-point : (escaped r p x y : Bool) (c : ℕ) → c < 256 → escaped ≡ (((r || p) || x) || y) → r ≡ is_reserved c → p ≡ (c == 46)
    → (get_or (host_character escaped c) 0 0 == 46) ≡ false
unfolding point-test host_character upper_byte
no-first-point true r p x y c small e re pe = refl
no-first-point false true p x y c small e re pe = cc
no-first-point false false true x y c small e re pe = cc
no-first-point false false false x y c small e re pe =
    let t : point-test c ≡ true = points-tried c small in
    not-true _ (unreserved (c == 46) _ (unreserved (is_reserved c) _ t (ap not (sym re))) (ap not (sym pe)))

first-letter : (c : ℕ) (behind : List ℕ) → is_bytes (c ∷ behind) ≡ true → is-letter is-byte (is_first_escaped c behind) c ≡ true
unfolding is-letter is-byte
first-letter c behind h =
    and_from _ _ (and_parts _ _ h).0 (first-marks (is_reserved c) (c == 46) (is_device_name (c ∷ behind)) (length behind == 0 && is_dropped_at_end c))

first-byte : (a : List ℕ) → is_bytes a ≡ true → slice_index (host_name a) 0 ≢ 46
unfolding is-byte host_name
first-byte [] h e = absurd (omega arith)
first-byte (c ∷ behind) h e =
    let two = and_parts _ _ h in
    let f = word-facts (is_first_escaped c behind) c (first-letter c behind h) in
    let no = no-first-point (is_first_escaped c behind) (is_reserved c) (c == 46) (is_device_name (c ∷ behind)) (length behind == 0 && is_dropped_at_end c) c
    (ltb-true c 256 two.0) refl refl refl in
    eqb-false _ _ no (sym (get_or-append (host_character (is_first_escaped c behind) c) (host_rest behind) 0 0 f.begun) ∙ e)

pub begun : (a : List ℕ) → is_bytes a ≡ true → host_name a ≢ []
unfolding is-byte host_name
begun [] h e = absurd (omega (arith, ap length e))
begun (c ∷ behind) h e =
    let f = word-facts (is_first_escaped c behind) c (first-letter c behind h) in
    absurd (omega (arith, ap length e, length-append (host_character (is_first_escaped c behind) c) (host_rest behind), f.begun))

pub safe-byte : (x : ℕ) → is-safe-byte x ≡ true → (x ≢ 47) × (x ≢ 0)
unfolding is-safe-byte
safe-byte x h = let two = and_parts _ _ h in (eqb-false x 47 (not-true _ two.0), eqb-false x 0 (not-true _ two.1))

pub folded-safe : (a : List ℕ) → is_bytes a ≡ true → list_all is-safe-byte (folded (host_name a)) ≡ true
unfolding is-safe-byte host_name
folded-safe [] h = refl
folded-safe (c ∷ behind) h =
    spells-pass (λ e c. folded (host_character e c)) (is-letter is-byte) is-safe-byte (λ e c h. (folded-facts e c h).safe) (c ∷ behind) _ (folded-spells c behind h)

pub folded-begun : (a : List ℕ) → is_bytes a ≡ true → folded (host_name a) ≡ [] → ⊥
folded-begun a h e =
    let first = begun a h in
    first (of-none (host_name a) e)
  where
    of-none : (t : List ℕ) → folded t ≡ [] → t ≡ []
    of-none [] e = refl
    of-none (x ∷ t) e = absurd (omega (arith, ap length e))

text-is-safe : (a : List ℕ) → is_bytes a ≡ true → IsSafe (host_name a)
text-is-safe a h = record {
  not_empty = begun a h;
  no_point = first-byte a h;
  no_slash = λ k lt. (safe-byte _ (all-at is-safe-byte (host_name a) k (text-safe a h) lt)).0;
  no_zero = λ k lt. (safe-byte _ (all-at is-safe-byte (host_name a) k (text-safe a h) lt)).1;
}

-- ---- item names have ASCII alone

is-ascii-byte : ℕ → Bool
is-ascii-byte x = nat_lt x 128

ascii-test : ℕ → Bool
ascii-test c = list_all is-ascii-byte (host_character true c) && list_all is-ascii-byte (host_character false c)

ascii-tried : (c : ℕ) → c < 128 → ascii-test c ≡ true
unfolding each_below ascii-test is-ascii-byte host_character upper_byte character_text roman_character high_characters encode
ascii-tried c h = at-each 128 ascii-test refl c h

ascii-word : (escaped : Bool) (c : ℕ) → is-letter is_name_character escaped c ≡ true → list_all is-ascii-byte (host_character escaped c) ≡ true
unfolding is-letter ascii-test
ascii-word escaped c h =
    let name = (and_parts _ _ (and_parts _ _ (and_parts _ _ h).0).0).0 in
    let most : c ≤ 126 = leb-true c 126 (and_parts _ _ name).1 in
    either escaped (and_parts _ _ (ascii-tried c (omega arith)))
  where
    either : (escaped : Bool) → (list_all is-ascii-byte (host_character true c) ≡ true) × (list_all is-ascii-byte (host_character false c) ≡ true)
        → list_all is-ascii-byte (host_character escaped c) ≡ true
    either true two = two.0
    either false two = two.1

text-ascii : (a : List ℕ) → is_item_name a ≡ true → list_all is-ascii-byte (host_name a) ≡ true
unfolding is-ascii-byte host_name
text-ascii [] h = refl
text-ascii (c ∷ behind) h =
    spells-pass host_character (is-letter is_name_character) is-ascii-byte ascii-word (c ∷ behind) _ (name-spells is_name_character c behind (and_parts _ _ h).1)

ascii-byte : (x : ℕ) → is-ascii-byte x ≡ true → x < 128
unfolding is-ascii-byte
ascii-byte x h = ltb-true x 128 h

pub host-names : AreHostNames host_name
host-names = record {
  one_name = one-name;
  safe = text-is-safe;
  short = text-short;
  ascii = λ a h k lt. ascii-byte _ (all-at is-ascii-byte (host_name a) k (text-ascii a h) lt);
  one_in_case = λ a b p q e. (name_order.equal_folded a b).1 (one-folded a b p q e);
}
