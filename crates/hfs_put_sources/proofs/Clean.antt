-- No field of the table of items holds a line's end.
use Rattle.std.proofs.Common.{◌≡◌, refl, ℕ, zero, suc, ◌+◌, ◌/◌, ◌%◌, ◌^◌, ◌<◌, Bool, true, false, not, ◌&&◌, ◌||◌, List, [], ◌∷◌, ◌++◌, length, take, drop, codes, arith}
use Rattle.std.specs.Prelude.{◌==◌, nat_lt, if◌then◌else◌, flat_map}
use Rattle.std.specs.List.{list_all, join_by}
use lib.Utf8.{encode}
use Rattle.std.specs.Fmt.{decimal}
use Rattle.std.proofs.lemmas.Bool.{and_parts, and_from, ltb-true, ne_eqb}
use Rattle.std.proofs.lemmas.Fmt.{decimal_by_steps}
use Rattle.hfs_fields.proofs.CommonLemmas.{each_below}
use Rattle.hfs_fields.proofs.CommonLemmas.{at-each}
use Rattle.hfs_texts.specs.declared.calendar.Day.{Day}
use Rattle.hfs_texts.specs.Calendar.{day_since_1904}
use Rattle.hfs_texts.specs.Digits.{hex_byte, hex_text, two_digits, four_digits, upper_byte}
use Rattle.hfs_texts.specs.HostNames.{host_character, host_rest, host_name, is_device_name, is_dropped_at_end, is_first_escaped, is_reserved}
use Rattle.hfs_texts.specs.NameLaws.{is_bytes}
use Rattle.hfs_texts.specs.MacRoman.{character_text, high_characters, roman_character}
use Rattle.hfs_texts.specs.Moments.{day_text, time_text, moment}
use Rattle.hfs_texts.specs.MacPaths.{mac_path, host_path}
use Rattle.hfs_texts.specs.PlainTexts.{plain_character, plain_text}

-- a byte that ends no line
unfoldable pub is_clean : ℕ → Bool
is_clean c = not (c == 10) && not (c == 13)

abbrev pub are_clean : List ℕ → Bool
are_clean xs = list_all is_clean xs

-- ---- lists

pub clean-append : (xs ys : List ℕ) → are_clean xs ≡ true → are_clean ys ≡ true → are_clean (xs ++ ys) ≡ true
clean-append [] ys a b = b
clean-append (x ∷ xs) ys a b =
    let two = and_parts _ _ a in
    and_from _ _ two.0 (clean-append xs ys two.1 b)

clean-flat : {X : Type 0} (f : X → List ℕ) (test : X → Bool) → ((x : X) → test x ≡ true → are_clean (f x) ≡ true) → (xs : List X) → list_all test xs ≡ true → are_clean (flat_map f xs) ≡ true
clean-flat f test each [] h = refl
clean-flat f test each (x ∷ xs) h =
    let two = and_parts _ _ h in
    clean-append (f x) (flat_map f xs) (each x two.0) (clean-flat f test each xs two.1)

clean-join : {X : Type 0} (f : X → List ℕ) (sep : List ℕ) (test : X → Bool) → are_clean sep ≡ true → ((x : X) → test x ≡ true → are_clean (f x) ≡ true)
    → (xs : List X) → list_all test xs ≡ true → are_clean (join_by f sep xs) ≡ true
clean-join f sep test s each [] h = refl
clean-join f sep test s each (x ∷ xs) h =
    let two = and_parts _ _ h in
    clean-append (f x) (flat_map (λ y. sep ++ f y) xs) (each x two.0) (clean-flat (λ y. sep ++ f y) test (λ y k. clean-append sep (f y) s (each y k)) xs two.1)

-- ---- bytes

plain-test : ℕ → Bool
plain-test b = are_clean (plain_character b) && are_clean (hex_byte b)

host-test : ℕ → Bool
host-test b = are_clean (61 ∷ upper_byte b) && (is_reserved b || are_clean (character_text b))

plain-tried : (b : ℕ) → b < 256 → plain-test b ≡ true
unfolding each_below plain-test is_clean plain_character hex_byte character_text roman_character high_characters encode
plain-tried b h = at-each 256 plain-test refl b h

host-tried : (b : ℕ) → b < 256 → host-test b ≡ true
unfolding each_below host-test is_clean is_reserved upper_byte character_text roman_character high_characters encode
host-tried b h = at-each 256 host-test refl b h

below : (b : ℕ) → nat_lt b 256 ≡ true → b < 256
below b h = ltb-true b 256 h

pub plain-clean : (bytes : List ℕ) → is_bytes bytes ≡ true → are_clean (plain_text bytes) ≡ true
unfolding plain_text plain-test
plain-clean bytes h = clean-flat plain_character (λ b. nat_lt b 256) (λ b k. (and_parts _ _ (plain-tried b (below b k))).0) bytes h

pub hex-clean : (bytes : List ℕ) → is_bytes bytes ≡ true → are_clean (hex_text bytes) ≡ true
unfolding hex_text plain-test
hex-clean bytes h = clean-flat hex_byte (λ b. nat_lt b 256) (λ b k. (and_parts _ _ (plain-tried b (below b k))).1) bytes h

open-test : (r b : Bool) → (r || b) ≡ true → r ≡ false → b ≡ true
open-test true b p q = cc
open-test false b p q = p

character-clean : (escaped : Bool) (b : ℕ) → b < 256 → (escaped ≡ false → is_reserved b ≡ false) → are_clean (host_character escaped b) ≡ true
unfolding host_character host-test
character-clean true b h free = (and_parts _ _ (host-tried b h)).0
character-clean false b h free = open-test _ _ (and_parts _ _ (host-tried b h)).1 (free refl)

or-first : (r x : Bool) → (r || x) ≡ false → r ≡ false
or-first true x e = e
or-first false x e = refl

rest-clean : (name : List ℕ) → is_bytes name ≡ true → are_clean (host_rest name) ≡ true
unfolding host_rest
rest-clean [] h = refl
rest-clean (c ∷ behind) h =
    let two = and_parts _ _ h in
    clean-append _ (host_rest behind) (character-clean _ c (below c two.0) (or-first (is_reserved c) _)) (rest-clean behind two.1)

pub host-clean : (name : List ℕ) → is_bytes name ≡ true → are_clean (host_name name) ≡ true
unfolding host_name is_clean
host-clean [] h = refl
host-clean (c ∷ behind) h =
    let two = and_parts _ _ h in
    clean-append (host_character (is_first_escaped c behind) c) (host_rest behind)
    (character-clean (is_first_escaped c behind) c (below c two.0)
    (λ e. or-first (is_reserved c) (c == 46) (or-first (is_reserved c || c == 46) (is_device_name (c ∷ behind))
    (or-first (is_reserved c || c == 46 || is_device_name (c ∷ behind)) (length behind == 0 && is_dropped_at_end c) e)))) (rest-clean behind two.1)

-- ---- paths

pub mac_path-clean : (names : List (List ℕ)) → list_all is_bytes names ≡ true → are_clean (mac_path names) ≡ true
unfolding mac_path is_clean
mac_path-clean names h = clean-join plain_text (codes ":") is_bytes refl plain-clean names h

pub host_path-clean : (names : List (List ℕ)) → list_all is_bytes names ≡ true → are_clean (host_path names) ≡ true
unfolding host_path is_clean
host_path-clean names h = clean-join host_name (codes "/") is_bytes refl host-clean names h

pub all-take : (n : ℕ) (xs : List ℕ) → is_bytes xs ≡ true → is_bytes (take n xs) ≡ true
all-take zero xs h = refl
all-take (suc n) [] h = refl
all-take (suc n) (x ∷ xs) h = let two = and_parts _ _ h in and_from _ _ two.0 (all-take n xs two.1)

pub all-drop : {X : Type 0} (test : X → Bool) (n : ℕ) (xs : List X) → list_all test xs ≡ true → list_all test (drop n xs) ≡ true
all-drop test zero xs h = h
all-drop test (suc n) [] h = refl
all-drop test (suc n) (x ∷ xs) h = all-drop test n xs (and_parts _ _ h).1

-- ---- numbers and moments

digit-clean : (n : ℕ) → is_clean (48 + n) ≡ true
unfolding is_clean
digit-clean n = (λ i. not (ne_eqb (48 + n) 10 (λ e. omega (arith, e)) i) && not (ne_eqb (48 + n) 13 (λ e. omega (arith, e)) i))

pub decimal-clean : (n : ℕ) → n < 2 ^ 64 → are_clean (decimal n) ≡ true
decimal-clean n small =
    decimal_by_steps (λ m ds. are_clean ds ≡ true) (λ m l. and_from _ _ (digit-clean m) refl) (λ m ds l h. clean-append ds ((48 + m % 10) ∷ []) h (and_from _ _ (digit-clean (m % 10)) refl)) n small

two-clean : (n : ℕ) → are_clean (two_digits n) ≡ true
unfolding two_digits
two-clean n = and_from _ _ (digit-clean (n / 10)) (and_from _ _ (digit-clean (n % 10)) refl)

four-clean : (n : ℕ) → are_clean (four_digits n) ≡ true
unfolding four_digits
four-clean n = clean-append (two_digits (n / 100)) (two_digits (n % 100)) (two-clean (n / 100)) (two-clean (n % 100))

day-clean : (day : Day) → are_clean (day_text day) ≡ true
unfolding day_text is_clean
day-clean day =
    clean-append (four_digits day.year ++ codes "-" ++ two_digits day.month ++ codes "-") (two_digits day.day)
    (clean-append (four_digits day.year ++ codes "-" ++ two_digits day.month) (codes "-")
    (clean-append (four_digits day.year ++ codes "-") (two_digits day.month) (clean-append (four_digits day.year) (codes "-") (four-clean day.year) refl) (two-clean day.month)) refl)
    (two-clean day.day)

time-clean : (s : ℕ) → are_clean (time_text s) ≡ true
unfolding time_text is_clean
time-clean s =
    clean-append (two_digits (s / 3600) ++ codes ":" ++ two_digits (s / 60 % 60) ++ codes ":") (two_digits (s % 60))
    (clean-append (two_digits (s / 3600) ++ codes ":" ++ two_digits (s / 60 % 60)) (codes ":")
    (clean-append (two_digits (s / 3600) ++ codes ":") (two_digits (s / 60 % 60)) (clean-append (two_digits (s / 3600)) (codes ":") (two-clean (s / 3600)) refl) (two-clean (s / 60 % 60))) refl)
    (two-clean (s % 60))

pub moment-clean : (date : ℕ) → are_clean (moment date) ≡ true
unfolding moment is_clean
moment-clean date = by (date == 0)
  where
    by : (t : Bool) → are_clean (if t then [] else day_text (day_since_1904 (date / 86400)) ++ codes "T" ++ time_text (date % 86400)) ≡ true
    by true = refl
    by false =
        clean-append (day_text (day_since_1904 (date / 86400)) ++ codes "T") (time_text (date % 86400)) (clean-append (day_text (day_since_1904 (date / 86400))) (codes "T") (day-clean _) refl) (time-clean (date % 86400))
