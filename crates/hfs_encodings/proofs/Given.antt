-- The name that letters give is that of the letters as they are seen.
use Rattle.std.proofs.Common.{◌≡◌, ◌∙◌, sym, ap, refl, ℕ, ◌<◌, ◌≤◌, min, Bool, true, false, ◌&&◌, List, [], ◌∷◌, ◌++◌, length, map, take, arith}
use Rattle.std.specs.Prelude.{nat_lt, nat_le, if◌then◌else◌}
use Rattle.std.specs.List.{list_all}
use Rattle.std.proofs.lemmas.Bool.{ltb-true, ltb-false, leb-true, lt-leb, lt-ltb, and_parts, and_left, and_right}
use Rattle.std.proofs.lemmas.List.{append-nil, length-map, length-take, take_all, take_at, take-take, take-map}
use Rattle.hfs_fields.specs.Names.{is_item_name, is_name_character}
use Rattle.hfs_encodings.specs.declared.names.GivenName.TheVariants.{Item, Other}
use Rattle.hfs_encodings.specs.declared.spelled.Spelling.{Spelling}
use Rattle.hfs_encodings.specs.Names.{given_name, named_letter, renamed}
use Rattle.hfs_encodings.specs.Spelled.{letters_in, seen_letter, seen_letters}

-- ---- one letter

high-is-none : (x : ℕ) → 128 ≤ x → is_name_character x ≡ false
high-is-none x h = and_left _ _ (and_left _ _ (and_right (nat_le 32 x) (nat_le x 126) (lt-leb x 126 (omega (arith, h)))))

module _ (x : ℕ) where
  seen-low : nat_lt x 128 ≡ true → seen_letter x ≡ x
  unfolding seen_letter
  seen-low e = ap (λ t. if t then x else 0) e

  seen-high : nat_lt x 128 ≡ false → seen_letter x ≡ 0
  unfolding seen_letter
  seen-high e = ap (λ t. if t then x else 0) e

  seen-is-name : is_name_character (seen_letter x) ≡ is_name_character x
  seen-is-name = by (nat_lt x 128) refl
    where
      by : (t : Bool) → nat_lt x 128 ≡ t → is_name_character (seen_letter x) ≡ is_name_character x
      by true e = ap is_name_character (seen-low e)
      by false e = ap is_name_character (seen-high e) ∙ sym (high-is-none x (ltb-false x 128 e))

  named-none : is_name_character x ≡ false → named_letter x ≡ 95
  unfolding named_letter
  named-none e = ap (λ t. if t then x else 95) e

named-zero : named_letter 0 ≡ 95
unfolding named_letter
named-zero = refl

seen-is-named : (x : ℕ) → named_letter (seen_letter x) ≡ named_letter x
seen-is-named x = by (nat_lt x 128) refl
  where
    by : (t : Bool) → nat_lt x 128 ≡ t → named_letter (seen_letter x) ≡ named_letter x
    by true e = ap named_letter (seen-low x e)
    by false e = ap named_letter (seen-high x e) ∙ named-zero ∙ sym (named-none x (high-is-none x (ltb-false x 128 e)))

name-is-low : (x : ℕ) → is_name_character x ≡ true → nat_lt x 128 ≡ true
name-is-low x h =
    let range : nat_le 32 x && nat_le x 126 ≡ true = (and_parts _ _ (and_parts _ _ h).0).0 in
    let most : x ≤ 126 = leb-true x 126 (and_parts (nat_le 32 x) (nat_le x 126) range).1 in
    lt-ltb x 128 (omega (arith, most))

-- ---- all of them

all-seen : (xs : List ℕ) → list_all is_name_character (map seen_letter xs) ≡ list_all is_name_character xs
all-seen [] = refl
all-seen (x ∷ xs) = λ i. seen-is-name x i && all-seen xs i

all-named : (xs : List ℕ) → map named_letter (map seen_letter xs) ≡ map named_letter xs
all-named [] = refl
all-named (x ∷ xs) = λ i. seen-is-named x i ∷ all-named xs i

names-seen : (xs : List ℕ) → list_all is_name_character xs ≡ true → map seen_letter xs ≡ xs
names-seen [] h = refl
names-seen (x ∷ xs) h =
    let two = and_parts _ _ h in
    let here : seen_letter x ≡ x = seen-low x (name-is-low x two.0) in
    let others : map seen_letter xs ≡ xs = names-seen xs two.1 in
    λ i. here i ∷ others i

item-seen : (xs : List ℕ) → is_item_name (map seen_letter xs) ≡ is_item_name xs
item-seen xs = λ i. (nat_le 1 (length-map xs seen_letter i) && nat_le (length-map xs seen_letter i) 31) && all-seen xs i

too-long : (xs : List ℕ) → 32 ≤ length xs → is_item_name xs ≡ false
too-long xs h = and_left _ _ (and_right (nat_le 1 (length xs)) (nat_le (length xs) 31) (lt-leb (length xs) 31 (omega (arith, h))))

item-first : (xs : List ℕ) → is_item_name (take 32 xs) ≡ is_item_name xs
item-first xs = by (nat_lt 32 (length xs)) refl
  where
    by : (t : Bool) → nat_lt 32 (length xs) ≡ t → is_item_name (take 32 xs) ≡ is_item_name xs
    by true e =
        let more : 32 < length xs = ltb-true 32 (length xs) e in
        too-long (take 32 xs) (omega (arith, more, length-take 32 xs)) ∙ sym (too-long xs (omega (arith, more)))
    by false e = ap is_item_name (take_all 32 xs (ltb-false 32 (length xs) e))

renamed-first : (xs : List ℕ) → renamed (take 32 (map seen_letter xs)) ≡ renamed xs
unfolding renamed
renamed-first [] = refl
renamed-first (x ∷ xs) =
    ap (map named_letter) (take-take 31 32 (map seen_letter (x ∷ xs)) (omega arith) ∙ take-map seen_letter 31 (x ∷ xs))
    ∙ all-named (take 31 (x ∷ xs))

given-by : (t : Bool) (ys xs : List ℕ) → is_item_name ys ≡ t → is_item_name xs ≡ t → (t ≡ true → ys ≡ xs) → renamed ys ≡ renamed xs → given_name ys ≡ given_name xs
unfolding given_name
given-by true ys xs p q same other =
    ap (λ t. if t then Item ys else Other (renamed ys)) p ∙ ap Item (same refl) ∙ sym (ap (λ t. if t then Item xs else Other (renamed xs)) q)
given-by false ys xs p q same other =
    ap (λ t. if t then Item ys else Other (renamed ys)) p ∙ ap Other other ∙ sym (ap (λ t. if t then Item xs else Other (renamed xs)) q)

same-seen : (xs : List ℕ) → is_item_name xs ≡ true → take 32 (map seen_letter xs) ≡ xs
same-seen xs h =
    let size : nat_le 1 (length xs) && nat_le (length xs) 31 ≡ true = (and_parts (nat_le 1 (length xs) && nat_le (length xs) 31) (list_all is_name_character xs) h).0 in
    let letters : list_all is_name_character xs ≡ true = (and_parts (nat_le 1 (length xs) && nat_le (length xs) 31) (list_all is_name_character xs) h).1 in
    let short : length xs ≤ 31 = leb-true (length xs) 31 (and_parts (nat_le 1 (length xs)) (nat_le (length xs) 31) size).1 in
    ap (take 32) (names-seen xs letters) ∙ take_all 32 xs (omega (arith, short))

given-seen : (xs : List ℕ) → given_name (take 32 (map seen_letter xs)) ≡ given_name xs
given-seen xs =
    given-by (is_item_name xs) (take 32 (map seen_letter xs)) xs (item-first (map seen_letter xs) ∙ item-seen xs) refl (same-seen xs) (renamed-first xs)

-- ---- in the place of letters

pub renamed_none : (letters row name : List ℕ) → length letters < 1 → row ≡ map named_letter (95 ∷ []) → name ≡ row → name ≡ renamed letters
unfolding renamed named_letter
renamed_none [] row name none is own = own ∙ is
renamed_none (x ∷ xs) row name none is own = absurd (omega (arith, none))

pub renamed_some : (x : ℕ) (xs letters row name : List ℕ) (n : ℕ) → letters ≡ x ∷ xs → n ≡ min (length letters) 31 → row ≡ map named_letter (take n letters) → name ≡ row → name ≡ renamed letters
unfolding renamed
renamed_some x xs letters row name n some size is own =
    own ∙ is ∙ ap (λ (k : ℕ). map named_letter (take k letters)) size ∙ ap (map named_letter) (first letters) ∙ ap (λ (l : List ℕ). map named_letter (take 31 l)) some ∙ sym (ap renamed some)
  where
    first : (l : List ℕ) → take (min (length l) 31) l ≡ take 31 l
    first l = by (nat_lt (length l) 31) refl
      where
        by : (t : Bool) → nat_lt (length l) 31 ≡ t → take (min (length l) 31) l ≡ take 31 l
        by true e =
            let short : length l < 31 = ltb-true (length l) 31 e in
            let whole : min (length l) 31 ≡ length l = omega (arith, short) in
            ap (λ (k : ℕ). take k l) whole ∙ take_all (length l) l (omega arith) ∙ sym (take_all 31 l (omega (arith, short)))
        by false e =
            let long : 31 ≤ length l = ltb-false (length l) 31 e in
            let whole : min (length l) 31 ≡ 31 = omega (arith, long) in
            ap (λ (k : ℕ). take k l) whole

-- ---- as a text is read

pub letters_full : (row behind all : List ℕ) → all ≡ row ++ behind → length row ≤ 32 → 32 ≤ length row → row ≡ take 32 all
letters_full row behind all is most least = sym (ap (take 32) is ∙ take_at row behind 32 (omega (arith, most, least)))

nothing : (s : Spelling) (row : List ℕ) → row ++ seen_letters s [] ≡ row
unfolding letters_in
nothing s row = append-nil row

pub letters_end : (s : Spelling) (row characters all : List ℕ) → all ≡ row ++ seen_letters s characters → characters ≡ [] → length row ≤ 32 → row ≡ take 32 all
letters_end s row characters all is none most =
    let whole : all ≡ row = is ∙ ap (λ (l : List ℕ). row ++ seen_letters s l) none ∙ nothing s row in
    sym (ap (take 32) whole ∙ take_all 32 row most)

pub given_row : (row zeros bytes letters : List ℕ) (n : ℕ) → bytes ≡ row ++ zeros → n ≡ length row → row ≡ take 32 (map seen_letter letters) → given_name (take n bytes) ≡ given_name letters
given_row row zeros bytes letters n is size own = ap given_name (ap (take n) is ∙ take_at row zeros n (sym size) ∙ own) ∙ given-seen letters
