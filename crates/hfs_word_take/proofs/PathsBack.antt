-- A Mac path of which names are read is printed of them again, where each byte prints as itself.
use Rattle.std.proofs.Common.{◌≡◌, ◌∙◌, sym, ap, subst, refl, ℕ, ◌-◌, ◌<◌, Bool, true, false, ◌||◌, List, [], ◌∷◌, ◌++◌, length, Option, Some, None, append_assoc}
use Rattle.std.specs.Prelude.{◌==◌, nat_lt, nat_le, if◌then◌else◌, slice_index, encode_utf8, codes, IsTrue}
use Rattle.std.specs.List.{flat_map, fold, join_by, list_all}
use Rattle.std.specs.Str.{bytes_eq}
use Rattle.std.proofs.lemmas.Bool.{and_parts, not-true, ltb-true, eqb-true}
use Rattle.std.proofs.lemmas.List.{append-nil}
use Rattle.std.proofs.lemmas.List.Concat.{flat_map-append}
use Rattle.std.proofs.lemmas.Slice.Eq.{bytes_eq-Decides}
use Rattle.std.proofs.lemmas.Str.Ascii.{encode_ascii}
use Rattle.hfs_texts.specs.Digits.{hex_byte}
use Rattle.hfs_texts.specs.MacRoman.{high_characters, roman_character, character_text}
use Rattle.hfs_texts.specs.MacPaths.{mac_path}
use Rattle.hfs_texts.specs.PlainTexts.{is_control, is_itself, plain_character, plain_text}
use Rattle.hfs_texts.specs.declared.reading.Stage.TheVariants.{Character, Wrong}
use Rattle.hfs_texts.specs.Paths.{Read, closed, names_read, path_names, read_byte, unread, with_character}
use Rattle.hfs_texts.proofs.Printed.{behind}
use Rattle.hfs_word_take.specs.Laws.{ArePathsPrintedBack}

-- ---- bytes that print as themselves

itself-prints : (b : ℕ) → is_itself b ≡ true → plain_character b ≡ b ∷ []
unfolding is_itself plain_character character_text roman_character
itself-prints b h =
    let outer = and_parts _ _ h in
    let inner = and_parts _ _ outer.0 in
    let control : is_control b ≡ false = not-true _ inner.1 in
    let slash : (b == 0x5C) ≡ false = not-true _ outer.1 in
    (λ i. if control i || slash i then 0x5C ∷ hex_byte b else encode_utf8 (if inner.0 i then b else slice_index high_characters (b - 0x80)))
    ∙ encode_ascii b (ltb-true b 128 inner.0)

no-backslash : (b : ℕ) → is_itself b ≡ true → (b == 92) ≡ false
unfolding is_itself
no-backslash b h = not-true _ (and_parts _ _ h).1

-- a name that got such a byte
name-more : (name : List ℕ) (b : ℕ) → is_itself b ≡ true → plain_text (name ++ b ∷ []) ≡ plain_text name ++ b ∷ []
unfolding plain_text
name-more name b h =
    flat_map-append plain_character name (b ∷ []) ∙ ap (λ (t : List ℕ). flat_map plain_character name ++ (t ++ [])) (itself-prints b h)

-- ---- the path of names of which the last one goes on

path-name : (names : List (List ℕ)) (name : List ℕ) (b : ℕ) → is_itself b ≡ true
    → mac_path (names ++ (name ++ b ∷ []) ∷ []) ≡ mac_path (names ++ name ∷ []) ++ b ∷ []
unfolding mac_path
path-name [] name b h = append-nil (plain_text (name ++ b ∷ [])) ∙ name-more name b h ∙ ap (λ (t : List ℕ). t ++ b ∷ []) (sym (append-nil (plain_text name)))
path-name (first ∷ names) name b h =
    let last : (n : List ℕ) → behind (names ++ n ∷ []) ≡ (behind names ++ codes ":") ++ plain_text n = λ n.
    flat_map-append (λ (name : List ℕ). codes ":" ++ plain_text name) names (n ∷ [])
    ∙ ap (λ (t : List ℕ). behind names ++ t) (append-nil (codes ":" ++ plain_text n))
    ∙ sym (append_assoc (behind names) (codes ":") (plain_text n)) in
    let start : List ℕ = behind names ++ codes ":" in
    ap (λ (t : List ℕ). plain_text first ++ t) (last (name ++ b ∷ []) ∙ ap (λ (t : List ℕ). start ++ t) (name-more name b h)
    ∙ sym (append_assoc start (plain_text name) (b ∷ [])) ∙ ap (λ (t : List ℕ). t ++ b ∷ []) (sym (last name)))
    ∙ sym (append_assoc (plain_text first) (behind (names ++ name ∷ [])) (b ∷ []))

path-next : (names : List (List ℕ)) (name : List ℕ) → mac_path ((names ++ name ∷ []) ++ [] ∷ []) ≡ mac_path (names ++ name ∷ []) ++ 58 ∷ []
unfolding mac_path plain_text
path-next [] name = sym (append_assoc (plain_text name) [] (58 ∷ []))
path-next (first ∷ names) name =
    ap (λ (t : List ℕ). plain_text first ++ t) (flat_map-append (λ (name : List ℕ). codes ":" ++ plain_text name) (names ++ name ∷ []) ([] ∷ []))
    ∙ sym (append_assoc (plain_text first) (behind (names ++ name ∷ [])) (58 ∷ []))

-- ---- reading

abbrev state : List (List ℕ) → List ℕ → Read
state names name = record { names = names; name = name; stage = Character }

abbrev wrong : List (List ℕ) → List ℕ → Read
wrong names name = record { names = names; name = name; stage = Wrong }

wrong-stays : (names : List (List ℕ)) (name text : List ℕ) → fold read_byte (wrong names name) text ≡ wrong names name
unfolding read_byte
wrong-stays names name [] = refl
wrong-stays names name (b ∷ text) = wrong-stays names name text

wrong-none : (names : List (List ℕ)) (name : List ℕ) → names_read (wrong names name) ≡ None
unfolding names_read closed
wrong-none names name = by (nat_le (length name) 31) refl
  where
    by : (short : Bool) → nat_le (length name) 31 ≡ short → names_read (wrong names name) ≡ None
    by true is = rw is refl
    by false is = rw is refl

-- what is closed
close-short : (names : List (List ℕ)) (name : List ℕ) → nat_le (length name) 31 ≡ true → closed (state names name) ≡ state (names ++ name ∷ []) []
unfolding closed
close-short names name is = rw is refl

close-long : (names : List (List ℕ)) (name : List ℕ) → nat_le (length name) 31 ≡ false → closed (state names name) ≡ wrong names name
unfolding closed
close-long names name is = rw is refl

ends : (names : List (List ℕ)) (name : List ℕ) (got : List (List ℕ)) (short : Bool) → nat_le (length name) 31 ≡ short
    → names_read (state names name) ≡ Some got → got ≡ names ++ name ∷ []
unfolding names_read
ends names name got true is read = let e = close-short names name is in let r : Some (names ++ name ∷ []) ≡ Some got = rw e at read in cc
ends names name got false is read = let e = close-long names name is in let r : None ≡ Some got = rw e at read in cc

colon : (names : List (List ℕ)) (name : List ℕ) (b : ℕ) → (b == 58) ≡ true → read_byte (state names name) b ≡ closed (state names name)
unfolding read_byte with_character
colon names name b is = rw is refl

taken : (names : List (List ℕ)) (name : List ℕ) (b : ℕ) → (b == 58) ≡ false → (b == 92) ≡ false → read_byte (state names name) b ≡ state names (name ++ b ∷ [])
unfolding read_byte with_character
taken names name b colon other = rw colon (rw other refl)

-- what is read of a text behind a state is printed as the state is, and then the text
abbrev IsBack : List ℕ → List (List ℕ) → List (List ℕ) → List ℕ → Type 0
IsBack text got names name = names_read (fold read_byte (state names name) text) ≡ Some got → mac_path got ≡ mac_path (names ++ name ∷ []) ++ text

with-one : (b : ℕ) (text : List ℕ) (names got : List (List ℕ)) (name : List ℕ) → is_itself b ≡ true
    → ((later : List (List ℕ)) (last : List ℕ) → IsBack text got later last)
    → (c : Bool) → (b == 58) ≡ c → (short : Bool) → nat_le (length name) 31 ≡ short → IsBack (b ∷ text) got names name
with-one b text names got name itself rest true is true short = λ read.
    rest (names ++ name ∷ []) []
    (subst (λ (r : Read). names_read (fold read_byte r text) ≡ Some got) (colon names name b is ∙ close-short names name short) read)
    ∙ ap (λ (t : List ℕ). t ++ text) (path-next names name)
    ∙ append_assoc (mac_path (names ++ name ∷ [])) (58 ∷ []) text
    ∙ ap (λ (c : ℕ). mac_path (names ++ name ∷ []) ++ c ∷ text) (sym (eqb-true b 58 is))
with-one b text names got name itself rest true is false long = λ read.
    let r = subst (λ (r : Read). names_read (fold read_byte r text) ≡ Some got) (colon names name b is ∙ close-long names name long) read in
    let none : None ≡ Some got = sym (ap names_read (wrong-stays names name text) ∙ wrong-none names name) ∙ r in cc
with-one b text names got name itself rest false is short e = λ read.
    rest names (name ++ b ∷ [])
    (subst (λ (r : Read). names_read (fold read_byte r text) ≡ Some got) (taken names name b is (no-backslash b itself)) read)
    ∙ ap (λ (t : List ℕ). t ++ text) (path-name names name b itself)
    ∙ append_assoc (mac_path (names ++ name ∷ [])) (b ∷ []) text

printed-back : (text : List ℕ) (got : List (List ℕ)) → list_all is_itself text ≡ true → (names : List (List ℕ)) (name : List ℕ) → IsBack text got names name
printed-back [] got all names name = λ read.
    ap mac_path (ends names name got (nat_le (length name) 31) refl read) ∙ sym (append-nil (mac_path (names ++ name ∷ [])))
printed-back (b ∷ text) got all names name =
    let parts = and_parts (is_itself b) (list_all is_itself text) all in
    with-one b text names got name parts.0 (printed-back text got parts.1) (b == 58) refl (nat_le (length name) 31) refl

-- ---- all

pub paths-back : ArePathsPrintedBack
unfolding path_names mac_path plain_text
paths-back text names all other read = by (length text == 0) refl (bytes_eq text (codes ":")) refl
  where
    by : (empty : Bool) → (length text == 0) ≡ empty → (alone : Bool) → bytes_eq text (codes ":") ≡ alone → mac_path names ≡ text
    by true is alone one = let none : None ≡ Some names = rw is at read in cc
    by false is true one = absurd (other ((bytes_eq-Decides text (codes ":")).0 one))
    by false is false one =
        let some : names_read (fold read_byte unread text) ≡ Some names = rw (is, one) at read in
        printed-back text names all [] [] some
