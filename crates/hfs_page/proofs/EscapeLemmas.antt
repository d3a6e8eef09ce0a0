-- What a reader of markup sees of an escaped text.
use Rattle.std.proofs.Common.{◌≡◌, ◌∙◌, sym, ap, refl, ℕ, Bool, true, false, not, ◌&&◌, ◌||◌, List, [], ◌∷◌, ◌++◌}
use Rattle.std.specs.Prelude.{◌==◌, if◌then◌else◌, codes}
use Rattle.std.specs.List.{list_any, list_all}
use Rattle.std.proofs.lemmas.Bool.{eqb-true}
use Rattle.hfs_page.specs.Escapes.{escaped, escaped_byte}
use Rattle.hfs_page.specs.Laws.{references, begins_with, reference_at, character_of, length_of, read_behind, is_no_delimiter, has_references_alone, AreTexts}

-- ---- one byte, by whether it is each of the five

-- the word of a byte, where it is told which of the five it is
word-by : Bool → Bool → Bool → Bool → Bool → ℕ → List ℕ
word-by a l g q s b =
    if a then codes "&amp;" else if l then codes "&lt;" else if g then codes "&gt;" else if q then codes "&quot;" else if s then codes "&#39;" else b ∷ []

read-by : (a l g q s : Bool) (b : ℕ) (rest : List ℕ) → (b == 0x26) ≡ a → (b == 0x3C) ≡ l → (b == 0x3E) ≡ g → (b == 0x22) ≡ q → (b == 0x27) ≡ s
    → read_behind 0 (word-by a l g q s b ++ rest) ≡ b ∷ read_behind 0 rest
unfolding word-by
read-by true l g q s b rest ea el eg eq es = ap (λ x. x ∷ read_behind 0 rest) (sym (eqb-true b 0x26 ea))
read-by false true g q s b rest ea el eg eq es = ap (λ x. x ∷ read_behind 0 rest) (sym (eqb-true b 0x3C el))
read-by false false true q s b rest ea el eg eq es = ap (λ x. x ∷ read_behind 0 rest) (sym (eqb-true b 0x3E eg))
read-by false false false true s b rest ea el eg eq es = ap (λ x. x ∷ read_behind 0 rest) (sym (eqb-true b 0x22 eq))
read-by false false false false true b rest ea el eg eq es = ap (λ x. x ∷ read_behind 0 rest) (sym (eqb-true b 0x27 es))
read-by false false false false false b rest ea el eg eq es = by-test (b == 0x26) ea
  where
    by-test : (t : Bool) → t ≡ false → (if t then character_of (reference_at rest references) ∷ read_behind (length_of (reference_at rest references)) rest else b ∷ read_behind 0 rest) ≡ b ∷ read_behind 0 rest
    by-test t e = ap (λ x. if x then character_of (reference_at rest references) ∷ read_behind (length_of (reference_at rest references)) rest else b ∷ read_behind 0 rest) e

delimiters-by : (a l g q s : Bool) (b : ℕ) (rest : List ℕ) → (b == 0x26) ≡ a → (b == 0x3C) ≡ l → (b == 0x3E) ≡ g → (b == 0x22) ≡ q → (b == 0x27) ≡ s
    → list_all is_no_delimiter (word-by a l g q s b ++ rest) ≡ list_all is_no_delimiter rest
unfolding word-by
delimiters-by true l g q s b rest ea el eg eq es = refl
delimiters-by false true g q s b rest ea el eg eq es = refl
delimiters-by false false true q s b rest ea el eg eq es = refl
delimiters-by false false false true s b rest ea el eg eq es = refl
delimiters-by false false false false true b rest ea el eg eq es = refl
delimiters-by false false false false false b rest ea el eg eq es =
    λ i. (not (el i) && not (eg i) && not (eq i) && not (es i)) && list_all is_no_delimiter rest

references-by : (a l g q s : Bool) (b : ℕ) (rest : List ℕ) → (b == 0x26) ≡ a → (b == 0x3C) ≡ l → (b == 0x3E) ≡ g → (b == 0x22) ≡ q → (b == 0x27) ≡ s
    → has_references_alone (word-by a l g q s b ++ rest) ≡ has_references_alone rest
unfolding word-by
references-by true l g q s b rest ea el eg eq es = refl
references-by false true g q s b rest ea el eg eq es = refl
references-by false false true q s b rest ea el eg eq es = refl
references-by false false false true s b rest ea el eg eq es = refl
references-by false false false false true b rest ea el eg eq es = refl
references-by false false false false false b rest ea el eg eq es =
    λ i. (not (ea i) || list_any (begins_with rest) references) && has_references_alone rest

-- ---- texts

text-read : (text : List ℕ) → read_behind 0 (escaped text) ≡ text
unfolding escaped escaped_byte word-by
text-read [] = refl
text-read (b ∷ rest) =
    read-by (b == 0x26) (b == 0x3C) (b == 0x3E) (b == 0x22) (b == 0x27) b (escaped rest) refl refl refl refl refl
    ∙ ap (λ t. b ∷ t) (text-read rest)

pub no-delimiters : (text : List ℕ) → list_all is_no_delimiter (escaped text) ≡ true
unfolding escaped escaped_byte word-by
no-delimiters [] = refl
no-delimiters (b ∷ rest) =
    delimiters-by (b == 0x26) (b == 0x3C) (b == 0x3E) (b == 0x22) (b == 0x27) b (escaped rest) refl refl refl refl refl ∙ no-delimiters rest

references-alone : (text : List ℕ) → has_references_alone (escaped text) ≡ true
unfolding escaped escaped_byte word-by
references-alone [] = refl
references-alone (b ∷ rest) =
    references-by (b == 0x26) (b == 0x3C) (b == 0x3E) (b == 0x22) (b == 0x27) b (escaped rest) refl refl refl refl refl ∙ references-alone rest

pub texts-escaped : AreTexts escaped
texts-escaped = record { read = text-read; no_delimiter = no-delimiters; references_alone = references-alone }
