-- Texts that are written a letter at a time, from which the letters come back: how long a letter's word is its first byte tells.
use Rattle.std.proofs.Common.{◌≡◌, ◌∙◌, sym, ap, subst, refl, ℕ, zero, suc, ◌*◌, ◌<◌, ◌≤◌, Bool, true, List, [], ◌∷◌, ◌++◌, length, map, take, drop, get_or, arith, length-append}
use Rattle.std.specs.Prelude.{◌==◌, nat_lt, if◌then◌else◌}
use Rattle.std.specs.List.{list_all}
use Rattle.std.proofs.Math.ListN.{get_or-append}
use Rattle.std.proofs.Math.Seq.{take-append_seam, drop-append_seam}
use Rattle.std.proofs.lemmas.Bool.{and_parts, and_from}
use Rattle.std.proofs.lemmas.List.{map-append}
use Rattle.std.proofs.lemmas.List.Folds.{list_all-append}

-- a text spells a name: for each character a word of it, escaped or not, of the letters that there are
abbrev pub Spells : (Bool → ℕ → List ℕ) → (Bool → ℕ → Bool) → List ℕ → List ℕ → Type 0
Spells word is_letter [] text = text ≡ []
Spells word is_letter (c ∷ name) text =
    (escaped : Bool) × (rest : List ℕ) × (text ≡ word escaped c ++ rest) × (is_letter escaped c ≡ true) × Spells word is_letter name rest

-- how many bytes a word has, by its first
unfoldable pub word_length : ℕ → ℕ
word_length first = if first == 61 then 3 else if nat_lt first 0x80 then 1 else if nat_lt first 0xE0 then 2 else 3

-- words from which the values of their characters come back
pub record IsCode (word : Bool → ℕ → List ℕ) (is_letter : Bool → ℕ → Bool) (value : ℕ → ℕ) (read : List ℕ → ℕ) : Type 0 where
  pub begun : (escaped : Bool) (c : ℕ) → is_letter escaped c ≡ true → 0 < length (word escaped c)
  pub len : (escaped : Bool) (c : ℕ) → is_letter escaped c ≡ true → word_length (get_or (word escaped c) 0 0) ≡ length (word escaped c)
  pub reads : (escaped : Bool) (c : ℕ) → is_letter escaped c ≡ true → read (word escaped c) ≡ value c

first-of : (w u t : List ℕ) → t ≡ w ++ u → 0 < length w → get_or t 0 0 ≡ get_or w 0 0
first-of w u t e h = ap (λ x. get_or x 0 0) e ∙ get_or-append w u 0 0 h

front-of : (w u t : List ℕ) (n : ℕ) → t ≡ w ++ u → n ≡ length w → take n t ≡ w
front-of w u t n e h = (λ i. take (h i) (e i)) ∙ take-append_seam w u

back-of : (w u t : List ℕ) (n : ℕ) → t ≡ w ++ u → n ≡ length w → drop n t ≡ u
back-of w u t n e h = (λ i. drop (h i) (e i)) ∙ drop-append_seam w u

no-text : (w u : List ℕ) → [] ≡ w ++ u → 0 < length w → ⊥
no-text w u e h = absurd (omega (arith, ap length e, length-append w u))

-- two names that one text spells have the same values
pub spells-one : (word : Bool → ℕ → List ℕ) (is_letter : Bool → ℕ → Bool) (value : ℕ → ℕ) (read : List ℕ → ℕ) → IsCode word is_letter value read
    → (a b t : List ℕ) → Spells word is_letter a t → Spells word is_letter b t → map value a ≡ map value b
spells-one word is_letter value read code [] [] t p q = refl
spells-one word is_letter value read code [] (d ∷ b) t p q =
    absurd (no-text (word q.0 d) q.1 (sym p ∙ q.2) (code.begun q.0 d q.3))
spells-one word is_letter value read code (c ∷ a) [] t p q =
    absurd (no-text (word p.0 c) p.1 (sym q ∙ p.2) (code.begun p.0 c p.3))
spells-one word is_letter value read code (c ∷ a) (d ∷ b) t p q =
    let x : List ℕ = word p.0 c in
    let y : List ℕ = word q.0 d in
    let n : ℕ = word_length (get_or t 0 0) in
    let px : n ≡ length (word p.0 c) = ap word_length (first-of (word p.0 c) p.1 t p.2 (code.begun p.0 c p.3)) ∙ code.len p.0 c p.3 in
    let qy : n ≡ length (word q.0 d) = ap word_length (first-of (word q.0 d) q.1 t q.2 (code.begun q.0 d q.3)) ∙ code.len q.0 d q.3 in
    let words : word p.0 c ≡ word q.0 d = sym (front-of (word p.0 c) p.1 t n p.2 px) ∙ front-of (word q.0 d) q.1 t n q.2 qy in
    let rests : p.1 ≡ q.1 = sym (back-of (word p.0 c) p.1 t n p.2 px) ∙ back-of (word q.0 d) q.1 t n q.2 qy in
    let values : value c ≡ value d = sym (code.reads p.0 c p.3) ∙ ap read words ∙ code.reads q.0 d q.3 in
    let others = spells-one word is_letter value read code a b q.1 (subst (Spells word is_letter a) rests p.4) q.4 in
    λ i. values i ∷ others i

-- each byte of a text passes what each byte of each word passes
pub spells-pass : (word : Bool → ℕ → List ℕ) (is_letter : Bool → ℕ → Bool) (passes : ℕ → Bool)
    → ((escaped : Bool) (c : ℕ) → is_letter escaped c ≡ true → list_all passes (word escaped c) ≡ true)
    → (a t : List ℕ) → Spells word is_letter a t → list_all passes t ≡ true
spells-pass word is_letter passes each [] t p = ap (list_all passes) p
spells-pass word is_letter passes each (c ∷ a) t p =
    ap (list_all passes) p.2 ∙ list_all-append passes (word p.0 c) p.1
    ∙ and_from _ _ (each p.0 c p.3) (spells-pass word is_letter passes each a p.1 p.4)

pub spells-short : (word : Bool → ℕ → List ℕ) (is_letter : Bool → ℕ → Bool)
    → ((escaped : Bool) (c : ℕ) → is_letter escaped c ≡ true → length (word escaped c) ≤ 3)
    → (a t : List ℕ) → Spells word is_letter a t → length t ≤ 3 * length a
spells-short word is_letter each [] t p = omega (arith, ap length p)
spells-short word is_letter each (c ∷ a) t p =
    omega (arith, ap length p.2, length-append (word p.0 c) p.1, each p.0 c p.3, spells-short word is_letter each a p.1 p.4)

-- a text whose bytes are each changed spells the same name by words that are so changed
pub spells-mapped : (f : ℕ → ℕ) (word : Bool → ℕ → List ℕ) (is_letter : Bool → ℕ → Bool)
    → (a t : List ℕ) → Spells word is_letter a t → Spells (λ escaped c. map f (word escaped c)) is_letter a (map f t)
spells-mapped f word is_letter [] t p = ap (map f) p
spells-mapped f word is_letter (c ∷ a) t p =
    (p.0, map f p.1, ap (map f) p.2 ∙ map-append f (word p.0 c) p.1, p.3, spells-mapped f word is_letter a p.1 p.4)

pub all-at : (p : ℕ → Bool) (xs : List ℕ) (k : ℕ) → list_all p xs ≡ true → k < length xs → p (get_or xs k 0) ≡ true
all-at p [] k h lt = absurd (omega arith)
all-at p (x ∷ xs) zero h lt = (and_parts _ _ h).0
all-at p (x ∷ xs) (suc k) h lt = all-at p xs k (and_parts _ _ h).1 (omega arith)
