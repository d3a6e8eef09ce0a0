-- The names in a text, one after the other.
use Rattle.std.proofs.Common.{◌≡◌, ℕ, suc, ◌+◌, one-add, ◌<◌, Bool, true, false, List, [], ◌∷◌, ◌++◌, Option, Some, None, eqb, refl, sym, ap, ◌∙◌, subst, length, take, drop, arith}
use Rattle.std.specs.Prelude.{not, ◌==◌, if◌then◌else◌}
use Rattle.std.proofs.lemmas.Bool.{false_from_ne_true, cond-true, cond-false}
use Rattle.std.specs.List.{position_or_len, before_first, after_first}
use Rattle.std.specs.Borrow.{Bor}
use Rattle.std.specs.Prelude.{MatchOption}
use Rattle.std.specs.Str.{IsUtf8, is_utf8}
use Rattle.std.proofs.lemmas.Str.{IsUtf8-from_is_utf8, is_utf8-from_IsUtf8}
use Rattle.hfs_bag.specs.Listings.{ended_names, names_in, with_first}

-- a text without a zero byte has no name
none_further : (c : ℕ) (text : List ℕ) → (position_or_len (λ b. b == 0) text ≡ length text → ended_names text ≡ []) → (end : Bool) → (c == 0) ≡ end
    → position_or_len (λ b. b == 0) (c ∷ text) ≡ length (c ∷ text) → ended_names (c ∷ text) ≡ []
none_further c text further true is e = absurd (omega (arith, (rw is at e)))
none_further c text further false is e = rw (is, further (omega (arith, (rw is at e)))) refl

pub ended_names-none : (text : List ℕ) → position_or_len (λ b. b == 0) text ≡ length text → ended_names text ≡ []
ended_names-none [] e = refl
ended_names-none (c ∷ text) e = none_further c text (ended_names-none text) (c == 0) refl e

take_further : (c : ℕ) (text : List ℕ) (n : ℕ) → take (1 + n) (c ∷ text) ≡ c ∷ take n text
take_further c text n = ap (λ (k : ℕ). take k (c ∷ text)) (one-add n)

drop_further : (c : ℕ) (text : List ℕ) (n : ℕ) → drop (1 + n + 1) (c ∷ text) ≡ drop (n + 1) text
drop_further c text n = ap (λ (k : ℕ). drop k (c ∷ text)) (next n)
  where
    next : (n : ℕ) → 1 + n + 1 ≡ suc (n + 1)
    next n = omega arith

-- the first one ends at the first zero byte
first_further : (c : ℕ) (text : List ℕ)
    → (position_or_len (λ b. b == 0) text < length text → ended_names text ≡ before_first (λ b. b == 0) text ∷ ended_names (after_first (λ b. b == 0) text)) → (end : Bool) → (c == 0) ≡ end
    → position_or_len (λ b. b == 0) (c ∷ text) < length (c ∷ text)
    → ended_names (c ∷ text) ≡ before_first (λ b. b == 0) (c ∷ text) ∷ ended_names (after_first (λ b. b == 0) (c ∷ text))
first_further c text further true is e = rw is refl
first_further c text further false is e =
    let before = position_or_len (λ b. b == 0) text in
    rw (is, further (omega (arith, (rw is at e))))
    (ap (λ (name : List ℕ). name ∷ ended_names (after_first (λ b. b == 0) text)) (sym (take_further c text before))
    ∙ ap (λ (rest : List ℕ). take (1 + before) (c ∷ text) ∷ ended_names rest) (sym (drop_further c text before)))

pub ended_names-first : (text : List ℕ) → position_or_len (λ b. b == 0) text < length text
    → ended_names text ≡ before_first (λ b. b == 0) text ∷ ended_names (after_first (λ b. b == 0) text)
ended_names-first [] e = absurd (omega (arith, e))
ended_names-first (c ∷ text) e = first_further c text (ended_names-first text) (c == 0) refl e

-- a text is cut there
pub first_name-cut : (text : List ℕ) (cut : Option (Bor (List ℕ) × Bor (List ℕ)))
    → MatchOption cut (position_or_len (λ b. b == 0) text ≡ length text)
    (λ x. (x.0.now ≡ before_first (λ b. b == 0) text) × (x.1.now ≡ after_first (λ b. b == 0) text) × (position_or_len (λ b. b == 0) text < length text))
    → MatchOption cut (ended_names text ≡ []) (λ x. ended_names text ≡ x.0.now ∷ ended_names x.1.now)
first_name-cut text None none = ended_names-none text none
first_name-cut text (Some x) is =
    ended_names-first text is.2 ∙ ap (λ (name : List ℕ). name ∷ ended_names (after_first (λ b. b == 0) text)) (sym is.0) ∙ ap (λ (rest : List ℕ). x.0.now ∷ ended_names rest) (sym is.1)

-- the text in bytes
pub text-named : (text bytes : List ℕ) → text ≡ bytes → IsUtf8 bytes → ended_names text ≡ names_in bytes
text-named text bytes same is = ap ended_names same ∙ sym (cond-true (is_utf8 bytes) (ended_names bytes) [] (is_utf8-from_IsUtf8 bytes is))

pub text-none : (bytes : List ℕ) → ¬ (IsUtf8 bytes) → [] ≡ names_in bytes
text-none bytes none = sym (cond-false (is_utf8 bytes) (ended_names bytes) [] (false_from_ne_true (is_utf8 bytes) (λ is. none (IsUtf8-from_is_utf8 bytes is))))
