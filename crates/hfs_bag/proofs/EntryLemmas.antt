-- The names that a folder's names name.
use Rattle.std.proofs.Common.{◌≡◌, ◌≢◌, ℕ, zero, suc, ◌<◌, List, [], ◌∷◌, ◌++◌, eqb, refl, sym, ap, ◌∙◌, subst, length, get_or, arith, ne_eqb}
use Rattle.std.specs.Prelude.{⊤, ◌≤◌, Some, None, MatchBool, Bool, codes, ◌==◌, ◌&&◌, ◌||◌, bytes_eq, not, false, true, if◌then◌else◌}
use Rattle.std.specs.Str.{is_utf8}
use Rattle.std.specs.Path.{has_no_slash}
use Rattle.std.specs.Str.Pattern.{FindsChar}
use Rattle.std.proofs.lemmas.Bool.{and_parts, eq-eqb}
use Rattle.std.proofs.lemmas.Str.Pattern.{contains_char}
use Rattle.hfs_bag.specs.Laws.{HasNo, IsPart}
use Rattle.hfs_bag.specs.Listings.{ended_names, is_entry, names_in, with_first}

abbrev IsTrueBool : Bool → Type 0
IsTrueBool true = ⊤
IsTrueBool false = ⊥

-- names without a zero byte
abbrev pub AreEndedNames : List (List ℕ) → Type 0
AreEndedNames [] = ⊤
AreEndedNames (name ∷ names) = HasNo 0 name × AreEndedNames names

pub names_left : (names behind : List (List ℕ)) → AreEndedNames (names ++ behind) → AreEndedNames names
names_left [] behind ended = tt
names_left (name ∷ names) behind ended = (ended.0, names_left names behind ended.1)

pub name_here : (name : List ℕ) (names behind : List (List ℕ)) → AreEndedNames (names ++ name ∷ behind) → HasNo 0 name
name_here name [] behind ended = ended.0
name_here name (first ∷ names) behind ended = name_here name names behind ended.1

first_ended : (c : ℕ) (names : List (List ℕ)) → c ≢ 0 → AreEndedNames names → AreEndedNames (with_first c names)
first_ended c [] other ended = tt
first_ended c (name ∷ names) other ended = ((other, ended.0), ended.1)

ended_further : (c : ℕ) (names : List (List ℕ)) (b : Bool) → eqb c 0 ≡ b → AreEndedNames names → AreEndedNames (if b then [] ∷ names else with_first c names)
ended_further c names true is ended = (tt, ended)
ended_further c names false is ended = first_ended c names (λ e. subst IsTrueBool (sym (eq-eqb c 0 e) ∙ is) tt) ended

pub ended_names-ended : (text : List ℕ) → AreEndedNames (ended_names text)
ended_names-ended [] = tt
ended_names-ended (c ∷ text) = ended_further c (ended_names text) (eqb c 0) refl (ended_names-ended text)

pub names_in-ended : (bytes : List ℕ) → AreEndedNames (names_in bytes)
names_in-ended bytes = by_kind (is_utf8 bytes)
  where
    by_kind : (b : Bool) → AreEndedNames (if b then ended_names bytes else [])
    by_kind true = ended_names-ended bytes
    by_kind false = tt

-- ---- an entry's name

no_slash : (name : List ℕ) → has_no_slash name ≡ true → HasNo 47 name
no_slash [] is = tt
no_slash (c ∷ name) is =
    let parts = and_parts (not (c == 47)) (has_no_slash name) is in
    (λ e. subst IsTrueBool (sym parts.0 ∙ ap not (eq-eqb c 47 e)) tt, no_slash name parts.1)

pub entry_part : (name : List ℕ) → is_entry name ≡ true → HasNo 0 name → IsPart name
entry_part name is none = record {
  not_empty = λ e. subst IsTrueBool (sym is ∙ ap is_entry e) tt;
  not_itself = λ e. subst IsTrueBool (sym is ∙ ap is_entry e) tt;
  not_above = λ e. subst IsTrueBool (sym is ∙ ap is_entry e) tt;
  no_slash = no_slash name (and_parts (not (length name == 0 || bytes_eq name (codes ".") || bytes_eq name (codes ".."))) (has_no_slash name) is).1;
  no_zero = none;
}

-- ---- whether a text has a slash, by its bytes

and_none : (b : Bool) → (b && false) ≡ false
and_none true = refl
and_none false = refl

slash_there : (name : List ℕ) (k : ℕ) → k < length name → get_or name k 0 ≡ 47 → has_no_slash name ≡ false
slash_there [] k below is = absurd (omega (arith, below))
slash_there (c ∷ name) zero below is = ap (λ (b : Bool). not b && has_no_slash name) (eq-eqb c 47 is)
slash_there (c ∷ name) (suc k) below is = ap (λ (b : Bool). not (c == 47) && b) (slash_there name k (omega (arith, below)) is) ∙ and_none (not (c == 47))

slash_nowhere : (name : List ℕ) → ((k : ℕ) → k < length name → get_or name k 0 ≡ 47 → ⊥) → has_no_slash name ≡ true
slash_nowhere [] none = refl
slash_nowhere (c ∷ name) none =
    ap (λ (b : Bool). not b && has_no_slash name) (ne_eqb c 47 (none 0 (omega arith)))
    ∙ slash_nowhere name (λ k below is. none (suc k) (omega (arith, below)) is)

pub slash_found : (name : List ℕ) (b : Bool) → (b ≡ true → (k : ℕ) × (k < length name) × (get_or name k 0 ≡ 47)) × ((k : ℕ) → k < length name → get_or name k 0 ≡ 47 → b ≡ true) → has_no_slash name ≡ not b
slash_found name true is = let there = is.0 refl in slash_there name there.0 there.1 there.2
slash_found name false is = slash_nowhere name (λ k below at. subst IsTrueBool (sym (is.1 k below at)) tt)

pub contains_slash : (name : List ℕ) (b : Bool) → MatchBool b ((i : ℕ) × (j : ℕ) × FindsChar 47 name (Some (i, j)) × (i ≤ j) × (j ≤ length name)) (FindsChar 47 name None)
    → has_no_slash name ≡ not b
contains_slash name b is = slash_found name b (contains_char 47 name b is (omega arith))

-- one of two tests, of which the second is made where the first fails
pub or_first : (v a b : Bool) → v ≡ a → a ≡ true → v ≡ (a || b)
or_first v a b same is = same ∙ is ∙ ap (λ (x : Bool). x || b) (sym is)

pub or_second : (v a b : Bool) → v ≡ b → a ≡ false → v ≡ (a || b)
or_second v a b same is = same ∙ ap (λ (x : Bool). x || b) (sym is)

-- it is no entry if one of four is so
pub entry_is : (name : List ℕ) (one two all slash : Bool) → one ≡ ((length name == 0) || bytes_eq name (codes ".")) → two ≡ (one || bytes_eq name (codes "..")) → all ≡ (two || slash)
    → has_no_slash name ≡ not slash → not all ≡ is_entry name
entry_is name one two all slash is-one is-two is-all is-slash =
    ap not (is-all ∙ ap (λ (b : Bool). b || slash) (is-two ∙ ap (λ (b : Bool). b || bytes_eq name (codes "..")) is-one))
    ∙ not_or (length name == 0) (bytes_eq name (codes ".")) (bytes_eq name (codes "..")) slash
    ∙ ap (λ (b : Bool). not (length name == 0 || bytes_eq name (codes ".") || bytes_eq name (codes "..")) && b) (sym is-slash)
  where
    not_or : (a b c d : Bool) → not (((a || b) || c) || d) ≡ (not (a || b || c) && not d)
    not_or true b c d = refl
    not_or false true c d = refl
    not_or false false true d = refl
    not_or false false false d = refl

-- where one of the first three is so, the fourth is as it may
pub slash_last : (name : List ℕ) (one two all : Bool) → one ≡ ((length name == 0) || bytes_eq name (codes ".")) → two ≡ (one || bytes_eq name (codes "..")) → all ≡ two → two ≡ true → not all ≡ is_entry name
slash_last name one two all is-one is-two same is-so =
    entry_is name one two all (not (has_no_slash name)) is-one is-two (or_first all two (not (has_no_slash name)) same is-so) (twice (has_no_slash name))
  where
    twice : (b : Bool) → b ≡ not (not b)
    twice true = refl
    twice false = refl
