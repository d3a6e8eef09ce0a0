-- No two folders that only threads name have one number.
use Rattle.std.proofs.Common.{◌≡◌, ℕ, zero, suc, ◌+◌, ◌<◌, Bool, true, false, cond, ◌==◌, if◌then◌else◌, List, [], ◌∷◌, ◌++◌, length, get_or, Option, Some, None, refl, sym, ap, ◌∙◌, arith, inl, inr, ◌⊎◌}
use Rattle.std.specs.List.{position_from}
use Rattle.std.specs.Option.{is_some, option_map_or, unwrap_or}
use Rattle.std.proofs.lemmas.Bool.{cases_lt, true≢false, eq-eqb, or_parts}
use Rattle.std.proofs.lemmas.List.{get_or_push, get_or_append_left, length_push}
use Rattle.hfs_remains_places.proofs.ChainLemmas.{none-where}
use Rattle.hfs_remains_places.specs.declared.things.Thing.{Thing}
use Rattle.hfs_remains_places.specs.Folders.{thing_at, nothing, is_folder_of, place_of}
use Rattle.hfs_remains_places.specs.Things.{is_taken, with_numbered, with_named, named_behind, things_of}
use Rattle.hfs_remains_places.specs.Laws.{AreItems}

-- each folder that only a thread names has a number, and no other such folder has it
pub record AreNamedOnce (things : List Thing) : Type 0 where
  pub some : (i : ℕ) → i < length things → (thing_at things i).named ≡ true → is_some (thing_at things i).folder ≡ true
  pub once : (i j : ℕ) → i < length things → j < length things → (thing_at things i).named ≡ true → (thing_at things j).named ≡ true
      → unwrap_or (thing_at things i).folder 0 ≡ unwrap_or (thing_at things j).folder 0 → i ≡ j

-- ---- no place

module _ {X : Type 0} (p : X → Bool) where
  some_none : (k : ℕ) → Some k ≡ None → ⊥
  some_none k e = cc

  none-first : (b : Bool) (k : ℕ) (o : Option ℕ) → cond b (Some k) o ≡ None → (b ≡ false) × (o ≡ None)
  none-first true k o e = absurd (some_none k e)
  none-first false k o e = (refl, e)

  position-none : (k : ℕ) (xs : List X) (d : X) → position_from p k xs ≡ None → (i : ℕ) → i < length xs → p (get_or xs i d) ≡ false
  position-none k [] d none i within = absurd (omega (arith, within))
  position-none k (x ∷ xs) d none zero within = (none-first (p x) k (position_from p (k + 1) xs) none).0
  position-none k (x ∷ xs) d none (suc i) within = position-none (k + 1) xs d (none-first (p x) k (position_from p (k + 1) xs) none).1 i (omega (arith, within))

some-number : (o : Option ℕ) (n : ℕ) → is_some o ≡ true → unwrap_or o 0 ≡ n → o ≡ Some n
some-number None n some is = absurd (true≢false (sym some))
some-number (Some m) n some is = ap Some is

-- ---- one more

module _ (things : List Thing) (thing : Thing) where
  Place : ℕ → Type 0
  Place i = ((i < length things) × (thing_at (things ++ thing ∷ []) i ≡ thing_at things i)) ⊎ ((i ≡ length things) × (thing_at (things ++ thing ∷ []) i ≡ thing))

  place : (i : ℕ) → i < length (things ++ thing ∷ []) → Place i
  unfolding Place
  place i within =
      elim (cases_lt i (length things)) [
        | inl lt ↦ inl (lt, get_or_append_left things (thing ∷ []) nothing i lt)
        | inr ge ↦ let last : i ≡ length things = omega (arith, ge, within, length_push things thing) in inr (last, get_or_push things thing nothing i (sym last))
      ]

  module _ (number : ℕ) (folder : thing.folder ≡ Some number) (free : is_some (place_of things number) ≡ false) (once : AreNamedOnce things) where
    -- no thing before it is a folder of its number
    other : (i : ℕ) → i < length things → (thing_at things i).named ≡ true → unwrap_or (thing_at things i).folder 0 ≡ unwrap_or thing.folder 0 → ⊥
    other i within named same =
        let number-is : unwrap_or thing.folder 0 ≡ number = ap (λ (o : Option ℕ). unwrap_or o 0) folder in
        let has : (thing_at things i).folder ≡ Some number = some-number (thing_at things i).folder number (once.some i within named) (same ∙ number-is) in
        let so : is_folder_of number (thing_at things i) ≡ true = ap (λ (o : Option ℕ). option_map_or (λ n. n == number) o false) has ∙ eq-eqb number number refl in
        let no : is_folder_of number (thing_at things i) ≡ false = position-none (is_folder_of number) 0 things nothing (none-where (place_of things number) free) i within in
        true≢false (sym so ∙ no)

    some-more : (i : ℕ) → Place i → (thing_at (things ++ thing ∷ []) i).named ≡ true → is_some (thing_at (things ++ thing ∷ []) i).folder ≡ true
    unfolding Place
    some-more i (inl before) named =
        ap (λ (t : Thing). is_some t.folder) before.1 ∙ once.some i before.0 (sym (ap (λ (t : Thing). t.named) before.1) ∙ named)
    some-more i (inr last) named = ap (λ (t : Thing). is_some t.folder) last.1 ∙ ap is_some folder

    once-more : (i j : ℕ) → Place i → Place j → (thing_at (things ++ thing ∷ []) i).named ≡ true → (thing_at (things ++ thing ∷ []) j).named ≡ true
        → unwrap_or (thing_at (things ++ thing ∷ []) i).folder 0 ≡ unwrap_or (thing_at (things ++ thing ∷ []) j).folder 0 → i ≡ j
    unfolding Place
    once-more i j (inl a) (inl b) first second same =
        once.once i j a.0 b.0 (sym (ap (λ (t : Thing). t.named) a.1) ∙ first) (sym (ap (λ (t : Thing). t.named) b.1) ∙ second)
        (sym (ap (λ (t : Thing). unwrap_or t.folder 0) a.1) ∙ same ∙ ap (λ (t : Thing). unwrap_or t.folder 0) b.1)
    once-more i j (inl a) (inr b) first second same =
        absurd (other i a.0 (sym (ap (λ (t : Thing). t.named) a.1) ∙ first)
        (sym (ap (λ (t : Thing). unwrap_or t.folder 0) a.1) ∙ same ∙ ap (λ (t : Thing). unwrap_or t.folder 0) b.1))
    once-more i j (inr a) (inl b) first second same =
        absurd (other j b.0 (sym (ap (λ (t : Thing). t.named) b.1) ∙ second)
        (sym (ap (λ (t : Thing). unwrap_or t.folder 0) b.1) ∙ sym same ∙ ap (λ (t : Thing). unwrap_or t.folder 0) a.1))
    once-more i j (inr a) (inr b) first second same = a.0 ∙ sym b.0

    once-pushed : AreNamedOnce (things ++ thing ∷ [])
    once-pushed = record {
      some = λ i within named. some-more i (place i within) named;
      once = λ i j a b first second same. once-more i j (place i a) (place j b) first second same;
    }

once-with : (things : List Thing) (thing : Thing) (o : Option ℕ) → thing.folder ≡ o → AreNamedOnce things → AreNamedOnce (with_numbered things thing o)
once-with things thing None is once = once
once-with things thing (Some number) is once = by (is_taken things number) refl
  where
    by : (b : Bool) → is_taken things number ≡ b → AreNamedOnce (if b then things else things ++ thing ∷ [])
    by true e = once
    by false e = once-pushed things thing number is (or_parts (number == 2) (is_some (place_of things number)) e).1 once

once-behind : (things namings : List Thing) → AreNamedOnce things → AreNamedOnce (named_behind things namings)
once-behind things [] once = once
once-behind things (t ∷ ts) once = once-behind (with_named things t) ts (once-with things t t.folder refl once)

pub named-once : (items namings : List Thing) → AreItems items → AreNamedOnce (things_of items namings)
named-once items namings are = once-behind items namings record {
  some = λ i within named. absurd (true≢false (sym named ∙ are i within));
  once = λ i j a b first second same. absurd (true≢false (sym first ∙ are i a));
}
