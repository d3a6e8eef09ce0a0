-- The first folder of a number.
use Rattle.std.proofs.Common.{◌≡◌, ℕ, zero, suc, ◌+◌, ◌<◌, Bool, true, false, cond, ◌==◌, List, [], ◌∷◌, ◌++◌, length, get_or, take, Option, Some, None, refl, sym, ap, ◌∙◌, arith}
use Rattle.std.specs.List.{position_from}
use Rattle.std.specs.Option.{option_or, option_map_or}
use Rattle.std.proofs.lemmas.Bool.{eq-eqb, true≢false}
use Rattle.std.proofs.lemmas.List.{take_all, take_at, get_or_push, length_push}
use Rattle.hfs_catalog.specs.Indexes.{Numbered, number_of, only_if, is_place, NotesFirst}
use Rattle.hfs_catalog.proofs.Indexed.{first_place_more}
use Rattle.hfs_remains_places.specs.declared.things.Thing.{Thing}
use Rattle.hfs_remains_places.specs.Folders.{is_folder_of, place_of, KnowsFolders, NotesFolder}

-- ---- one more thing

pub place_of-push : (things : List Thing) (thing : Thing) (number : ℕ)
    → place_of (things ++ thing ∷ []) number ≡ option_or (place_of things number) (only_if (is_folder_of number thing) (length things))
place_of-push things thing number =
    let whole : take (length things + 1) (things ++ thing ∷ []) ≡ things ++ thing ∷ [] = take_all (length things + 1) (things ++ thing ∷ []) (omega (arith, length_push things thing)) in
    let front : take (length things) (things ++ thing ∷ []) ≡ things = take_at things (thing ∷ []) (length things) refl in
    ap (λ (l : List Thing). place_of l number) (sym whole)
    ∙ first_place_more (is_folder_of number) (things ++ thing ∷ []) (length things) thing (omega (arith, length_push things thing)) (sym (get_or_push things thing thing (length things) refl))
    ∙ ap (λ (l : List Thing). option_or (place_of l number) (only_if (is_folder_of number thing) (length things))) front

or_none : (o : Option ℕ) → o ≡ option_or o None
or_none None = refl
or_none (Some n) = refl

-- a folder is noted where its number had none
pub notes-folder : (old new : Numbered) (thing : Thing) (place number : ℕ) → thing.folder ≡ Some number → NotesFirst old new number place → NotesFolder thing place old new
notes-folder old new thing place number is notes k =
    notes k ∙ ap (λ (o : Option ℕ). option_or (number_of old k) (only_if (option_map_or (λ n. n == k) o false) place)) (sym is)

pub notes-none : (old : Numbered) (thing : Thing) (place : ℕ) → thing.folder ≡ None → NotesFolder thing place old old
notes-none old thing place is k = or_none (number_of old k) ∙ ap (λ (o : Option ℕ). option_or (number_of old k) (only_if (option_map_or (λ n. n == k) o false) place)) (sym is)

-- the folders of one more thing
pub knows-more : (old later : Numbered) (things new : List Thing) (thing : Thing) (place : ℕ) → place ≡ length things → new ≡ things ++ thing ∷ []
    → NotesFolder thing place old later → KnowsFolders old things → KnowsFolders later new
knows-more old later things new thing place at added notes known k =
    notes k
    ∙ (λ t. option_or (known k t) (only_if (is_folder_of k thing) (at t)))
    ∙ sym (place_of-push things thing k)
    ∙ ap (λ (l : List Thing). place_of l k) (sym added)

-- ---- what the first place says

module _ {X : Type 0} (p : X → Bool) where
  pub record Holds (k : ℕ) (xs : List X) (j : ℕ) : Type 0 where
    pub m : ℕ
    pub place : j ≡ k + m
    pub within : m < length xs
    pub holds : (d : X) → p (get_or xs m d) ≡ true

  none_some : (j : ℕ) → None ≡ Some j → ⊥
  none_some j e = cc

  same_some : (i j : ℕ) → Some i ≡ Some j → i ≡ j
  same_some i j e = cc

  pub position-holds : (k : ℕ) (xs : List X) (j : ℕ) → position_from p k xs ≡ Some j → Holds k xs j
  position-holds k [] j is = absurd (none_some j is)
  position-holds k (x ∷ xs) j is = elim (p x) as (λ (b : Bool). p x ≡ b → cond b (Some k) (position_from p (k + 1) xs) ≡ Some j → Holds k (x ∷ xs) j) [
    | true ↦ λ e here. record { m = 0; place = omega (arith, same_some k j here); within = omega arith; holds = λ d. e }
    | false ↦ λ e later.
        let rest = position-holds (k + 1) xs j later in
        record { m = suc rest.m; place = omega (arith, rest.place); within = omega (arith, rest.within); holds = λ d. rest.holds d }
  ] refl is
