-- Paths by the paths of the folders above.
use Rattle.std.proofs.Common.{◌≡◌, ℕ, zero, suc, ◌+◌, ◌^◌, ◌<◌, Bool, true, false, ◌&&◌, ◌||◌, ◌==◌, if◌then◌else◌, nat_lt, List, [], length, map, Option, Some, None, slice_index_or, String, Global, refl, sym, ap, ◌∙◌, arith, inl, inr}
use Rattle.std.specs.Prelude.{string_bytes, IfSome}
use Rattle.std.specs.Option.{option_and_then, option_map_or, is_some}
use Rattle.std.proofs.lemmas.Bool.{cases_lt, eq-eqb, eqb-true, true≢false}
use Rattle.std.proofs.lemmas.List.{get_or_past, get_or-map, length-map}
use Rattle.hfs_catalog.specs.Indexes.{is_place}
use Rattle.hfs_remains_places.specs.declared.things.Thing.{Thing}
use Rattle.hfs_remains_places.specs.Folders.{thing_at, nothing, is_folder_of, place_of}
use Rattle.hfs_remains_places.specs.Things.{folder_of}
use Rattle.hfs_remains_places.specs.Entries.{entries_of}
use Rattle.hfs_remains_places.specs.Chains.{place_at, ups_of, steps, is_endless}
use Rattle.hfs_remains_places.specs.Paths.{entry_at, is_folder_at, is_cut, lost_at, within, path_in, path_by, path_at, path, IsKnown, IsReady, AreKnown}
use Rattle.hfs_remains_places.proofs.FolderLemmas.{position-holds}
use Rattle.hfs_remains_places.proofs.EntryLemmas.{length-entries}
use Rattle.hfs_remains_places.proofs.ChainLemmas.{steps-zero, steps-suc, ended-is, endless-up, length-ups, up-of}

pub path_at-suc : (things : List Thing) (k i : ℕ) → path_at things (suc k) i ≡ path_by things i (place_at (ups_of things) i) (path_at things k)
unfolding path_at
path_at-suc things k i = refl

some_none : (i : ℕ) → Some i ≡ None → ⊥
some_none i e = cc

-- ---- the folder above a thing

pub found-two : (things : List Thing) (number p : ℕ) → folder_of things number ≡ Some p → (number == 2 ≡ false) × (place_of things number ≡ Some p)
found-two things number p is = by (number == 2) is
  where
    by : (b : Bool) → (if b then None else place_of things number) ≡ Some p → (b ≡ false) × (place_of things number ≡ Some p)
    by true e = cc
    by false e = (refl, e)

number-is : (o : Option ℕ) (number : ℕ) → option_map_or (λ n. n == number) o false ≡ true → o ≡ Some number
number-is None number e = cc
number-is (Some n) number e = ap Some (eqb-true n number e)

pub record IsFolderAbove (things : List Thing) (p : ℕ) : Type 0 where
  pub below : p < length things
  pub folder : is_folder_at things p ≡ true

-- its number is that one
pub above-number : (things : List Thing) (number p : ℕ) → folder_of things number ≡ Some p → (thing_at things p).folder ≡ Some number
above-number things number p is =
    let two = found-two things number p is in
    let at = position-holds (is_folder_of number) 0 things p two.1 in
    let same : at.m ≡ p = omega (arith, at.place) in
    let holds : is_folder_of number (thing_at things p) ≡ true = ap (λ (j : ℕ). is_folder_of number (thing_at things j)) (sym same) ∙ at.holds nothing in
    number-is (thing_at things p).folder number holds

-- it is the folder of its number
pub above-is : (things : List Thing) (number p : ℕ) → folder_of things number ≡ Some p → IsFolderAbove things p
above-is things number p is =
    let at = position-holds (is_folder_of number) 0 things p (found-two things number p is).1 in
    record {
      below = omega (arith, at.within, at.place);
      folder =
          ap (λ (o : Option ℕ). option_map_or (λ n. is_place (folder_of things n) p) o false) (above-number things number p is)
          ∙ ap (λ (o : Option ℕ). is_place o p) is
          ∙ eq-eqb p p refl;
    }

pub up-is : (things : List Thing) (i p : ℕ) → place_at (ups_of things) i ≡ Some p → IsFolderAbove things p
up-is things i p up =
    elim (cases_lt i (length things)) [
      | inl lt ↦ above-is things (thing_at things i).parent p (sym (up-of things i lt) ∙ up)
      | inr ge ↦ absurd (some_none p (sym up ∙ get_or_past (ups_of things) i None (omega (arith, length-ups things))))
    ]

-- ---- as many steps as a chain has, or more

module _ (things : List Thing) where
  pub path_at-more : (k i m : ℕ) → steps (ups_of things) k i ≡ None → path_at things (k + m) i ≡ path_at things k i
  path_at-more zero i m ended = absurd (some_none i (sym (steps-zero (ups_of things) i) ∙ ended))
  path_at-more (suc k) i m ended =
      let more : suc k + m ≡ suc (k + m) = omega arith in
      ap (λ (n : ℕ). path_at things n i) more
      ∙ path_at-suc things (k + m) i
      ∙ by (λ p e. path_at-more k p m e) (place_at (ups_of things) i) (sym (steps-suc (ups_of things) k i) ∙ ended)
      ∙ sym (path_at-suc things k i)
    where
      by : ((p : ℕ) → steps (ups_of things) k p ≡ None → path_at things (k + m) p ≡ path_at things k p)
          → (o : Option ℕ) → option_and_then (steps (ups_of things) k) o ≡ None → path_by things i o (path_at things (k + m)) ≡ path_by things i o (path_at things k)
      by fewer None e = refl
      by fewer (Some p) e = ap (path_in things i) (fewer p e)

  cut-endless : (i above : ℕ) → is_folder_at things i ≡ true → is_endless (ups_of things) i ≡ true → is_cut things i above ≡ true
  cut-endless i above folder endless = λ t. folder t && (endless t || nat_lt 800 (above + 1 + length (entry_at things i)))

  by-endless : (i : ℕ) (below : ℕ → List ℕ) → is_folder_at things i ≡ true → is_endless (ups_of things) i ≡ true
      → (o : Option ℕ) → place_at (ups_of things) i ≡ o → path_by things i o below ≡ lost_at things i
  by-endless i below folder endless None up = absurd (endless-up (ups_of things) i endless up)
  by-endless i below folder endless (Some p) up =
      ap (λ (b : Bool). if b then lost_at things i else within (below p) (entry_at things i)) (cut-endless i (length (below p)) folder endless)

  path_at-endless : (k i : ℕ) → is_folder_at things i ≡ true → is_endless (ups_of things) i ≡ true → path_at things (suc k) i ≡ lost_at things i
  path_at-endless k i folder endless = path_at-suc things k i ∙ by-endless i (path_at things k) folder endless (place_at (ups_of things) i) refl

  same-above : (n p : ℕ) → n ≡ 2 ^ 32 → is_folder_at things p ≡ true → path_at things (n + 1) p ≡ path_at things (n + 2) p
  same-above n p is folder = by (is_endless (ups_of things) p) refl
    where
      by : (b : Bool) → is_endless (ups_of things) p ≡ b → path_at things (n + 1) p ≡ path_at things (n + 2) p
      by true e =
          let one : n + 1 ≡ suc n = omega arith in
          let two : n + 2 ≡ suc (suc n) = omega arith in
          ap (λ (k : ℕ). path_at things k p) one ∙ path_at-endless n p folder e ∙ sym (path_at-endless (suc n) p folder e) ∙ ap (λ (k : ℕ). path_at things k p) (sym two)
      by false e =
          let ended : steps (ups_of things) n p ≡ None = ap (λ (k : ℕ). steps (ups_of things) k p) is ∙ ended-is (ups_of things) p e in
          path_at-more n p 1 ended ∙ sym (path_at-more n p 2 ended)

  by-path : (n i : ℕ) → n ≡ 2 ^ 32 → (o : Option ℕ) → place_at (ups_of things) i ≡ o → path_by things i o (path_at things (n + 1)) ≡ path_by things i o (path_at things (n + 2))
  by-path n i is None up = refl
  by-path n i is (Some p) up = ap (path_in things i) (same-above n p is (up-is things i p up).folder)

  path-by : (n i : ℕ) → n ≡ 2 ^ 32 → path_at things (n + 2) i ≡ path_by things i (place_at (ups_of things) i) (path_at things (n + 2))
  path-by n i is =
      let two : n + 2 ≡ suc (n + 1) = omega arith in
      ap (λ (k : ℕ). path_at things k i) two ∙ path_at-suc things (n + 1) i ∙ by-path n i is (place_at (ups_of things) i) refl

  -- the law of paths
  pub path-is : (i : ℕ) → path things i ≡ path_by things i (place_at (ups_of things) i) (path things)
  unfolding path
  path-is i = path-by (2 ^ 32) i refl

  pub path-top : (i : ℕ) → place_at (ups_of things) i ≡ None → path things i ≡ (if (thing_at things i).parent == 2 then entry_at things i else lost_at things i)
  path-top i up = path-is i ∙ ap (λ (o : Option ℕ). path_by things i o (path things)) up

  pub path-inner : (i p : ℕ) → place_at (ups_of things) i ≡ Some p → path things i ≡ path_in things i (path things p)
  path-inner i p up = path-is i ∙ ap (λ (o : Option ℕ). path_by things i o (path things)) up

  pub path-endless : (i : ℕ) → is_folder_at things i ≡ true → is_endless (ups_of things) i ≡ true → path things i ≡ lost_at things i
  path-endless i folder endless = path-is i ∙ by-endless i (path things) folder endless (place_at (ups_of things) i) refl

  -- where the paths of all folders are known
  ready-by : (paths : List (Option (String Global))) → AreKnown things paths → (i : ℕ) (o : Option ℕ) → place_at (ups_of things) i ≡ o → IfSome o (IsKnown paths)
  ready-by paths known i None up = tt
  ready-by paths known i (Some p) up = let above = up-is things i p up in known p above.below above.folder

  pub ready-known : (paths : List (Option (String Global))) → AreKnown things paths → (i : ℕ) → IsReady things paths i
  ready-known paths known i = ready-by paths known i (place_at (ups_of things) i) refl

-- ---- texts of entries

pub entry-is : (things : List Thing) (entries : List (String Global)) (i : ℕ) (entry : String Global) → map string_bytes entries ≡ entries_of things → i < length things
    → entry ≡ slice_index_or entries i entry → string_bytes entry ≡ entry_at things i
entry-is things entries i entry are within is =
    let all : length entries ≡ length things = sym (length-map entries string_bytes) ∙ ap (λ (l : List (List ℕ)). length l) are ∙ length-entries things in
    ap string_bytes is
    ∙ sym (get_or-map string_bytes entries i entry [] (omega (arith, all)))
    ∙ ap (λ (l : List (List ℕ)). slice_index_or l i []) are

pub entries-all : (things : List Thing) (entries : List (String Global)) → map string_bytes entries ≡ entries_of things → length entries ≡ length things
entries-all things entries are = sym (length-map entries string_bytes) ∙ ap (λ (l : List (List ℕ)). length l) are ∙ length-entries things

-- ---- a path that is known

pub within-by : (things : List Thing) (i : ℕ) (o : Option ℕ) → o ≡ place_at (ups_of things) i → IfSome o (λ p. p < length things)
within-by things i None is = tt
within-by things i (Some p) is = (up-is things i p (sym is)).below

pub known-is : (o : Option (String Global)) (bytes known : List ℕ) → IfSome o (λ text. string_bytes text ≡ bytes) → IfSome o (λ text. string_bytes text ≡ known) → is_some o ≡ true → bytes ≡ known
known-is None bytes known is right some = absurd (true≢false (sym some))
known-is (Some text) bytes known is right some = sym is ∙ right
