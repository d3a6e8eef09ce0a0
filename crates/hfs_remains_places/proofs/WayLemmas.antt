-- Where nothing is lost and no two things are called the same, a thing's path is the host path of the names that lead to it.
use Rattle.std.proofs.Common.{◌≡◌, ℕ, ◌+◌, ◌-◌, ◌^◌, ◌<◌, ◌≤◌, Bool, true, false, ◌&&◌, ◌||◌, nat_lt, if◌then◌else◌, List, [], ◌∷◌, ◌++◌, length, codes, Some, None, refl, sym, ap, subst, ◌∙◌, arith}
use Rattle.std.specs.Prelude.{flat_map, reverse}
use Rattle.std.specs.Option.{option_and_then, is_some}
use Rattle.std.proofs.lemmas.Bool.{eq-eqb, le-ltb, or_from}
use Rattle.std.proofs.lemmas.Grind.{flat_map-append}
use Rattle.std.proofs.lemmas.List.{append-nil, append_assoc, length-reverse, reverse-append}
use Rattle.hfs_texts.specs.HostNames.{host_name}
use Rattle.hfs_texts.specs.MacPaths.{host_path}
use Rattle.hfs_texts.proofs.HostNameLemmas.{host-names}
use Rattle.hfs_remains_places.specs.declared.things.Thing.{Thing}
use Rattle.hfs_remains_places.specs.Folders.{thing_at, place_of}
use Rattle.hfs_remains_places.specs.Entries.{suffix}
use Rattle.hfs_remains_places.specs.Chains.{place_at, ups_of, steps, is_endless}
use Rattle.hfs_remains_places.specs.Paths.{entry_at, is_folder_at, lost_at, within, path}
use Rattle.hfs_remains_places.proofs.ChainLemmas.{steps-suc, steps-add, steps-none, up-of}
use Rattle.hfs_remains_places.proofs.PathLemmas.{path-top, path-inner, up-is}
use Rattle.hfs_remains_places.specs.Laws.{AreThings, HasWay, HaveOwnNames, AreWaysShort, PathsAreHostPaths}
use Rattle.hfs_remains_places.proofs.LawLemmas.{length-within}
use Rattle.hfs_remains_places.proofs.ApartLemmas.{entry-forms, some-text}

-- ---- host paths

abbrev behind-slash : List ℕ → List ℕ
behind-slash name = codes "/" ++ host_name name

pub one-name : (name : List ℕ) → host_path (name ∷ []) ≡ host_name name
unfolding host_path
one-name name = append-nil (host_name name)

-- one name more
pub more-names : (names : List (List ℕ)) (name : List ℕ) → 0 < length names → host_path (names ++ name ∷ []) ≡ within (host_path names) (host_name name)
unfolding host_path within
more-names [] name some = absurd (omega (arith, some))
more-names (first ∷ names) name some =
    ap (λ (l : List ℕ). host_name first ++ l) (flat_map-append behind-slash names (name ∷ []) ∙ ap (λ (l : List ℕ). flat_map behind-slash names ++ l) (append-nil (behind-slash name)))
    ∙ sym (append_assoc (host_name first) (flat_map behind-slash names) (behind-slash name))

pub turned : (name : List ℕ) (names : List (List ℕ)) → reverse (name ∷ names) ≡ reverse names ++ name ∷ []
turned name names = reverse-append (name ∷ []) names

-- ---- ways

some_none : (p : ℕ) → Some p ≡ None → ⊥
some_none p e = cc

module _ (things : List Thing) (are : AreThings things) (own : HaveOwnNames things) where
  entry-is-name : (i : ℕ) → i < length things → entry_at things i ≡ host_name (thing_at things i).name
  entry-is-name i inside =
      entry-forms things i inside
      ∙ ap (λ (b : Bool). if b then host_name (thing_at things i).name ++ suffix i (thing_at things i) else host_name (thing_at things i).name) (own i inside)

  -- in the payload itself there is no folder above
  top-up : (i : ℕ) → i < length things → (thing_at things i).parent ≡ 2 → place_at (ups_of things) i ≡ None
  top-up i inside two = up-of things i inside ∙ ap (λ (b : Bool). if b then None else place_of things (thing_at things i).parent) (eq-eqb (thing_at things i).parent 2 two)

  -- a way ends
  way-ends : (names : List (List ℕ)) (i : ℕ) → i < length things → HasWay things names i → steps (ups_of things) (length names) i ≡ None
  way-ends [] i inside way = absurd way
  way-ends (n ∷ []) i inside way = steps-none (ups_of things) 1 i (omega arith) (top-up i inside way.1)
  way-ends (n ∷ m ∷ names) i inside way =
      steps-suc (ups_of things) (length (m ∷ names)) i
      ∙ ap (option_and_then (steps (ups_of things) (length (m ∷ names)))) way.2
      ∙ way-ends (m ∷ names) way.1 (up-is things i way.1 way.2).below way.3

  -- and has no more names than bytes
  pub way-long : (names : List (List ℕ)) (i : ℕ) → i < length things → HasWay things names i → length names ≤ length (host_path (reverse names))
  way-long [] i inside way = absurd way
  way-long (n ∷ []) i inside way =
      let some : 0 < length (host_name n) =
      subst (λ (l : List ℕ). 0 < length (host_name l)) way.0 (some-text (host_name (thing_at things i).name) (host-names.safe (thing_at things i).name (are.each i inside).bytes).not_empty) in
      omega (arith, some, ap length (one-name n))
  way-long (n ∷ m ∷ names) i inside way =
      let p = way.1 in
      let rest = way-long (m ∷ names) p (up-is things i p way.2).below way.3 in
      let longer : 0 < length (reverse (m ∷ names)) = omega (arith, length-reverse (m ∷ names)) in
      let whole : host_path (reverse (n ∷ m ∷ names)) ≡ within (host_path (reverse (m ∷ names))) (host_name n) = ap host_path (turned n (m ∷ names)) ∙ more-names (reverse (m ∷ names)) n longer in
      omega (arith, rest, ap length whole, length-within (host_path (reverse (m ∷ names))) (host_name n))

  not-endless : (names : List (List ℕ)) (i : ℕ) → i < length things → HasWay things names i → length names ≤ 2 ^ 32 → is_endless (ups_of things) i ≡ false
  unfolding is_endless
  not-endless names i inside way few =
      let rest : ℕ = 2 ^ 32 - length names in
      let all : 2 ^ 32 ≡ length names + rest = omega (arith, few) in
      ap (λ (k : ℕ). is_some (steps (ups_of things) k i)) all
      ∙ ap is_some (steps-add (ups_of things) (length names) rest i ∙ ap (option_and_then (steps (ups_of things) rest)) (way-ends names i inside way))

  module _ (short : AreWaysShort things) where
    -- it lies in its folder
    not-cut : (names : List (List ℕ)) (i above : ℕ) → i < length things → HasWay things names i → length (host_path (reverse names)) ≡ above + 1 + length (entry_at things i)
        → (b : Bool) → is_folder_at things i ≡ b → (b && (is_endless (ups_of things) i || nat_lt 800 (above + 1 + length (entry_at things i)))) ≡ false
    not-cut names i above inside way whole true folder =
        let few : length (host_path (reverse names)) ≤ 800 = short i names inside folder way in
        or_from (is_endless (ups_of things) i) (nat_lt 800 (above + 1 + length (entry_at things i)))
        (not-endless names i inside way (omega (arith, few, way-long names i inside way)))
        (le-ltb 800 (above + 1 + length (entry_at things i)) (omega (arith, few, whole)))
    not-cut names i above inside way whole false folder = refl

    pub way-path : (names : List (List ℕ)) (i : ℕ) → i < length things → HasWay things names i → path things i ≡ host_path (reverse names)
    way-path [] i inside way = absurd way
    way-path (n ∷ []) i inside way =
        path-top things i (top-up i inside way.1)
        ∙ ap (λ (b : Bool). if b then entry_at things i else lost_at things i) (eq-eqb (thing_at things i).parent 2 way.1)
        ∙ entry-is-name i inside
        ∙ ap host_name way.0
        ∙ sym (one-name n)
    way-path (n ∷ m ∷ names) i inside way =
        let p = way.1 in
        let above = way-path (m ∷ names) p (up-is things i p way.2).below way.3 in
        let longer : 0 < length (reverse (m ∷ names)) = omega (arith, length-reverse (m ∷ names)) in
        let entry : entry_at things i ≡ host_name n = entry-is-name i inside ∙ ap host_name way.0 in
        let whole : host_path (reverse (n ∷ m ∷ names)) ≡ within (host_path (reverse (m ∷ names))) (host_name n) = ap host_path (turned n (m ∷ names)) ∙ more-names (reverse (m ∷ names)) n longer in
        let lies : within (path things p) (entry_at things i) ≡ host_path (reverse (n ∷ m ∷ names)) = (λ t. within (above t) (entry t)) ∙ sym whole in
        let count : length (host_path (reverse (n ∷ m ∷ names))) ≡ length (path things p) + 1 + length (entry_at things i) = sym (ap length lies) ∙ length-within (path things p) (entry_at things i) in
        path-inner things i p way.2
        ∙ ap (λ (b : Bool). if b then lost_at things i else within (path things p) (entry_at things i))
        (not-cut (n ∷ m ∷ names) i (length (path things p)) inside way count (is_folder_at things i) refl)
        ∙ lies

pub host-paths-are : PathsAreHostPaths
host-paths-are things are own short i names inside way = way-path things are own short names i inside way
