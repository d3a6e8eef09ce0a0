-- The places in a folder.
use Rattle.std.proofs.Common.{◌≡◌, ◌≢◌, ℕ, suc, ◌<◌, List, [], ◌∷◌, ◌++◌, refl, sym, ap, ◌∙◌, subst, append_assoc, inl, inr, length, length-append, get_or, take, drop, take-append-drop, arith, Result, Ok, Err}
use Rattle.std.specs.Prelude.{◌==◌, codes, IfOk, String, string_bytes}
use Rattle.std.specs.Str.{NoCharPasses}
use Rattle.std.specs.Str.Pattern.{RFindsChar, SplitsAroundMatch}
use Rattle.std.proofs.lemmas.Str.Pattern.{NoCharPasses-char, drop_at_char}
use Rattle.std.proofs.lemmas.List.Concat.{flat_map-append}
use Rattle.hfs_bag.specs.Laws.{AreParts, HasNo, IsInside, IsPart, folder_path}
use Rattle.hfs_bag.specs.ShelfPaths.{path_within}
use Rattle.hfs_bag.specs.Removals.{IsFolderOrBelow}
use Rattle.hfs_bag.specs.Tries.{IsAround, path_below, place_at}
use Rattle.hfs_bag.proofs.PathLemmas.{behind_first, first_of, inside_top}

within_twice : (folder a b : List ℕ) → path_within (path_within folder a) b ≡ path_within folder (path_within a b)
unfolding path_within
within_twice folder a b = append_assoc folder (codes "/" ++ a) (codes "/" ++ b)

parts_both : (xs ys : List (List ℕ)) → AreParts xs → AreParts ys → AreParts (xs ++ ys)
parts_both [] ys left right = right
parts_both (x ∷ xs) ys left right = (left.0, parts_both xs ys left.1 right)

-- a path down from where a path down leads
path_twice : (a b last : List ℕ) (above : List (List ℕ)) → path_within (a ++ b) (folder_path above ++ last) ≡ (a ++ ((b ++ codes "/") ++ folder_path above)) ++ last
unfolding path_within
path_twice a b last above = simp append_assoc

inside_twice : (a b : List ℕ) → IsInside a → IsInside b → IsInside (path_within a b)
inside_twice a b first second = record {
  above = first.above ++ first.last ∷ second.above;
  last = second.last;
  path_is = ap (λ (x : List ℕ). path_within x b) first.path_is ∙ ap (path_within (folder_path first.above ++ first.last)) second.path_is
      ∙ path_twice (folder_path first.above) first.last second.last second.above
      ∙ ap (λ (x : List ℕ). x ++ second.last) (sym (flat_map-append (λ (part : List ℕ). part ++ codes "/") first.above (first.last ∷ second.above)));
  above_are = parts_both first.above (first.last ∷ second.above) first.above_are (first.last_is, second.above_are);
  last_is = second.last_is;
}

pub below_twice : (folder inner path : List ℕ) → IsFolderOrBelow folder inner → IsFolderOrBelow inner path → IsFolderOrBelow folder path
below_twice folder inner path is (inl same) = subst (IsFolderOrBelow folder) (sym same) is
below_twice folder inner path (inl same) (inr below) = inr (below.0, below.1, below.2 ∙ ap (λ (f : List ℕ). path_within f below.0) same)
below_twice folder inner path (inr is) (inr below) =
    inr (path_within is.0 below.0, inside_twice is.0 below.0 is.1 below.1, below.2 ∙ ap (λ (f : List ℕ). path_within f below.0) is.2 ∙ within_twice folder is.0 below.0)

-- what has a name in it
pub below_within : (folder place name : List ℕ) → IsFolderOrBelow folder place → IsPart name → IsFolderOrBelow folder (path_within place name)
below_within folder place name is part = below_twice folder place (path_within place name) is (inr (name, inside_top name part, refl))

-- ---- places by the names that lead to them, the last one first

abbrev pub place_of : List ℕ → List (List ℕ) → List ℕ
place_of folder [] = folder
place_of folder (name ∷ above) = path_within (place_of folder above) name

abbrev pub inner_of : List (List ℕ) → List ℕ
inner_of [] = []
inner_of (name ∷ above) = path_below (inner_of above) name

place_below : (folder inner name : List ℕ) → name ≢ [] → place_at folder (path_below inner name) ≡ path_within (place_at folder inner) name
unfolding path_within
place_below folder [] [] some = absurd (some refl)
place_below folder [] (c ∷ name) some = refl
place_below folder (d ∷ inner) name some = sym (append_assoc folder (codes "/" ++ d ∷ inner) (codes "/" ++ name))

pub place_is : (folder : List ℕ) (names : List (List ℕ)) → AreParts names → place_at folder (inner_of names) ≡ place_of folder names
place_is folder [] parts = refl
place_is folder (name ∷ above) parts = place_below folder (inner_of above) name parts.0.not_empty ∙ ap (λ (p : List ℕ). path_within p name) (place_is folder above parts.1)

pub place_below_folder : (folder : List ℕ) (names : List (List ℕ)) → AreParts names → IsFolderOrBelow folder (place_of folder names)
place_below_folder folder [] parts = inl refl
place_below_folder folder (name ∷ above) parts = below_within folder (place_of folder above) name (place_below_folder folder above parts.1) parts.0

-- a place in another has the longer path
pub longer : (place name : List ℕ) → length place < length (path_within place name)
unfolding path_within
longer place name = omega (arith, length-append place (codes "/" ++ name), length-append (codes "/") name)

-- ---- what is around a place

has_slash : (front back : List ℕ) → HasNo 47 (front ++ 47 ∷ back) → ⊥
has_slash [] back none = none.0 refl
has_slash (c ∷ front) back none = has_slash front back none.1

-- a text is cut at its last slash in one way
same_front : (a b x y : List ℕ) → HasNo 47 x → HasNo 47 y → a ++ 47 ∷ x ≡ b ++ 47 ∷ y → a ≡ b
same_front [] [] x y x-none y-none e = refl
same_front [] (d ∷ b) x y x-none y-none e = absurd (has_slash b y (subst (HasNo 47) (ap behind_first e) x-none))
same_front (c ∷ a) [] x y x-none y-none e = absurd (has_slash a x (subst (HasNo 47) (sym (ap behind_first e)) y-none))
same_front (c ∷ a) (d ∷ b) x y x-none y-none e =
    ap (λ (k : ℕ). k ∷ a) (ap first_of e) ∙ ap (λ (rest : List ℕ). d ∷ rest) (same_front a b x y x-none y-none (ap behind_first e))

none_at : (text : List ℕ) → ((k : ℕ) → k < length text → get_or text k 0 ≢ 47) → HasNo 47 text
none_at [] none = tt
none_at (c ∷ text) none = (none 0 (omega arith), none_at text (λ k below. none (suc k) (omega (arith, below))))

around_of : (inner front back above name : List ℕ) → inner ≡ front ++ 47 ∷ back → HasNo 47 back → HasNo 47 name → inner ≡ path_below above name → front ≡ above
unfolding path_within
around_of inner front back [] name cut back-none none is = absurd (has_slash front back (subst (HasNo 47) (sym is ∙ cut) none))
around_of inner front back (c ∷ above) name cut back-none none is = same_front front (c ∷ above) back name back-none none (sym cut ∙ is)

pub around_cut : (inner front back : List ℕ) → SplitsAroundMatch (RFindsChar 47) inner front back → IsAround inner front
around_cut inner front back (i, j, finds, front_is, back_is, some, front_long, back_long) above name none is =
    around_of inner front back above name
    (sym (take-append-drop i inner) ∙ ap (λ (xs : List ℕ). take i inner ++ xs) (drop_at_char 47 inner i j finds.1 (omega arith)) ∙ ap (λ (xs : List ℕ). xs ++ 47 ∷ drop j inner) (sym front_is)
    ∙ ap (λ (xs : List ℕ). front ++ 47 ∷ xs) (sym back_is))
    (subst (HasNo 47) (sym back_is) (none_at (drop j inner) (λ k below. NoCharPasses-char 47 (drop j inner) k finds.0 (omega arith) below)))
    none is

pub around_none : (inner around : List ℕ) → NoCharPasses (λ d. d == 47) inner → around ≡ [] → IsAround inner around
unfolding path_within
around_none inner around lacking empty [] name none is = empty
around_none inner around lacking empty (c ∷ above) name none is =
    absurd (has_slash (c ∷ above) name (subst (HasNo 47) is (none_at inner (λ k below. NoCharPasses-char 47 inner k lacking (omega arith) below))))

pub around_told : {Z E : Type 0} (inner front : List ℕ) (came : Result (String Z) E) → IsAround inner front → IfOk came (λ t. string_bytes t ≡ front) → IfOk came (λ around. IsAround inner (string_bytes around))
around_told inner front (Ok t) is same = subst (IsAround inner) (sym same) is
around_told inner front (Err e) is same = tt
