-- Names on the way up.
use Rattle.std.proofs.Common.{◌≡◌, ℕ, zero, suc, ◌<◌, ◌≤◌, List, [], ◌∷◌, ◌++◌, length, Option, Some, None, refl, sym, ap, ◌∙◌, arith}
use Rattle.std.specs.Prelude.{reverse, IfSome}
use Rattle.std.proofs.lemmas.List.{append-nil, append_assoc, reverse-append}
use Rattle.hfs_remains_places.specs.declared.things.Thing.{Thing}
use Rattle.hfs_remains_places.specs.Folders.{nothing, thing_at}
use Rattle.hfs_remains_places.specs.Chains.{place_at, ups_of}
use Rattle.hfs_remains_places.specs.Names.{names_up}
use Rattle.hfs_remains_places.specs.Paths.{is_root, root_of}
use Rattle.hfs_remains_places.proofs.FolderLemmas.{position-holds}

-- a row with one name behind it, turned
pub turned : (names : List (List ℕ)) (name : List ℕ) → reverse (names ++ name ∷ []) ≡ name ∷ reverse names
turned names name = reverse-append names (name ∷ [])

-- the root is one of the things
pub root_within : (things : List Thing) (root : ℕ) → root_of things ≡ Some root → root < length things
root_within things root is =
    let at = position-holds is_root 0 things root is in
    omega (arith, at.within, at.place)

module _ (things : List Thing) where
  pub names-none : (k : ℕ) → names_up things k None ≡ []
  unfolding names_up
  names-none zero = refl
  names-none (suc k) = refl

  pub names-more : (k i : ℕ) → names_up things (suc k) (Some i) ≡ (thing_at things i).name ∷ names_up things k (place_at (ups_of things) i)
  unfolding names_up
  names-more k i = refl

  pub names-left : (k : ℕ) (at : Option ℕ) → k ≤ 0 → names_up things k at ≡ []
  unfolding names_up
  names-left zero at none = refl
  names-left (suc k) at none = absurd (omega (arith, none))

-- no folder is above
pub names_ended : (things : List Thing) (left : ℕ) (at : Option ℕ) (names whole : List (List ℕ)) → names ++ names_up things left at ≡ whole → at ≡ None → names ≡ whole
names_ended things left at names whole so none =
    sym (append-nil names) ∙ ap (λ (l : List (List ℕ)). names ++ l) (sym (ap (names_up things left) none ∙ names-none things left)) ∙ so

-- no step is left
pub names_left : (things : List Thing) (left : ℕ) (at : Option ℕ) (names whole : List (List ℕ)) → names ++ names_up things left at ≡ whole → left ≤ 0 → names ≡ whole
names_left things left at names whole so none = sym (append-nil names) ∙ ap (λ (l : List (List ℕ)). names ++ l) (sym (names-left things left at none)) ∙ so

-- one name more
pub names_step : (things : List Thing) (left left' : ℕ) (at : Option ℕ) (i : ℕ) (names names' whole : List (List ℕ)) (at' : Option ℕ)
    → names ++ names_up things left at ≡ whole → left ≡ suc left' → at ≡ Some i → names' ≡ names ++ (thing_at things i).name ∷ [] → at' ≡ place_at (ups_of things) i
    → names' ++ names_up things left' at' ≡ whole
names_step things left left' at i names names' whole at' so one some more up =
    let name = (thing_at things i).name in
    (λ t. more t ++ names_up things left' (up t))
    ∙ append_assoc names (name ∷ []) (names_up things left' (place_at (ups_of things) i))
    ∙ ap (λ (l : List (List ℕ)). names ++ l) (sym ((λ t. names_up things (one t) (some t)) ∙ names-more things left' i))
    ∙ so
