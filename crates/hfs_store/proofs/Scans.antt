-- What a scan of a list finds.
use Rattle.std.proofs.Common.{◌≡◌, ℕ, [], ◌∷◌, arith, ◌<◌, Bool, true, false, cond, List, length, ltb, refl, sym, ◌∙◌, ap, subst, Option, Some, None}
use Rattle.std.specs.List.{find, position, position_or_len}
use Rattle.std.proofs.lemmas.List.Folds.{find_at}
use Rattle.std.proofs.lemmas.Option.{slice_get-get_or, slice_get_past}
use Rattle.std.proofs.lemmas.Bool.{ltb-true, ltb-false}
use Rattle.std.specs.Option.{is_some}
use Rattle.hfs_store.specs.Found.{FoundAt}

pub found : {A : Type 0} (p : A → Bool) (xs : List A) (r : Option ℕ) → r ≡ position p xs → FoundAt p xs r
found p xs r is = subst (λ (o : Option ℕ). FoundAt p xs o) (sym is) (elim (ltb (position_or_len p xs) (length xs)) as (λ b. ltb (position_or_len p xs) (length xs) ≡ b → FoundAt p xs (cond b (Some (position_or_len p xs)) None)) [
  | true ↦ λ e. let below : position_or_len p xs < length xs = ltb-true _ _ e in (below, λ d. find_at p xs ∙ slice_get-get_or xs (position_or_len p xs) d below)
  | false ↦ λ e. find_at p xs ∙ slice_get_past xs (position_or_len p xs) (ltb-false _ _ e)
] refl)

pub is_some_found : {A : Type 0} (p : A → Bool) (xs : List A) (r : Option ℕ) → FoundAt p xs r → is_some r ≡ is_some (find p xs)
is_some_found p xs None is = ap is_some (sym is)
is_some_found p [] (Some i) is = absurd (omega (arith, is.0))
is_some_found p (x ∷ xs) (Some i) is = ap is_some (sym (is.1 x))
