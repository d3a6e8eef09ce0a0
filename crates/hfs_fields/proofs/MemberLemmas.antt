-- Lemmas about the definitions of specs/Members.antt.
use Rattle.std.proofs.Common.{◌≡◌, ◌⊎◌, inl, inr, ⊎_elim, ℕ, zero, suc, ◌<◌, arith, length, get_or, Bool, true, false, cond, List, [], ◌∷◌, ◌++◌, refl, sym, ◌∙◌, ap, subst, Some}
use Rattle.std.specs.Prelude.{◌||◌}
use Rattle.std.specs.List.{find, list_any}
use Rattle.std.proofs.lemmas.Option.{none-some, same_Some}
use Rattle.hfs_fields.specs.Each.{Each}
use Rattle.hfs_fields.specs.Members.{In}

pub each_in : {A : Type 0} (P : A → Type 0) (xs : List A) (x : A) → Each P xs → In x xs → P x
each_in P [] x h i = absurd i
each_in P (y ∷ ys) x h i = ⊎_elim (λ (e : y ≡ x). subst P e h.0) (λ (there : In x ys). each_in P ys x h.1 there) i

-- what a search finds is there, and passes
pub found_in : {A : Type 0} (p : A → Bool) (xs : List A) (x : A) → find p xs ≡ Some x → In x xs × (p x ≡ true)
found_in p [] x is = absurd (none-some x is)
found_in p (y ∷ ys) x is = elim (p y) as (λ (b : Bool). p y ≡ b → cond b (Some y) (find p ys) ≡ Some x → In x (y ∷ ys) × (p x ≡ true)) [
  | true ↦ λ e here. (inl (same_Some y x here), sym (ap p (same_Some y x here)) ∙ e)
  | false ↦ λ e later. let rest = found_in p ys x later in (inr rest.0, rest.1)
] refl is

pub in-left : {A : Type 0} (x : A) (xs ys : List A) → In x xs → In x (xs ++ ys)
in-left x [] ys i = absurd i
in-left x (y ∷ xs) ys i = ⊎_elim (λ (here : y ≡ x). inl here) (λ (there : In x xs). inr (in-left x xs ys there)) i

pub in-right : {A : Type 0} (x : A) (xs ys : List A) → In x ys → In x (xs ++ ys)
in-right x [] ys i = i
in-right x (y ∷ xs) ys i = inr (in-right x xs ys i)

pub any-in : {A : Type 0} (p : A → Bool) (xs : List A) (x : A) → In x xs → p x ≡ true → list_any p xs ≡ true
any-in p [] x i e = absurd i
any-in {A} p (y ∷ xs) x i e = ⊎_elim
    (λ (here : y ≡ x). ap (λ (b : Bool). b || list_any p xs) (ap p here ∙ e))
    (λ (there : In x xs). ap (λ (b : Bool). p y || b) (any-in p xs x there e) ∙ both (p y))
    i
  where
    both : (b : Bool) → (b || true) ≡ true
    both true = refl
    both false = refl

pub in-at : {A : Type 0} (xs : List A) (k : ℕ) (d : A) → k < length xs → In (get_or xs k d) xs
in-at [] k d lt = absurd (omega (arith, lt))
in-at (x ∷ xs) zero d lt = inl refl
in-at (x ∷ xs) (suc k) d lt = inr (in-at xs k d (omega (arith, lt)))
