-- Pieces that are appended one after the other.
use Rattle.std.proofs.Common.{◌≡◌, ℕ, List, ◌++◌, ap, ◌∙◌, OnOk}
use Rattle.std.specs.declared.result.Result.{Result}
use Rattle.std.specs.declared.result.Result.TheVariants.{Ok, Err}
use Rattle.std.proofs.lemmas.List.{append_assoc}

pub joined : (p q n x y : List ℕ) → q ≡ p ++ x → n ≡ q ++ y → n ≡ p ++ (x ++ y)
joined p q n x y e h = h ∙ ap (λ l. l ++ y) e ∙ append_assoc p x y

pub joined-ok : {A E : Type 0} (r : Result A E) (p q n x y : List ℕ) → q ≡ p ++ x → OnOk r (n ≡ q ++ y) → OnOk r (n ≡ p ++ (x ++ y))
joined-ok (Ok a) p q n x y e h = joined p q n x y e h
joined-ok (Err f) p q n x y e h = tt
