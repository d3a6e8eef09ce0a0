-- What is said of an answer, once it is known which it is.
use Rattle.std.proofs.Common.{◌≡◌, Result, Ok, Err, subst}
use Rattle.std.specs.Prelude.{MatchResult, IfOk}

pub at_ok : {A E : Type 0} (P : A → Type 0) (Q : E → Type 0) (r : Result A E) (x : A) → r ≡ Ok x → MatchResult r P Q → P x
at_ok {A = A} {E = E} P Q r x e h = subst (λ (s : Result A E). MatchResult s P Q) e h

pub at_err : {A E : Type 0} (P : A → Type 0) (Q : E → Type 0) (r : Result A E) (x : E) → r ≡ Err x → MatchResult r P Q → Q x
at_err {A = A} {E = E} P Q r x e h = subst (λ (s : Result A E). MatchResult s P Q) e h

pub if_ok : {A E : Type 0} (P : A → Type 0) (r : Result A E) (x : A) → r ≡ Ok x → IfOk r P → P x
if_ok {A = A} {E = E} P r x e h = subst (λ (s : Result A E). IfOk s P) e h
