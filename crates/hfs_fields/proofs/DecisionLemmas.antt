-- What a test that came out says.
use Rattle.std.proofs.Common.{Bool, ◌≡◌, true, ℕ, ◌≤◌, cond, ◌||◌, refl, false, ◌&&◌, ap, ◌∙◌}
use Rattle.std.specs.Bool.{Decides, IsTrue}
use Rattle.std.specs.Prelude.{nat_le}
use Rattle.std.proofs.lemmas.Bool.{leb-true, le-leb}

pub itself : (b : Bool) → Decides b (IsTrue b)
itself b = (λ (e : b ≡ true). e, λ (e : b ≡ true). e)

pub Decides-leb : (a b : ℕ) → Decides (nat_le a b) (a ≤ b)
Decides-leb a b = (λ (e : nat_le a b ≡ true). leb-true a b e, λ (h : a ≤ b). le-leb a b h)

pub or_there : (here there : Bool) → cond here true there ≡ (there || here)
or_there true true = refl
or_there true false = refl
or_there false true = refl
or_there false false = refl

pub both_true : (a b : Bool) → a ≡ true → b ≡ true → (a && b) ≡ true
both_true a b e f = ap (λ x. x && b) e ∙ f
