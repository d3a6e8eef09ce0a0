-- Results that are the same but for their values, which are related.
use Rattle.std.proofs.Common.{◌≡◌, Result, Ok, Err, refl, ap}
use Rattle.hfs_model.specs.declared.reply.Reply.{Reply}
use Rattle.hfs_put_plan.specs.Accepted.{next}
use Rattle.hfs_put_plan.specs.Put.{at_place}
use Rattle.std.proofs.Common.{ℕ}

-- both values are related, or both refusals are the same
abbrev pub Related : {A B E : Type 0} → (A → B → Type 0) → Result A E → Result B E → Type 0
Related R (Ok a) (Ok b) = R a b
Related R (Err x) (Err y) = y ≡ x
Related R (Ok a) (Err y) = ⊥
Related R (Err x) (Ok b) = ⊥

pub next-related : {A B C D E : Type 0} (R : A → B → Type 0) (S : C → D → Type 0) (r : Result A E) (s : Result B E) (f : A → Result C E) (h : B → Result D E)
    → Related R r s → ((a : A) (b : B) → R a b → Related S (f a) (h b)) → Related S (next r f) (next s h)
next-related R S (Ok a) (Ok b) f h related more = more a b related
next-related R S (Err x) (Err y) f h related more = related
next-related R S (Ok a) (Err y) f h related more = absurd related
next-related R S (Err x) (Ok b) f h related more = absurd related

pub at-related : {A B : Type 0} (R : A → B → Type 0) (place : ℕ) (r : Result A Reply) (s : Result B Reply) → Related R r s → Related R (at_place place r) (at_place place s)
at-related R place (Ok a) (Ok b) related = related
at-related R place (Err x) (Err y) related = ap (λ (reply : Reply). record { place = place; reply = reply }) related
at-related R place (Ok a) (Err y) related = absurd related
at-related R place (Err x) (Ok b) related = absurd related

-- what is related to a value is one
pub related-ok : {A B E : Type 0} (R : A → B → Type 0) (a : A) (s : Result B E) → Related R (Ok a) s → (b : B) × (s ≡ Ok b) × R a b
related-ok R a (Ok b) related = (b, refl, related)
related-ok R a (Err y) related = absurd related
