-- What stands before the first character that passes a test.
use Rattle.std.proofs.Common.{◌≡◌, sym, ap, refl, ℕ, Bool, true, false, cond, Some, None, List, length, take}
use Rattle.std.specs.Prelude.{nat_lt}
use Rattle.std.specs.List.{position, position_or_len, before_first}
use Rattle.std.proofs.lemmas.Bool.{ltb-false}
use Rattle.std.proofs.lemmas.List.{take_all}

of-some : (b : Bool) (n i : ℕ) → cond b (Some n) None ≡ Some i → i ≡ n
of-some true n i e = cc
of-some false n i e = cc

of-none : (b : Bool) (n : ℕ) → cond b (Some n) None ≡ None → b ≡ false
of-none true n e = cc
of-none false n e = refl

pub before_first-at : (p : ℕ → Bool) (xs : List ℕ) (i : ℕ) → Some i ≡ position p xs → take i xs ≡ before_first p xs
before_first-at p xs i e =
    ap (λ k. take k xs) (of-some (nat_lt (position_or_len p xs) (length xs)) (position_or_len p xs) i (sym e))

pub before_first-none : (p : ℕ → Bool) (xs : List ℕ) → None ≡ position p xs → xs ≡ before_first p xs
before_first-none p xs e =
    let no : nat_lt (position_or_len p xs) (length xs) ≡ false = of-none _ (position_or_len p xs) (sym e) in
    sym (take_all (position_or_len p xs) xs (ltb-false _ _ no))
