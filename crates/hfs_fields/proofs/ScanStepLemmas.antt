-- The steps of a scan by places.
use Rattle.std.proofs.Common.{◌≡◌, ℕ, ◌+◌, ◌<◌, ◌≤◌, Bool, true, false, cond, List, [], ◌∷◌, ◌++◌, length, get_or, take, drop, sym, ap, ◌∙◌, arith, Some, None}
use Rattle.std.proofs.lemmas.List.{drop_more, drop_all, take_more, length-take-le}
use Rattle.hfs_fields.specs.First.{first_failing}

module _ {X : Type 0} (test : List X → X → Bool) (xs : List X) (i : ℕ) where
  step : (d : X) → i < length xs → first_failing test (take i xs) (drop i xs) ≡ cond (test (take i xs) (get_or xs i d)) (first_failing test (take i xs ++ get_or xs i d ∷ []) (drop (i + 1) xs)) (Some (length (take i xs)))
  step d lt = ap (first_failing test (take i xs)) (drop_more xs i d lt)

  pub scan_stop : (x : X) → i < length xs → x ≡ get_or xs i x → test (take i xs) x ≡ false → first_failing test (take i xs) (drop i xs) ≡ Some i
  scan_stop x lt is h =
      step x lt ∙ ap (λ (y : X). cond (test (take i xs) y) (first_failing test (take i xs ++ y ∷ []) (drop (i + 1) xs)) (Some (length (take i xs)))) (sym is)
      ∙ ap (λ (b : Bool). cond b (first_failing test (take i xs ++ x ∷ []) (drop (i + 1) xs)) (Some (length (take i xs)))) h
      ∙ ap (λ (n : ℕ). Some n) (length-take-le i xs (omega arith))

  pub scan_go : (x : X) → i < length xs → x ≡ get_or xs i x → test (take i xs) x ≡ true → first_failing test (take i xs) (drop i xs) ≡ first_failing test (take (i + 1) xs) (drop (i + 1) xs)
  scan_go x lt is h =
      step x lt ∙ ap (λ (y : X). cond (test (take i xs) y) (first_failing test (take i xs ++ y ∷ []) (drop (i + 1) xs)) (Some (length (take i xs)))) (sym is)
      ∙ ap (λ (b : Bool). cond b (first_failing test (take i xs ++ x ∷ []) (drop (i + 1) xs)) (Some (length (take i xs)))) h
      ∙ ap (λ (before : List X). first_failing test before (drop (i + 1) xs)) (ap (λ (y : X). take i xs ++ y ∷ []) is ∙ sym (take_more xs i x lt))

  pub scan_end : length xs ≤ i → first_failing test (take i xs) (drop i xs) ≡ None
  scan_end le = ap (first_failing test (take i xs)) (drop_all i xs le)
