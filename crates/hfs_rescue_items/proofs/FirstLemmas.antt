-- The first of numbers that passes a test, looked for one after the other.
use Rattle.std.proofs.Common.{◌≡◌, ◌∙◌, ℕ, suc, ◌+◌, ◌-◌, ◌<◌, ◌≤◌, Bool, true, false, Option, None, Some, refl, ap, arith}
use Rattle.std.specs.Prelude.{if◌then◌else◌}
use Rattle.hfs_rescue_items.specs.Paths.{first_from}

module _ (test : ℕ → Bool) (i n : ℕ) where
  one : (k : ℕ) → first_from test i (suc k) ≡ (if test i then Some i else first_from test (i + 1) k)
  unfolding first_from
  one k = refl

  split : i < n → first_from test i (n - i) ≡ (if test i then Some i else first_from test (i + 1) (n - (i + 1)))
  split within =
      let less : n - i ≡ suc (n - (i + 1)) = omega (arith, within) in
      ap (first_from test i) less ∙ one (n - (i + 1))

  -- this one passes
  pub first_here : i < n → test i ≡ true → first_from test i (n - i) ≡ Some i
  first_here within is = split within ∙ ap (λ (b : Bool). if b then Some i else first_from test (i + 1) (n - (i + 1))) is

  -- this one doesn't
  pub first_later : i < n → test i ≡ false → first_from test i (n - i) ≡ first_from test (i + 1) (n - (i + 1))
  first_later within is = split within ∙ ap (λ (b : Bool). if b then Some i else first_from test (i + 1) (n - (i + 1))) is

  -- none is left
  pub first_none : n ≤ i → first_from test i (n - i) ≡ None
  unfolding first_from
  first_none past = ap (first_from test i) (let none : n - i ≡ 0 = omega (arith, past) in none)
