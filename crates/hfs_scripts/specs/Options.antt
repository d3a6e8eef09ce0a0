-- A step after a step that may give nothing.
use Rattle.std.specs.Prelude.{Option, Some, None}

-- the second step on what the first gave, if it gave anything
infixl 10 ◌>>=◌
abbrev pub ◌>>=◌ : {A B : Type 0} → Option A → (A → Option B) → Option B
Some x >>= f = f x
None >>= f = None
