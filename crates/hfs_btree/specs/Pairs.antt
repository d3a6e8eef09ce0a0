-- Pairs of a key and a body, in the order of their keys.
use Rattle.std.specs.Prelude.{◌≡◌, ℕ, false, List, [], ◌∷◌, Option, Some, None, ⊤, if◌then◌else◌}
use Rattle.std.specs.declared.cmp.Ordering.{Ordering}
use Rattle.std.specs.declared.cmp.Ordering.TheVariants.{Less}
use Rattle.std.specs.Ordering.{is_eq, is_gt, is_lt}
use Rattle.hfs_fields.specs.Each.{Each}

abbrev pub Order : Type 0 → Type 0
Order K = K → K → Ordering

abbrev pub Pairs : Type 0 → Type 0
Pairs K = List (K × List ℕ)

-- the body under a key that is equal in the order
abbrev pub lookup : {K : Type 0} → Order K → K → Pairs K → Option (List ℕ)
lookup cmp key [] = None
lookup cmp key (p ∷ ps) = if is_eq (cmp key p.0) then Some p.1 else lookup cmp key ps

-- the first pair whose key is above this one
abbrev pub after : {K : Type 0} → Order K → K → Pairs K → Option (K × List ℕ)
after cmp key [] = None
after cmp key (p ∷ ps) = if is_lt (cmp key p.0) then Some p else after cmp key ps

-- the pairs from the first one on whose key isn't below this one
abbrev pub pairs_from : {K : Type 0} → Order K → K → Pairs K → Pairs K
pairs_from cmp key [] = []
pairs_from cmp key (p ∷ ps) = if is_gt (cmp key p.0) then pairs_from cmp key ps else p ∷ ps

-- each key is below each later one
abbrev pub Rises : {K : Type 0} → Order K → Pairs K → Type 0
Rises cmp [] = ⊤
Rises cmp (p ∷ ps) = Each (λ q. cmp p.0 q.0 ≡ Less) ps × Rises cmp ps

-- the key is at most each key of the pairs
abbrev pub IsAtMost : {K : Type 0} → Order K → K → Pairs K → Type 0
IsAtMost cmp key ps = Each (λ p. is_gt (cmp key p.0) ≡ false) ps

-- the key is above each key of the pairs
abbrev pub IsAbove : {K : Type 0} → Order K → K → Pairs K → Type 0
IsAbove cmp key ps = Each (λ p. cmp p.0 key ≡ Less) ps
