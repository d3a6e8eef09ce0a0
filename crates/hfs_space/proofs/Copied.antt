-- The records of the extents tree are copied one after the other.
use Rattle.std.proofs.Common.{◌≡◌, ℕ, ◌<◌, Bool, false, cond, [], ◌∷◌, refl, ap, ◌∙◌, arith}
use Rattle.std.specs.Ordering.{is_gt, nat_cmp, ordering_then}
use Rattle.std.specs.declared.cmp.Ordering.{Ordering}
use Rattle.std.proofs.lemmas.Cmp.{ranked, by_ranked}
use Rattle.hfs_fields.specs.declared.key.ExtKey.{ExtKey}
use Rattle.hfs_fields.specs.Keys.{ext_cmp}
use Rattle.hfs_btree.specs.Pairs.{pairs_from}
use Rattle.hfs_space.specs.Extents.{Overflow}

abbrev pub least : ExtKey
least = record { fork = 0; file = 0; block = 0 }

pub zero_first : (n : ℕ) (o : Ordering) → is_gt o ≡ false → is_gt (ordering_then (nat_cmp 0 n) o) ≡ false
zero_first n o h =
    by_ranked (0 < n) (0 ≡ n) (n < 0) (nat_cmp 0 n) (ranked 0 n (nat_cmp 0 n) refl)
    (λ less _. ap (λ x. is_gt (ordering_then x o)) less)
    (λ equal _. ap (λ x. is_gt (ordering_then x o)) equal ∙ h)
    (λ greater lt. absurd (omega arith))

zero_low : (n : ℕ) → is_gt (nat_cmp 0 n) ≡ false
zero_low n =
    by_ranked (0 < n) (0 ≡ n) (n < 0) (nat_cmp 0 n) (ranked 0 n (nat_cmp 0 n) refl) (λ less _. ap is_gt less) (λ equal _. ap is_gt equal) (λ greater lt. absurd (omega arith))

pub from_least : (overflow : Overflow) → pairs_from ext_cmp least overflow ≡ overflow
from_least [] = refl
from_least (r ∷ rest) = ap (λ (b : Bool). cond b (pairs_from ext_cmp least rest) (r ∷ rest)) (zero_first r.0.file _ (zero_first r.0.fork _ (zero_low r.0.block)))
