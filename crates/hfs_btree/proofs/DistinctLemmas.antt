-- Lists without a number twice.
use Rattle.std.proofs.Common.{[], List, ℕ, ◌++◌, ◌∷◌}
use Rattle.hfs_btree.specs.Sound.{IsDistinct, IsOther}
use Rattle.hfs_fields.specs.Each.{Each}
use Rattle.hfs_fields.proofs.ElementLemmas.{each-right, each-append}

pub cross : (xs ys : List ℕ) → IsDistinct (xs ++ ys) → Each (λ x. Each (IsOther x) ys) xs
cross [] ys h = tt
cross (x ∷ xs) ys h = (each-right (IsOther x) xs ys h.0, cross xs ys h.1)

pub distinct-append : (xs ys : List ℕ) → IsDistinct xs → IsDistinct ys → Each (λ x. Each (IsOther x) ys) xs → IsDistinct (xs ++ ys)
distinct-append [] ys h k apart = k
distinct-append (x ∷ xs) ys h k apart = (each-append (IsOther x) xs ys h.0 apart.0, distinct-append xs ys h.1 k apart.1)
