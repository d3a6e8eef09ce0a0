-- What is told of the names that were taken, name by name.
use Rattle.std.proofs.Common.{◌≡◌, ◌≢◌, ◌++◌, codes, ℕ, zero, suc, ◌+◌, ◌<◌, List, Option, Some, refl, ap, sym, ◌∙◌, append_assoc, arith}
use Rattle.std.specs.Fmt.{decimal}
use Rattle.hfs_commands.specs.Paths.{path_beside, taken_before}

-- behind the first name that name is told
pub taken_before-later : (path : List ℕ) (number : ℕ) → 0 < number → taken_before path number ≡ Some (path_beside path 0)
taken_before-later path zero low = absurd (omega (arith, low))
taken_before-later path (suc number) low = refl

-- the first name was taken
pub taken_before-first : (path name : List ℕ) (number : ℕ) → number ≡ 0 → name ≡ path_beside path number → Some name ≡ taken_before path (number + 1)
taken_before-first path name number zero_is name_is =
    ap Some (name_is ∙ ap (path_beside path) zero_is) ∙ sym (taken_before-later path (number + 1) (omega arith))

-- one name more was taken
pub taken_before-next : (path : List ℕ) (told : Option (List ℕ)) (number : ℕ) → number ≢ 0 → told ≡ taken_before path number → told ≡ taken_before path (number + 1)
taken_before-next path told number more told_is =
    told_is ∙ taken_before-later path number (omega (arith, more)) ∙ sym (taken_before-later path (number + 1) (omega arith))

-- a name is laid piece by piece
pub path_beside-pieces : {name : List ℕ} (path : List ℕ) (number : ℕ) → name ≡ path ++ (codes "." ++ (decimal number ++ codes ".new")) → name ≡ path_beside path number
unfolding path_beside
path_beside-pieces path number pieces =
    pieces ∙ sym (append_assoc path (codes ".") (decimal number ++ codes ".new")) ∙ sym (append_assoc (path ++ codes ".") (decimal number) (codes ".new"))
