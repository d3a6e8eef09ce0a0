-- The last part of a path, byte by byte.
use Rattle.std.proofs.Common.{◌≡◌, ℕ, ◌+◌, Bool, if◌then◌else◌, List, [], ◌∷◌, ◌++◌, length, length-append, codes, refl, ap, ◌∙◌, arith}
use Rattle.std.specs.List.{fold}
use Rattle.std.proofs.lemmas.Bool.{ne_eqb}
use Rattle.std.proofs.lemmas.List.Sums.{fold-append}
use Rattle.hfs_bag.specs.Laws.{HasNo, folder_path}
use Rattle.hfs_rescue_items.specs.declared.plan.Planned.{Planned}
use Rattle.hfs_rescue_items.specs.Plan.{first_part, last_part, part_behind}

kind-behind : (text : List ℕ) (part : Planned) → (fold part_behind part text).kind ≡ part.kind
unfolding part_behind
kind-behind [] part = refl
kind-behind (byte ∷ text) part = kind-behind text (part_behind part byte)

to-behind : (text : List ℕ) (part : Planned) → (fold part_behind part text).to ≡ part.to + length text
unfolding part_behind
to-behind [] part = omega arith
to-behind (byte ∷ text) part = omega (arith, to-behind text (part_behind part byte))

-- behind bytes that are no slash the same name goes on
from-plain : (text : List ℕ) (part : Planned) → HasNo 47 text → (fold part_behind part text).from ≡ part.from
unfolding part_behind
from-plain [] part none = refl
from-plain (byte ∷ text) part none =
    from-plain text (part_behind part byte) none.1 ∙ ap (λ (b : Bool). if b then part.to + 1 else part.from) (ne_eqb byte 47 none.0)

-- behind a slash another begins
from-slash : (part : Planned) → (fold part_behind part (codes "/")).from ≡ part.to + 1
unfolding part_behind
from-slash part = refl

from-folder : (name : List ℕ) (part : Planned) → (fold part_behind part (name ++ codes "/")).from ≡ part.to + length name + 1
from-folder name part =
    let joined = ap (λ (p : Planned). p.from) (fold-append part_behind part name (codes "/")) in
    omega (arith, joined, from-slash (fold part_behind part name), to-behind name part)

from-folders : (above : List (List ℕ)) (part : Planned) → part.from ≡ part.to → (fold part_behind part (folder_path above)).from ≡ part.to + length (folder_path above)
from-folders [] part same = omega (arith, same)
from-folders (name ∷ above) part same =
    let next : Planned = fold part_behind part (name ++ codes "/") in
    let to : next.to ≡ part.to + length (name ++ codes "/") = to-behind (name ++ codes "/") part in
    let from : next.from ≡ part.to + length name + 1 = from-folder name part in
    let long : length (name ++ codes "/") ≡ length name + 1 = length-append name (codes "/") in
    let joined = ap (λ (p : Planned). p.from) (fold-append part_behind part (name ++ codes "/") (folder_path above)) in
    omega (arith, joined, from-folders above next (omega (arith, to, from, long)), to, length-append (name ++ codes "/") (folder_path above))

-- ---- of a whole path

pub last_to : (i : ℕ) (path : List ℕ) → (last_part i path).to ≡ length path
last_to i path = omega (arith, to-behind path (first_part i))

pub last_kind : (i : ℕ) (path : List ℕ) → (last_part i path).kind ≡ (first_part i).kind
last_kind i path = kind-behind path (first_part i)

-- the name stands behind the folders
pub last_from : (i : ℕ) (above : List (List ℕ)) (last : List ℕ) → HasNo 47 last → (last_part i (folder_path above ++ last)).from ≡ length (folder_path above)
last_from i above last none =
    let joined = ap (λ (p : Planned). p.from) (fold-append part_behind (first_part i) (folder_path above) last) in
    omega (arith, joined, from-plain last (fold part_behind (first_part i) (folder_path above)) none, from-folders above (first_part i) refl)
