-- The way through a tree: each node, and after it what is below it.
use Rattle.std.specs.Prelude.{◌≡◌, ℕ, zero, suc, ◌+◌, ◌<◌, ◌==◌, nat_lt, if◌then◌else◌, List, [], ◌∷◌, ◌++◌, filter, length, map, slice_index_or}
use Rattle.std.proofs.Common.{Vec, Global}
use Rattle.std.specs.List.{range_with_len}
use Rattle.hfs_remains_page.specs.declared.steps.Step.{Step}

-- of the first n numbers those that are right below a node, in their order, by what each is below
abbrev pub below : (ℕ → ℕ) → ℕ → ℕ → List ℕ
below up n node = filter (λ i. up i == node) (range_with_len 0 n)

-- a node with so many above it, and how many are right below it
abbrev pub step_at : (ℕ → List ℕ) → ℕ → ℕ → Step
step_at inside depth node = record { node = node; depth = depth; inside = length (inside node) }

-- how many are above what is below so many more; of more than 100 it makes no difference
abbrev pub deeper : ℕ → ℕ
deeper depth = if nat_lt depth 100 then depth + 1 else depth

-- in so many steps at most: of these nodes the first, after it those below it, and then the others
abbrev pub walk : (ℕ → List ℕ) → ℕ → List Step → List Step
walk inside zero steps = []
walk inside (suc k) [] = []
walk inside (suc k) (s ∷ steps) = s ∷ walk inside k (map (step_at inside (deeper s.depth)) (inside s.node) ++ steps)

-- the lists have what is below each node
abbrev pub AreBelow : (ℕ → ℕ) → ℕ → List (Vec ℕ Global) → Type 0
AreBelow up n lists = (node : ℕ) (none : Vec ℕ Global) → node < length lists → (slice_index_or lists node none).items ≡ below up n node

-- one number more is below a node
abbrev pub GainsBelow : List (Vec ℕ Global) → List (Vec ℕ Global) → ℕ → ℕ → Type 0
GainsBelow old new number node =
    (length new ≡ length old)
    × ((k : ℕ) (none : Vec ℕ Global) → k < length old → (slice_index_or new k none).items ≡ (slice_index_or old k none).items ++ (if node == k then number ∷ [] else []))
