-- Keys that are compared with the one before alone.
use Rattle.std.specs.Prelude.{ℕ, suc, Bool, true, if◌then◌else◌, [], ◌∷◌, Option, Some, None}
use Rattle.std.specs.Option.{option_map}
use Rattle.std.specs.Ordering.{is_lt}
use Rattle.hfs_btree.specs.Pairs.{Order, Pairs}
use Rattle.hfs_btree_checks.specs.declared.order_leaves.Fall.{Fall}

-- a key is above the one before it, if there is one
abbrev pub is_past : {K : Type 0} → Order K → Option K → K → Bool
is_past cmp None key = true
is_past cmp (Some last) key = is_lt (cmp last key)

-- the number of the first pair whose key isn't above the one before it, of pairs that are numbered from i on
abbrev pub fall_from : {K : Type 0} → Order K → Option K → ℕ → Pairs K → Option ℕ
fall_from cmp last i [] = None
fall_from cmp last i (p ∷ ps) = if is_past cmp last p.0 then fall_from cmp (Some p.0) (suc i) ps else Some i

-- the key of the last pair, or the one before them
abbrev pub last_key : {K : Type 0} → Option K → Pairs K → Option K
last_key last [] = last
last_key last (p ∷ ps) = last_key (Some p.0) ps

-- the number of the pair that falls, if one does
abbrev pub fall_number : Option Fall → Option ℕ
fall_number fall = option_map (λ fall. fall.number) fall

-- the leaf of the pair that falls, if one does
abbrev pub fall_leaf : Option Fall → Option ℕ
fall_leaf fall = option_map (λ fall. fall.leaf) fall
