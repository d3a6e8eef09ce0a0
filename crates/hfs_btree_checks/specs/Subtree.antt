-- A node with those below it: the range of its leaf keys, and whether its index keys are in order.
use Rattle.std.specs.Prelude.{◌≡◌, ℕ, zero, suc, ◌<◌, Bool, true, not, ◌&&◌, if◌then◌else◌, List, [], ◌∷◌, ◌++◌, length, Option, Some, None}
use Rattle.std.specs.Bool.{Decides}
use Rattle.std.specs.List.{list_all}
use Rattle.std.specs.Ordering.{is_gt, is_lt}
use Rattle.hfs_btree.specs.declared.key.Key.{Ghosts}
use Rattle.hfs_btree_checks.specs.declared.key_range.KeyRange.{KeyRange}
use Rattle.hfs_btree.specs.Pairs.{Order, Pairs, IsAtMost, IsAbove}
use Rattle.hfs_fields.specs.Each.{Each}
use Rattle.hfs_btree.specs.Tree.{Store, pair_of, records_in, children}
use Rattle.hfs_btree_checks.specs.Order.{are_keys_in_order}

-- the key is at most the least of the range; there is none of no keys
abbrev pub is_at_most : {K : Type 0} → Order K → K → Option (KeyRange K) → Bool
is_at_most cmp key None = true
is_at_most cmp key (Some range) = not (is_gt (cmp key range.least))

-- the key is above the greatest of the range
abbrev pub is_above : {K : Type 0} → Order K → K → Option (KeyRange K) → Bool
is_above cmp key None = true
is_above cmp key (Some range) = is_lt (cmp range.greatest key)

-- a key is at most each key of the pairs, and above each, exactly where it is so of the range
pub record HasRange {K : Type 0} (cmp : Order K) (range : Option (KeyRange K)) (ps : Pairs K) : Type 0 where
  pub least : (key : K) → Decides (is_at_most cmp key range) (IsAtMost cmp key ps)
  pub greatest : (key : K) → Decides (is_above cmp key range) (IsAbove cmp key ps)

-- a node so many levels above the leaves has records, each of the form that its place asks, and so has each node below it
abbrev pub IsSubtree : {K : Type 0} → Ghosts K → Store → ℕ → ℕ → Type 0
IsSubtree g nodes zero n = (0 < length (records_in nodes n)) × Each (λ entry. g.is_leaf entry ≡ true) (records_in nodes n)
IsSubtree g nodes (suc k) n =
    (0 < length (records_in nodes n)) × Each (λ entry. g.is_index entry ≡ true) (records_in nodes n) × Each (IsSubtree g nodes k) (children g nodes n)

-- the index keys of a node so many levels above the leaves are in order, and those of each node below it
abbrev pub is_subtree_keyed : {K : Type 0} → Ghosts K → Store → ℕ → ℕ → Bool
is_subtree_keyed g nodes zero n = true
is_subtree_keyed g nodes (suc k) n = are_keys_in_order g nodes (suc k) n && list_all (is_subtree_keyed g nodes k) (children g nodes n)

-- a range over the keys of both
abbrev pub CoversBoth : {K : Type 0} → Order K → Option (KeyRange K) → Option (KeyRange K) → Option (KeyRange K) → Type 0
CoversBoth cmp first second both = (ps qs : Pairs _) → HasRange cmp first ps → HasRange cmp second qs → HasRange cmp both (ps ++ qs)

-- a range over the keys of one and the key of a leaf's record
abbrev pub CoversAlso : {K : Type 0} → Ghosts K → Option (KeyRange K) → List ℕ → Option (KeyRange K) → Type 0
CoversAlso g range entry wider = (ps : Pairs _) → HasRange g.compare range ps → HasRange g.compare wider (ps ++ pair_of g entry ∷ [])

-- the lesser of a key and that of a leaf's record
abbrev pub lesser_in : {K : Type 0} → Ghosts K → K → List ℕ → K
lesser_in g first entry = if is_gt (g.compare first (g.leaf_key entry)) then g.leaf_key entry else first
