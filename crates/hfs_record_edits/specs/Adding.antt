-- An extents tree with one more record.
use Rattle.std.specs.Prelude.{◌≡◌, ℕ, suc, ◌+◌, ◌-◌, ◌<◌, ◌≤◌, false, List, [], ◌∷◌, length, Option, MatchOption, ⊤}
use Rattle.std.specs.declared.cmp.Ordering.TheVariants.{Less}
use Rattle.std.specs.Ordering.{is_lt}
use Rattle.std.proofs.Common.{Vec, Global}
use Rattle.hfs_fields.specs.declared.key.ExtKey.{ExtKey}
use Rattle.hfs_fields.specs.Keys.{ext_cmp}
use Rattle.hfs_btree.specs.Tree.{Store}
use Rattle.hfs_btree.specs.Header.{depth_of, free_nodes}
use Rattle.hfs_btree_edits.specs.Edits.{KeepsTree, with_pair}
use Rattle.hfs_btree_edits.specs.KeptKeys.{EachKey, IsKeyOr}
use Rattle.hfs_space.specs.Extents.{Overflow}
use Rattle.hfs_space.specs.TreeKeys.{ext_keys, overflow_of}
use Rattle.hfs_record_edits.specs.Need.{HasNodesFor}

-- The tree is one leaf then, which is taken where there was none.
pub record TakesOneLeaf (old new : Store) : Type 0 where
  pub depth : depth_of new ≡ 1
  pub free : free_nodes old ≤ free_nodes new + (1 - depth_of old)

-- The record was put in its place, and all others stayed. It took at most as many nodes as there are levels then, and none but
-- the first leaf where all records fit into one.
pub record HasAdded (key : ExtKey) (body : List ℕ) (old new : Store) : Type 0 where
  pub keeps : KeepsTree ext_keys old new
  pub content : overflow_of new ≡ with_pair ext_cmp key body (overflow_of old)
  pub keys : EachKey ext_keys (IsKeyOr ext_keys old key) new
  pub least : depth_of old ≤ depth_of new
  pub most : depth_of new ≤ depth_of old + 1
  pub free : free_nodes old ≤ free_nodes new + depth_of new
  pub leaf : depth_of old ≤ 1 → length (overflow_of old) < 22 → TakesOneLeaf old new

-- where there are nodes enough for several records, there are for the others when the first is added
abbrev pub AdditionsLeaveEnough : Type 0
AdditionsLeaveEnough =
    (key : ExtKey) (body : List ℕ) (old new : Store) (n : ℕ) → HasAdded key body old new → free_nodes old < 4294967296 → HasNodesFor (suc n) old → HasNodesFor n new

-- ---- the least record

-- the first of the records is this one, and the key is below its own
pub record HasLeast (key : ExtKey) (overflow : Overflow) (least : ExtKey × List ℕ) : Type 0 where
  pub rest : Overflow
  pub is : overflow ≡ least ∷ rest
  pub below : ext_cmp key least.0 ≡ Less

-- the key isn't below the first of the records
abbrev pub IsNotLeast : ExtKey → Overflow → Type 0
IsNotLeast key [] = ⊤
IsNotLeast key (r ∷ rs) = is_lt (ext_cmp key r.0) ≡ false

-- what is found is the least record, or nothing where the key isn't below it
abbrev pub IsLeastAbove : ExtKey → Overflow → Option (ExtKey × Vec ℕ Global) → Type 0
IsLeastAbove key overflow found = MatchOption found (IsNotLeast key overflow) (λ p. HasLeast key overflow (p.0, p.1.items))

-- there are more records than fit into one leaf
abbrev pub IsBeyondLeaf : Store → Type 0
IsBeyondLeaf nodes = depth_of nodes ≤ 1 → 22 ≤ length (overflow_of nodes)
