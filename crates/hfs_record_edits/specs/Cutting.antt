-- The records of the extents tree by the fork whose end they are.
use Rattle.std.specs.Prelude.{◌≡◌, ℕ, ◌+◌, Bool, true, false, not, ◌&&◌, ◌==◌, nat_le, List, [], length, Option, MatchOption, filter}
use Rattle.hfs_fields.specs.declared.key.ExtKey.{ExtKey}
use Rattle.hfs_fields.specs.Keys.{ext_cmp}
use Rattle.hfs_fields.specs.Each.{Each}
use Rattle.hfs_btree.specs.Pairs.{lookup}
use Rattle.hfs_btree.specs.Tree.{Store}
use Rattle.hfs_btree.specs.Header.{depth_of, free_nodes, tree_nodes}
use Rattle.hfs_btree_edits.specs.Conditions.{IsThere}
use Rattle.hfs_space.specs.Extents.{Overflow}
use Rattle.hfs_space.specs.TreeKeys.{ext_keys, overflow_of}
use Rattle.hfs_record_edits.specs.Dropped.{HasShrunk}

-- the record is of the key's fork, and no part of the fork before the key's block
abbrev pub is_from : ExtKey → ExtKey × List ℕ → Bool
is_from key r = (r.0.file == key.file) && (r.0.fork == key.fork) && nat_le key.block r.0.block

-- the records without those of the fork from the key on
abbrev pub without_from : ExtKey → Overflow → Overflow
without_from key overflow = filter (λ r. not (is_from key r)) overflow

-- the fork has none of the records from the key on
abbrev pub IsBefore : ExtKey → Overflow → Type 0
IsBefore key overflow = Each (λ r. is_from key r ≡ false) overflow

-- the key is that of one of the records, which is of the fork from this key on
pub record IsRecordFrom (from : ExtKey) (overflow : Overflow) (key : ExtKey) : Type 0 where
  pub own : (body : List ℕ) → is_from from (key, body) ≡ true
  pub there : IsThere (lookup ext_cmp key overflow)

-- what is found is the key of one, or nothing where there is none
abbrev pub FindsRecordFrom : ExtKey → Overflow → Option ExtKey → Type 0
FindsRecordFrom from overflow found = MatchOption found (IsBefore from overflow) (IsRecordFrom from overflow)

-- The fork's records from the key on are gone, and no others. Where none is left, the tree has no levels, and the nodes that it had
-- are free.
pub record HasCutFork (from : ExtKey) (old new : Store) : Type 0 where
  pub shrunk : HasShrunk ext_keys old new
  pub content : overflow_of new ≡ without_from from (overflow_of old)
  pub depth : overflow_of new ≡ [] → depth_of new ≡ 0
  pub free : overflow_of new ≡ [] → free_nodes new ≡ free_nodes old + length (tree_nodes ext_keys old)
