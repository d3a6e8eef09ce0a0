-- The records of the extents tree by the fork that they are of.
use Rattle.std.specs.Prelude.{◌≡◌, ℕ, Bool, nat_lt, List, filter}
use Rattle.hfs_fields.specs.declared.extent.Extent.{Extent}
use Rattle.hfs_fields.specs.declared.key.ExtKey.{ExtKey}
use Rattle.hfs_btree.specs.Tree.{Store}
use Rattle.hfs_space.specs.Extents.{Overflow, fork_extents}
use Rattle.hfs_space.specs.Runs.{is_of_fork}
use Rattle.hfs_space.specs.TreeKeys.{overflow_of}

-- the records of a fork
abbrev pub of_fork : ℕ → ℕ → Overflow → Overflow
of_fork file fork overflow = filter (is_of_fork file fork) overflow

-- the record begins before this block of its fork
abbrev pub begins_before : ℕ → ExtKey × List ℕ → Bool
begins_before block r = nat_lt r.0.block block

-- of the fork's records those are left that begin before this block of it
abbrev pub HasRecordsBefore : ℕ → ℕ → ℕ → Store → Store → Type 0
HasRecordsBefore file fork block old new = of_fork file fork (overflow_of new) ≡ filter (begins_before block) (of_fork file fork (overflow_of old))

-- every other fork has the extents that it had, whatever the first ones in its record are
abbrev pub KeepsOtherForks : ℕ → ℕ → Store → Store → Type 0
KeepsOtherForks file fork old new =
    (f k : ℕ) (first : List Extent) → (f ≡ file → k ≡ fork → ⊥) → fork_extents (overflow_of new) f k first ≡ fork_extents (overflow_of old) f k first
