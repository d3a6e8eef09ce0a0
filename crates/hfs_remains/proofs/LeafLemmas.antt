-- The records of leaves, node by node.
use Rattle.std.proofs.Common.{◌≡◌, ℕ, ◌+◌, ◌*◌, ◌/◌, ◌<◌, ◌≤◌, Bool, true, false, if◌then◌else◌, List, [], None, slice_index_or, refl, ap, ◌∙◌, arith}
use Rattle.std.specs.Prelude.{Err}
use Rattle.std.specs.Bool.{beq}
use Rattle.std.specs.List.{flat_map, range_with_len}
use Rattle.std.proofs.Math.Nat.{div-eq_of_lt-le, add-mul}
use Rattle.hfs_fields.specs.declared.mdb.Mdb.{Mdb}
use Rattle.hfs_btree.specs.declared.fault.NodeFault.{NodeFault}
use Rattle.hfs_btree.specs.declared.fault.NodeFault.TheVariants.{Outside}
use Rattle.hfs_btree.specs.Tree.{Store, node_in}
use Rattle.hfs_space.specs.Forks.{blocks_each}
use Rattle.hfs_check.specs.Parts.{Blocks}
use Rattle.hfs_remains.specs.TreeFiles.{FileBlocks, nodes_of}
use Rattle.hfs_remains.specs.InUse.{is_in_use}
use Rattle.hfs_remains.specs.LeafRecords.{leaf_records, with_age, records_at}
use Rattle.hfs_remains.specs.declared.leaf_records.LeafRecord.{LeafRecord}
use Rattle.hfs_remains.proofs.NodeLemmas.{node_in-missing}
use Rattle.hfs_remains.proofs.RangeLemmas.{flat-none}

if-none : (b : Bool) (l : List LeafRecord) → l ≡ [] → (if b then [] else l) ≡ []
if-none true l e = refl
if-none false l e = e

none-at : (nodes : Store) (old : Bool) (n : ℕ) (fault : NodeFault) → node_in nodes n ≡ Err fault → records_at nodes old n ≡ []
none-at nodes old n fault is = if-none (beq old (is_in_use nodes n)) (with_age old (leaf_records (node_in nodes n))) (ap (λ r. with_age old (leaf_records r)) is)

pub place-of : (each place k : ℕ) → k < each → (place * each + k) / each ≡ place
place-of each place k lt = div-eq_of_lt-le {k = place} each (omega arith) (omega (arith, add-mul place 1 each))

-- a missing block has no records
pub block-missing : (blocks : Blocks) (mdb : Mdb) (file : FileBlocks) (old : Bool) (place : ℕ) → 1 ≤ blocks_each mdb → slice_index_or file place None ≡ None
    → flat_map (records_at (nodes_of blocks mdb file) old) (range_with_len (place * blocks_each mdb) (blocks_each mdb)) ≡ []
block-missing blocks mdb file old place some missing =
    flat-none (records_at (nodes_of blocks mdb file) old) (place * blocks_each mdb) (blocks_each mdb)
    (λ k lt. none-at (nodes_of blocks mdb file) old (place * blocks_each mdb + k) Outside
    (node_in-missing blocks mdb file (place * blocks_each mdb + k) some (ap (λ (p : ℕ). slice_index_or file p None) (place-of (blocks_each mdb) place k lt) ∙ missing)))
