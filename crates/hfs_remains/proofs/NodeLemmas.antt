-- The nodes of a tree's file by their numbers.
use Rattle.std.proofs.Common.{◌≡◌, ℕ, ◌/◌, ◌%◌, ◌≤◌, [], length, replicate, Option, None, slice_index_or, refl, sym, ap, ◌∙◌, arith, inl, inr}
use Rattle.std.specs.Prelude.{Err}
use Rattle.std.proofs.lemmas.Bool.{cases_lt}
use Rattle.std.proofs.lemmas.List.{get_or_past}
use Rattle.std.proofs.lemmas.List.FromFn.{get_or-map-range_with_len, length-map-range_with_len}
use Rattle.std.proofs.lemmas.Nat.{le-div}
use Rattle.hfs_fields.specs.Numbers.{number_at}
use Rattle.hfs_fields.specs.declared.mdb.Mdb.{Mdb}
use Rattle.hfs_btree.specs.declared.fault.NodeFault.TheVariants.{Outside}
use Rattle.hfs_btree.specs.Kind.{kind_of}
use Rattle.hfs_btree.specs.Node.{node_of, node_of_kind, are_inside, count_of, offset_of}
use Rattle.hfs_btree.specs.Tree.{node_in}
use Rattle.hfs_btree.proofs.DecodedLemmas.{node_of-none}
use Rattle.hfs_space.specs.Forks.{blocks_each}
use Rattle.hfs_check.specs.Parts.{Blocks}
use Rattle.hfs_remains.specs.TreeFiles.{FileBlocks, node_at, node_total, nodes_of, piece_of}

-- zeros are no node
pub node_of-zeros : node_of (replicate 512 0) ≡ Err Outside
unfolding node_of node_of_kind kind_of are_inside count_of offset_of number_at
node_of-zeros = refl

pub length-nodes : (blocks : Blocks) (mdb : Mdb) (file : FileBlocks) → length (nodes_of blocks mdb file) ≡ node_total mdb file
length-nodes blocks mdb file = length-map-range_with_len (node_at blocks mdb file) 0 (node_total mdb file)

-- a node of a missing block is none
pub node_at-missing : (blocks : Blocks) (mdb : Mdb) (file : FileBlocks) (n : ℕ) → slice_index_or file (n / blocks_each mdb) None ≡ None → node_of (node_at blocks mdb file n) ≡ Err Outside
unfolding node_at
node_at-missing blocks mdb file n missing = ap (λ (o : Option ℕ). node_of (piece_of blocks mdb o (n % blocks_each mdb))) missing ∙ node_of-zeros

pub node_of-node_at : (blocks : Blocks) (mdb : Mdb) (file : FileBlocks) (n : ℕ) → 1 ≤ blocks_each mdb → node_of (node_at blocks mdb file n) ≡ node_in (nodes_of blocks mdb file) n
unfolding node_in
node_of-node_at blocks mdb file n some =
    elim (cases_lt n (node_total mdb file)) [
      | inl lt ↦ ap node_of (sym (get_or-map-range_with_len (node_at blocks mdb file) 0 (node_total mdb file) n n [] lt (omega arith)))
      | inr ge ↦
          node_at-missing blocks mdb file n (get_or_past file (n / blocks_each mdb) None (le-div (length file) n (blocks_each mdb) some ge))
          ∙ sym node_of-none
          ∙ ap node_of (sym (get_or_past (nodes_of blocks mdb file) n [] (omega (arith, length-nodes blocks mdb file))))
    ]

pub node_in-missing : (blocks : Blocks) (mdb : Mdb) (file : FileBlocks) (n : ℕ) → 1 ≤ blocks_each mdb → slice_index_or file (n / blocks_each mdb) None ≡ None → node_in (nodes_of blocks mdb file) n ≡ Err Outside
node_in-missing blocks mdb file n some missing = sym (node_of-node_at blocks mdb file n some) ∙ node_at-missing blocks mdb file n missing
