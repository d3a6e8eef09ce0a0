-- The parts of the map so far, and those from the next node on, are all of the chain.
use Rattle.std.proofs.Common.{◌≡◌, false, ◌++◌, length}
use Rattle.hfs_catalog.specs.Indexes.{has_number}
use Rattle.hfs_remains.specs.TreeFiles.{nodes_of}
use Rattle.hfs_remains.specs.InUse.{chain_bytes}
use Rattle.hfs_remains.proofs.in_use.read_chain.Given as goal

abbrev pub invariant-loop-most : goal.invariant-loop-most
invariant-loop-most g l =
    l.map.items ++ chain_bytes (nodes_of (g.B.Blocks.blocks l.nodes.blocks.now) l.nodes.mdb.now l.nodes.file.now) (has_number l.met.keys) l.most l.n
    ≡ l.initial.map.items ++ chain_bytes (nodes_of (g.B.Blocks.blocks l.nodes.blocks.now) l.nodes.mdb.now l.nodes.file.now) (λ n. false) (length (nodes_of (g.B.Blocks.blocks l.nodes.blocks.now) l.nodes.mdb.now l.nodes.file.now)) l.first

abbrev pub decreases-loop-most : goal.decreases-loop-most
decreases-loop-most g l = l.most
