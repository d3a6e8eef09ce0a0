-- What was found, and behind it what is left in the folder.
use Rattle.std.proofs.Common.{◌≡◌, ◌++◌, drop}
use Rattle.hfs_put_sources.specs.Nodes.{listed_in}
use Rattle.hfs_put_sources.proofs.memory.listed_in.Given as goal

abbrev pub invariant-loop-node : goal.invariant-loop-node
invariant-loop-node l = l.entries.items ++ listed_in l.folder (drop l.node-index l.nodes) ≡ listed_in l.folder l.nodes
