use Rattle.std.proofs.Common.{arith, ◌∙◌}
use Rattle.std.proofs.lemmas.List.{get_or-replicate}
use Rattle.hfs_btree.specs.Node.{node_from}
use Rattle.hfs_btree.proofs.ReadBackLemmas.{node_of-encoded, offset_of-encoded}
use Rattle.hfs_btree.proofs.Written.{head-kept}
use Rattle.hfs_btree.proofs.encoding.encode_row.Goals as goal

pub put_records-requires-clause-clear : goal.put_records-requires-clause-clear
put_records-requires-clause-clear g c = λ k low high. c.put_head.ensures.rest k (omega arith) ∙ get_or-replicate 512 k 0 0 (omega arith)

pub returns-clause-node : goal.returns-clause-node
returns-clause-node g c =
    node_of-encoded (node_from c.args.head.now (g.R.RecordRow.records c.args.row.now)) c.put_records.new.out c.requires
    (head-kept (node_from c.args.head.now (g.R.RecordRow.records c.args.row.now)) _ _ c.put_records.ensures.head c.put_head.ensures.head) c.put_records.ensures.laid c.put_records.ensures.free

pub returns-clause-offsets : goal.returns-clause-offsets
returns-clause-offsets g c =
    offset_of-encoded (node_from c.args.head.now (g.R.RecordRow.records c.args.row.now)) c.put_records.new.out c.requires
    (head-kept (node_from c.args.head.now (g.R.RecordRow.records c.args.row.now)) _ _ c.put_records.ensures.head c.put_head.ensures.head) c.put_records.ensures.laid c.put_records.ensures.free

pub returns-clause-clear : goal.returns-clause-clear
returns-clause-clear g c = record {
  reserved = λ k low high. c.put_records.ensures.head k high ∙ c.put_head.ensures.rest k low ∙ get_or-replicate 512 k 0 0 (omega arith);
  free = c.put_records.ensures.clear;
}
