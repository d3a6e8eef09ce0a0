use Rattle.std.proofs.Common.{ℕ, ◌∙◌, arith, inr, subst}
use Rattle.byteorder.specs.Endian.{big_bytes}
use Rattle.hfs_fields.specs.Puts.{IsPut}
use Rattle.hfs_btree.specs.Node.{node_from}
use Rattle.hfs_btree.proofs.ReadBackLemmas.{few-records}
use Rattle.hfs_btree.proofs.Written.{head-from}
use Rattle.hfs_btree.proofs.encoding.put_head.Goals as goal

pub overflow_cast-len : goal.overflow_cast-len
overflow_cast-len g c = let few = few-records (g.R.RecordRow.records c.args.row.now) c.requires in omega arith

pub returns-clause-head : goal.returns-clause-head
returns-clause-head g c =
    let few = few-records (g.R.RecordRow.records c.args.row.now) c.requires in
    let Put : ℕ → Type 0 = λ n. IsPut 10 (big_bytes 2 n) c.put.new.block c.put_u16.new.block in
    head-from (node_from c.args.head.now (g.R.RecordRow.records c.args.row.now)) c.args.out.now c.put_u32.new.block c.put_u32-2.new.block c.put.new.block c.put_u16.new.block c.byte.result
    (omega arith) (omega arith) (omega arith) c.byte.ensures.back c.put_u32.ensures.put c.put_u32-2.ensures.put c.put.ensures (subst Put c.len.ensures c.put_u16.ensures.put)

pub returns-clause-rest : goal.returns-clause-rest
returns-clause-rest g c = λ k low.
    c.put_u16.ensures.put.rest k (inr (omega arith)) ∙ c.put.ensures.rest k (inr (omega arith)) ∙ c.put_u32-2.ensures.put.rest k (inr (omega arith)) ∙ c.put_u32.ensures.put.rest k (inr (omega arith))
