use Rattle.std.proofs.Common.{◌++◌, length, drop, take, ap, ◌∙◌, arith}
use Rattle.hfs_fields.specs.Mdb.{mdb_of}
use Rattle.hfs_fields.specs.MdbForm.{mdb_head_bytes, mdb_tail_bytes, mdb_bytes}
use Rattle.hfs_fields.proofs.MdbFormLemmas.{length-mdb_head_bytes, length-mdb_tail_bytes, length-mdb_bytes, mdb_of-first}
use Rattle.hfs_fields.proofs.Written.{written}
use Rattle.hfs_fields.proofs.mdb.Mdb.write.Goals as goal

pub push_row-requires : goal.push_row-requires
push_row-requires c =
    let head = ap length c.laid_head-row.ensures.bytes in
    let tail = ap length c.laid_tail.ensures.bytes in
    omega (arith, head, tail, length-mdb_head_bytes c.args.self.now c.laid_head-row.ensures.value, length-mdb_tail_bytes c.args.self.now c.laid_tail.ensures.value)

pub copy_to-requires : goal.copy_to-requires
copy_to-requires c =
    let head = ap length c.laid_head-row.ensures.bytes in
    let tail = ap length c.laid_tail.ensures.bytes in
    omega (arith, head, tail, length-mdb_head_bytes c.args.self.now c.laid_head-row.ensures.value, length-mdb_tail_bytes c.args.self.now c.laid_tail.ensures.value)

pub returns-clause-written : goal.returns-clause-written
unfolding mdb_bytes
returns-clause-written c =
    written 162 c.push_row.new.self (mdb_head_bytes c.args.self.now ++ mdb_tail_bytes c.args.self.now) c.args.block.now _ c.copy_to.ensures
    (c.push_row.ensures.bytes ∙ (λ i. c.laid_head-row.ensures.bytes i ++ c.laid_tail.ensures.bytes i))
    (length-mdb_bytes c.args.self.now (record { head = c.laid_head-row.ensures.value; tail = c.laid_tail.ensures.value }))

pub returns-clause-back : goal.returns-clause-back
returns-clause-back c =
    ap (λ bytes. mdb_of (take 162 bytes)) (returns-clause-written c)
    ∙ mdb_of-first c.args.self.now (drop 162 c.args.block.now) (record { head = c.laid_head-row.ensures.value; tail = c.laid_tail.ensures.value })
