use Rattle.std.proofs.Common.{ℕ, ◌+◌, ◌-◌, ◌*◌, List, length, arith, ap, ◌∙◌, inl, inr, subst}
use Rattle.byteorder.specs.Endian.{big_bytes}
use Rattle.hfs_fields.specs.Puts.{IsPut}
use Rattle.hfs_btree.specs.Node.{start_of}
use Rattle.hfs_btree.proofs.ReadBackLemmas.{start-room, start-more, start-least, few-records}
use Rattle.hfs_btree.proofs.Written.{laid-more}
use Rattle.hfs_btree.proofs.encoding.put_record.Goals as goal

pub overflow_mul-i : goal.overflow_mul-i
overflow_mul-i g c = let few = few-records (g.R.RecordRow.records c.args.row.now) c.requires.room in omega arith

pub overflow_sub-i : goal.overflow_sub-i
overflow_sub-i g c = let few = few-records (g.R.RecordRow.records c.args.row.now) c.requires.room in omega arith

pub overflow_cast-at : goal.overflow_cast-at
overflow_cast-at g c = let own = start-room (g.R.RecordRow.records c.args.row.now) c.args.i c.requires.room in omega arith

pub put-requires : goal.put-requires
put-requires g c =
    let own = start-room (g.R.RecordRow.records c.args.row.now) (c.args.i + 1) c.requires.room in
    let more = start-more (g.R.RecordRow.records c.args.row.now) c.args.i c.requires.within in
    let same = ap length c.record-entry.ensures in
    omega arith

pub overflow_add-result : goal.overflow_add-result
overflow_add-result g c =
    let own = start-room (g.R.RecordRow.records c.args.row.now) c.args.i c.requires.room in
    omega arith

pub returns-clause-place : goal.returns-clause-place
returns-clause-place g c =
    let more = start-more (g.R.RecordRow.records c.args.row.now) c.args.i c.requires.within in
    let same = ap length c.record-entry.ensures in
    omega arith

pub returns-clause-laid : goal.returns-clause-laid
returns-clause-laid g c =
    let rs = (g.R.RecordRow.records c.args.row.now) in
    let First : ℕ → Type 0 = λ x. IsPut (510 - 2 * c.args.i) (big_bytes 2 x) c.args.out.now c.put_u16.new.block in
    let first = subst First c.requires.place c.put_u16.ensures.put in
    let At : ℕ → Type 0 = λ x. IsPut x c.record-entry.result.now c.put_u16.new.block c.put.new.block in
    let Of : List ℕ → Type 0 = λ xs. IsPut (start_of rs c.args.i) xs c.put_u16.new.block c.put.new.block in
    let second = subst Of c.record-entry.ensures (subst At c.requires.place c.put.ensures) in
    laid-more rs c.args.i c.args.out.now c.put_u16.new.block c.put.new.block c.requires.within c.requires.room first second c.told-out c.requires.laid

pub returns-clause-head : goal.returns-clause-head
returns-clause-head g c =
    let least = start-least (g.R.RecordRow.records c.args.row.now) c.args.i in
    let few = few-records (g.R.RecordRow.records c.args.row.now) c.requires.room in
    λ k small. c.put.ensures.rest k (inl (omega arith)) ∙ c.put_u16.ensures.put.rest k (inl (omega arith))

pub returns-clause-clear : goal.returns-clause-clear
returns-clause-clear g c =
    let more = start-more (g.R.RecordRow.records c.args.row.now) c.args.i c.requires.within in
    let few = few-records (g.R.RecordRow.records c.args.row.now) c.requires.room in
    let same = ap length c.record-entry.ensures in
    λ k low high. c.put.ensures.rest k (inr (omega arith)) ∙ c.put_u16.ensures.put.rest k (inl (omega arith)) ∙ c.requires.clear k (omega arith) (omega arith)
