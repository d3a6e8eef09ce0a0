use Rattle.std.proofs.Common.{◌≡◌, ℕ, ◌-◌, ◌*◌, List, length, arith, sym, ap, ◌∙◌, inl, subst, refl}
use Rattle.byteorder.specs.Endian.{big_bytes}
use Rattle.hfs_fields.specs.Puts.{IsPut}
use Rattle.hfs_btree.specs.Node.{start_of}
use Rattle.hfs_btree.specs.Laid.{AreLaid}
use Rattle.hfs_btree.proofs.ReadBackLemmas.{start-room, start-zero, few-records}
use Rattle.hfs_btree.proofs.Written.{laid-kept, free-put}
use Rattle.hfs_btree.proofs.encoding.put_records.Goals as goal

pub loop-i-init : goal.loop-i-init
loop-i-init g c =
    let zero = start-zero (g.R.RecordRow.records c.args.row.now) in
    record {
      at = sym zero;
      laid = record { offsets = λ k lt. absurd (omega arith); bodies = λ k lt. absurd (omega arith) };
      len = c.told-out;
      head = λ k lt. refl;
      clear = λ k low high. c.requires.clear k (omega arith) (omega arith);
    }

pub overflow_mul-count : goal.overflow_mul-count
overflow_mul-count g c = omega (arith, few-records (g.R.RecordRow.records c.args.row.now) c.requires.room)

pub overflow_sub-count : goal.overflow_sub-count
overflow_sub-count g c = omega (arith, few-records (g.R.RecordRow.records c.args.row.now) c.requires.room)

pub overflow_cast-at : goal.overflow_cast-at
overflow_cast-at g c = omega (arith, start-room (g.R.RecordRow.records c.args.row.now) c.loop-i.i c.requires.room)

ended : (rs : List (List ℕ)) (i len at : ℕ) (out new : List ℕ) → i ≡ length rs → len ≡ length rs → at ≡ start_of rs i
    → IsPut (510 - 2 * len) (big_bytes 2 at) out new → AreLaid rs i out
    → record { last : IsPut (510 - 2 * length rs) (big_bytes 2 (start_of rs (length rs))) out new; laid : AreLaid rs (length rs) out }
ended rs i len at out new i_is len_is at_is put laid =
    let P : ℕ → Type 0 = λ j. AreLaid rs j out in
    let Q : ℕ → Type 0 = λ x. IsPut (510 - 2 * len) (big_bytes 2 x) out new in
    let R : ℕ → Type 0 = λ j. IsPut (510 - 2 * j) (big_bytes 2 (start_of rs (length rs))) out new in
    record { last = subst R len_is (subst Q (at_is ∙ ap (start_of rs) i_is) put); laid = subst P i_is laid }

pub returns-clause-laid : goal.returns-clause-laid
returns-clause-laid g c =
    let rs = (g.R.RecordRow.records c.args.row.now) in
    let ends = ended rs c.loop-i.i c.len-count.result c.loop-i.at c.loop-i.out c.put_u16.new.block (omega arith) c.len-count.ensures c.loop-i.invariant.at c.put_u16.ensures.put c.loop-i.invariant.laid in
    laid-kept rs c.loop-i.out c.put_u16.new.block c.requires.room c.loop-i.invariant.len ends.last ends.laid

pub returns-clause-free : goal.returns-clause-free
returns-clause-free g c =
    let rs = (g.R.RecordRow.records c.args.row.now) in
    let ends = ended rs c.loop-i.i c.len-count.result c.loop-i.at c.loop-i.out c.put_u16.new.block (omega arith) c.len-count.ensures c.loop-i.invariant.at c.put_u16.ensures.put c.loop-i.invariant.laid in
    free-put rs c.loop-i.out c.put_u16.new.block c.requires.room c.loop-i.invariant.len ends.last

pub returns-clause-head : goal.returns-clause-head
returns-clause-head g c =
    let few = few-records (g.R.RecordRow.records c.args.row.now) c.requires.room in
    λ k lt. c.put_u16.ensures.put.rest k (inl (omega arith)) ∙ c.loop-i.invariant.head k lt
