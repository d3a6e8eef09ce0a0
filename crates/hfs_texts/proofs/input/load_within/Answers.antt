-- A call that fails took no more than there was room for, after all that was read before.
use Rattle.std.proofs.Common.{ℕ, ◌+◌, ◌≤◌, List, ◌++◌, Option, Result, Ok, Err, OnErr, ◌≡◌, ◌-◌, min, vec_len, length, length-append, arith}
use Rattle.std.specs.Io.KnownBytes.{Consumes}
use Rattle.std.proofs.KnownBytes.{Consumes-trans}
use Rattle.hfs_texts.specs.Reading.{GaveAtMost}
use Rattle.hfs_texts.proofs.input.load_within.Goals as goal

failed : {T E : Type 0} (r : Result T E) (most : ℕ) (a b c : Option (List ℕ)) (bs more : List ℕ) → length bs + length more ≤ most → Consumes a b bs → Consumes b c more
    → OnErr r (GaveAtMost a c most)
failed (Ok x) most a b c bs more fits p q = tt
failed (Err e) most a b c bs more fits p q = (bs ++ more, omega (arith, length-append bs more), Consumes-trans a b c bs more p q)

pub returns-in_err-load_more-clause-stops : goal.returns-in_err-load_more-clause-stops
returns-in_err-load_more-clause-stops g c =
    let e = c.in_err-load_more.ensures.err in
    let short : length e.0 ≤ c.min-room.result = e.1 in
    let room : c.min-room.result ≡ min 65536 ((c.args.limit + 1) - c.len-in-loop-bytes.result) = c.min-room.ensures in
    let len : c.len-in-loop-bytes.result ≡ vec_len c.loop-bytes.bytes = c.len-in-loop-bytes.ensures in
    let held : vec_len c.loop-bytes.bytes ≡ length c.loop-bytes.bytes.items = omega (arith, c.loop-bytes.bytes.ok.0) in
    let most : vec_len c.loop-bytes.bytes ≤ c.args.limit + 1 = c.loop-bytes.invariant.0 in
    failed _ (c.args.limit + 1) _ _ _ c.loop-bytes.bytes.items e.0 (omega (arith, short, room, len, held, most)) c.loop-bytes.invariant.1 e.2
