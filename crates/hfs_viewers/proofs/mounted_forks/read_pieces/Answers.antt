-- Each part comes behind what was read.
use Rattle.std.proofs.Common.{◌≡◌, ◌+◌, ◌<◌, ◌∙◌, List, ℕ, length, take, ap, arith, rules}
use Rattle.hfs_viewers.proofs.PieceReads.{reaches, small, shrinks, read_more}
use Rattle.hfs_viewers.proofs.mounted_forks.read_pieces.Goals as goal

pub write-requires-clause-within : goal.write-requires-clause-within
write-requires-clause-within c = reaches _ _ _ _ _ c.loop-offset.invariant

pub write-requires-clause-small : goal.write-requires-clause-small
write-requires-clause-small c =
    let few : c.len-size.result < 4294967296 = search rules in
    let is : c.in_ok-part.part ≡ take 65536 c.loop-offset.source = c.in_ok-part.ensures ∙ c.in_ok-read.ensures.bytes in
    small _ _ _ _ _ c.loop-offset.invariant few 65536 c.in_ok-part.part c.in_ok-part.part is (λ i. c.in_ok-part.part)

pub overflow_cast-offset : goal.overflow_cast-offset
overflow_cast-offset c =
    let few : c.len-size.result < 4294967296 = search rules in
    let is : c.in_ok-part.part ≡ take 65536 c.loop-offset.source = c.in_ok-part.ensures ∙ c.in_ok-read.ensures.bytes in
    let end = small _ _ _ _ _ c.loop-offset.invariant few 65536 c.in_ok-part.part c.as_slice.result.now is c.as_slice.ensures in
    omega (arith, end)

pub overflow_add-offset : goal.overflow_add-offset
overflow_add-offset c =
    let few : c.len-size.result < 4294967296 = search rules in
    let is : c.in_ok-part.part ≡ take 65536 c.loop-offset.source = c.in_ok-part.ensures ∙ c.in_ok-read.ensures.bytes in
    let end = small _ _ _ _ _ c.loop-offset.invariant few 65536 c.in_ok-part.part c.as_slice.result.now is c.as_slice.ensures in
    omega (arith, end)

pub loop-offset-smaller-in_ok-write : goal.loop-offset-smaller-in_ok-write
loop-offset-smaller-in_ok-write c =
    let is : c.in_ok-part.part ≡ take 65536 c.loop-offset.source = c.in_ok-part.ensures ∙ c.in_ok-read.ensures.bytes in
    shrinks _ _ _ _ _ c.loop-offset.invariant c.loop-offset-test.true 65536 (omega arith) c.in_ok-part.part c.as_slice.result.now is c.as_slice.ensures

pub loop-offset-preserved-in_ok-write : goal.loop-offset-preserved-in_ok-write
loop-offset-preserved-in_ok-write c =
    let is : c.in_ok-part.part ≡ take 65536 c.loop-offset.source = c.in_ok-part.ensures ∙ c.in_ok-read.ensures.bytes in
    read_more _ _ _ _ _ c.loop-offset.invariant 65536 c.in_ok-part.part c.read.new.self c.write.new.self _ is c.in_ok-read.ensures.left c.in_ok-write.ensures.ok
    (ap (λ (l : List ℕ). c.loop-offset.offset + length l) c.as_slice.ensures)

pub loop-offset-smaller : goal.loop-offset-smaller
loop-offset-smaller c =
    let is : c.in_ok-part.part ≡ take 65536 c.loop-offset.source = c.in_ok-part.ensures ∙ c.in_ok-read.ensures.bytes in
    shrinks _ _ _ _ _ c.loop-offset.invariant c.loop-offset-test.true 65536 (omega arith) c.in_ok-part.part c.as_slice.result.now is c.as_slice.ensures

pub loop-offset-preserved : goal.loop-offset-preserved
loop-offset-preserved c =
    let is : c.in_ok-part.part ≡ take 65536 c.loop-offset.source = c.in_ok-part.ensures ∙ c.in_ok-read.ensures.bytes in
    read_more _ _ _ _ _ c.loop-offset.invariant 65536 c.in_ok-part.part c.read.new.self c.write.new.self _ is c.in_ok-read.ensures.left c.in_ok-write.ensures.ok
    (ap (λ (l : List ℕ). c.loop-offset.offset + length l) c.as_slice.ensures)
