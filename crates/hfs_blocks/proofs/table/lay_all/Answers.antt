-- The blocks of some more numbers are laid.
use Rattle.std.proofs.Common.{◌≡◌, ℕ, ◌+◌, ◌-◌, ◌≤◌, List, take, drop, length, get_or, refl, subst, arith}
use Rattle.std.specs.Prelude.{zip}
use Rattle.hfs_blocks.specs.Layers.{changes}
use Rattle.hfs_blocks.specs.Tables.{HasLaid}
use Rattle.hfs_blocks.proofs.TableLemmas.{all-laid, all-laid-next, rest-next, room-less, room-next, rows-of-run, part-long, part-at, part-whole}
use Rattle.hfs_blocks.proofs.table.lay_all.Goals as goal

pub lay_run-requires-clause-room : goal.lay_run-requires-clause-room
lay_run-requires-clause-room c =
    let ns = c.args.other_numbers.now in
    let done = c.loop-done.done in
    let count = c.following-count.result in
    let long = part-long c.args.other_blocks.now done count (omega (arith, c.following-count.ensures.within, c.requires.other.len)) in
    let left = length ns - done in
    room-less _ _ _ left (omega (arith, long, c.following-count.ensures.within)) (c.loop-done.invariant.room left (room-less _ _ (done + left) (length ns) (omega (arith, c.loop-done.invariant.few)) c.requires.room))

pub lay_run-requires-clause-rows : goal.lay_run-requires-clause-rows
lay_run-requires-clause-rows c = λ n low high.
    let done = c.loop-done.done in
    let count = c.following-count.result in
    let long = part-long c.args.other_blocks.now done count (omega (arith, c.following-count.ensures.within, c.requires.other.len)) in
    c.loop-done.invariant.rows n
    (rows-of-run c.args.other_numbers.now c.args.places.now.entries done count (get_or c.args.other_numbers.now done 0) refl c.following-count.ensures.follow c.following-count.ensures.within c.requires.rows n low
    (omega (arith, high, long)))

pub lay_run-requires-clause-whole : goal.lay_run-requires-clause-whole
lay_run-requires-clause-whole c =
    part-whole c.args.other_blocks.now c.loop-done.done c.following-count.result (omega (arith, c.following-count.ensures.within, c.requires.other.len)) c.requires.other.whole

pub loop-done-preserved : goal.loop-done-preserved
loop-done-preserved c =
    let ns = c.args.other_numbers.now in
    let bs = c.args.other_blocks.now in
    let done = c.loop-done.done in
    let count = c.following-count.result in
    let first = get_or ns done 0 in
    let run : List (List ℕ) = take (done + count - done) (drop done bs) in
    let fits : done + count ≤ length bs = omega (arith, c.following-count.ensures.within, c.requires.other.len) in
    let long : length run ≡ count = part-long bs done count fits in
    let old = changes (zip c.args.numbers.now.items c.args.blocks.now.items) in
    let mid = changes (zip c.loop-done.numbers.items c.loop-done.blocks.items) in
    let new = changes (zip c.lay_run.new.numbers.items c.lay_run.new.blocks.items) in
    let laid : HasLaid first count run mid new = subst (λ m. HasLaid first m run mid new) long c.lay_run.ensures.laid in
    record {
      few = c.following-count.ensures.within;
      table = c.lay_run.ensures.table;
      rest = rest-next ns bs run old mid new done count first c.requires.other c.following-count.ensures.within refl c.following-count.ensures.follow (part-at bs done count fits) laid c.loop-done.invariant.rest;
      laid = all-laid-next ns bs run old mid new done count first c.requires.other c.following-count.ensures.within refl c.following-count.ensures.follow (part-at bs done count fits) laid c.loop-done.invariant.laid;
      rows = λ n there. c.lay_run.ensures.rows n (c.loop-done.invariant.rows n there);
      room = λ more room.
          room-next c.args.numbers.now c.loop-done.numbers c.lay_run.new.numbers c.args.blocks.now c.loop-done.blocks c.lay_run.new.blocks done (length run) c.loop-done.invariant.room c.lay_run.ensures.room more
          (room-less _ _ (done + length run + more) (done + count + more) (omega (arith, long)) room);
    }

pub returns-clause-laid : goal.returns-clause-laid
returns-clause-laid c =
    all-laid c.args.other_numbers.now c.args.other_blocks.now _ _ c.loop-done.invariant.rest (λ i lt. c.loop-done.invariant.laid i (omega (arith, lt, c.loop-done-test.false)))
