-- A piece more of what was left is written.
use Rattle.std.proofs.lemmas.Bool.{true≢false}
use Rattle.hfs_rescue_items.proofs.WritingLemmas.{goes_on}
use Rattle.hfs_rescue_items.proofs.fork_writing.write_fork.Goals as goal

pub loop-piece-preserved : goal.loop-piece-preserved
loop-piece-preserved g c =
    let fork = c.args.fork.now in
    let held = c.in_ok-write_next.ensures.narrows in
    record {
      narrows = λ image h. c.loop-piece.invariant.narrows image (held image h);
      on = goes_on c.args.mdb.now fork.length fork.places.items (g.S.BlockSource.Holds c.loop-piece.source) (g.S.BlockSource.Holds c.write_next.new.source) held
          (g.W.Write.contents c.args.writer.now) (g.W.Write.contents c.loop-piece.writer) (g.W.Write.contents c.write_next.new.writer) c.loop-piece.reading
          c.write_next.new.reading c.loop-piece.invariant.on c.in_ok-write_next.field-0 c.in_ok-write_next.ensures.moved;
      still = λ is. absurd (true≢false is);
    }
