-- At a fault nothing went out but what made room.
use Rattle.hfs_database.proofs.Going.{moves_front}
use Rattle.hfs_database.proofs.text_putting.put_row.Goals as goal

pub returns-in-Err-clause-part : goal.returns-in-Err-clause-part
returns-in-Err-clause-part g c =
    moves_front (g.W.Write.contents c.args.writer.now) (g.W.Write.contents c.make_room.new.writer) c.args.text.now.items c.make_room.new.text.items c.in_ok-make_room.ensures.moved

pub returns-in-Err-note-clause-part : goal.returns-in-Err-note-clause-part
returns-in-Err-note-clause-part g c =
    moves_front (g.W.Write.contents c.args.writer.now) (g.W.Write.contents c.make_room.new.writer) c.args.text.now.items c.make_room.new.text.items c.in_ok-make_room.ensures.moved
