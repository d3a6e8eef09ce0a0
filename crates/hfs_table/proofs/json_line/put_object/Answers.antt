-- part after part
use Rattle.hfs_table.proofs.Objects.{object-put}
use Rattle.hfs_table.proofs.json_line.put_object.Goals as goal

pub returns : goal.returns
returns c =
    object-put c.args.names.now c.args.info.now c.args.writer.now c.begin_object.new.self c.put_member.new.writer c.put_members.new.writer c.end_object.new.self
    c.end_object.result c.in_ok-begin_object.ensures.room.0 c.in_ok-begin_object.ensures.ok c.in_ok-put_member.ensures.0 c.in_ok-put_member.ensures.1
    c.in_ok-put_members.ensures.0 c.in_ok-put_members.ensures.1 c.end_object.ensures
