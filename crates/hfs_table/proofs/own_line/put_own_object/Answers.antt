-- part after part
use Rattle.hfs_table.proofs.OwnObjects.{own_object_put}
use Rattle.hfs_table.proofs.own_line.put_own_object.Goals as goal

pub returns : goal.returns
returns c =
    own_object_put c.args.names.now c.args.info.now c.args.writer.now c.begin_object.new.self c.put_path_member.new.writer c.put_own_members.new.writer c.end_object.new.self
    c.end_object.result c.in_ok-begin_object.ensures.room.0 c.in_ok-begin_object.ensures.ok c.in_ok-put_path_member.ensures.0 c.in_ok-put_path_member.ensures.1
    c.in_ok-put_own_members.ensures.0 c.in_ok-put_own_members.ensures.1 c.end_object.ensures
