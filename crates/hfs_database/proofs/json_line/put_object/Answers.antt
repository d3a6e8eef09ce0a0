-- part after part
use Rattle.std.proofs.Common.{◌∙◌}
use Rattle.hfs_database.proofs.Objects.{object_put}
use Rattle.hfs_database.proofs.json_line.put_object.Goals as goal

pub returns : goal.returns
returns c = (
  c.in_ok-end_object.ensures.room.0 ∙ c.in_ok-put_members.ensures.0 ∙ c.in_ok-put_table.ensures.0 ∙ c.in_ok-begin_object.ensures.room.0,
  object_put c.args.label c.args.columns.now c.args.keys.now c.args.values.now c.args.writer.now.tokens c.begin_object.new.self.tokens c.put_table.new.writer.tokens
      c.put_members.new.writer.tokens c.end_object.new.self.tokens c.in_ok-begin_object.ensures.ok c.in_ok-put_table.ensures.1 c.in_ok-put_members.ensures.1
      c.in_ok-end_object.ensures.ok,
)
