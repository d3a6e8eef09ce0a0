-- The first nine fields say what a line is.
use Rattle.std.proofs.Common.{◌≡◌, ◌∙◌, ap, subst, IfOk, Option}
use Rattle.hfs_scripts.specs.declared.lines.ScriptLine.{ScriptLine}
use Rattle.hfs_scripts.specs.Fields.{fields_of}
use Rattle.hfs_scripts.specs.Lines.{line_of_fields, line_of}
use Rattle.hfs_scripts.proofs.FirstNine.{line_of_fields-first_nine}
use Rattle.hfs_scripts.proofs.lines.read_line.Goals as goal

pub returns : goal.returns
unfolding line_of
returns c =
    let same = ap (line_of_fields c.args.now) (rw c.as_slice.ensures.value c.in_ok-fields.ensures) ∙ line_of_fields-first_nine c.args.now (fields_of c.args.bytes.now) in
    subst (λ (made : Option ScriptLine). IfOk c.read_fields.result (λ line. line ≡ made)) same c.read_fields.ensures
