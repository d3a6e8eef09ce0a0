-- The fields of the columns, one behind the other.
use Rattle.std.proofs.Common.{◌≡◌, sym, subst, ◌++◌, OnOk, ℕ, List, rules}
use Rattle.hfs_database.proofs.Fields.{line_of_none, line_of_some}
use Rattle.hfs_database.proofs.csv_line.push_csv_line.Goals as goal

pub returns-in_default : goal.returns-in_default
returns-in_default c =
    subst (λ (l : List ℕ). OnOk c.extend_from_slice.result (c.extend_from_slice.new.self.items ≡ c.args.text.now.items ++ l))
    (sym (line_of_none c.args.columns.now c.args.keys.now c.args.values.now c.in_default.ensures.cases)) (search rules)

pub returns : goal.returns
returns c =
    line_of_some c.extend_from_slice-2.result c.args.columns.now c.in-Some.first.now c.in-Some.others.now c.args.keys.now c.args.values.now c.args.text.now.items
    c.push_field.new.text.items c.push_fields.new.text.items c.extend_from_slice-2.new.self.items c.in-Some.ensures.cases.0 c.in_ok-push_field.ensures
    c.in_ok-push_fields.ensures (search rules)
