-- The names of the columns, one behind the other.
use Rattle.std.proofs.Common.{◌≡◌, sym, subst, ◌++◌, OnOk, ℕ, List, rules}
use Rattle.hfs_database.proofs.Fields.{head_of_none, head_of_some}
use Rattle.hfs_database.proofs.csv_line.push_csv_head.Goals as goal

pub returns-in_default : goal.returns-in_default
returns-in_default c =
    subst (λ (l : List ℕ). OnOk c.extend_from_slice.result (c.extend_from_slice.new.self.items ≡ c.args.text.now.items ++ l))
    (sym (head_of_none c.args.columns.now c.in_default.ensures.cases)) (search rules)

pub returns : goal.returns
returns c =
    head_of_some c.extend_from_slice-3.result c.args.columns.now c.in-Some.first.now c.in-Some.others.now c.args.text.now.items c.extend_from_slice-2.new.self.items
    c.push_names.new.text.items c.extend_from_slice-3.new.self.items c.in-Some.ensures.cases.0 (search rules) c.in_ok-push_names.ensures (search rules)
