-- a text without quotation marks stays as it is
use Rattle.std.proofs.Common.{◌≡◌, ◌∙◌, sym, subst, ◌++◌, OnOk, ℕ, List, rules}
use Rattle.hfs_database.proofs.Fields.{plain_text}
use Rattle.hfs_database.proofs.csv_line.push_marked.Goals as goal

pub returns : goal.returns
returns c =
    subst (λ (l : List ℕ). OnOk c.extend_from_slice.result (c.extend_from_slice.new.self.items ≡ c.args.text.now.items ++ l))
    (sym (plain_text c.args.bytes.now (sym c.has_mark.ensures ∙ c.if-has_mark.false))) (search rules)
