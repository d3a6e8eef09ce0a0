use Rattle.std.proofs.Common.{ℕ, ◌≤◌, List, ◌++◌, ap, arith, ◌∙◌}
use Rattle.std.proofs.lemmas.List.{take-replicate}
use Rattle.hfs_fields.proofs.field_row.FieldRow.push_zeros.Goals as goal

pub returns-clause-bytes : goal.returns-clause-bytes
returns-clause-bytes c =
    let few : c.args.count ≤ 512 = omega arith in
    c.push.ensures.bytes ∙ ap (λ (bytes : List ℕ). c.args.self.now ++ bytes) (take-replicate c.args.count 512 0 few)
