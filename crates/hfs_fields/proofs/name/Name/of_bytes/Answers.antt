use Rattle.std.proofs.Common.{◌≤◌, length, rules}
use Rattle.hfs_fields.proofs.NameFieldLemmas.{padded}
use Rattle.hfs_fields.proofs.name.Name.of_bytes.Goals as goal

pub invariant_of-result : goal.invariant_of-result
invariant_of-result c =
    let short : length c.args.bytes.now ≤ 31 = search rules in
    padded c.args.bytes.now _ c.copy_from_slice.ensures.after short
