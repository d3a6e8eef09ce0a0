use Rattle.hfs_fields.specs.KeyForms.{length-cat_leaf_bytes}
use Rattle.hfs_fields.proofs.key.CatKey.leaf_length.Goals as goal

pub returns : goal.returns
returns c =
    let same = c.bytes.ensures.bytes in
    let whole = length-cat_leaf_bytes c.args.self.now in
    cc
