use Rattle.std.proofs.Common.{arith, append-nil}
use Rattle.hfs_fields.proofs.KeyFormLemmas.{is_cat_index-record, cat_key_of-record, cat_child_of-record}
use Rattle.hfs_btree.proofs.keys.CatKeyKey.index_record.Goals as goal

pub returns-clause-index : goal.returns-clause-index
returns-clause-index c = rw (c.in_ok-made.ensures.items, c.write_index.ensures.written, append-nil) (is_cat_index-record c.args.self.now c.args.node c.write_index.ensures.value)

pub returns-clause-key : goal.returns-clause-key
returns-clause-key c = rw (c.in_ok-made.ensures.items, c.write_index.ensures.written, append-nil) (cat_key_of-record c.args.self.now c.args.node c.write_index.ensures.value)

pub returns-clause-child : goal.returns-clause-child
returns-clause-child c =
    let fits = c.ranges.node.fits in
    rw (c.in_ok-made.ensures.items, c.write_index.ensures.written, append-nil) (cat_child_of-record c.args.self.now c.args.node c.write_index.ensures.value.name (omega arith))
