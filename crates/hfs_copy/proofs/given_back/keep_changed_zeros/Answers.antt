-- The block, where it is changed and one of zeros.
use Rattle.std.proofs.Common.{◌≡◌, rules}
use Rattle.hfs_fields.proofs.OutcomeLemmas.{on_ok}
use Rattle.hfs_source.specs.Sparse.{zero_block}
use Rattle.hfs_copy.proofs.KeptBlocks.{back-one}
use Rattle.hfs_copy.proofs.given_back.keep_changed_zeros.Goals as goal

pub returns : goal.returns
returns c =
    let zeros : c.in-Some.block.now ≡ zero_block = search rules in
    on_ok c.put.result _ _ (back-one c.args.changed.now c.args.n c.in-Some.block.now c.args.kept.now c.put.new.self c.in-Some.ensures.value zeros) c.put.ensures.written
