-- The block, where it is one of zeros.
use Rattle.std.proofs.Common.{◌≡◌, ◌≢◌, ℕ, sym, ◌∙◌, rules}
use Rattle.hfs_fields.proofs.OutcomeLemmas.{on_ok}
use Rattle.hfs_source.specs.Sparse.{zero_block}
use Rattle.hfs_copy.proofs.KeptBlocks.{put-one}
use Rattle.hfs_copy.proofs.keeping.keep_zeros.Goals as goal

pub returns : goal.returns
returns g c =
    let zeros : c.block.new.into ≡ zero_block = search rules in
    on_ok c.put.result _ _
    (put-one (g.B.Blocks.blocks c.args.now.now) (λ (n : ℕ). g.B.Blocks.blocks c.args.now.now n ≡ zero_block) (λ (n : ℕ). g.B.Blocks.blocks c.args.now.now n ≢ zero_block) c.args.n
    c.block.new.into c.args.kept.now c.put.new.self (sym c.block.ensures ∙ zeros) c.block.ensures)
    c.put.ensures.written
