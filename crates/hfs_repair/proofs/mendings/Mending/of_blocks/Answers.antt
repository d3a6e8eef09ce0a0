use Rattle.std.proofs.Common.{List, ◌∙◌, ap, sym, subst}
use Rattle.hfs_repair.specs.declared.byte_put.BytePut.{BytePut}
use Rattle.hfs_repair.specs.Puts.{puts_of, AreInBlocks}
use Rattle.hfs_repair.specs.Wrong.{wrong_in_blocks}
use Rattle.hfs_repair.proofs.PlacedInBlocks.{wrong-lie, puts-lie}
use Rattle.hfs_repair.proofs.mendings.Mending.of_blocks.Goals as goal

pub returns-clause-written : goal.returns-clause-written
returns-clause-written g c = c.in_ok-puts.ensures ∙ ap puts_of (c.deref.ensures.value ∙ c.in_ok-wrong.ensures)

pub returns-clause-within : goal.returns-clause-within
returns-clause-within g c =
    let total = g.B.Blocks.total c.args.blocks.now in
    let wrong = wrong_in_blocks total (g.B.Blocks.blocks c.args.blocks.now) in
    subst (λ (puts : List BytePut). AreInBlocks total puts) (sym (c.in_ok-puts.ensures ∙ ap puts_of (c.deref.ensures.value ∙ c.in_ok-wrong.ensures)))
    (puts-lie total wrong (wrong-lie total (g.B.Blocks.blocks c.args.blocks.now) c.requires))
