use Rattle.std.proofs.Common.{◌∙◌, ap, List}
use Rattle.hfs_repair.specs.declared.byte_put.BytePut.{BytePut}
use Rattle.hfs_repair.specs.Puts.{puts_of, put_all}
use Rattle.hfs_repair.proofs.Repairs.{put-repair}
use Rattle.hfs_repair.proofs.mendings.Mending.of.Goals as goal

pub returns-clause-written : goal.returns-clause-written
returns-clause-written c =
    ap (λ (ps : List BytePut). put_all ps c.args.image.now) (c.in_ok-puts.ensures ∙ ap puts_of (c.deref.ensures.value ∙ c.in_ok-wrong.ensures)) ∙ put-repair c.args.image.now
