-- The change was made, or the call was refused.
use Rattle.std.proofs.Common.{subst}
use Rattle.hfs_volume.specs.Steps.{IsEditOn}
use Rattle.hfs_volume.proofs.Outcomes.{made_outcome, refused_outcome}
use Rattle.hfs_volume.proofs.volume.Volume.make.Goals as goal

pub returns-in-Ok-clause-outcome : goal.returns-in-Ok-clause-outcome
returns-in-Ok-clause-outcome c = made_outcome c.args.self.now.current c.in-Ok.change _ c.args.edit c.in-Ok.is c.commit.result c.commit.ensures.volume c.commit.ensures.reply

pub returns-in-Err-clause-outcome : goal.returns-in-Err-clause-outcome
returns-in-Err-clause-outcome c = λ call is.
    refused_outcome c.args.self.now.current call c.in-Err.refusal c.refused_by.result c.refused_by.ensures (subst (IsEditOn call c.args.self.now.current) c.in-Err.is is)
