-- What was gathered finds the file that the image has.
use Rattle.std.proofs.Common.{ℕ, refl, sym, subst}
use Rattle.hfs_check.specs.Sound.{AreBlocksSound}
use Rattle.hfs_model.specs.declared.call.Fork.TheVariants.{DataFork, ResFork}
use Rattle.hfs_source.specs.Sparse.{sparse}
use Rattle.hfs_image.specs.ForkRuns.{IsForkBytes}
use Rattle.hfs_image.specs.Gathered.{HasNeeded}
use Rattle.hfs_image.proofs.Named.{unread-known, fact-known}
use Rattle.hfs_check.proofs.LawsProved.{no_blocks_fault}
use Rattle.hfs_image.proofs.LawsProved.{gathered_is_enough}
use Rattle.hfs_items.proofs.QueryLawsProved.{catalog_answers-entries}
use Rattle.hfs_image.proofs.fork_runs.opened_runs.Goals as goal

pub returns-in-Err-clause-unread : goal.returns-in-Err-clause-unread
returns-in-Err-clause-unread c = λ known len same opened.
    let volume = c.args.volume.now in
    let needed = subst (λ (n : ℕ). HasNeeded n volume.read) (sym same) opened.needed in
    let sound = subst (λ (n : ℕ). AreBlocksSound n (sparse volume.read)) (sym same) opened.sound in (
      unread-known no_blocks_fault gathered_is_enough catalog_answers-entries len volume.read needed sound
          c.args.dir c.args.name.now DataFork known opened.of c.in-Err.reply c.in-Err.ensures.found,
      unread-known no_blocks_fault gathered_is_enough catalog_answers-entries len volume.read needed sound
          c.args.dir c.args.name.now ResFork known opened.of c.in-Err.reply c.in-Err.ensures.found,
    )

pub returns-clause-data_fork : goal.returns-clause-data_fork
returns-clause-data_fork c = λ known len same opened.
    let volume = c.args.volume.now in
    fact-known no_blocks_fault gathered_is_enough catalog_answers-entries len volume.read
    (subst (λ (n : ℕ). HasNeeded n volume.read) (sym same) opened.needed) (subst (λ (n : ℕ). AreBlocksSound n (sparse volume.read)) (sym same) opened.sound)
    c.args.dir c.args.name.now DataFork known known refl opened.of volume.count (sym same)
    c.in-Ok.file c.in-Ok.ensures.found (IsForkBytes known c.in_ok-found.found.«data») (c.in_ok-found.ensures.data_bytes known)

pub returns-clause-resource_fork : goal.returns-clause-resource_fork
returns-clause-resource_fork c = λ known len same opened.
    let volume = c.args.volume.now in
    fact-known no_blocks_fault gathered_is_enough catalog_answers-entries len volume.read
    (subst (λ (n : ℕ). HasNeeded n volume.read) (sym same) opened.needed) (subst (λ (n : ℕ). AreBlocksSound n (sparse volume.read)) (sym same) opened.sound)
    c.args.dir c.args.name.now ResFork known known refl opened.of volume.count (sym same)
    c.in-Ok.file c.in-Ok.ensures.found (IsForkBytes known c.in_ok-found.found.resource) (c.in_ok-found.ensures.bytes known)
