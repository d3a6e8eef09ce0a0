-- The fork lies where its runs say.
use Rattle.std.proofs.Common.{Option, subst}
use Rattle.hfs_model.specs.declared.call.Fork.TheVariants.{ResFork}
use Rattle.hfs_image.specs.declared.fork_runs.FileRuns.{FileRuns}
use Rattle.hfs_word_take.specs.Reading.{AreTold, LieThere}
use Rattle.hfs_word_take.proofs.SourceLemmas.{each_begun}
use Rattle.hfs_word_take.proofs.items.open_resource.Goals as goal

pub begin_fork-requires : goal.begin_fork-requires
begin_fork-requires g c = (subst AreTold c.in-Some.is c.in_ok-runs.ensures.told).1

pub returns-in-Some : goal.returns-in-Some
returns-in-Some g c =
    each_begun (g.S.PlacedBlocks.Holds c.args.image.now) c.begin_fork.result ResFork c.args.info.now c.in-Some.runs.resource
    (λ image h. (subst (λ (runs : Option FileRuns). LieThere c.args.info.now runs image) c.in-Some.is (c.in_ok-runs.ensures.there image h)).1) c.begin_fork.ensures
