-- What was opened finds where the forks of each image's file lie.
use Rattle.std.proofs.Common.{ℕ, sym, subst}
use Rattle.std.specs.Prelude.{IfErr, IfOk, None}
use Rattle.hfs_model.specs.declared.call.Fork.TheVariants.{DataFork, ResFork}
use Rattle.hfs_source.specs.Images.{OfEach}
use Rattle.hfs_image.specs.Opened.{IsOpenedOf}
use Rattle.hfs_image.specs.SeenFiles.{LiesInRuns, RefusesFile}
use Rattle.hfs_image.proofs.SeenRuns.{data-seen, refused-seen, resource-seen}
use Rattle.hfs_image.proofs.seen.SeenImage.file_runs.Goals as goal

pub opened_runs-requires : goal.opened_runs-requires
opened_runs-requires g c =
    let opened = c.self.inside in
    let is = c.self.invariant.opened in
    (None, subst (λ (n : ℕ). IsOpenedOf None n opened.volume) (sym is.whole) is)

pub returns-clause-data_fork : goal.returns-clause-data_fork
returns-clause-data_fork g c =
    let opened = c.self.inside in
    subst (λ s. IfOk c.opened_runs.result (λ told. IfOk told (λ found. OfEach (g.S.PlacedBlocks.Holds s) (LiesInRuns c.args.dir c.args.name.now DataFork found.«data»)))) c.self.view_is
    (data-seen (g.S.PlacedBlocks.Holds opened.source.blocks) opened.len opened.volume c.self.invariant c.opened_runs.result c.args.dir c.args.name.now c.opened_runs.ensures.data_fork)

pub returns-clause-resource_fork : goal.returns-clause-resource_fork
returns-clause-resource_fork g c =
    let opened = c.self.inside in
    subst (λ s. IfOk c.opened_runs.result (λ told. IfOk told (λ found. OfEach (g.S.PlacedBlocks.Holds s) (LiesInRuns c.args.dir c.args.name.now ResFork found.resource)))) c.self.view_is
    (resource-seen (g.S.PlacedBlocks.Holds opened.source.blocks) opened.len opened.volume c.self.invariant c.opened_runs.result c.args.dir c.args.name.now c.opened_runs.ensures.resource_fork)

pub returns-clause-unread : goal.returns-clause-unread
returns-clause-unread g c =
    let opened = c.self.inside in
    subst (λ s. IfOk c.opened_runs.result (λ told. IfErr told (λ reply. OfEach (g.S.PlacedBlocks.Holds s) (RefusesFile c.args.dir c.args.name.now reply)))) c.self.view_is
    (refused-seen (g.S.PlacedBlocks.Holds opened.source.blocks) opened.len opened.volume c.self.invariant c.opened_runs.result c.args.dir c.args.name.now c.opened_runs.ensures.unread)
