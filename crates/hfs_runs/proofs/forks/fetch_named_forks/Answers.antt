-- More was read of a volume whose working blocks were read.
use Rattle.std.proofs.Common.{ℕ, refl, sym, subst, List, None}
use Rattle.hfs_fields.proofs.OutcomeLemmas.{on_ok}
use Rattle.hfs_blocks.specs.declared.run.Run.{Run}
use Rattle.hfs_blocks.specs.Layers.{KeepsWithin}
use Rattle.hfs_scripts.specs.declared.lines.ScriptLine.{ScriptLine}
use Rattle.hfs_source.specs.Sparse.{sparse, HasEach}
use Rattle.hfs_runs.specs.NamedForks.{HaveNamedForks, blocks_of_runs}
use Rattle.hfs_runs.proofs.MoreRead.{working-later, named-read}
use Rattle.hfs_runs.proofs.forks.fetch_named_forks.Goals as goal

pub returns-clause-working : goal.returns-clause-working
returns-clause-working g c = λ known total same is.
    working-later known (g.S.BlockSource.image c.args.source.now) total c.args.working.now.count c.args.working.now.read c.fetch_forks.new.read c.args.working.now.sound.mdb
    c.args.working.now.sound.trees is c.fetch_forks.ensures.grown (sym same) c.fetch_forks.ensures.stays
    (subst (λ (n : ℕ). KeepsWithin c.args.working.now.read c.fetch_forks.new.read n) is.whole c.fetch_forks.ensures.within)

pub returns-clause-mountable : goal.returns-clause-mountable
returns-clause-mountable g c =
    working-later None None c.args.working.now.count c.args.working.now.count c.args.working.now.read c.fetch_forks.new.read c.args.working.now.sound.mdb
    c.args.working.now.sound.trees c.requires c.fetch_forks.ensures.grown refl tt c.fetch_forks.ensures.within

pub returns-clause-forks : goal.returns-clause-forks
returns-clause-forks g c =
    on_ok c.fetch_forks.result _ _ (λ has reads.
    named-read None None c.args.working.now.count c.args.working.now.count c.args.working.now.read c.fetch_forks.new.read c.args.working.now.sound.mdb
    c.args.working.now.sound.trees c.requires c.fetch_forks.ensures.grown c.args.script.now (blocks_of_runs c.in-Ok.runs.items)
    (subst (λ (lines : List ScriptLine). HaveNamedForks (sparse c.args.working.now.read) lines (blocks_of_runs c.in-Ok.runs.items)) c.lines-lines.ensures c.in-Ok.ensures.forks)
    (subst (λ (runs : List Run). HasEach c.fetch_forks.new.read (blocks_of_runs runs)) c.deref.ensures.value has)) c.fetch_forks.ensures.has
