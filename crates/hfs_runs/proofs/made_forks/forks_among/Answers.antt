-- Record by record.
use Rattle.std.proofs.Common.{[], sym, subst, arith, get_or, List}
use Rattle.hfs_blocks.specs.declared.run.Run.{Run}
use Rattle.hfs_blocks.specs.Blocks.{block_at, block_count}
use Rattle.hfs_fields.specs.Members.{In}
use Rattle.hfs_check.specs.Parts.{catalog_in}
use Rattle.hfs_catalog.specs.Records.{Record, Catalog}
use Rattle.hfs_runs.specs.NamedForks.{AreForksOf, GainsForksOf, IsScriptFile}
use Rattle.hfs_runs.proofs.MadeForks.{forks-next, forks-none, take-all}
use Rattle.hfs_fields.proofs.MemberLemmas.{in-at}
use Rattle.hfs_runs.proofs.made_forks.forks_among.Goals as goal

pub loop-entry-init : goal.loop-entry-init
loop-entry-init c =
    subst (λ (runs : List Run). AreForksOf (block_at c.args.volume.now.current) (IsScriptFile c.args.files.now) (block_count c.args.volume.now.current) [] runs)
    (sym c.new-runs.ensures.items) (forks-none (block_at c.args.volume.now.current) (IsScriptFile c.args.files.now) (block_count c.args.volume.now.current))

pub push_record-requires-clause-there : goal.push_record-requires-clause-there
push_record-requires-clause-there c =
    subst (λ (r : Record). In r (catalog_in (block_at c.args.volume.now.current))) (sym c.entry-item.is)
    (subst (λ (rs : Catalog). In (get_or c.args.records.now c.loop-entry.entry-index c.entry-item.result) rs) c.requires.records (in-at c.args.records.now c.loop-entry.entry-index c.entry-item.result c.loop-entry-test.true))

pub loop-entry-preserved : goal.loop-entry-preserved
loop-entry-preserved c =
    forks-next (block_at c.args.volume.now.current) (IsScriptFile c.args.files.now) (block_count c.args.volume.now.current) c.args.records.now c.loop-entry.entry-index
    c.entry-item.result c.loop-entry.runs.items c.push_record.new.runs.items c.loop-entry-test.true
    (subst (λ (rs : Catalog). In (get_or c.args.records.now c.loop-entry.entry-index c.entry-item.result) rs) c.requires.records (in-at c.args.records.now c.loop-entry.entry-index c.entry-item.result c.loop-entry-test.true))
    c.loop-entry.invariant
    (subst (λ (r : Record). GainsForksOf (block_at c.args.volume.now.current) (IsScriptFile c.args.files.now) (block_count c.args.volume.now.current) r c.loop-entry.runs.items
    c.push_record.new.runs.items) c.entry-item.is c.in_ok-push_record.ensures)

pub returns : goal.returns
returns c =
    subst (λ (rs : Catalog). AreForksOf (block_at c.args.volume.now.current) (IsScriptFile c.args.files.now) (block_count c.args.volume.now.current) rs c.loop-entry.runs.items)
    (take-all c.args.records.now c.loop-entry.entry-index (omega (arith, c.loop-entry-test.false))) c.loop-entry.invariant
