-- The record is that of a file of the list, or of none.
use Rattle.std.proofs.Common.{rules, ◌≡◌, ◌<◌, ◌∙◌, ◌++◌, Some, None, true, sym, ap, subst}
use Rattle.std.specs.BTreeMap as tree
use Rattle.std.specs.Ordering.{nat_cmp}
use Rattle.hfs_blocks.specs.Blocks.{block_at}
use Rattle.hfs_fields.specs.declared.file_record.FileRecord.{FileRecord}
use Rattle.hfs_fields.specs.Records.{is_file, file_record_of}
use Rattle.hfs_model.specs.declared.call.Fork.TheVariants.{DataFork, ResFork}
use Rattle.hfs_space.specs.Extents.{block_total}
use Rattle.hfs_volume.specs.Sharing.{file_extents}
use Rattle.hfs_put.specs.ForkRuns.{fork_runs_of, record_runs}
use Rattle.hfs_fields.proofs.OutcomeLemmas.{on_ok}
use Rattle.hfs_catalog.proofs.FileRecords.{entry-file, folder-no-file, some-item}
use Rattle.hfs_put.proofs.ForkRunLists.{no-runs-of-other, no-runs-unplaced, both-forks}
use Rattle.hfs_put.proofs.RunsApart.{blocks-few}
use Rattle.hfs_put.proofs.fork_places.push_record.Goals as goal

pub returns-in_default-body : goal.returns-in_default-body
returns-in_default-body c =
    no-runs-of-other (block_at c.args.volume.now.current) (tree.get nat_cmp c.args.places.now) c.args.entry.now c.args.runs.now.items
    (folder-no-file c.args.entry.now c.in_default-body.field-0
    (sym c.in_default-body.is ∙ some-item c.args.entry.now c.key.result.now c.body.result.now c.in-Some.item c.key.ensures c.body.ensures c.in-Some.ensures))

pub returns-in_default-copied : goal.returns-in_default-copied
returns-in_default-copied c =
    let own : (is_file c.args.entry.now.1 ≡ true) × (c.in-File.file ≡ file_record_of c.args.entry.now.1) =
    entry-file c.args.entry.now c.key.result.now c.body.result.now c.in-Some.item c.in-File.file c.key.ensures c.body.ensures c.in-Some.ensures c.in-File.is in
    let none : tree.get nat_cmp c.args.places.now c.in-File.file.id ≡ None = search rules in
    no-runs-unplaced (block_at c.args.volume.now.current) (tree.get nat_cmp c.args.places.now) c.args.entry.now c.args.runs.now.items own.0
    (ap (λ (f : FileRecord). tree.get nat_cmp c.args.places.now f.id) (sym own.1) ∙ none)

pub push_fork-requires : goal.push_fork-requires
push_fork-requires c =
    let own : (is_file c.args.entry.now.1 ≡ true) × (c.in-File.file ≡ file_record_of c.args.entry.now.1) =
    entry-file c.args.entry.now c.key.result.now c.body.result.now c.in-Some.item c.in-File.file c.key.ensures c.body.ensures c.in-Some.ensures c.in-File.is in
    subst (λ (f : FileRecord). block_total (file_extents (block_at c.args.volume.now.current) DataFork f) < 4294967296) (sym own.1)
    (blocks-few c.args.volume.now.current c.requires.sound c.args.entry.now c.requires.there own.0 DataFork)

pub push_fork-requires-2 : goal.push_fork-requires-2
push_fork-requires-2 c =
    let own : (is_file c.args.entry.now.1 ≡ true) × (c.in-File.file ≡ file_record_of c.args.entry.now.1) =
    entry-file c.args.entry.now c.key.result.now c.body.result.now c.in-Some.item c.in-File.file c.key.ensures c.body.ensures c.in-Some.ensures c.in-File.is in
    subst (λ (f : FileRecord). block_total (file_extents (block_at c.args.volume.now.current) ResFork f) < 4294967296) (sym own.1)
    (blocks-few c.args.volume.now.current c.requires.sound c.args.entry.now c.requires.there own.0 ResFork)

pub returns : goal.returns
returns c =
    let blocks = block_at c.args.volume.now.current in
    let place_of = tree.get nat_cmp c.args.places.now in
    let own : (is_file c.args.entry.now.1 ≡ true) × (c.in-File.file ≡ file_record_of c.args.entry.now.1) =
    entry-file c.args.entry.now c.key.result.now c.body.result.now c.in-Some.item c.in-File.file c.key.ensures c.body.ensures c.in-Some.ensures c.in-File.is in
    let some : place_of c.in-File.file.id ≡ Some c.in-Some-copied.place = search rules in
    let step : (c.push_fork-2.new.runs.items ≡ c.push_fork.new.runs.items ++ fork_runs_of blocks c.in-Some-copied.place ResFork c.in-File.file
    → c.push_fork-2.new.runs.items ≡ c.args.runs.now.items ++ record_runs blocks place_of c.args.entry.now) = λ second.
    both-forks blocks place_of c.args.entry.now c.in-Some-copied.place c.in-File.file c.args.runs.now.items c.push_fork.new.runs.items c.push_fork-2.new.runs.items own.0 own.1
    some c.in_ok-push_fork.ensures second in
    on_ok _ _ _ step c.push_fork-2.ensures
