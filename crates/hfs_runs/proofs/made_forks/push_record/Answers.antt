-- The record is that of a file, or of none.
use Rattle.std.proofs.Common.{◌≡◌, ◌∙◌, sym, ap, subst, true, rules}
use Rattle.hfs_fields.specs.declared.file_record.FileRecord.{FileRecord}
use Rattle.hfs_fields.specs.Records.{is_file, is_item, file_record_of}
use Rattle.hfs_fields.proofs.OutcomeLemmas.{on_ok}
use Rattle.hfs_blocks.specs.Blocks.{block_at, block_count}
use Rattle.hfs_catalog.specs.Lookups.{catalog_item}
use Rattle.hfs_image.specs.Forks.{AreForksIn}
use Rattle.hfs_copy.specs.Keeping.{GainsRuns}
use Rattle.hfs_runs.specs.NamedForks.{GainsForksOf, IsScriptFile, file_blocks}
use Rattle.hfs_runs.proofs.MadeForks.{forks-in, gains-forks, gains-none, no-item, none-is}
use Rattle.hfs_catalog.proofs.FileRecords.{entry-file, folder-no-file}
use Rattle.hfs_catalog.proofs.FileRecords.{some-item}
use Rattle.hfs_runs.proofs.made_forks.push_record.Goals as goal

pub returns-in_default : goal.returns-in_default
returns-in_default c =
    gains-none (block_at c.args.volume.now.current) (IsScriptFile c.args.files.now) (block_count c.args.volume.now.current) c.args.entry.now c.args.runs.now.items (λ file kept.
    no-item c.args.entry.now (ap is_item (sym c.body.ensures) ∙ none-is c.body.result.now (catalog_item (c.key.result.now, c.body.result.now)) c.in_default.ensures) file)

pub returns-in_default-body : goal.returns-in_default-body
returns-in_default-body c =
    gains-none (block_at c.args.volume.now.current) (IsScriptFile c.args.files.now) (block_count c.args.volume.now.current) c.args.entry.now c.args.runs.now.items (λ file kept.
    folder-no-file c.args.entry.now c.in_default-body.field-0
    (sym c.in_default-body.is ∙ some-item c.args.entry.now c.key.result.now c.body.result.now c.in-Some.item c.key.ensures c.body.ensures c.in-Some.ensures) file)

pub returns-then-not-is_script_file : goal.returns-then-not-is_script_file
returns-then-not-is_script_file c =
    let own : (is_file c.args.entry.now.1 ≡ true) × (c.in-File.file ≡ file_record_of c.args.entry.now.1) =
    entry-file c.args.entry.now c.key.result.now c.body.result.now c.in-Some.item c.in-File.file c.key.ensures c.body.ensures c.in-Some.ensures c.in-File.is in
    let other : (IsScriptFile c.args.files.now c.in-File.file.id → ⊥) = search rules in
    gains-none (block_at c.args.volume.now.current) (IsScriptFile c.args.files.now) (block_count c.args.volume.now.current) c.args.entry.now c.args.runs.now.items (λ file kept.
    other (subst (IsScriptFile c.args.files.now) (ap (λ (f : FileRecord). f.id) (sym own.1)) kept))

pub push_forks-requires-clause-forks : goal.push_forks-requires-clause-forks
push_forks-requires-clause-forks c =
    let own : (is_file c.args.entry.now.1 ≡ true) × (c.in-File.file ≡ file_record_of c.args.entry.now.1) =
    entry-file c.args.entry.now c.key.result.now c.body.result.now c.in-Some.item c.in-File.file c.key.ensures c.body.ensures c.in-Some.ensures c.in-File.is in
    subst (AreForksIn (block_at c.args.volume.now.current)) (sym own.1)
    (forks-in (block_count c.args.volume.now.current) (block_at c.args.volume.now.current) c.requires.sound.blocks c.args.entry.now c.requires.there own.0)

pub returns : goal.returns
returns c =
    let own : (is_file c.args.entry.now.1 ≡ true) × (c.in-File.file ≡ file_record_of c.args.entry.now.1) =
    entry-file c.args.entry.now c.key.result.now c.body.result.now c.in-Some.item c.in-File.file c.key.ensures c.body.ensures c.in-Some.ensures c.in-File.is in
    let mine : IsScriptFile c.args.files.now c.in-File.file.id = search rules in
    let step : (GainsRuns (file_blocks (block_at c.args.volume.now.current) c.in-File.file) (block_count c.args.volume.now.current) c.args.runs.now.items c.push_forks.new.runs.items
    → GainsForksOf (block_at c.args.volume.now.current) (IsScriptFile c.args.files.now) (block_count c.args.volume.now.current) c.args.entry.now c.args.runs.now.items
    c.push_forks.new.runs.items) = λ came.
    gains-forks (block_at c.args.volume.now.current) (IsScriptFile c.args.files.now) (block_count c.args.volume.now.current) c.args.entry.now c.args.runs.now.items
    c.push_forks.new.runs.items own.0 (subst (IsScriptFile c.args.files.now) (ap (λ (f : FileRecord). f.id) own.1) mine)
    (subst (λ (f : FileRecord). GainsRuns (file_blocks (block_at c.args.volume.now.current) f) (block_count c.args.volume.now.current) c.args.runs.now.items
    c.push_forks.new.runs.items) own.1 came) in
    on_ok c.push_forks.result _ _ step c.push_forks.ensures
