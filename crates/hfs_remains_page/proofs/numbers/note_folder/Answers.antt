-- noted, or nothing to note
use Rattle.hfs_fields.proofs.OutcomeLemmas.{on_ok}
use Rattle.hfs_remains_places.proofs.FolderLemmas.{notes-folder, notes-none}
use Rattle.hfs_remains_page.proofs.numbers.note_folder.Goals as goal

pub returns-in-Some : goal.returns-in-Some
returns-in-Some c = on_ok _ _ _ (λ notes. notes-folder c.args.folders.now c.put_first.new.self c.args.thing.now c.args.place c.in-Some.number c.in-Some.is notes) c.put_first.ensures

pub returns-in-None : goal.returns-in-None
returns-in-None c = notes-none c.args.folders.now c.args.thing.now c.args.place c.in-None.is
