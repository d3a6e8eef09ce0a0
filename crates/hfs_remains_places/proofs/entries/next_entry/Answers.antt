use Rattle.std.proofs.Common.{◌≡◌, take, sym, ap, ◌∙◌}
use Rattle.hfs_remains_places.specs.Entries.{entry_row, has_entry_row}
use Rattle.hfs_remains_places.proofs.EntryLemmas.{entry-at, read-is, knows-row}
use Rattle.hfs_remains_places.proofs.entries.next_entry.Goals as goal

pub returns-clause-entry : goal.returns-clause-entry
returns-clause-entry c =
    let things = c.args.things.now in
    let told : c.has-again.result ≡ has_entry_row (take c.args.place things) (entry_row c.index-things-place.result) =
    c.has-again.ensures ∙ c.requires.known c.in_ok-row.row ∙ ap (has_entry_row (take c.args.place things)) c.in_ok-row.ensures in
    c.in_ok-text.ensures ∙ entry-at things c.args.place c.index-things-place.result c.has-again.result c.requires.within c.index-things-place.is told

pub returns-clause-known : goal.returns-clause-known
returns-clause-known c =
    let things = c.args.things.now in
    knows-row c.args.rows.now c.add.new.self things c.args.place c.in_ok-row.row c.requires.within
    (c.in_ok-row.ensures ∙ ap entry_row (read-is things c.args.place c.index-things-place.result c.requires.within c.index-things-place.is)) c.in_ok-add.ensures c.requires.known
