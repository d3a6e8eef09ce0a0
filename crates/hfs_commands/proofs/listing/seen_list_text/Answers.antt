-- The lines of the reply in brief are those of the reply, of each image.
use Rattle.std.proofs.Common.{◌∙◌, ap}
use Rattle.hfs_model.specs.Reading.{list}
use Rattle.hfs_commands.specs.Entries.{entries_in}
use Rattle.hfs_commands.specs.Listing.{list_lines, list_status}
use Rattle.hfs_commands.proofs.Brief.{list_lines-brief, list_status-brief}
use Rattle.hfs_commands.proofs.listing.seen_list_text.Goals as goal

pub returns-in-Ok-clause-status : goal.returns-in-Ok-clause-status
returns-in-Ok-clause-status g c = λ image h.
    c.in-Ok.ensures.status ∙ ap list_status (c.in_ok-reply.ensures image h) ∙ list_status-brief (list (entries_in image) c.args.dir)

pub returns-in-Ok-clause-lines : goal.returns-in-Ok-clause-lines
returns-in-Ok-clause-lines g c = λ image h.
    c.in-Ok.ensures.lines ∙ ap list_lines (c.in_ok-reply.ensures image h) ∙ list_lines-brief (list (entries_in image) c.args.dir)
