-- The item that came is that of the next row.
use Rattle.std.proofs.Common.{List, ℕ, ap, subst, ◌∙◌}
use Rattle.hfs_items.specs.Levels.{GivesRow}
use Rattle.hfs_word_take.specs.Items.{folders_text, names_between}
use Rattle.hfs_word_take.proofs.StateLemmas.{has_item, row_fewer}
use Rattle.hfs_word_take.proofs.items.ImageItemsBagSource.next_item.Goals as goal

pub returns-clause-taken : goal.returns-clause-taken
returns-clause-taken g c = λ image h.
    let before = c.args.self.now in
    has_item image before.rows c.next.new.self before.came c.in-Ok-came_item.came before.reading c.head_of.result c.in-Some.info
    (subst (GivesRow before.rows c.next.new.self) c.in-Some.is c.in-Ok.ensures)
    (c.in-Ok-came_item.ensures.above ∙ ap (λ (path : List (List ℕ)). folders_text (names_between path)) c.path.ensures)
    c.in-Ok-came_item.ensures.name c.in-Ok-came_item.ensures.info (c.head_of.ensures image (c.in-Ok-runs_of.ensures.there image h))

pub returns-clause-fewer : goal.returns-clause-fewer
returns-clause-fewer g c =
    row_fewer c.args.self.now.rows c.next.new.self c.in-Some.info c.head_of.result (subst (GivesRow c.args.self.now.rows c.next.new.self) c.in-Some.is c.in-Ok.ensures)
