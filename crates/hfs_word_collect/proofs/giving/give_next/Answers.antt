-- What begins with the next row begins with all that are to come.
use Rattle.std.proofs.Common.{◌≡◌, ◌∷◌, ◌++◌, [], List, ℕ, subst}
use Rattle.hfs_fields.proofs.OutcomeLemmas.{on_err}
use Rattle.hfs_model.specs.Children.{entries_of}
use Rattle.hfs_check.specs.VolumeOf.{volume_of}
use Rattle.hfs_items.specs.Levels.{GivesRow}
use Rattle.hfs_source.specs.Images.{OfEach}
use Rattle.hfs_database.specs.Taken.{IsBeginning}
use Rattle.hfs_word_collect.specs.Giving.{told_row}
use Rattle.hfs_word_collect.specs.Items.{item_row, item_rows_from}
use Rattle.hfs_word_collect.proofs.Going.{next_part}
use Rattle.hfs_word_collect.proofs.giving.give_next.Goals as goal

pub returns-in_err-give_item-clause-part : goal.returns-in_err-give_item-clause-part
returns-in_err-give_item-clause-part g c =
    let old = g.T.RowTaker.given c.args.taker.now in
    let new = g.T.RowTaker.given c.give_item.new.taker in
    let rows = c.args.inventory.now.left in
    let left = c.next.new.self.left in
    let info = c.in-Some.info in
    let number = c.args.counts.now.items in
    let gives : GivesRow c.args.inventory.now c.next.new.self c.in_ok-info.field-0 = c.in_ok-info.ensures in
    let first : rows ≡ told_row c.next.new.self.path info ∷ left = subst (GivesRow c.args.inventory.now c.next.new.self) c.in-Some.is gives in
    let part : OfEach (g.S.PlacedBlocks.Holds c.give_item.new.image) (λ bytes. IsBeginning new (old ++ item_rows_from c.args.taken (entries_of (volume_of bytes)) number rows)) =
    λ bytes h. next_part bytes c.args.taken number rows left (told_row c.next.new.self.path info) old new first
    (subst (λ (path : List (List ℕ)). IsBeginning new (old ++ item_row c.args.taken (entries_of (volume_of bytes)) number (told_row path info) ∷ [])) c.path.ensures
    (c.in_err-give_item.ensures.part bytes h)) in
    on_err _ _ part
