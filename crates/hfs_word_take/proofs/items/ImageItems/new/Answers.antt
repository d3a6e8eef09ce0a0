-- The first row is that of the root.
use Rattle.std.proofs.Common.{Option, sym, subst}
use Rattle.hfs_items.specs.ToldRows.{told_rows}
use Rattle.hfs_model.specs.declared.reply.Info.{Info}
use Rattle.hfs_word_take.specs.Items.{entries_in}
use Rattle.hfs_word_take.specs.Reading.{AreBegunBy, BeginsWith}
use Rattle.hfs_word_take.proofs.items.ImageItems.new.Goals as goal

pub returns-clause-root : goal.returns-clause-root
returns-clause-root g c = λ image h.
    let rows = told_rows (entries_in image) in
    subst (λ (root : Info). BeginsWith root rows) (sym c.begin.ensures.root)
    (subst (λ (root : Option Info). AreBegunBy root rows) c.in-Some.is (c.in-Ok.ensures.root image h))
