use Rattle.std.proofs.Common.{List, sym, ◌∙◌, ap, subst}
use Rattle.hfs_model.specs.Volume.{Entry}
use Rattle.hfs_store.specs.PlainVolume.{AreEntries, unlocked_volume, with_block_size, with_locks}
use Rattle.hfs_plain.proofs.Rows.{are_entries, locked_is}
use Rattle.hfs_plain.proofs.opening.plain_table.Goals as goal

pub of-plain-requires : goal.of-plain-requires
of-plain-requires c =
    let t = c.args.table.now in
    subst (λ (es : List Entry). AreEntries es t.next_id) (sym c.in_ok-items.ensures) (are_entries t c.requires.table c.requires.lawful)

pub returns : goal.returns
returns c =
    let t = c.args.table.now in
    c.set_block_size.ensures
    ∙ ap (with_block_size t.mdb.allocation_block_size) (c.set_locks.ensures
    ∙ ap (with_locks t.hardware_locked t.software_locked) (c.of-plain.ensures ∙ ap (λ (es : List Entry). unlocked_volume es t.next_id t.changed) c.in_ok-items.ensures))
    ∙ locked_is t
