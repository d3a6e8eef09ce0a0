-- The volume is a copy of the image.
use Rattle.std.proofs.Common.{ℕ, inr, subst}
use Rattle.std.proofs.lemmas.Result.{IfOk-at_ok}
use Rattle.hfs_blocks.specs.Layers.{changes, AreWithin}
use Rattle.hfs_word_put.specs.Put.{IsCopyOfEach}
use Rattle.hfs_word_put.proofs.putting.put_on.Goals as goal

pub returns-in-Ok-put_items-clause-within : goal.returns-in-Ok-put_items-clause-within
returns-in-Ok-put_items-clause-within g c =
    let copied = IfOk-at_ok (λ volume. IsCopyOfEach (g.S.BlockSource.Holds c.mount_image-mounted.result.1) c.args.len volume.base) c.in-Ok.is c.mount_image-mounted.ensures.copy in
    subst (λ (total : ℕ). AreWithin (changes c.in-Ok-put_items.put.list.blocks.patch) total) copied.count c.in-Ok-put_items.ensures.within

pub returns-clause-fault : goal.returns-clause-fault
returns-clause-fault g c =
    let copied = IfOk-at_ok (λ volume. IsCopyOfEach (g.S.BlockSource.Holds c.mount_image-mounted.result.1) c.args.len volume.base) c.in-Ok.is c.mount_image-mounted.ensures.copy in
    inr (record { copy = c.in-Ok.volume.base; copied = copied; unput = c.in-Err-put_items.ensures.fault })
