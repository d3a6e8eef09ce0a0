-- The nodes of this plan's catalog didn't suffice, or the list was refused on it for another reason.
use Rattle.std.proofs.Common.{Option, MatchOption, subst, inr}
use Rattle.hfs_format.specs.Image.{image_bytes}
use Rattle.hfs_word_make.specs.Filled.{IsFullIn, IsPutIn}
use Rattle.hfs_word_put.specs.declared.putting.PutList.{PutList}
use Rattle.hfs_word_make.proofs.filling.filled_at.Goals as goal

pub returns-in-Ok-None-clause-put : goal.returns-in-Ok-None-clause-put
returns-in-Ok-None-clause-put c =
    let order = c.args.order.now in
    let items = c.args.items.now in
    let image = image_bytes c.in_ok-image.image.planned in
    let full = subst (λ (put : Option PutList). MatchOption put (IsFullIn order items image) (IsPutIn order items image)) c.in-Ok-None.field-0-is c.in-Ok-None.ensures.put in
    record { planned = c.in_ok-image.image.planned; image = c.in_ok-image.ensures; full = full }

pub returns-in-Err-clause-fault : goal.returns-in-Err-clause-fault
returns-in-Err-clause-fault c =
    inr (record { planned = c.in_ok-image.image.planned; image = c.in_ok-image.ensures; unput = c.in-Err.ensures.fault })
