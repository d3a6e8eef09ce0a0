-- The fault stays where what was written is taken away, and is want of memory where memory was refused for that.
use Rattle.std.proofs.Common.{inl, inr, refl}
use Rattle.hfs_word_rescue.proofs.rescuing.take_away.Goals as goal

pub returns-in-Ok-clause-fault : goal.returns-in-Ok-clause-fault
returns-in-Ok-clause-fault g c = inl refl

pub returns-in-Ok-clause-away : goal.returns-in-Ok-clause-away
returns-in-Ok-clause-away g c = inl c.in-Ok.ensures.away

pub returns-clause-fault : goal.returns-clause-fault
returns-clause-fault g c = inr refl

pub returns-clause-away : goal.returns-clause-away
returns-clause-away g c = inr (refl, c.in-Err.ensures.within)
