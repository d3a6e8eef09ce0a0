use Rattle.hfs_word_make.specs.Doubled.{AreFullBelow}
use Rattle.hfs_word_make.proofs.filling.filled_image.Given as goal

abbrev pub invariant-loop-doubled : goal.invariant-loop-doubled
invariant-loop-doubled l = AreFullBelow l.wanted l.order l.items l.doubled
