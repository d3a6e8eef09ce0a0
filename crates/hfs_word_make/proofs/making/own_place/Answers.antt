-- The file is as long as the image.
use Rattle.std.proofs.Common.{ℕ, None, refl, sym, ap}
use Rattle.hfs_word_put.specs.Files.{place_of}
use Rattle.hfs_word_make.proofs.making.own_place.Goals as goal

pub returns : goal.returns
returns c = ap (λ (len : ℕ). place_of 0 len None) (sym (c.len-len.ensures _ refl))
