-- The image that holds is the bytes themselves.
use Rattle.std.proofs.Common.{◌≡◌, ◌∙◌, ap, refl}
use Rattle.hfs_source.proofs.laws.told_of_memory.Goals as goal

pub returns : goal.returns
returns c = λ old new told value held is.
    let same : new ≡ old = held new refl in
    (same, is new refl ∙ ap value same)
