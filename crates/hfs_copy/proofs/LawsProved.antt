-- The laws of this crate.
use Rattle.hfs_copy.specs.Working.{ChangesCarryOver, CopiesAnswer, KeptForksAreAlike}
use Rattle.hfs_copy.proofs.Carried.{copy-answers, alike-kept, carries-over}

pub copies_answer : CopiesAnswer
copies_answer = λ copy image is. copy-answers copy image is

pub changes_carry_over : ChangesCarryOver
changes_carry_over = λ copy image written changed is are. carries-over copy image is written changed are

pub kept_forks_are_alike : KeptForksAreAlike
kept_forks_are_alike = λ keep copy image is has. alike-kept copy image is keep has
