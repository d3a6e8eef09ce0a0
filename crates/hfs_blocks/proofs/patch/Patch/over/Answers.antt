-- The blocks of a patch are whole.
use Rattle.std.proofs.Common.{subst}
use Rattle.hfs_blocks.specs.Layers.{Numbered, changes, AreWhole}
use Rattle.hfs_blocks.proofs.TableLemmas.{whole-table}
use Rattle.hfs_blocks.proofs.patch.Patch.over.Goals as goal

pub invariant_of-result : goal.invariant_of-result
invariant_of-result g c = record { whole = subst (λ (l : Numbered). AreWhole (changes l)) c.self.view_is (whole-table _ _ _ c.self.invariant) }
