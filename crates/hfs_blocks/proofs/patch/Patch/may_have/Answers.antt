-- A block without a place isn't there.
use Rattle.std.proofs.Common.{sym, ap, ◌∙◌}
use Rattle.hfs_blocks.specs.Layers.{Numbered, changes}
use Rattle.hfs_blocks.proofs.TableLemmas.{look-at}
use Rattle.hfs_blocks.proofs.patch.Patch.may_have.Goals as goal

pub returns : goal.returns
returns c = λ none n low high. ap (λ (l : Numbered). changes l n) (sym c.self.view_is) ∙ look-at _ _ _ c.self.invariant n 0 (c.is_any_placed.ensures none n low high)
