use Rattle.std.proofs.Common.{refl, arith}
use Rattle.hfs_fields.proofs.PieceLemmas.{halves}
use Rattle.hfs_viewers.proofs.opening.finder_bytes.Goals as goal

pub returns : goal.returns
returns c = halves _ _ _ _ _ c.copy_from_slice.ensures.after c.copy_from_slice-2.ensures.after (omega arith) refl
