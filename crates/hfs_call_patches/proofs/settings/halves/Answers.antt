use Rattle.std.proofs.Common.{◌∙◌, drop, length-drop, take_all, arith}
use Rattle.hfs_call_patches.proofs.settings.halves.Goals as goal

pub returns : goal.returns
returns c =
    let info = c.args.info.now in
    let second = c.copy_from_slice-2.ensures.after ∙ take_all 16 (drop 16 info) (omega (arith, length-drop 16 info, c.told-info)) in
    λ i. (c.copy_from_slice.ensures.after i, second i)
