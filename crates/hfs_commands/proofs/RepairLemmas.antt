-- What is told of a repair.
use Rattle.std.proofs.Common.{◌≡◌, ℕ, List, Option, None, Some, refl, sym, ◌∙◌}
use Rattle.hfs_blocks.specs.Layers.{Numbered}
use Rattle.hfs_check.specs.declared.mount_fault.MountFault.{MountFault}
use Rattle.hfs_volume.specs.Image.{patched}
use Rattle.hfs_repair.specs.declared.fixed.Fix.{Fix}
use Rattle.hfs_copy.specs.Mended.{IsMendedBy}
use Rattle.hfs_commands.specs.Checks.{refused_line}
use Rattle.hfs_commands.specs.Repairs.{IsRefused, IsRepaired, repaired_lines}

pub sound_told : (image : List ℕ) (patch : Numbered) (fixes : List Fix) (fault : Option MountFault) (status : ℕ) (lines : List ℕ)
    → IsMendedBy image patch fixes fault → status ≡ 0 → lines ≡ repaired_lines fixes → IsRepaired image (patched patch image) None status lines
sound_told image patch fixes fault status lines h is are = record {
  fixes = fixes;
  are = h.fixes;
  mended = h.mended;
  told_is = refl;
  status_is = is;
  lines_are = are;
}

pub refused_told : (image : List ℕ) (patch : Numbered) (fixes : List Fix) (fault : Option MountFault) (why : MountFault) (status : ℕ) (lines : List ℕ)
    → fault ≡ Some why → IsMendedBy image patch fixes fault → status ≡ 2 → lines ≡ refused_line why → IsRefused image (Some why) status lines
refused_told image patch fixes fault why status lines e h is are = record {
  why = why;
  fault = sym h.fault ∙ e;
  told_is = refl;
  status_is = is;
  line_is = are;
}
