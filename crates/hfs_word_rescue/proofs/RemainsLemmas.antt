-- What a look at a refused image tells is what its check tells.
use Rattle.std.proofs.Common.{◌≡◌, ◌∙◌, ℕ, List, Some, sym, ap}
use Rattle.hfs_check.specs.declared.mount_fault.MountFault.{MountFault}
use Rattle.hfs_check.specs.declared.reported.Report.{Report}
use Rattle.hfs_check.specs.Faults.{fault_of}
use Rattle.hfs_check.specs.Report.{refused_report, report_of, report_with}
use Rattle.hfs_remains_forks.proofs.LookLemmas.{refused-report}
use Rattle.hfs_commands.specs.Checks.{IsCheckFault, check_lines, refused_line}

pub refused_fault : (image : List ℕ) (why : MountFault) → fault_of image ≡ Some why → IsCheckFault (Some why) image
refused_fault image why refused = sym (ap (λ (report : Report). report.fault) (refused-report image why refused))

pub refused_lines : (image : List ℕ) (why : MountFault) (lines : List ℕ) → fault_of image ≡ Some why → lines ≡ refused_line why → lines ≡ check_lines (report_of image)
refused_lines image why lines refused is = is ∙ sym (ap check_lines (refused-report image why refused))
