-- What is printed of an image's checks.
use Rattle.std.specs.Prelude.{◌≡◌, ℕ, List, ◌++◌, Option, Some, None, codes, String, string_bytes}
use Rattle.std.specs.Fmt.{decimal}
use Rattle.hfs_check.specs.declared.mount_fault.MountFault.{MountFault}
use Rattle.hfs_check.specs.declared.reported.Alternate.{Alternate}
use Rattle.hfs_check.specs.declared.reported.Alternate.TheVariants as alternate
use Rattle.hfs_check.specs.declared.reported.Report.{Report}
use Rattle.hfs_check.specs.Report.{report_of}
use Rattle.hfs_commands.specs.declared.fault.Status.{Status}
use Rattle.hfs_commands.specs.declared.fault.Status.TheVariants as status
use Rattle.hfs_check.specs.Refusals.{refusal_text}
use Rattle.hfs_commands.specs.Faults.{status_number}
use Rattle.hfs_texts.specs.Lines.{line}

-- how the copy of the master directory block stands to it
abbrev pub alternate_text : Alternate → List ℕ
alternate_text alternate.Same = codes "same"
alternate_text alternate.Differs = codes "differs"
alternate_text alternate.Missing = codes "missing"

-- the lines of a sound image
unfoldable pub sound_lines : Report → List ℕ
sound_lines report = codes "sound\n"
    ++ line (codes "files") (decimal report.files)
    ++ line (codes "folders") (decimal report.folders)
    ++ line (codes "free") (decimal report.free)
    ++ line (codes "alternate") (alternate_text report.alternate)
    ++ line (codes "unowned") (decimal report.unowned)

-- the one line of an image that is refused
unfoldable pub refused_line : MountFault → List ℕ
refused_line why = line (codes "refused") (refusal_text why)

-- the lines of an image with this first fault
abbrev pub checked_lines : Option MountFault → Report → List ℕ
checked_lines None report = sound_lines report
checked_lines (Some why) report = refused_line why

abbrev pub checked_status : Option MountFault → Status
checked_status None = status.Done
checked_status (Some why) = status.ImageRefused

-- the lines that are printed of a report
abbrev pub check_lines : Report → List ℕ
check_lines report = checked_lines report.fault report

-- the exit status after them
abbrev pub check_status : Report → ℕ
check_status report = status_number (checked_status report.fault)

-- this is the fault that an image's check tells, if there is one
abbrev pub IsCheckFault : Option MountFault → List ℕ → Type 0
IsCheckFault fault = λ image. fault ≡ (report_of image).fault

-- this is the exit status after an image's check
abbrev pub IsCheckStatus : ℕ → List ℕ → Type 0
IsCheckStatus number = λ image. number ≡ check_status (report_of image)

-- this text has the lines of an image's check
abbrev pub HasCheckLines : {Z : Type 0} → String Z → List ℕ → Type 0
HasCheckLines text = λ image. string_bytes text ≡ check_lines (report_of image)
