-- Images whose bytes are known.
use Rattle.std.specs.Prelude.{◌≡◌, ℕ, List, length, Option, IfSome}
use Rattle.hfs_blocks.specs.Blocks.{block_at}
use Rattle.hfs_check.specs.declared.reported.Report.{Report}
use Rattle.hfs_check.specs.Report.{report_in, report_of}

-- where the image's bytes are known, and are so many, this holds of them
abbrev pub OfKnown : Option (List ℕ) → ℕ → (List ℕ → Type 0) → Type 0
OfKnown known len Fact = IfSome known (λ bytes. length bytes ≡ len → Fact bytes)

-- where the image's bytes are known, this is the report of so many of its blocks
abbrev pub IsReportIn : Option (List ℕ) → ℕ → Report → Type 0
IsReportIn known count report = IfSome known (λ bytes. report ≡ report_in count (block_at bytes))

-- where the image's bytes are known, and are so many, this is its report
abbrev pub IsReportOf : Option (List ℕ) → ℕ → Report → Type 0
IsReportOf known len report = OfKnown known len (λ bytes. report ≡ report_of bytes)
