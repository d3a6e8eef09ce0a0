-- Why an item can't be put: the first reason that holds is given.
use Rattle.std.specs.Prelude.{ℕ, Bool, not, nat_lt, if◌then◌else◌, Option, Some, None}
use Rattle.hfs_put_plan.specs.declared.reasons.Findings.{Findings}
use Rattle.hfs_put_plan.specs.declared.reasons.Why.{Why}
use Rattle.hfs_put_plan.specs.declared.reasons.Why.TheVariants.{NotAFile, TooLarge, NotAppleDouble, NoName, TwoOfOneName, Refused}

-- a fork has at most 2,147,483,647 bytes
abbrev pub is_too_large : ℕ → Bool
is_too_large len = nat_lt 2147483647 len

abbrev pub why_not : Findings → Option Why
why_not found =
    if not found.is_item then Some NotAFile
    else if not found.fits then Some TooLarge
    else if not found.is_double then Some NotAppleDouble
    else if not found.is_named then Some NoName
    else if not found.is_first then Some TwoOfOneName
    else if not found.is_accepted then Some Refused
    else None
