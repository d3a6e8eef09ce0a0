-- the letters so far, and those of what is still to be read
use Rattle.std.proofs.Common.{◌≡◌, ◌≤◌, ◌-◌, ◌++◌, chars, length}
use denote.Text.{Utf8}
use denote.Shadow.{shadow}
use Rattle.hfs_encodings.specs.Spelled.{seen_letters}
use Rattle.hfs_encodings.proofs.spelled.first_letters.Given as goal

abbrev pub invariant-loop-rest : goal.invariant-loop-rest
invariant-loop-rest l = shadow (Utf8 l.rest) × (seen_letters l.spelling (chars l.fn.text) ≡ l.row ++ seen_letters l.spelling (chars l.rest)) × (length l.row ≤ 32)

abbrev pub decreases-loop-rest : goal.decreases-loop-rest
decreases-loop-rest l = 32 - length l.row
