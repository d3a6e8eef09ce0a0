-- What a script is: the lines read, or the first line that doesn't read.
use Rattle.std.specs.Prelude.{◌≡◌, ℕ, ◌+◌, ◌==◌, nat_lt, if◌then◌else◌, List, [], ◌∷◌, length, map, Option, Some, None, Result, Ok, Err, MatchResult}
use Rattle.std.specs.List.{slice_split}
use Rattle.hfs_scripts.specs.declared.lines.ScriptLine.{ScriptLine}
use Rattle.hfs_scripts.specs.declared.fault.ScriptFault.{ScriptFault}
use Rattle.hfs_scripts.specs.declared.fault.ScriptFault.TheVariants.{TooLarge, Line, Memory}
use Rattle.hfs_scripts.specs.Lines.{line_of}
use Rattle.std.proofs.Common.{Vec, Global}

-- pieces without the last, where that is empty
abbrev pub without_empty_end : List (List ℕ) → List (List ℕ)
without_empty_end [] = []
without_empty_end (piece ∷ []) = if length piece == 0 then [] else piece ∷ []
without_empty_end (piece ∷ next ∷ more) = piece ∷ without_empty_end (next ∷ more)

-- the lines of a script: a line feed ends each, and the last may lack it
unfoldable pub lines_of : List ℕ → List (List ℕ)
lines_of bytes = without_empty_end (slice_split (λ byte. byte == 10) bytes)

-- a line with those after it; their places count from the line after
abbrev pub before_lines : ScriptLine → Result (List ScriptLine) ℕ → Result (List ScriptLine) ℕ
before_lines line (Ok lines) = Ok (line ∷ lines)
before_lines line (Err place) = Err (place + 1)

-- the lines where all read, or the place of the first that doesn't, counted from 1
abbrev pub all_read : List (Option ScriptLine) → Result (List ScriptLine) ℕ
all_read [] = Ok []
all_read (Some line ∷ more) = before_lines line (all_read more)
all_read (None ∷ more) = Err 1

-- the lines of these bytes, or the place of the first that doesn't read
unfoldable pub lines_read : ℕ → List ℕ → Result (List ScriptLine) ℕ
lines_read now bytes = all_read (map (line_of now) (lines_of bytes))

-- a fault at that line
abbrev pub fault_at : Result (List ScriptLine) ℕ → Result (List ScriptLine) ScriptFault
fault_at (Ok lines) = Ok lines
fault_at (Err place) = Err (Line place)

-- the script that bytes are, at most 16,777,216 of them, or why they are none
unfoldable pub script_of : ℕ → List ℕ → Result (List ScriptLine) ScriptFault
script_of now bytes = if nat_lt 16777216 (length bytes) then Err TooLarge else fault_at (lines_read now bytes)

-- why lines were not read: memory was wanting, or one of them doesn't read
abbrev pub IsFaultIn : Result (List ScriptLine) ℕ → ScriptFault → Type 0
IsFaultIn lines Memory = Unit {0}
IsFaultIn lines TooLarge = ⊥
IsFaultIn lines (Line place) = lines ≡ Err place

-- why a script was not read: memory was wanting, or the script's own fault
abbrev pub IsFaultOf : Result (List ScriptLine) ScriptFault → ScriptFault → Type 0
IsFaultOf script Memory = Unit {0}
IsFaultOf script TooLarge = script ≡ Err TooLarge
IsFaultOf script (Line place) = script ≡ Err (Line place)

-- ---- what is answered

-- these lines, or why they were not read
abbrev pub GivesLines : Result (List ScriptLine) ℕ → Result (Vec ScriptLine Global) ScriptFault → Type 0
GivesLines lines result = MatchResult result (λ read. lines ≡ Ok read.items) (IsFaultIn lines)

-- this script, or why it was not read
abbrev pub GivesScript : Result (List ScriptLine) ScriptFault → Result (List ScriptLine) ScriptFault → Type 0
GivesScript script result = MatchResult result (λ read. script ≡ Ok read) (IsFaultOf script)
