-- A line of a script: who makes which call.
use Rattle.std.specs.Prelude.{ℕ, ◌==◌, ◌&&◌, nat_le, Bool, true, if◌then◌else◌, List, [], ◌∷◌, Option, Some, None}
use Rattle.std.specs.Option.{option_map}
use Rattle.hfs_scripts.specs.declared.lines.Caller.{Caller}
use Rattle.hfs_scripts.specs.declared.lines.Caller.TheVariants.{Worker, Viewer}
use Rattle.hfs_scripts.specs.declared.lines.ScriptLine.{ScriptLine}
use Rattle.hfs_scripts.specs.declared.words.Word.{Word}
use Rattle.hfs_scripts.specs.Options.{◌>>=◌}
use Rattle.hfs_scripts.specs.Numbers.{number_of}
use Rattle.hfs_scripts.specs.Fields.{fields_of}
use Rattle.hfs_scripts.specs.Words.{word_of, is_for_viewers}
use Rattle.hfs_scripts.specs.Calls.{call_of}

-- the number of a worker or viewer, from 1 to 8
unfoldable pub member_of : List ℕ → Option ℕ
member_of field = do
  number ← number_of field
  if nat_le 1 number && nat_le number 8 then Some number else None

-- who calls: a worker by its number, or a viewer by `v` (118) and its number
unfoldable pub caller_of : List ℕ → Option Caller
caller_of [] = None
caller_of (first ∷ others) = if first == 118 then option_map Viewer (member_of others) else option_map Worker (member_of (first ∷ others))

-- whether the caller's lines may have the word: a worker's any, a viewer's the five that viewers answer
abbrev pub may_ask : Caller → Word → Bool
may_ask (Worker number) word = true
may_ask (Viewer number) word = is_for_viewers word

-- the line of its fields: who calls, a word, and the word's fields
unfoldable pub line_of_fields : ℕ → List (List ℕ) → Option ScriptLine
line_of_fields now (who ∷ text ∷ fields) = do
  caller ← caller_of who
  word ← word_of text
  call ← call_of now word fields
  if may_ask caller word then Some (record { caller = caller; call = call }) else None
line_of_fields now _ = None

-- the line that bytes are, if they are one
unfoldable pub line_of : ℕ → List ℕ → Option ScriptLine
line_of now bytes = line_of_fields now (fields_of bytes)
