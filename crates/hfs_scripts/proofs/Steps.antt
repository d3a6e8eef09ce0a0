-- The lines of bytes, from the first one on.
use Rattle.std.proofs.Common.{◌≡◌, ℕ, ◌+◌, ◌∙◌, List, [], ◌∷◌, ◌++◌, length, Some, None, Result, Ok, Err, refl, sym, ap, arith, append_assoc, length-append}
use Rattle.std.proofs.lemmas.List.{append-nil}
use Rattle.hfs_scripts.specs.declared.lines.ScriptLine.{ScriptLine}
use Rattle.hfs_scripts.specs.Lines.{line_of}
use Rattle.hfs_scripts.specs.Scripts.{lines_of, before_lines, lines_read}

-- lines before those that are read, whose places count from the line behind them
abbrev pub behind_lines : List ScriptLine → Result (List ScriptLine) ℕ → Result (List ScriptLine) ℕ
behind_lines done (Ok lines) = Ok (done ++ lines)
behind_lines done (Err place) = Err (length done + place)

pub behind_lines-none : (lines : Result (List ScriptLine) ℕ) → behind_lines [] lines ≡ lines
behind_lines-none (Ok lines) = refl
behind_lines-none (Err place) = ap Err (omega arith)

pub behind_lines-one : (done : List ScriptLine) (line : ScriptLine) (lines : Result (List ScriptLine) ℕ) → behind_lines done (before_lines line lines) ≡ behind_lines (done ++ line ∷ []) lines
behind_lines-one done line (Ok lines) = ap Ok (sym (append_assoc done (line ∷ []) lines))
behind_lines-one done line (Err place) = ap Err (omega (arith, length-append done (line ∷ [])))

pub lines_read-none : (now : ℕ) → lines_read now [] ≡ Ok []
unfolding lines_read lines_of
lines_read-none now = refl

pub lines_read-step : (now : ℕ) (bytes first behind : List ℕ) (line : ScriptLine) → lines_of bytes ≡ first ∷ lines_of behind → Some line ≡ line_of now first
    → lines_read now bytes ≡ before_lines line (lines_read now behind)
unfolding lines_read
lines_read-step now bytes first behind line e h = rw (e, ← h) refl

pub lines_read-stop : (now : ℕ) (bytes first behind : List ℕ) → lines_of bytes ≡ first ∷ lines_of behind → None ≡ line_of now first → lines_read now bytes ≡ Err 1
unfolding lines_read
lines_read-stop now bytes first behind e h = rw (e, ← h) refl

pub kept : (now : ℕ) (whole bytes first behind : List ℕ) (done : List ScriptLine) (line : ScriptLine) → lines_read now whole ≡ behind_lines done (lines_read now bytes)
    → lines_of bytes ≡ first ∷ lines_of behind → Some line ≡ line_of now first → lines_read now whole ≡ behind_lines (done ++ line ∷ []) (lines_read now behind)
kept now whole bytes first behind done line before e h = before ∙ ap (behind_lines done) (lines_read-step now bytes first behind line e h) ∙ behind_lines-one done line (lines_read now behind)

pub stopped : (now : ℕ) (whole bytes first behind : List ℕ) (done : List ScriptLine) → lines_read now whole ≡ behind_lines done (lines_read now bytes)
    → lines_of bytes ≡ first ∷ lines_of behind → None ≡ line_of now first → lines_read now whole ≡ Err (length done + 1)
stopped now whole bytes first behind done before e h = before ∙ ap (behind_lines done) (lines_read-stop now bytes first behind e h)

pub ended : (now : ℕ) (whole rest : List ℕ) (done : List ScriptLine) → lines_read now whole ≡ behind_lines done (lines_read now rest) → length rest ≡ 0
    → lines_read now whole ≡ Ok done
ended now whole [] done before none = before ∙ ap (behind_lines done) (lines_read-none now) ∙ ap Ok (append-nil done)
ended now whole (byte ∷ more) done before none = let no : ⊥ = omega arith in absurd no
