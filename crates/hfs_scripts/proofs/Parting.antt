-- One line more is one call more of its caller, or one line more of another.
use Rattle.std.proofs.Common.{◌≡◌, ◌∙◌, Bool, true, false, not, List, [], ◌∷◌, ◌++◌, map, refl, ap, append-nil}
use Rattle.std.specs.Prelude.{filter}
use Rattle.std.proofs.lemmas.List.Elements.{filter-append}
use Rattle.std.proofs.lemmas.List.{map-append}
use Rattle.hfs_scripts.specs.declared.lines.Caller.{Caller}
use Rattle.hfs_scripts.specs.declared.lines.ScriptLine.{ScriptLine}
use Rattle.hfs_scripts.specs.Callers.{is_same, calls_of, lines_of_others}

-- one more at the end of a filtered list, where it passes and where not
passes : (p : ScriptLine → Bool) (lines : List ScriptLine) (line : ScriptLine) → p line ≡ true → filter p (lines ++ line ∷ []) ≡ filter p lines ++ line ∷ []
passes p lines line h = filter-append p lines (line ∷ []) ∙ rw h refl

fails : (p : ScriptLine → Bool) (lines : List ScriptLine) (line : ScriptLine) → p line ≡ false → filter p (lines ++ line ∷ []) ≡ filter p lines
fails p lines line h = filter-append p lines (line ∷ []) ∙ rw h (append-nil (filter p lines))

pub calls_of-one : (caller : Caller) (lines : List ScriptLine) (line : ScriptLine) → is_same line.caller caller ≡ true → calls_of caller (lines ++ line ∷ []) ≡ calls_of caller lines ++ line.call ∷ []
unfolding calls_of
calls_of-one caller lines line h =
    ap (map (λ (line : ScriptLine). line.call)) (passes (λ line. is_same line.caller caller) lines line h)
    ∙ map-append (λ (line : ScriptLine). line.call) (filter (λ line. is_same line.caller caller) lines) (line ∷ [])

pub calls_of-other : (caller : Caller) (lines : List ScriptLine) (line : ScriptLine) → is_same line.caller caller ≡ false → calls_of caller (lines ++ line ∷ []) ≡ calls_of caller lines
unfolding calls_of
calls_of-other caller lines line h = ap (map (λ (line : ScriptLine). line.call)) (fails (λ line. is_same line.caller caller) lines line h)

pub lines_of_others-one : (caller : Caller) (lines : List ScriptLine) (line : ScriptLine) → is_same line.caller caller ≡ true → lines_of_others caller (lines ++ line ∷ []) ≡ lines_of_others caller lines
unfolding lines_of_others
lines_of_others-one caller lines line h = fails (λ line. not (is_same line.caller caller)) lines line (rw h refl)

pub lines_of_others-other : (caller : Caller) (lines : List ScriptLine) (line : ScriptLine) → is_same line.caller caller ≡ false
    → lines_of_others caller (lines ++ line ∷ []) ≡ lines_of_others caller lines ++ line ∷ []
unfolding lines_of_others
lines_of_others-other caller lines line h = passes (λ line. not (is_same line.caller caller)) lines line (rw h refl)

pub calls_of-none : (caller : Caller) → [] ≡ calls_of caller []
unfolding calls_of
calls_of-none caller = refl

pub lines_of_others-none : (caller : Caller) → [] ≡ lines_of_others caller []
unfolding lines_of_others
lines_of_others-none caller = refl
