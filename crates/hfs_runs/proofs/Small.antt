-- The callers of a script have numbers of at most 8, so there are from one to eight workers, and as many viewers.
use Rattle.std.proofs.Common.{◌≡◌, ℕ, ◌==◌, ◌≤◌, ◌<◌, ◌&&◌, ◌||◌, ◌∙◌, nat_le, nat_lt, Bool, true, false, List, [], ◌∷◌, map, length, Option, Some, None, Result, Ok, Err, refl, subst, arith, if◌then◌else◌}
use Rattle.std.specs.Prelude.{max}
use Rattle.std.specs.List.{All, AllByRecursion, fold}
use Rattle.std.proofs.lemmas.List.Elements.{All-from_recursion, recursion_from_All}
use Rattle.std.proofs.lemmas.Bool.Decides.{nat_tests}
use Rattle.std.specs.Option.{option_map}
use Rattle.hfs_model.proofs.Facts.{either}
use Rattle.hfs_scripts.specs.declared.lines.Caller.{Caller}
use Rattle.hfs_scripts.specs.declared.lines.Caller.TheVariants.{Worker, Viewer}
use Rattle.hfs_scripts.specs.declared.lines.ScriptLine.{ScriptLine}
use Rattle.hfs_scripts.specs.declared.fault.ScriptFault.{ScriptFault}
use Rattle.hfs_model.specs.declared.call.Call.{Call}
use Rattle.hfs_scripts.specs.Options.{◌>>=◌}
use Rattle.hfs_scripts.specs.Numbers.{number_of}
use Rattle.hfs_scripts.specs.Words.{word_of}
use Rattle.hfs_scripts.specs.Fields.{fields_of}
use Rattle.hfs_scripts.specs.Calls.{call_of}
use Rattle.hfs_scripts.specs.Lines.{member_of, caller_of, may_ask, line_of_fields, line_of}
use Rattle.hfs_scripts.specs.Callers.{worker_number, viewer_number, workers, viewers}
use Rattle.hfs_scripts.specs.Scripts.{lines_of, lines_read, all_read, before_lines, fault_at, script_of}
use Rattle.hfs_runs.specs.Asking.{IsSmall}
use Rattle.hfs_runs.specs.Jobs.{is_viewer, has_viewer}

-- both steps gave something
bound : {A B : Type 0} (o : Option A) (f : A → Option B) (b : B) → (o >>= f) ≡ Some b → (a : A) × (o ≡ Some a) × (f a ≡ Some b)
bound (Some a) f b h = (a, refl, h)
bound None f b h = absurd (cc h)

guarded : (m n : ℕ) (t : Bool) → (nat_le 1 m && nat_le m 8) ≡ t → (if t then Some m else None) ≡ Some n → n ≤ 8
guarded m n true test h = let same : m ≡ n = cc in grind (arith, nat_tests)
guarded m n false test h = absurd (cc h)

member_small : (field : List ℕ) (n : ℕ) → member_of field ≡ Some n → n ≤ 8
unfolding member_of
member_small field n h = let b = bound (number_of field) _ n h in guarded b.0 n (nat_le 1 b.0 && nat_le b.0 8) refl b.2

viewer_small : (o : Option ℕ) (c : Caller) → ((n : ℕ) → o ≡ Some n → n ≤ 8) → option_map Viewer o ≡ Some c → IsSmall c
viewer_small (Some n) c small h = let same : Viewer n ≡ c = cc in subst IsSmall same (small n refl)
viewer_small None c small h = absurd (cc h)

worker_small : (o : Option ℕ) (c : Caller) → ((n : ℕ) → o ≡ Some n → n ≤ 8) → option_map Worker o ≡ Some c → IsSmall c
worker_small (Some n) c small h = let same : Worker n ≡ c = cc in subst IsSmall same (small n refl)
worker_small None c small h = absurd (cc h)

either_small : (t : Bool) (first : ℕ) (others : List ℕ) (c : Caller)
    → (if t then option_map Viewer (member_of others) else option_map Worker (member_of (first ∷ others))) ≡ Some c → IsSmall c
either_small true first others c h = viewer_small (member_of others) c (member_small others) h
either_small false first others c h = worker_small (member_of (first ∷ others)) c (member_small (first ∷ others)) h

caller_small : (field : List ℕ) (c : Caller) → caller_of field ≡ Some c → IsSmall c
unfolding caller_of
caller_small [] c h = absurd (cc h)
caller_small (first ∷ others) c h = either_small (first == 118) first others c h

asked_small : (t : Bool) (caller : Caller) (call : Call) (line : ScriptLine) → IsSmall caller
    → (if t then Some (record { caller = caller; call = call }) else None) ≡ Some line → IsSmall line.caller
asked_small true caller call line small h = let same : caller ≡ line.caller = cc in subst IsSmall same small
asked_small false caller call line small h = absurd (cc h)

fields_small : (now : ℕ) (fields : List (List ℕ)) (line : ScriptLine) → line_of_fields now fields ≡ Some line → IsSmall line.caller
unfolding line_of_fields
fields_small now [] line h = absurd (cc h)
fields_small now (who ∷ []) line h = absurd (cc h)
fields_small now (who ∷ text ∷ fields) line h =
    let c = bound (caller_of who) _ line h in
    let w = bound (word_of text) _ line c.2 in
    let k = bound (call_of now w.0 fields) _ line w.2 in
    asked_small (may_ask c.0 w.0) c.0 k.0 line (caller_small who c.0 c.1) k.2

line_small : (now : ℕ) (bytes : List ℕ) (line : ScriptLine) → line_of now bytes ≡ Some line → IsSmall line.caller
unfolding line_of
line_small now bytes line h = fields_small now (fields_of bytes) line h

-- a caller's number is at most 8
abbrev pub small_line : ScriptLine → Type 0
small_line line = IsSmall line.caller

before_small : (line : ScriptLine) (more : Result (List ScriptLine) ℕ) (lines : List ScriptLine) → small_line line → ((others : List ScriptLine) → more ≡ Ok others → AllByRecursion small_line others)
    → before_lines line more ≡ Ok lines → AllByRecursion small_line lines
before_small line (Ok others) lines small all h = let same : line ∷ others ≡ lines = cc in subst (AllByRecursion small_line) same (small, all others refl)
before_small line (Err place) lines small all h = absurd (cc h)

read_small : (now : ℕ) (piece : List ℕ) (first : Option ScriptLine) (more : List (Option ScriptLine)) (lines : List ScriptLine) → line_of now piece ≡ first
    → ((others : List ScriptLine) → all_read more ≡ Ok others → AllByRecursion small_line others) → all_read (first ∷ more) ≡ Ok lines → AllByRecursion small_line lines
read_small now piece (Some line) more lines is all h = before_small line (all_read more) lines (line_small now piece line is) all h
read_small now piece None more lines is all h = absurd (cc h)

pieces_small : (now : ℕ) (pieces : List (List ℕ)) (lines : List ScriptLine) → all_read (map (line_of now) pieces) ≡ Ok lines → AllByRecursion small_line lines
pieces_small now [] lines h = let same : [] ≡ lines = cc in subst (AllByRecursion small_line) same tt
pieces_small now (piece ∷ pieces) lines h = read_small now piece (line_of now piece) (map (line_of now) pieces) lines refl (pieces_small now pieces) h

fault_ok : (read : Result (List ScriptLine) ℕ) (lines : List ScriptLine) → fault_at read ≡ Ok lines → read ≡ Ok lines
fault_ok (Ok others) lines h = cc
fault_ok (Err place) lines h = absurd (cc h)

script_ok : (t : Bool) (fault : ScriptFault) (read : Result (List ScriptLine) ℕ) (lines : List ScriptLine) → (if t then Err fault else fault_at read) ≡ Ok lines → read ≡ Ok lines
script_ok true fault read lines h = absurd (cc h)
script_ok false fault read lines h = fault_ok read lines h

pub script_small : (now : ℕ) (bytes : List ℕ) (lines : List ScriptLine) → script_of now bytes ≡ Ok lines → All small_line lines
unfolding script_of lines_read
script_small now bytes lines h =
    All-from_recursion small_line lines (pieces_small now (lines_of bytes) lines (script_ok (nat_lt 16777216 (length bytes)) _ _ lines h))

-- ---- how many callers

worker_at_most : (c : Caller) → IsSmall c → worker_number c ≤ 8
worker_at_most (Worker n) small = small
worker_at_most (Viewer n) small = omega arith

viewer_at_most : (c : Caller) → IsSmall c → viewer_number c ≤ 8
viewer_at_most (Worker n) small = omega arith
viewer_at_most (Viewer n) small = small

max_within : (a b : ℕ) → 1 ≤ a → a ≤ 8 → b ≤ 8 → (1 ≤ max a b) × (max a b ≤ 8)
max_within a b one most other = (omega arith, omega arith)

fold_within : (f : Caller → ℕ) → ((c : Caller) → IsSmall c → f c ≤ 8) → (lines : List ScriptLine) (most : ℕ) → AllByRecursion small_line lines → 1 ≤ most → most ≤ 8
    → (1 ≤ fold (λ m line. max m (f line.caller)) most lines) × (fold (λ m line. max m (f line.caller)) most lines ≤ 8)
fold_within f small [] most all one eight = (one, eight)
fold_within f small (line ∷ lines) most all one eight =
    let m = max_within most (f line.caller) one eight (small line.caller all.0) in
    fold_within f small lines (max most (f line.caller)) all.1 m.0 m.1

pub workers_within : (lines : List ScriptLine) → All small_line lines → (0 < workers lines) × (workers lines ≤ 8)
unfolding workers
workers_within lines all = fold_within worker_number worker_at_most lines 1 (recursion_from_All small_line lines all) (omega arith) (omega arith)

pub viewers_within : (lines : List ScriptLine) → All small_line lines → (0 < viewers lines) × (viewers lines ≤ 8)
unfolding viewers
viewers_within lines all = fold_within viewer_number viewer_at_most lines 1 (recursion_from_All small_line lines all) (omega arith) (omega arith)

-- ---- no viewer

no_more : (most : ℕ) (c : Caller) → is_viewer c ≡ false → max most (viewer_number c) ≡ most
no_more most (Worker n) h = omega arith
no_more most (Viewer n) h = absurd (cc h)

fold_none : (lines : List ScriptLine) (most : ℕ) → has_viewer lines ≡ false
    → fold (λ m line. max m (viewer_number line.caller)) most lines ≡ most
fold_none [] most h = refl
fold_none (line ∷ lines) most h =
    let both = either (is_viewer line.caller) (has_viewer lines) h in
    fold_none lines (max most (viewer_number line.caller)) both.1 ∙ no_more most line.caller both.0

-- there is one viewer where no line is a viewer's
pub viewers-none : (lines : List ScriptLine) → has_viewer lines ≡ false → viewers lines ≡ 1
unfolding viewers
viewers-none lines h = fold_none lines 1 h
