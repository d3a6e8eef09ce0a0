-- The calls of a caller, where another's lines are taken out.
use Rattle.std.proofs.Common.{◌≡◌, ◌≢◌, ℕ, ◌==◌, Bool, true, false, not, List, [], ◌∷◌, map, refl, sym, ap, ◌∙◌, arith}
use Rattle.std.proofs.lemmas.Bool.Decides.{nat_tests}
use Rattle.std.specs.Prelude.{filter}
use Rattle.hfs_scripts.specs.declared.lines.Caller.{Caller}
use Rattle.hfs_scripts.specs.declared.lines.Caller.TheVariants.{Worker, Viewer}
use Rattle.hfs_scripts.specs.declared.lines.ScriptLine.{ScriptLine}
use Rattle.hfs_scripts.specs.Callers.{is_same, calls_of, lines_of_others}

-- what passes one test stays where what passes the other is taken out, if nothing passes both
abbrev Apart : {X : Type 0} → (X → Bool) → (X → Bool) → Type 0
Apart {X} p q = (x : X) → p x ≡ true → q x ≡ false

apart_step : {X : Type 0} (p q : X → Bool) → Apart p q → (x : X) (xs : List X) → filter p (filter (λ y. not (q y)) xs) ≡ filter p xs
    → (a b : Bool) → p x ≡ a → q x ≡ b → filter p (filter (λ y. not (q y)) (x ∷ xs)) ≡ filter p (x ∷ xs)
apart_step p q apart x xs same true true pa qb = let no : true ≡ false = sym qb ∙ apart x pa in absurd (cc no)
apart_step p q apart x xs same true false pa qb = rw (qb, pa) (ap (λ l. x ∷ l) same)
apart_step p q apart x xs same false true pa qb = rw (qb, pa) same
apart_step p q apart x xs same false false pa qb = rw (qb, pa) same

filter_apart : {X : Type 0} (p q : X → Bool) → Apart p q → (xs : List X) → filter p (filter (λ y. not (q y)) xs) ≡ filter p xs
filter_apart p q apart [] = refl
filter_apart p q apart (x ∷ xs) = apart_step p q apart x xs (filter_apart p q apart xs) (p x) (q x) refl refl

calls_kept : (caller other : Caller) → Apart (λ (c : Caller). is_same c caller) (λ c. is_same c other) → (lines : List ScriptLine) → calls_of caller (lines_of_others other lines) ≡ calls_of caller lines
unfolding calls_of lines_of_others
calls_kept caller other apart lines =
    ap (map (λ (line : ScriptLine). line.call)) (filter_apart (λ (line : ScriptLine). is_same line.caller caller) (λ line. is_same line.caller other) (λ line. apart line.caller) lines)

two_numbers : (n a b : ℕ) → a ≢ b → (n == a) ≡ true → (n == b) ≡ false
two_numbers n a b two h = grind (arith, nat_tests)

two_workers : (a b : ℕ) → a ≢ b → Apart (λ (c : Caller). is_same c (Worker a)) (λ c. is_same c (Worker b))
two_workers a b two (Worker n) h = two_numbers n a b two h
two_workers a b two (Viewer n) h = absurd (cc h)

two_viewers : (a b : ℕ) → a ≢ b → Apart (λ (c : Caller). is_same c (Viewer a)) (λ c. is_same c (Viewer b))
two_viewers a b two (Worker n) h = absurd (cc h)
two_viewers a b two (Viewer n) h = two_numbers n a b two h

viewer_worker : (a b : ℕ) → Apart (λ (c : Caller). is_same c (Viewer a)) (λ c. is_same c (Worker b))
viewer_worker a b (Worker n) h = absurd (cc h)
viewer_worker a b (Viewer n) h = refl

pub workers_kept : (a b : ℕ) (lines : List ScriptLine) → a ≢ b → calls_of (Worker a) (lines_of_others (Worker b) lines) ≡ calls_of (Worker a) lines
workers_kept a b lines two = calls_kept (Worker a) (Worker b) (two_workers a b two) lines

pub viewers_kept : (a b : ℕ) (lines : List ScriptLine) → a ≢ b → calls_of (Viewer a) (lines_of_others (Viewer b) lines) ≡ calls_of (Viewer a) lines
viewers_kept a b lines two = calls_kept (Viewer a) (Viewer b) (two_viewers a b two) lines

pub viewers_stay : (a b : ℕ) (lines : List ScriptLine) → calls_of (Viewer a) (lines_of_others (Worker b) lines) ≡ calls_of (Viewer a) lines
viewers_stay a b lines = calls_kept (Viewer a) (Worker b) (viewer_worker a b) lines
