-- Where each line was answered each caller got as many replies as it has calls.
use Rattle.std.proofs.Common.{◌≡◌, ◌∙◌, ℕ, zero, suc, ◌+◌, ◌-◌, ◌<◌, ◌≤◌, ◌&&◌, Bool, true, false, cond, List, [], ◌∷◌, map, take, length, get_or, refl, sym, ap, subst, arith, true≢false, take_all, eq-eqb}
use Rattle.std.specs.Prelude.{filter, slice_get}
use Rattle.std.specs.List.{list_all}
use Rattle.std.specs.Option.{is_some}
use Rattle.std.proofs.lemmas.List.{length-map}
use Rattle.std.proofs.lemmas.List.Sums.{AllPass-from_list_all, sum_by-cons, sum_by-take-le}
use Rattle.hfs_model.specs.declared.reply.Reply.{Reply}
use Rattle.hfs_scripts.specs.declared.lines.Caller.{Caller}
use Rattle.hfs_scripts.specs.declared.lines.Caller.TheVariants.{Worker, Viewer}
use Rattle.hfs_scripts.specs.declared.lines.ScriptLine.{ScriptLine}
use Rattle.hfs_scripts.specs.Callers.{calls_of, is_same}
use Rattle.hfs_runs.specs.declared.numbering.Asked.{Asked}
use Rattle.hfs_runs.specs.Answers.{AreAnswered, is_whole, reply_to}
use Rattle.hfs_runs.specs.Asking.{AreNumbered, asked_at, times}
use Rattle.hfs_runs.proofs.Counting.{same_caller, times_one, times_other}

-- ---- lists

some-within : {X : Type 0} (xs : List X) (i : ℕ) → is_some (slice_get xs i) ≡ true → i < length xs
some-within [] i e = absurd (true≢false (sym e))
some-within (x ∷ xs) zero e = omega arith
some-within (x ∷ xs) (suc i) e = omega (arith, some-within xs i e)

none-past : {X : Type 0} (xs : List X) (i : ℕ) → is_some (slice_get xs i) ≡ false → length xs ≤ i
none-past [] i e = omega arith
none-past (x ∷ xs) zero e = absurd (true≢false e)
none-past (x ∷ xs) (suc i) e = omega (arith, none-past xs i e)

-- a place where a test fails
failed-at : {X : Type 0} (p : X → Bool) (xs : List X) → list_all p xs ≡ false → (k : ℕ) × (k < length xs) × ((d : X) → p (get_or xs k d) ≡ false)
failed-at p [] e = absurd (true≢false e)
failed-at {X} p (x ∷ xs) e = by (p x) refl e (λ rest. failed-at p xs rest)
  where
    by : (b : Bool) → p x ≡ b → (b && list_all p xs) ≡ false
        → (list_all p xs ≡ false → (k : ℕ) × (k < length xs) × ((d : X) → p (get_or xs k d) ≡ false))
        → (k : ℕ) × (k < length (x ∷ xs)) × ((d : X) → p (get_or (x ∷ xs) k d) ≡ false)
    by true here rest later = let found = later rest in (suc found.0, omega (arith, found.1), found.2)
    by false here rest later = (0, omega arith, λ d. here)

-- ---- the calls of a caller

abbrev callers_of : List ScriptLine → List Caller
callers_of lines = map (λ (line : ScriptLine). line.caller) lines

same-self : (caller : Caller) → is_same caller caller ≡ true
same-self (Worker number) = eq-eqb number number refl
same-self (Viewer number) = eq-eqb number number refl

times-none : (caller : Caller) → times caller [] ≡ 0
unfolding times
times-none caller = refl

times-take : (caller : Caller) (callers : List Caller) (n : ℕ) → times caller (take n callers) ≤ times caller callers
unfolding times
times-take caller callers n = sum_by-take-le (λ (other : Caller). cond (is_same other caller) 1 0) callers n

times-lines : (caller : Caller) (line : ScriptLine) (lines : List ScriptLine)
    → times caller (callers_of (line ∷ lines)) ≡ cond (is_same line.caller caller) 1 0 + times caller (callers_of lines)
unfolding times
times-lines caller line lines = sum_by-cons (λ (other : Caller). cond (is_same other caller) 1 0) line.caller (callers_of lines)

lines-many : (caller : Caller) (lines : List ScriptLine) → times caller (callers_of lines) ≡ length (filter (λ (line : ScriptLine). is_same line.caller caller) lines)
lines-many caller [] = times-none caller
lines-many caller (line ∷ lines) =
    times-lines caller line lines ∙ ap (λ (n : ℕ). cond (is_same line.caller caller) 1 0 + n) (lines-many caller lines) ∙ by (is_same line.caller caller)
  where
    by : (b : Bool) → cond b 1 0 + length (filter (λ (l : ScriptLine). is_same l.caller caller) lines)
        ≡ length (cond b (line ∷ filter (λ (l : ScriptLine). is_same l.caller caller) lines) (filter (λ (l : ScriptLine). is_same l.caller caller) lines))
    by true = omega arith
    by false = omega arith

calls-many : (caller : Caller) (lines : List ScriptLine) → length (calls_of caller lines) ≡ times caller (callers_of lines)
unfolding calls_of
calls-many caller lines =
    length-map (filter (λ (line : ScriptLine). is_same line.caller caller) lines) (λ (line : ScriptLine). line.call) ∙ sym (lines-many caller lines)

-- ---- the replies to lines

module _ (replies : Caller → List Reply) (callers : List Caller) (asked : List Asked) (numbered : AreNumbered callers asked) where
  abbrev has_reply : Asked → Bool
  has_reply one = is_some (reply_to replies one)

  abbrev nobody : Caller
  nobody = Worker 0

  abbrev nothing : Asked
  nothing = record { caller = Worker 0; number = 0 }

  -- the test of the call at a place
  reply-there : (n : ℕ) → has_reply (asked_at callers n (get_or callers n nobody))
      ≡ is_some (slice_get (replies (get_or callers n nobody)) (times (get_or callers n nobody) (take n callers)))
  reply-there n =
      let m = times (get_or callers n nobody) (take n callers) in
      let same : m + 1 - 1 ≡ m = omega arith in
      ap (λ (k : ℕ). is_some (slice_get (replies (get_or callers n nobody)) k)) same

  module _ (whole : is_whole replies asked ≡ true) where
    each-has : (n : ℕ) → n < length callers → has_reply (get_or asked n nothing) ≡ true
    unfolding is_whole
    each-has n below = AllPass-from_list_all has_reply asked whole n nothing (omega (arith, numbered.many))

    within : (n : ℕ) → n < length callers → times (get_or callers n nobody) (take n callers) < length (replies (get_or callers n nobody))
    within n below =
        some-within (replies (get_or callers n nobody)) (times (get_or callers n nobody) (take n callers))
        (sym (reply-there n) ∙ ap has_reply (sym (numbered.each n nobody nothing below)) ∙ each-has n below)

    so-far : (caller : Caller) (n : ℕ) → n ≤ length callers → times caller (take n callers) ≤ length (replies caller)
    so-far caller zero le = omega (arith, times-none caller)
    so-far caller (suc n) le = by (is_same (get_or callers n nobody) caller) refl (so-far caller n (omega (arith, le)))
      where
        by : (t : Bool) → is_same (get_or callers n nobody) caller ≡ t → times caller (take n callers) ≤ length (replies caller)
            → times caller (take (suc n) callers) ≤ length (replies caller)
        by true same before =
            let on : suc n ≡ n + 1 = omega arith in
            let lt : times caller (take n callers) < length (replies caller) =
            subst (λ (c : Caller). times c (take n callers) < length (replies c)) (same_caller (get_or callers n nobody) caller same) (within n (omega (arith, le))) in
            omega (arith, ap (λ (k : ℕ). times caller (take k callers)) on, times_one caller callers n nobody (omega (arith, le)) same, lt)
        by false other before =
            let on : suc n ≡ n + 1 = omega arith in
            omega (arith, ap (λ (k : ℕ). times caller (take k callers)) on, times_other caller callers n nobody (omega (arith, le)) other, before)

    each-caller : (caller : Caller) → times caller callers ≤ length (replies caller)
    each-caller caller =
        subst (λ (cs : List Caller). times caller cs ≤ length (replies caller)) (take_all (length callers) callers (omega arith))
        (so-far caller (length callers) (omega arith))

  some-caller : is_whole replies asked ≡ false → (caller : Caller) × (length (replies caller) < times caller callers)
  unfolding is_whole
  some-caller part =
      let failed = failed-at has_reply asked part in
      let n = failed.0 in
      let below : n < length callers = omega (arith, failed.1, numbered.many) in
      let caller = get_or callers n nobody in
      let past = none-past (replies caller) (times caller (take n callers))
      (sym (reply-there n) ∙ ap has_reply (sym (numbered.each n nobody nothing below)) ∙ failed.2 nothing) in
      (caller, omega (arith, past, times_one caller callers n nobody below (same-self caller), times-take caller callers (n + 1)))

pub answered : (replies : Caller → List Reply) (lines : List ScriptLine) (asked : List Asked) → AreNumbered (callers_of lines) asked → (whole : Bool) → whole ≡ is_whole replies asked
    → AreAnswered whole replies lines
answered replies lines asked numbered true is = λ caller.
    subst (λ (n : ℕ). n ≤ length (replies caller)) (sym (calls-many caller lines)) (each-caller replies (callers_of lines) asked numbered (sym is) caller)
answered replies lines asked numbered false is =
    let fewer = some-caller replies (callers_of lines) asked numbered (sym is) in
    (fewer.0, subst (λ (n : ℕ). length (replies fewer.0) < n) (sym (calls-many fewer.0 lines)) fewer.1)
