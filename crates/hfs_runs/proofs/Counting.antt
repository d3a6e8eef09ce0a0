-- The counts of callers, line by line.
use Rattle.std.proofs.Common.{◌≡◌, ◌≢◌, ◌∙◌, ℕ, zero, suc, ◌+◌, ◌<◌, ◌≤◌, ◌==◌, Bool, true, false, List, [], ◌∷◌, ◌++◌, take, length, get_or, slice_index, replicate, refl, sym, ap, subst, map, arith}
use Rattle.std.proofs.lemmas.Bool.{eqb-true}
use Rattle.std.proofs.lemmas.Bool.Decides.{nat_tests}
use Rattle.std.proofs.lemmas.List.{get_or_append_left, get_or_push, get_or-map}
use Rattle.std.proofs.lemmas.List.Sums.{count_by_more_yes, count_by_more_no, count_by-le-length}
use borrow.Author.Count.{below_more}
use Rattle.hfs_scripts.specs.declared.lines.Caller.{Caller}
use Rattle.hfs_scripts.specs.declared.lines.Caller.TheVariants.{Worker, Viewer}
use Rattle.hfs_scripts.specs.declared.lines.ScriptLine.{ScriptLine}
use Rattle.hfs_scripts.specs.Callers.{is_same}
use Rattle.hfs_runs.specs.declared.numbering.Asked.{Asked}
use Rattle.hfs_runs.specs.Asking.{asked_at, times, counted, IsRaised, IsCounted}

-- ---- one call more

other_number : (m n : ℕ) → (m == n) ≡ false → n ≢ m
other_number m n h = grind (arith, nat_tests)

worker_others : (old new viewers : List ℕ) (number : ℕ) → IsRaised old number new → (other : Caller) → is_same (Worker number) other ≡ false → counted new viewers other ≡ counted old viewers other
worker_others old new viewers number raised (Worker n) h = raised.others n (other_number number n h)
worker_others old new viewers number raised (Viewer n) h = refl

viewer_others : (old new workers : List ℕ) (number : ℕ) → IsRaised old number new → (other : Caller) → is_same (Viewer number) other ≡ false → counted workers new other ≡ counted workers old other
viewer_others old new workers number raised (Worker n) h = refl
viewer_others old new workers number raised (Viewer n) h = raised.others n (other_number number n h)

pub worker_counted : (old new viewers : List ℕ) (number : ℕ) → IsRaised old number new → IsCounted old viewers (Worker number) new viewers
worker_counted old new viewers number raised = record { here = raised.here; others = λ other h. worker_others old new viewers number raised other h }

pub viewer_counted : (old new workers : List ℕ) (number : ℕ) → IsRaised old number new → IsCounted workers old (Viewer number) workers new
viewer_counted old new workers number raised = record { here = raised.here; others = λ other h. viewer_others old new workers number raised other h }

-- ---- the counts so far

pub same_caller : (a b : Caller) → is_same a b ≡ true → a ≡ b
same_caller (Worker m) (Worker n) h = ap Worker (eqb-true m n h)
same_caller (Viewer m) (Viewer n) h = ap Viewer (eqb-true m n h)
same_caller (Worker m) (Viewer n) h = absurd (cc h)
same_caller (Viewer m) (Worker n) h = absurd (cc h)

-- one more of this caller, or none
pub times_one : (caller : Caller) (callers : List Caller) (i : ℕ) (none : Caller) → i < length callers → is_same (get_or callers i none) caller ≡ true
    → times caller (take (i + 1) callers) ≡ times caller (take i callers) + 1
unfolding times
times_one caller callers i none below same = count_by_more_yes (λ other. is_same other caller) callers i none below same

pub times_other : (caller : Caller) (callers : List Caller) (i : ℕ) (none : Caller) → i < length callers → is_same (get_or callers i none) caller ≡ false
    → times caller (take (i + 1) callers) ≡ times caller (take i callers)
unfolding times
times_other caller callers i none below other = count_by_more_no (λ other. is_same other caller) callers i none below other

pub times_within : (caller : Caller) (callers : List Caller) → times caller callers ≤ length callers
unfolding times
times_within caller callers = count_by-le-length (λ other. is_same other caller) callers

zeros : (many n : ℕ) → slice_index (replicate many 0) n ≡ 0
zeros zero n = refl
zeros (suc many) zero = refl
zeros (suc many) (suc n) = zeros many n

pub none_counted : (c : Caller) → counted (replicate 9 0) (replicate 9 0) c ≡ times c []
unfolding times
none_counted (Worker n) = zeros 9 n
none_counted (Viewer n) = zeros 9 n

counted_either : (workers viewers new_workers new_viewers : List ℕ) (callers : List Caller) (i : ℕ) (none c : Caller) → i < length callers
    → IsCounted workers viewers (get_or callers i none) new_workers new_viewers → counted workers viewers c ≡ times c (take i callers)
    → (t : Bool) → is_same (get_or callers i none) c ≡ t → counted new_workers new_viewers c ≡ times c (take (i + 1) callers)
counted_either workers viewers new_workers new_viewers callers i none c below more before true test =
    let same : c ≡ get_or callers i none = sym (same_caller (get_or callers i none) c test) in
    ap (counted new_workers new_viewers) same ∙ more.here ∙ ap (λ (d : Caller). counted workers viewers d + 1) (sym same) ∙ ap (λ (n : ℕ). n + 1) before
    ∙ sym (times_one c callers i none below test)
counted_either workers viewers new_workers new_viewers callers i none c below more before false test =
    more.others c test ∙ before ∙ sym (times_other c callers i none below test)

pub counted_more : (workers viewers new_workers new_viewers : List ℕ) (callers : List Caller) (i : ℕ) (none c : Caller) → i < length callers
    → get_or callers i none ≡ none → IsCounted workers viewers none new_workers new_viewers → counted workers viewers c ≡ times c (take i callers)
    → counted new_workers new_viewers c ≡ times c (take (i + 1) callers)
counted_more workers viewers new_workers new_viewers callers i none c below here more before =
    counted_either workers viewers new_workers new_viewers callers i none c below
    (subst (λ (caller : Caller). IsCounted workers viewers caller new_workers new_viewers) (sym here) more) before (is_same (get_or callers i none) c) refl

-- ---- the lines so far

pub caller_at : (lines : List ScriptLine) (i : ℕ) (line : ScriptLine) → i < length lines → line ≡ get_or lines i line
    → (none : Caller) → get_or (map (λ (l : ScriptLine). l.caller) lines) i none ≡ line.caller
caller_at lines i line below is none = get_or-map (λ (l : ScriptLine). l.caller) lines i line none below ∙ ap (λ (l : ScriptLine). l.caller) (sym is)

pub numbered_more : (callers : List Caller) (numbered : List Asked) (i : ℕ) (caller : Caller) (number : ℕ) → i < length callers → length numbered ≡ i
    → ((none : Caller) → get_or callers i none ≡ caller) → number ≡ times caller (take i callers) + 1
    → ((place : ℕ) (none : Caller) (nothing : Asked) → place < i → get_or numbered place nothing ≡ asked_at callers place (get_or callers place none))
    → (place : ℕ) (none : Caller) (nothing : Asked) → place < i + 1
    → get_or (numbered ++ record { caller = caller; number = number } ∷ []) place nothing ≡ asked_at callers place (get_or callers place none)
numbered_more callers numbered i caller number below many here is before place none nothing within =
    let asked : Asked = record { caller = caller; number = number } in
    let same : asked ≡ asked_at callers i caller = λ j. record { caller = caller; number = is j } in
    below_more (λ k. get_or (numbered ++ asked ∷ []) k nothing ≡ asked_at callers k (get_or callers k none)) i
    (λ k less. get_or_append_left numbered (asked ∷ []) nothing k (omega arith) ∙ before k none nothing less)
    (get_or_push numbered asked nothing i many ∙ same ∙ ap (asked_at callers i) (sym (here none)))
    place within
