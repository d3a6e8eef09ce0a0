-- Which blocks are changed, once a patch and runs of zeros were laid over those that were.
use Rattle.std.proofs.Common.{◌≡◌, inl, inr, ⊎_elim, ℕ, Bool, true, false, List, Option, Some, None, refl, sym, ap, ◌∙◌}
use Rattle.std.specs.Prelude.{◌⊎◌, ◌&&◌, ◌||◌, is_some, unwrap_or}
use Rattle.std.specs.List.{list_any}
use Rattle.std.specs.Option.{option_or}
use Rattle.hfs_blocks.specs.declared.run.Run.{Run}
use Rattle.hfs_blocks.specs.Layers.{Numbered, changes, over, HasJoined, IsLaid}
use Rattle.hfs_space.specs.Zeros.{is_of_run}
use Rattle.hfs_space.specs.Flags.{is_flagged, flagged, zeros_if, HasFlaggedRuns}
use Rattle.hfs_space.specs.Again.{AreAgain, is_in}
use Rattle.hfs_space.specs.Laying.{IsPatchOver, IsLaidWith, HasBlocks, IsFlaggedAmong}

same_bool : (a b c : Bool) → (b ≡ true → a ≡ true) → (c ≡ true → a ≡ true) → (a ≡ true → (b ≡ true) ⊎ (c ≡ true)) → a ≡ b || c
same_bool true true c first second none_else = refl
same_bool true false true first second none_else = refl
same_bool true false false first second none_else = ⊎_elim (λ (e : false ≡ true). sym e) (λ (e : false ≡ true). sym e) (none_else refl)
same_bool false true c first second none_else = first refl
same_bool false false true first second none_else = second refl
same_bool false false false first second none_else = refl

some_or : (a b : Option (List ℕ)) → is_some (option_or a b) ≡ (is_some a || is_some b)
some_or None b = refl
some_or (Some x) b = refl

some_if : (f : Bool) → is_some (zeros_if f) ≡ f
some_if true = refl
some_if false = refl

-- what was kept, the patch, the runs, and what was flagged
turned : (ko p r fo : Bool) → ((ko || (p || (r && ko))) || (r || fo)) ≡ ((ko || fo) || (p || r))
turned true p r fo = refl
turned false true r true = refl
turned false true r false = refl
turned false false true true = refl
turned false false true false = refl
turned false false false true = refl
turned false false false false = refl

pub has_blocks : (patch : Numbered) (runs : List Run) (old again all new : Numbered) (flags flags' : List Bool) → AreAgain (is_in runs) old again → IsPatchOver again patch all → HasJoined (changes old) (changes all) (changes new)
    → HasFlaggedRuns runs flags flags' → HasBlocks patch runs old flags new flags'
has_blocks patch runs old again all new flags flags' are is joined set n =
    let kept : is_some (changes new n) ≡ (is_some (changes old n) || is_some (changes all n)) =
    same_bool (is_some (changes new n)) (is_some (changes old n)) (is_some (changes all n)) (joined.of_first n) (joined.of_second n) (joined.of_none_else n) in
    let laid : is_some (changes all n) ≡ (is_some (changes patch n) || (is_in runs n && is_some (changes old n))) =
    ap is_some (is n) ∙ some_or (changes patch n) (changes again n) ∙ ap (λ (b : Bool). is_some (changes patch n) || b) (ap is_some (are n) ∙ some_if (is_in runs n && is_some (changes old n))) in
    ap (λ (b : Bool). b || is_flagged flags' n) (kept ∙ ap (λ (b : Bool). is_some (changes old n) || b) laid)
    ∙ ap (λ (f : Bool). (is_some (changes old n) || (is_some (changes patch n) || (is_in runs n && is_some (changes old n)))) || f) (set.are n)
    ∙ turned (is_some (changes old n)) (is_some (changes patch n)) (is_in runs n) (is_flagged flags n)

pub flagged_among : (runs : List Run) (flags flags' : List Bool) → HasFlaggedRuns runs flags flags' → IsFlaggedAmong runs flags flags'
flagged_among runs flags flags' set n is = by (list_any (is_of_run n) runs) (is_flagged flags n) (sym (set.are n) ∙ is)
  where
    by : (a b : Bool) → (a || b) ≡ true → (b ≡ true) ⊎ (a ≡ true)
    by true b e = inr refl
    by false b e = inl e

not_true : false ≡ true → ⊥
not_true e = cc

-- what is shown of one block, by what each of the patches has of it
one_shown : (n p o : Option (List ℕ)) (r f : Bool) (x : List ℕ) → is_some n ≡ (is_some o || is_some (option_or p (zeros_if (r && is_some o))))
    → unwrap_or n (unwrap_or (zeros_if f) x) ≡ unwrap_or (option_or p (zeros_if (r && is_some o))) (unwrap_or o (unwrap_or (zeros_if f) x))
    → unwrap_or n (unwrap_or (zeros_if (r || f)) x) ≡ unwrap_or p (unwrap_or (zeros_if r) (unwrap_or o (unwrap_or (zeros_if f) x)))
one_shown (Some c) (Some b) o r f x has laid = laid
one_shown None (Some b) (Some d) r f x has laid = absurd (not_true has)
one_shown None (Some b) None r f x has laid = absurd (not_true has)
one_shown (Some c) None (Some d) true f x has laid = laid
one_shown (Some c) None (Some d) false f x has laid = laid
one_shown None None (Some d) r f x has laid = absurd (not_true has)
one_shown (Some c) None None true f x has laid = absurd (not_true (sym has))
one_shown (Some c) None None false f x has laid = absurd (not_true (sym has))
one_shown None None None true f x has laid = refl
one_shown None None None false f x has laid = refl

pub laid_with : (patch : Numbered) (runs : List Run) (old again all new : Numbered) (flags flags' : List Bool) (below : ℕ → List ℕ) → AreAgain (is_in runs) old again → IsPatchOver again patch all
    → HasJoined (changes old) (changes all) (changes new) → IsLaid (over (flagged flags) below) old all new → HasFlaggedRuns runs flags flags' → IsLaidWith below patch runs old flags new flags'
laid_with patch runs old again all new flags flags' below are is joined laid set k =
    let made : changes all k ≡ option_or (changes patch k) (zeros_if (is_in runs k && is_some (changes old k))) = is k ∙ ap (λ a. option_or (changes patch k) a) (are k) in
    let kept : is_some (changes new k) ≡ (is_some (changes old k) || is_some (changes all k)) =
    same_bool (is_some (changes new k)) (is_some (changes old k)) (is_some (changes all k)) (joined.of_first k) (joined.of_second k) (joined.of_none_else k) in
    ap (λ (f : Bool). unwrap_or (changes new k) (unwrap_or (zeros_if f) (below k))) (set.are k)
    ∙ one_shown (changes new k) (changes patch k) (changes old k) (is_in runs k) (is_flagged flags k) (below k) (kept ∙ ap (λ a. is_some (changes old k) || is_some a) made)
    (laid k ∙ ap (λ a. unwrap_or a (unwrap_or (changes old k) (unwrap_or (zeros_if (is_flagged flags k)) (below k)))) made)
