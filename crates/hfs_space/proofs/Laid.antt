-- What is shown of all changed blocks, by their fields.
use Rattle.std.proofs.Common.{◌≡◌, ⊎_elim, ℕ, Bool, true, List, sym, ap, ◌∙◌, subst, Result, Ok, Err}
use Rattle.std.specs.Prelude.{◌||◌, OnOk, OnErr, is_some}
use Rattle.hfs_blocks.specs.declared.run.Run.{Run}
use Rattle.hfs_blocks.specs.Layers.{Numbered, changes, over, AreWithin, ShowsSame, ShowsLaid}
use Rattle.hfs_space.specs.Zeros.{AreAmong}
use Rattle.hfs_space.specs.Flags.{is_flagged, AreSameFlags}
use Rattle.hfs_space.specs.Laying.{shown, IsLaidWith, IsShownStill, HasBlocks, IsFlaggedAmong}
use Rattle.hfs_space.specs.Changed.{all_blocks, laid_changes, HasBlocksOf}
use Rattle.hfs_space.proofs.RunLemmas.{in_total}
use Rattle.hfs_space.proofs.AllBlocks.{shown-all, shown-same, patched-laid, patched-same, is_changed-all, is_laid, kept-within, flags-within, all-within}

module _ (now : Numbered) (kept : Numbered) (flags mid : List Bool) (view_is : all_blocks kept flags ≡ now) (same : AreSameFlags flags mid) where
  -- flags came that are not set
  pub same_flags_shown : (below : ℕ → List ℕ) → ShowsSame below (changes now) (changes (all_blocks kept mid))
  same_flags_shown below k =
      shown-all kept mid below k ∙ shown-same kept flags mid below k same ∙ sym (shown-all kept flags below k) ∙ ap (λ (v : Numbered). over (changes v) below k) view_is

  pub flags_kept_within : (total : ℕ) → AreWithin (changes now) total → AreWithin (changes (all_blocks kept mid)) total
  flags_kept_within total within =
      let own = subst (λ (v : Numbered). AreWithin (changes v) total) (sym view_is) within in
      all-within kept mid total (kept-within kept flags total own) (λ n is. flags-within kept flags total n own (sym (same n) ∙ is))

  module _ (below : ℕ → List ℕ) (patch : Numbered) (runs : List Run) (new : Numbered) (new_flags : List Bool) where
    -- the change was laid
    pub laid_over_all : {A E : Type 0} (r : Result A E) → OnOk r (IsLaidWith below patch runs kept mid new new_flags) → OnOk r (ShowsLaid below (changes now) (laid_changes patch runs) (changes (all_blocks new new_flags)))
    laid_over_all (Ok x) laid = λ k.
        shown-all new new_flags below k ∙ laid k
        ∙ patched-same patch runs (shown kept mid below) (over (changes now) below) k (sym (shown-all kept mid below k) ∙ same_flags_shown below k)
        ∙ patched-laid patch runs (over (changes now) below) k
    laid_over_all (Err e) laid = tt

    pub joined_all : {A E : Type 0} (r : Result A E) → OnOk r (HasBlocks patch runs kept mid new new_flags) → OnOk r (HasBlocksOf (changes now) (laid_changes patch runs) (changes (all_blocks new new_flags)))
    joined_all (Ok x) joined = λ n.
        is_changed-all new new_flags n ∙ joined n
        ∙ (λ i. (is_some (changes kept n) || same n i) || sym (is_laid patch runs n) i)
        ∙ ap (λ (b : Bool). b || is_some (laid_changes patch runs n)) (sym (is_changed-all kept flags n) ∙ ap (λ (v : Numbered). is_some (changes v n)) view_is)
    joined_all (Err e) joined = tt

    -- nothing was laid
    pub still_shown : {A E : Type 0} (r : Result A E) → OnErr r (IsShownStill below kept mid new new_flags) → OnErr r (ShowsSame below (changes now) (changes (all_blocks new new_flags)))
    still_shown (Ok x) still = tt
    still_shown (Err e) still = λ k. shown-all new new_flags below k ∙ still k ∙ sym (shown-all kept mid below k) ∙ same_flags_shown below k

    pub within_all : (total : ℕ) → AreAmong runs total → (AreWithin (changes kept) total → AreWithin (changes new) total) → IsFlaggedAmong runs mid new_flags → AreWithin (changes now) total
        → AreWithin (changes (all_blocks new new_flags)) total
    within_all total among keeps flagged within =
        let own = subst (λ (v : Numbered). AreWithin (changes v) total) (sym view_is) within in
        all-within new new_flags total (keeps (kept-within kept flags total own)) (λ n is. ⊎_elim
        (λ (old : is_flagged mid n ≡ true). flags-within kept flags total n own (sym (same n) ∙ old))
        (λ run. in_total total n runs run among)
        (flagged n is))
