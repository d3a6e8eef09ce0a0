-- What nothing is against has forks that are as large as forks are.
use Rattle.std.proofs.Common.{◌≡◌, Bool, true, false, cond, not, Some, None, Option, refl, sym, ◌∙◌}
use Rattle.std.proofs.lemmas.Bool.{and_parts}
use Rattle.hfs_put_plan.specs.declared.over.Placing.{Placing}
use Rattle.hfs_put_plan.specs.declared.reasons.Why.{Why}
use Rattle.hfs_put_plan.specs.declared.reasons.Why.TheVariants.{NotAFile, TooLarge}
use Rattle.hfs_put_plan.specs.Why.{why_not}
use Rattle.hfs_put_sources.specs.declared.plan.ItemPlan.{ItemPlan}
use Rattle.hfs_put.specs.Decisions.{findings_with, fork_spans_fit}

some-why : (w : Why) → Some w ≡ None → ⊥
some-why w e = cc

fits : (item fit : Bool) (rest : Option Why) → cond (not item) (Some NotAFile) (cond (not fit) (Some TooLarge) rest) ≡ None → fit ≡ true
fits false fit rest none = absurd (some-why NotAFile none)
fits true true rest none = refl
fits true false rest none = absurd (some-why TooLarge none)

pub why_fits : (p : Placing) (plan : ItemPlan) (why : Option Why) → why ≡ why_not (findings_with p plan) → why ≡ None → fork_spans_fit plan ≡ true
why_fits p plan why is none =
    (and_parts plan.found.fits (fork_spans_fit plan) (fits (findings_with p plan).is_item (findings_with p plan).fits _ (sym is ∙ none))).1
