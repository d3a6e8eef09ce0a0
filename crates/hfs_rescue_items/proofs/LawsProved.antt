-- Laws of this crate, each by the laws that it stands on.
use Rattle.std.proofs.Common.{◌∙◌, ap, refl, take}
use Rattle.std.proofs.Math.Seq.{take-length}
use Rattle.hfs_rescue_items.specs.Found.{path_at}
use Rattle.hfs_rescue_items.specs.Plan.{first_part, last_part, whole_plan}
use Rattle.hfs_rescue_items.specs.Laws.{FoldersComeFirst, IsOfThing, OnlyThingsAreMade, PayloadsHaveTheirSums, PlansCountItems}
use Rattle.hfs_fields.proofs.ElementLemmas.{each-mono}
use Rattle.hfs_rescue_items.proofs.AboveLemmas.{folders_first, place-of}
use Rattle.hfs_rescue_items.proofs.HoldLemmas.{plan_holds}
use Rattle.hfs_rescue_items.proofs.LastLemmas.{last_to}
use Rattle.hfs_rescue_items.proofs.LawTypes.{PlansArePlaced, PlansHoldThings}
use Rattle.hfs_rescue_items.proofs.PartLemmas.{IsPart, plan_is}
use Rattle.hfs_rescue_items.proofs.PayloadLemmas.{payload_counts}
use Rattle.hfs_rescue_items.proofs.PlacedLemmas.{plan_placed}
use Rattle.hfs_rescue_items.proofs.PlanSumLemmas.{plan_counts}

-- The law of plans: what a plan makes of the items among records, and of the folders that records name, has plain names and paths of its own,
-- also without regard to the case of ASCII letters.
pub plans_are_placed : PlansArePlaced
plans_are_placed image found records places are = plan_placed found records places are image

-- And it makes all of them but the root, each at its own path.
pub plans_hold_things : PlansHoldThings
plans_hold_things found =
    plan_holds found
    (λ i.
    (λ k. take ((last_part i (path_at found.places.now i)).to) (path_at found.places.now (place-of found i (path_at found.places.now i) refl (path_at found.places.now i) (first_part i) k)))
    ∙ ap (λ n. take n (path_at found.places.now i)) (last_to i (path_at found.places.now i)) ∙ take-length (path_at found.places.now i))

-- A folder is made before what lies in it.
pub folders_come_first : FoldersComeFirst
folders_come_first = folders_first

-- Nothing is made but the things and the folders that these lie in.
pub only_things_are_made : OnlyThingsAreMade
only_things_are_made found = each-mono (IsPart found) (IsOfThing found) (whole_plan found)
    (λ part is. record { there = is.place; some = is.some; ends = is.ends; above = is.alone; own = λ whole. let kind = is.own whole in (kind.made, kind.kind_is) })
    (plan_is found).each

-- Each item but the root comes once, so what is counted of the plan is what is counted of the items.
pub plans_count_items : PlansCountItems
plans_count_items found records are number = plan_counts found number records are

-- As many bytes and as many AppleDouble files are in the payload.
pub payloads_have_their_sums : PayloadsHaveTheirSums
payloads_have_their_sums image found records are = payload_counts image found records are
