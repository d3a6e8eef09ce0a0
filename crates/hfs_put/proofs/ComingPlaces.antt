-- The items of a list that get their places are as long as was planned.
use Rattle.std.proofs.Common.{◌≡◌, ℕ, Bool, List, [], ◌∷◌, ◌++◌, length, map, Option, Some, None, refl, sym, ap, ◌∙◌, arith}
use Rattle.std.specs.Prelude.{⊤}
use Rattle.std.proofs.lemmas.Option.{none-some}
use Rattle.hfs_put.proofs.LaidLemmas.{length-filled}
use Rattle.hfs_model.specs.Volume.{Volume}
use Rattle.hfs_model.specs.declared.call.Fork.TheVariants.{DataFork, ResFork}
use Rattle.hfs_put.specs.Decisions.{decision, decision_by, findings_with, info_named, inside, inside_of, judged, placing_over, put_item}
use Rattle.hfs_put.specs.PlacedSources.{decisions_behind, destination, item_put}
use Rattle.hfs_put.specs.Laying.{item_of}
use Rattle.hfs_put.specs.declared.decisions.Destination.{Destination}
use Rattle.hfs_put.specs.declared.decisions.Destination.TheVariants as into
use Rattle.hfs_model.specs.declared.reply.Info.{Info}
use Rattle.hfs_put_plan.specs.Laws.{IsWhole}
use Rattle.hfs_put_plan.specs.declared.items.PutItem.{PutItem}
use Rattle.hfs_put_plan.specs.Why.{why_not}
use Rattle.hfs_put_plan.specs.declared.over.Placing.{Placing}
use Rattle.hfs_put_plan.specs.declared.reasons.Why.{Why}
use Rattle.hfs_fields.specs.Each.{Each}
use Rattle.hfs_put_sources.specs.Forks.{fork_bytes}
use Rattle.hfs_put_sources.specs.Items.{PlannedItem}
use Rattle.hfs_put_sources.specs.Trees.{Tree}
use Rattle.hfs_put.specs.Arrivals.{arrivals_of}

-- ---- one item

-- with as many bytes of both forks as were planned
pub record IsPlaceOf (item : PlannedItem) (place : PutItem) : Type 0 where
  pub data_len : place.data_len ≡ item.plan.data_fork.len
  pub resource_len : place.resource_len ≡ item.plan.resource_fork.len

module _ (item : PlannedItem) (place : PutItem) where
  by-decision : (why : Option Why) (name : Option (List ℕ)) (placing : Placing) (folder : Destination)
      → item_put (decision_by why name placing folder item) ≡ Some place → IsPlaceOf item place
  by-decision (Some why) name placing folder e = absurd (none-some place e)
  by-decision None None placing folder e = absurd (none-some place e)
  by-decision None (Some name) placing folder e =
      let same : place ≡ put_item item.parent item.plan name placing = cc in
      record { data_len = ap (λ (p : PutItem). p.data_len) same; resource_len = ap (λ (p : PutItem). p.resource_len) same }

  by-judgment : (replace : Bool) (there : Option Info) → item_put (judged replace there item) ≡ Some place → IsPlaceOf item place
  by-judgment replace there e =
      let placing = placing_over replace there item in
      by-decision (why_not (findings_with placing item.plan)) item.plan.name placing (inside_of placing there) e

  place-is : (v : Volume) (replace : Bool) (folder : Destination) → item_put (decision v replace folder item) ≡ Some place → IsPlaceOf item place
  place-is v replace (into.OnDisk dir) e = by-judgment replace (info_named v dir item.plan.name) e
  place-is v replace into.Made e = by-judgment replace None e
  place-is v replace into.Refused e = absurd (none-some place e)

-- ---- the list

-- each item has its place
abbrev pub ArePlacesOf : List PlannedItem → List PutItem → Type 0
ArePlacesOf [] [] = ⊤
ArePlacesOf [] (place ∷ places) = ⊥
ArePlacesOf (item ∷ items) [] = ⊥
ArePlacesOf (item ∷ items) (place ∷ places) = IsPlaceOf item place × ArePlacesOf items places

module _ (v : Volume) (target : ℕ) (replace : Bool) where
  pub are-places : (insides : List Destination) (items : List PlannedItem) (places : List PutItem)
      → map item_put (decisions_behind v target replace insides items) ≡ map Some places → ArePlacesOf items places
  unfolding decisions_behind
  are-places insides [] [] e = tt
  are-places insides [] (place ∷ places) e = cc
  are-places insides (item ∷ items) [] e = cc
  are-places insides (item ∷ items) (place ∷ places) e =
      let folder = destination target insides item.parent in
      let made = decision v replace folder item in
      let first : item_put made ≡ Some place = cc in
      let rest : map item_put (decisions_behind v target replace (insides ++ inside made ∷ []) items) ≡ map Some places = cc in
      (place-is item place v replace folder first, are-places (insides ++ inside made ∷ []) items places rest)

pub length-places : (items : List PlannedItem) (places : List PutItem) → ArePlacesOf items places → length places ≡ length items
length-places [] [] are = refl
length-places [] (place ∷ places) are = absurd are
length-places (item ∷ items) [] are = absurd are
length-places (item ∷ items) (place ∷ places) are = let rest = length-places items places are.1 in omega (arith, rest)

module _ (host : Tree) where
  pub items-arrivals : (items : List PlannedItem) (places : List PutItem) → length places ≡ length items → map item_of (arrivals_of host items places) ≡ places
  items-arrivals [] [] e = refl
  items-arrivals [] (place ∷ places) e = absurd (omega (arith, e))
  items-arrivals (item ∷ items) [] e = absurd (omega (arith, e))
  items-arrivals (item ∷ items) (place ∷ places) e = ap (λ (l : List PutItem). place ∷ l) (items-arrivals items places (omega (arith, e)))

  pub arrivals-whole : (items : List PlannedItem) (places : List PutItem) → ArePlacesOf items places → Each IsWhole (arrivals_of host items places)
  arrivals-whole [] places are = tt
  arrivals-whole (item ∷ items) [] are = tt
  arrivals-whole (item ∷ items) (place ∷ places) are = (
    (
      length-filled item.plan.data_fork.len (fork_bytes host item DataFork) ∙ sym are.0.data_len,
      length-filled item.plan.resource_fork.len (fork_bytes host item ResFork) ∙ sym are.0.resource_len,
    ),
    arrivals-whole items places are.1,
  )
