-- What becomes of a list of items that is to come, item by item.
use Rattle.std.proofs.Common.{◌≡◌, ℕ, zero, suc, ◌+◌, ◌<◌, ◌≤◌, Bool, get_or, length, drop, List, [], ◌∷◌, ◌++◌, map, Option, Some, None, refl, sym, ◌∙◌, ap}
use Rattle.std.specs.List.{cons_option}
use Rattle.std.specs.Prelude.{⊤}
use Rattle.std.proofs.lemmas.List.{append_assoc, append-nil, drop_all, drop_more}
use Rattle.hfs_model.specs.declared.reply.Info.{Info}
use Rattle.hfs_model.specs.Volume.{Volume}
use Rattle.hfs_put_plan.specs.declared.items.PutItem.{PutItem}
use Rattle.hfs_put_plan.specs.declared.over.Placing.{Placing}
use Rattle.hfs_put_plan.specs.declared.over.Placing.TheVariants as placing
use Rattle.hfs_put_plan.specs.declared.reasons.Why.{Why}
use Rattle.hfs_put_plan.specs.Placing.{how_placed}
use Rattle.hfs_put_plan.specs.Why.{why_not}
use Rattle.hfs_fields.specs.Each.{Each}
use Rattle.hfs_fields.proofs.ElementLemmas.{each-append}
use Rattle.hfs_put_sources.specs.Items.{PlannedItem}
use Rattle.hfs_put.specs.Decisions.{decision, decision_by, findings_with, info_named, inside, inside_kept, inside_of, item_kind, judged, standing_of}
use Rattle.hfs_put.specs.PlacedSources.{decisions, decisions_behind, destination, item_put, refused_at, refused_from}
use Rattle.hfs_put.specs.declared.decisions.Decision.{Decision}
use Rattle.hfs_put.specs.declared.decisions.Decision.TheVariants as decided
use Rattle.hfs_put.specs.declared.decisions.Destination.{Destination}
use Rattle.hfs_put.specs.declared.decisions.Destination.TheVariants as into
use Rattle.hfs_put.specs.declared.placing.RefusedItem.{RefusedItem}
use Rattle.hfs_put.proofs.ForkRunLists.{cons-first}

-- the items that are put
abbrev pub puts : List Decision → List PutItem
puts [] = []
puts (d ∷ ds) = cons_option (item_put d) (puts ds)

-- ---- step by step

module _ (v : Volume) (target : ℕ) (replace : Bool) (sources : List PlannedItem) where
  -- what becomes of those from a place on
  abbrev pub rest : List Destination → ℕ → List Decision
  rest insides i = decisions_behind v target replace insides (drop i sources)

  rest-first : (insides : List Destination) (i : ℕ) (source : PlannedItem) (d : Decision) → i < length sources → source ≡ get_or sources i source
      → d ≡ decision v replace (destination target insides source.parent) source → rest insides i ≡ d ∷ rest (insides ++ inside d ∷ []) (i + 1)
  unfolding decisions_behind
  rest-first insides i source d within is made =
      ap (decisions_behind v target replace insides) (drop_more sources i source within ∙ ap (λ (x : PlannedItem). x ∷ drop (i + 1) sources) (sym is))
      ∙ ap (λ (m : Decision). m ∷ rest (insides ++ inside m ∷ []) (i + 1)) (sym made)

  rest-none : (insides : List Destination) (i : ℕ) → length sources ≤ i → rest insides i ≡ []
  unfolding decisions_behind
  rest-none insides i past = ap (decisions_behind v target replace insides) (drop_all i sources past)

  -- the items so far, and those of the rest, are all
  pub record AreSoFar (all : List Decision) (insides : List Destination) (i : ℕ) (items : List PutItem) (refused : List RefusedItem) : Type 0 where
    pub put : puts all ≡ items ++ puts (rest insides i)
    pub told : refused_from 0 all ≡ refused ++ refused_from i (rest insides i)

  pub so_far_next : (all : List Decision) (insides more : List Destination) (i : ℕ) (items its : List PutItem) (refused told : List RefusedItem) (source : PlannedItem) (d : Decision)
      → i < length sources → source ≡ get_or sources i source → d ≡ decision v replace (destination target insides source.parent) source
      → more ≡ insides ++ inside d ∷ [] → its ≡ items ++ cons_option (item_put d) [] → told ≡ refused ++ cons_option (refused_at i d) []
      → AreSoFar all insides i items refused → AreSoFar all more (i + 1) its told
  unfolding refused_from
  so_far_next all insides more i items its refused told source d within is made more_is its_is told_is before =
      let first = rest-first insides i source d within is made in
      let behind = ap (λ (l : List Destination). rest l (i + 1)) (sym more_is) in
      record {
        put = before.put ∙ ap (λ (ds : List Decision). items ++ puts ds) first ∙ ap (λ (l : List PutItem). items ++ l) (cons-first (item_put d) (puts (rest (insides ++ inside d ∷ []) (i + 1))))
            ∙ sym (append_assoc items (cons_option (item_put d) []) (puts (rest (insides ++ inside d ∷ []) (i + 1))))
            ∙ ap (λ (l : List PutItem). l ++ puts (rest (insides ++ inside d ∷ []) (i + 1))) (sym its_is) ∙ ap (λ (ds : List Decision). its ++ puts ds) behind;
        told = before.told ∙ ap (λ (ds : List Decision). refused ++ refused_from i ds) first
            ∙ ap (λ (l : List RefusedItem). refused ++ l) (cons-first (refused_at i d) (refused_from (i + 1) (rest (insides ++ inside d ∷ []) (i + 1))))
            ∙ sym (append_assoc refused (cons_option (refused_at i d) []) (refused_from (i + 1) (rest (insides ++ inside d ∷ []) (i + 1))))
            ∙ ap (λ (l : List RefusedItem). l ++ refused_from (i + 1) (rest (insides ++ inside d ∷ []) (i + 1))) (sym told_is)
            ∙ ap (λ (ds : List Decision). told ++ refused_from (i + 1) ds) behind;
      }

  pub so_far_put : (all : List Decision) (insides : List Destination) (i : ℕ) (items : List PutItem) (refused : List RefusedItem) → length sources ≤ i
      → AreSoFar all insides i items refused → puts all ≡ items
  so_far_put all insides i items refused past h = h.put ∙ ap (λ (ds : List Decision). items ++ puts ds) (rest-none insides i past) ∙ append-nil items

  pub so_far_told : (all : List Decision) (insides : List Destination) (i : ℕ) (items : List PutItem) (refused : List RefusedItem) → length sources ≤ i
      → AreSoFar all insides i items refused → refused ≡ refused_from 0 all
  unfolding refused_from
  so_far_told all insides i items refused past h =
      sym (h.told ∙ ap (λ (ds : List Decision). refused ++ refused_from i ds) (rest-none insides i past) ∙ append-nil refused)

-- ---- where nothing is refused, all are put

-- what lies there is told
abbrev IsTold : Destination → Type 0
IsTold (into.OnDisk dir) = ⊤
IsTold into.Made = ⊤
IsTold into.Refused = ⊥

-- it is put or refused
abbrev IsJudged : Decision → Type 0
IsJudged (decided.Put item folder) = IsTold folder
IsJudged (decided.Refused why) = ⊤
IsJudged decided.Untold = ⊥

kept-told : (there : Option Info) → IsTold (inside_kept there)
kept-told (Some info) = tt
kept-told None = tt

inside-told : (p : Placing) (there : Option Info) → IsTold (inside_of p there)
inside-told placing.Kept there = kept-told there
inside-told placing.New there = tt
inside-told (placing.Replaced locked) there = tt
inside-told placing.Taken there = tt

by-judged : (why : Option Why) (name : Option (List ℕ)) (p : Placing) (inside : Destination) (item : PlannedItem) → IsTold inside → IsJudged (decision_by why name p inside item)
by-judged (Some why) name p inside item told = tt
by-judged None (Some name) p inside item told = told
by-judged None None p inside item told = tt

judged-is : (replace : Bool) (there : Option Info) (item : PlannedItem) → IsJudged (judged replace there item)
judged-is replace there item =
    let p = how_placed (standing_of there) (item_kind item.plan.own) replace in
    by-judged (why_not (findings_with p item.plan)) item.plan.name p (inside_of p there) item (inside-told p there)

decision-judged : (v : Volume) (replace : Bool) (to : Destination) (item : PlannedItem) → IsTold to → IsJudged (decision v replace to item)
decision-judged v replace (into.OnDisk dir) item told = judged-is replace (info_named v dir item.plan.name) item
decision-judged v replace into.Made item told = judged-is replace None item
decision-judged v replace into.Refused item told = absurd told

told-at : (insides : List Destination) (i : ℕ) → Each IsTold insides → IsTold (get_or insides i into.Made)
told-at [] i h = tt
told-at (x ∷ xs) zero h = h.0
told-at (x ∷ xs) (suc i) h = told-at xs i h.1

destination-told : (target : ℕ) (insides : List Destination) (parent : Option ℕ) → Each IsTold insides → IsTold (destination target insides parent)
destination-told target insides None h = tt
destination-told target insides (Some i) h = told-at insides i h

abbrev AllPut : List Decision → Type 0
AllPut ds = map item_put ds ≡ map Some (puts ds)

some-none : (x : RefusedItem) (xs : List RefusedItem) → x ∷ xs ≡ [] → ⊥
some-none x xs e = cc

-- one is put, and so are those behind it
put-first : (place : ℕ) (d : Decision) (ds : List Decision) → IsJudged d → (IsTold (inside d) → refused_from (place + 1) ds ≡ [] → AllPut ds)
    → refused_from place (d ∷ ds) ≡ [] → AllPut (d ∷ ds)
unfolding refused_from
put-first place (decided.Put item folder) ds is behind none = ap (λ (l : List (Option PutItem)). Some item ∷ l) (behind is none)
put-first place (decided.Refused why) ds is behind none = absurd (some-none _ _ none)
put-first place decided.Untold ds is behind none = absurd is

all-behind : (v : Volume) (target : ℕ) (replace : Bool) (insides : List Destination) (place : ℕ) (sources : List PlannedItem) → Each IsTold insides
    → refused_from place (decisions_behind v target replace insides sources) ≡ [] → AllPut (decisions_behind v target replace insides sources)
unfolding decisions_behind
all-behind v target replace insides place [] told none = refl
all-behind v target replace insides place (source ∷ more) told none =
    let d = decision v replace (destination target insides source.parent) source in
    put-first place d (decisions_behind v target replace (insides ++ inside d ∷ []) more)
    (decision-judged v replace (destination target insides source.parent) source (destination-told target insides source.parent told))
    (λ own rest. all-behind v target replace (insides ++ inside d ∷ []) (place + 1) more (each-append IsTold insides (inside d ∷ []) told (own, tt)) rest) none

pub all_put : (v : Volume) (target : ℕ) (replace : Bool) (sources : List PlannedItem) → refused_from 0 (decisions v target replace sources) ≡ []
    → map item_put (decisions v target replace sources) ≡ map Some (puts (decisions v target replace sources))
all_put v target replace sources none = all-behind v target replace [] 0 sources tt none

-- as the end of the loop has it
pub placed_all : (v : Volume) (target : ℕ) (replace : Bool) (sources : List PlannedItem) (items : List PutItem) (refused : List RefusedItem)
    → puts (decisions v target replace sources) ≡ items → refused ≡ refused_from 0 (decisions v target replace sources) → refused ≡ []
    → map item_put (decisions v target replace sources) ≡ map Some items
placed_all v target replace sources items refused put told none = all_put v target replace sources (sym told ∙ none) ∙ ap (map Some) put
