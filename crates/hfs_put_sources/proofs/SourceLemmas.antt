-- What sources give, one after the other.
use Rattle.std.proofs.Common.{◌≡◌, ◌∙◌, sym, subst, refl, ℕ, List, [], ◌∷◌, ◌++◌, append_assoc}
use Rattle.std.proofs.lemmas.List.{append-nil}
use Rattle.hfs_put_sources.specs.declared.plan.PutOptions.{PutOptions}
use Rattle.hfs_put_sources.specs.Items.{PlannedItem, Told}
use Rattle.hfs_put_sources.specs.Trees.{OfEachTree, Tree}
use Rattle.hfs_put_sources.specs.Sources.{GiveAll, Gives}

-- what these items and behind them what the sources give that are left is what all give
abbrev pub GiveOn : (Tree → Type 0) → Told → PutOptions → List PlannedItem → List (List ℕ) → List (List ℕ) → Type 0
GiveOn Holds told how items left sources =
    (host : Tree) → Holds host → (behind : List PlannedItem) → GiveAll host told how left behind → GiveAll host told how sources (items ++ behind)

module _ (told : Told) (how : PutOptions) where
  pub give-first : (Holds : Tree → Type 0) (items : List PlannedItem) (sources : List (List ℕ)) → items ≡ [] → GiveOn Holds told how items sources sources
  give-first Holds items sources none = λ host h behind w. subst (λ (l : List PlannedItem). GiveAll host told how sources (l ++ behind)) (sym none) w

  pub give-step : (Held Holds : Tree → Type 0) (items more made : List PlannedItem) (source : List ℕ) (left next sources : List (List ℕ))
      → OfEachTree Holds Held → OfEachTree Holds (λ host. Gives host told how source more) → left ≡ source ∷ next → made ≡ items ++ more
      → GiveOn Held told how items left sources → GiveOn Holds told how made next sources
  give-step Held Holds items more made source left next sources narrows gives is on before = λ host h behind w.
      let w1 : GiveAll host told how (source ∷ next) (more ++ behind) = (more, behind, gives host h, w, refl) in
      let w2 : GiveAll host told how sources (items ++ (more ++ behind)) =
      before host (narrows host h) (more ++ behind) (subst (λ (l : List (List ℕ)). GiveAll host told how l (more ++ behind)) (sym is) w1) in
      subst (λ (l : List PlannedItem). GiveAll host told how sources l) (sym ((λ t. on t ++ behind) ∙ append_assoc items more behind)) w2

  pub give-done : (Holds : Tree → Type 0) (items : List PlannedItem) (left sources : List (List ℕ)) → left ≡ [] → GiveOn Holds told how items left sources
      → OfEachTree Holds (λ host. GiveAll host told how sources items)
  give-done Holds items left sources none before = λ host h.
      subst (λ (l : List PlannedItem). GiveAll host told how sources l) (append-nil items)
      (before host h [] (subst (λ (l : List (List ℕ)). GiveAll host told how l []) (sym none) refl))
