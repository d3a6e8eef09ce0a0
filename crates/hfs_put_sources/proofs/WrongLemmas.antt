-- Files with other digests, item by item.
use Rattle.std.proofs.Common.{◌≡◌, ◌∙◌, sym, ap, ℕ, List, [], ◌∷◌, Option, Some, None}
use Rattle.std.specs.Option.{option_or}
use Rattle.hfs_put_sources.specs.Items.{PlannedItem}
use Rattle.hfs_put_sources.specs.Trees.{Tree}
use Rattle.hfs_put_sources.specs.Digests.{first_wrong, wrong_of}

module _ (host : Tree) (told : List ℕ → Option (List ℕ)) where
  -- the first item has one
  pub wrong-here : (left next : List PlannedItem) (item : PlannedItem) (found : Option (List ℕ)) (path : List ℕ) → left ≡ item ∷ next → found ≡ wrong_of host told item
      → found ≡ Some path → first_wrong host told left ≡ Some path
  unfolding first_wrong
  wrong-here left next item found path is here some =
      ap (first_wrong host told) is ∙ ap (λ (o : Option (List ℕ)). option_or o (first_wrong host told next)) (sym here ∙ some)

  -- the first item has none
  pub wrong-behind : (left next : List PlannedItem) (item : PlannedItem) (found : Option (List ℕ)) → left ≡ item ∷ next → found ≡ wrong_of host told item
      → found ≡ None → first_wrong host told next ≡ first_wrong host told left
  unfolding first_wrong
  wrong-behind left next item found is here none =
      sym (ap (first_wrong host told) is ∙ ap (λ (o : Option (List ℕ)). option_or o (first_wrong host told next)) (sym here ∙ none))

  pub wrong-none : (left : List PlannedItem) → left ≡ [] → first_wrong host told left ≡ None
  unfolding first_wrong
  wrong-none left none = ap (first_wrong host told) none
