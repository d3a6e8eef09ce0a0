-- The way up from a folder.
use Rattle.std.proofs.Common.{◌≡◌, ℕ, zero, suc, true, false, ◌||◌, List, ◌∙◌, ap, Some, None}
use Rattle.std.specs.Option.{option_map_or}
use Rattle.std.proofs.lemmas.Bool.{eq-eqb, ne_eqb}
use Rattle.hfs_model.specs.Volume.{Entry}
use Rattle.hfs_model.specs.Children.{entry_at}
use Rattle.hfs_model.specs.Choices.{lies_in}

module _ (es : List Entry) (up : ℕ) where
  pub reached : (n id : ℕ) → id ≡ up → lies_in es n id up ≡ true
  unfolding lies_in
  reached zero id e = eq-eqb id up e
  reached (suc n) id e = ap (λ b. b || option_map_or (λ (x : Entry). lies_in es n x.1.parent up) (entry_at es id) false) (eq-eqb id up e)

  pub no_more : (n id : ℕ) → n ≡ 0 → (id ≡ up → ⊥) → lies_in es n id up ≡ false
  unfolding lies_in
  no_more n id none other = ap (λ k. lies_in es k id up) none ∙ ne_eqb id up other

  pub no_item : (n id : ℕ) → (id ≡ up → ⊥) → entry_at es id ≡ None → lies_in es n id up ≡ false
  unfolding lies_in
  no_item zero id other none = ne_eqb id up other
  no_item (suc n) id other none = (λ i. ne_eqb id up other i || option_map_or (λ (x : Entry). lies_in es n x.1.parent up) (none i) false)

  pub one_up : (n id : ℕ) (e : Entry) → (id ≡ up → ⊥) → entry_at es id ≡ Some e → lies_in es (suc n) id up ≡ lies_in es n e.1.parent up
  unfolding lies_in
  one_up n id e other is = (λ i. ne_eqb id up other i || option_map_or (λ (x : Entry). lies_in es n x.1.parent up) (is i) false)
