-- A chain of nodes, step by step.
use Rattle.hfs_btree.specs.Tree.{Store, forward_of, node_in}
use Rattle.std.proofs.Common.{ℕ, ◌≡◌, suc, ◌∷◌, ap, ◌∙◌}
use Rattle.hfs_btree.specs.Header.{chain_from}
use Rattle.std.proofs.lemmas.Bool.{cond-false, ne_eqb}

pub chain-step : (nodes : Store) (most next n : ℕ) → most ≡ suc next → (n ≡ 0 → ⊥) → chain_from nodes most n ≡ n ∷ chain_from nodes next (forward_of (node_in nodes n))
chain-step nodes most next n e some = ap (λ (k : ℕ). chain_from nodes k n) e ∙ cond-false _ _ _ (ne_eqb n 0 some)
