-- The chain of map nodes, step by step.
use Rattle.std.proofs.Common.{◌≡◌, ℕ, zero, suc, Bool, true, false, not, ◌&&◌, ◌||◌, ◌==◌, if◌then◌else◌, List, [], ◌∷◌, ◌++◌, refl, sym, ap, ◌∙◌, append_assoc}
use Rattle.std.specs.List.{flat_map}
use Rattle.hfs_btree.specs.Tree.{Store, node_in, forward_of}
use Rattle.hfs_btree.specs.Header.{record_in}
use Rattle.hfs_btree_checks.specs.Shape.{is_map_result}
use Rattle.hfs_remains.specs.InUse.{map_chain, chain_bytes, IsMapLink}

-- a node that was met ends it
pub chain_bytes-met : (nodes : Store) (met : ℕ → Bool) (most n : ℕ) → met n ≡ true → chain_bytes nodes met most n ≡ []
chain_bytes-met nodes met zero n h = refl
chain_bytes-met nodes met (suc most) n h = by (is_map_result (node_in nodes n)) (met n) h
  where
    by : (a b : Bool) → b ≡ true → flat_map (λ n. record_in nodes n 0) (if a && not b then n ∷ map_chain nodes (λ k. met k || (n == k)) most (forward_of (node_in nodes n)) else []) ≡ []
    by true true h = refl
    by true false h = cc
    by false true h = refl
    by false false h = refl

-- so does one that is no map node
pub chain_bytes-other : (nodes : Store) (met : ℕ → Bool) (most n : ℕ) → is_map_result (node_in nodes n) ≡ false → chain_bytes nodes met most n ≡ []
chain_bytes-other nodes met zero n h = refl
chain_bytes-other nodes met (suc most) n h = by (is_map_result (node_in nodes n)) (met n) h
  where
    by : (a b : Bool) → a ≡ false → flat_map (λ n. record_in nodes n 0) (if a && not b then n ∷ map_chain nodes (λ k. met k || (n == k)) most (forward_of (node_in nodes n)) else []) ≡ []
    by true b h = cc
    by false true h = refl
    by false false h = refl

-- a map node that was not met gives its part, and leads on
pub chain_bytes-more : (nodes : Store) (met later_met : ℕ → Bool) (most n later : ℕ) (old new : List ℕ) → met n ≡ false
    → ((k : ℕ) → later_met k ≡ (met k || (n == k)))
    → IsMapLink nodes n old new later
    → new ++ chain_bytes nodes later_met most later ≡ old ++ chain_bytes nodes met (suc most) n
chain_bytes-more nodes met later_met most n later old new other grown link =
    let one : Bool → List ℕ = λ (b : Bool). flat_map (λ n. record_in nodes n 0) (if b then n ∷ map_chain nodes (λ k. met k || (n == k)) most (forward_of (node_in nodes n)) else []) in
    let on : (is_map_result (node_in nodes n) && not (met n)) ≡ true = (λ t. link.right t && not (other t)) in
    let same : later_met ≡ (λ k. met k || (n == k)) = (λ i k. grown k i) in
    (λ t. link.part t ++ chain_bytes nodes (same t) most (link.forward t))
    ∙ append_assoc old (record_in nodes n 0) (chain_bytes nodes (λ k. met k || (n == k)) most (forward_of (node_in nodes n)))
    ∙ ap (λ (b : Bool). old ++ one b) (sym on)
