-- Levels that stay where the children of their nodes stay.
use Rattle.std.proofs.Common.{◌≡◌, ℕ, zero, suc, ◌<◌, List, ◌++◌, refl, ap, ◌∙◌, arith}
use Rattle.std.specs.List.{flat_map}
use Rattle.hfs_btree.specs.declared.key.Key.{Ghosts}
use Rattle.hfs_fields.specs.Each.{Each}
use Rattle.hfs_fields.proofs.ElementLemmas.{each-left, each-right}
use Rattle.hfs_btree.specs.Tree.{Store, Spot, children, spots, turn, level_below, last_level}
use Rattle.hfs_btree.proofs.LevelLemmas.{each-spots}
use Rattle.hfs_fields.proofs.PartLemmas.{flat_map-same}

module _ {K : Type 0} (g : Ghosts K) (old new : Store) where
  -- a node above the leaves has the same children
  abbrev pub HasSameChildren : Spot → Type 0
  HasSameChildren spot = 0 < spot.above → children g new spot.n ≡ children g old spot.n

  pub next-same : (k : ℕ) (ns : List ℕ) → Each HasSameChildren (spots (suc k) 0 ns) → flat_map (children g new) ns ≡ flat_map (children g old) ns
  next-same k ns h =
      flat_map-same (children g new) (children g old) ns (each-spots HasSameChildren (λ n. children g new n ≡ children g old n) (suc k) (λ left n right e. e (omega arith)) 0 ns h)

  pub turn-same : (d : ℕ) (ns : List ℕ) → Each HasSameChildren (turn g old d ns) → turn g new d ns ≡ turn g old d ns
  turn-same zero ns h = refl
  turn-same (suc zero) ns h = refl
  turn-same (suc (suc k)) ns h =
      let here = each-left HasSameChildren (spots (suc k) 0 ns) (turn g old (suc k) (flat_map (children g old) ns)) h in
      let rest = each-right HasSameChildren (spots (suc k) 0 ns) (turn g old (suc k) (flat_map (children g old) ns)) h in
      ap (λ (ms : List ℕ). spots (suc k) 0 ns ++ turn g new (suc k) ms) (next-same k ns here)
      ∙ ap (λ (ss : List Spot). spots (suc k) 0 ns ++ ss) (turn-same (suc k) (flat_map (children g old) ns) rest)

  pub level-same : (k : ℕ) (ns : List ℕ) → Each HasSameChildren (turn g old (suc k) ns) → level_below g new k ns ≡ level_below g old k ns
  level-same zero ns h = refl
  level-same (suc k) ns h =
      let here = each-left HasSameChildren (spots (suc k) 0 ns) (turn g old (suc k) (flat_map (children g old) ns)) h in
      let rest = each-right HasSameChildren (spots (suc k) 0 ns) (turn g old (suc k) (flat_map (children g old) ns)) h in
      ap (level_below g new k) (next-same k ns here) ∙ level-same k (flat_map (children g old) ns) rest

  pub last-same : (d : ℕ) (ns : List ℕ) → Each HasSameChildren (turn g old d ns) → last_level g new d ns ≡ last_level g old d ns
  last-same zero ns h = refl
  last-same (suc k) ns h = level-same k ns h
