-- Nodes that stand one below the other, each the only child of the one above it, and leave their levels.
use Rattle.std.proofs.Common.{◌≡◌, ◌≢◌, ℕ, zero, suc, ◌+◌, ◌<◌, ◌≤◌, List, [], ◌∷◌, ◌++◌, length, map, refl, sym, ap, ◌∙◌, subst, arith, append_assoc}
use Rattle.std.specs.List.{flat_map}
use Rattle.std.proofs.lemmas.List.{map-append, length-map}
use Rattle.std.proofs.lemmas.List.Concat.{flat_map-append}
use Rattle.hfs_btree.specs.declared.key.Key.{Ghosts}
use Rattle.hfs_fields.specs.Each.{Each}
use Rattle.hfs_fields.proofs.ElementLemmas.{each-append, each-left, each-right}
use Rattle.hfs_btree.specs.Tree.{Store, Spot, records_in, children, first_of, spots, turn, level_below}
use Rattle.hfs_btree.specs.Sound.{IsOther, IsDistinct}
use Rattle.hfs_btree_edits.proofs.FewRecords.{distinct-without as distinct-skip}
use Rattle.hfs_btree_edits.proofs.LevelPartLemmas.{numbers, numbers-spots, KeepsRecords, flat-kept}
pub use Rattle.hfs_btree_removal.proofs.RemovalLemmas.{only_child}

-- a level of which a node leaves, between those before it and those behind
pub record Cut : Type 0 where
  pub above : ℕ
  pub front : List ℕ
  pub n : ℕ
  pub back : List ℕ

abbrev pub with_node : Cut → List Spot
with_node cut = spots cut.above 0 (cut.front ++ cut.n ∷ cut.back)

abbrev pub without_node : Cut → List Spot
without_node cut = spots cut.above 0 (cut.front ++ cut.back)

abbrev pub fronts : Cut → List Spot
fronts cut = spots cut.above 0 cut.front

abbrev pub backs : Cut → List Spot
backs cut = spots cut.above 0 cut.back

module _ {K : Type 0} (g : Ghosts K) (nodes : Store) where
  -- the node and those below it have one record each
  abbrev pub IsChain : ℕ → ℕ → Type 0
  IsChain zero n = length (records_in nodes n) ≡ 1
  IsChain (suc k) n = (length (records_in nodes n) ≡ 1) × IsChain k (only_child g nodes n)

  -- the levels from this one on, each about its node of the chain
  abbrev pub cuts : ℕ → List ℕ → ℕ → List ℕ → List Cut
  cuts zero front n back = record { above = zero; front = front; n = n; back = back } ∷ []
  cuts (suc k) front n back =
      record { above = suc k; front = front; n = n; back = back } ∷ cuts k (flat_map (children g nodes) front) (only_child g nodes n) (flat_map (children g nodes) back)

  -- the last of them
  abbrev pub bottom : ℕ → List ℕ → ℕ → List ℕ → Cut
  bottom zero front n back = record { above = zero; front = front; n = n; back = back }
  bottom (suc k) front n back = bottom k (flat_map (children g nodes) front) (only_child g nodes n) (flat_map (children g nodes) back)

  one-of : (xs : List ℕ) → length xs ≡ 1 → xs ≡ first_of xs ∷ []
  one-of [] h = absurd (omega arith)
  one-of (x ∷ []) h = refl
  one-of (x ∷ y ∷ ys) h = absurd (omega arith)

  pub only-one : (n : ℕ) → length (records_in nodes n) ≡ 1 → children g nodes n ≡ only_child g nodes n ∷ []
  only-one n h = one-of (children g nodes n) (length-map (records_in nodes n) g.child ∙ h)

  -- the children of a level about its node of the chain
  pub below-cut : (front : List ℕ) (n : ℕ) (back : List ℕ) → length (records_in nodes n) ≡ 1
      → flat_map (children g nodes) (front ++ n ∷ back) ≡ flat_map (children g nodes) front ++ only_child g nodes n ∷ flat_map (children g nodes) back
  below-cut front n back h =
      flat_map-append (children g nodes) front (n ∷ back)
      ∙ ap (λ (ms : List ℕ). flat_map (children g nodes) front ++ (ms ++ flat_map (children g nodes) back)) (only-one n h)

  pub turn-with : (k : ℕ) (front : List ℕ) (n : ℕ) (back : List ℕ) → IsChain k n → turn g nodes (suc k) (front ++ n ∷ back) ≡ flat_map with_node (cuts k front n back)
  turn-with zero front n back h = refl
  turn-with (suc k) front n back h =
      ap (λ (ms : List ℕ). spots (suc k) 0 (front ++ n ∷ back) ++ turn g nodes (suc k) ms) (below-cut front n back h.0)
      ∙ ap (λ (ss : List Spot). spots (suc k) 0 (front ++ n ∷ back) ++ ss) (turn-with k _ (only_child g nodes n) _ h.1)

  pub level-with : (k : ℕ) (front : List ℕ) (n : ℕ) (back : List ℕ) → IsChain k n
      → level_below g nodes k (front ++ n ∷ back) ≡ (bottom k front n back).front ++ (bottom k front n back).n ∷ (bottom k front n back).back
  level-with zero front n back h = refl
  level-with (suc k) front n back h = ap (level_below g nodes k) (below-cut front n back h.0) ∙ level-with k _ (only_child g nodes n) _ h.1

  -- the nodes before the chain are trees of their own, and so are those behind
  pub turn-fronts : (k : ℕ) (front : List ℕ) (n : ℕ) (back : List ℕ) → turn g nodes (suc k) front ≡ flat_map fronts (cuts k front n back)
  turn-fronts zero front n back = refl
  turn-fronts (suc k) front n back = ap (λ (ss : List Spot). spots (suc k) 0 front ++ ss) (turn-fronts k _ (only_child g nodes n) (flat_map (children g nodes) back))

  pub turn-backs : (k : ℕ) (front : List ℕ) (n : ℕ) (back : List ℕ) → turn g nodes (suc k) back ≡ flat_map backs (cuts k front n back)
  turn-backs zero front n back = refl
  turn-backs (suc k) front n back = ap (λ (ss : List Spot). spots (suc k) 0 back ++ ss) (turn-backs k (flat_map (children g nodes) front) (only_child g nodes n) _)

-- ---- two stores: the nodes beside the chain keep their records

module _ {K : Type 0} (g : Ghosts K) (old new : Store) where
  abbrev pub KeepsBeside : Cut → Type 0
  KeepsBeside cut = Each (KeepsRecords g old new) (cut.front ++ cut.back)

  below-both : (front back : List ℕ) → Each (KeepsRecords g old new) (front ++ back) → flat_map (children g new) (front ++ back) ≡ flat_map (children g old) front ++ flat_map (children g old) back
  below-both front back h = flat-kept g old new (front ++ back) h ∙ flat_map-append (children g old) front back

  pub turn-without : (k : ℕ) (front : List ℕ) (n : ℕ) (back : List ℕ) → Each KeepsBeside (cuts g old k front n back) → turn g new (suc k) (front ++ back) ≡ flat_map without_node (cuts g old k front n back)
  turn-without zero front n back h = refl
  turn-without (suc k) front n back h =
      ap (λ (ms : List ℕ). spots (suc k) 0 (front ++ back) ++ turn g new (suc k) ms) (below-both front back h.0)
      ∙ ap (λ (ss : List Spot). spots (suc k) 0 (front ++ back) ++ ss) (turn-without k _ (only_child g old n) _ h.1)

  pub level-without : (k : ℕ) (front : List ℕ) (n : ℕ) (back : List ℕ) → Each KeepsBeside (cuts g old k front n back)
      → level_below g new k (front ++ back) ≡ (bottom g old k front n back).front ++ (bottom g old k front n back).back
  level-without zero front n back h = refl
  level-without (suc k) front n back h = ap (level_below g new k) (below-both front back h.0) ∙ level-without k _ (only_child g old n) _ h.1

-- ---- the numbers of the levels

numbers-with : (cut : Cut) (rest : List Spot) → numbers (with_node cut ++ rest) ≡ (cut.front ++ cut.n ∷ cut.back) ++ numbers rest
numbers-with cut rest =
    map-append (λ (s : Spot). s.n) (with_node cut) rest ∙ ap (λ (ns : List ℕ). ns ++ numbers rest) (numbers-spots cut.above 0 (cut.front ++ cut.n ∷ cut.back))

numbers-without : (cut : Cut) (rest : List Spot) → numbers (without_node cut ++ rest) ≡ (cut.front ++ cut.back) ++ numbers rest
numbers-without cut rest =
    map-append (λ (s : Spot). s.n) (without_node cut) rest ∙ ap (λ (ns : List ℕ). ns ++ numbers rest) (numbers-spots cut.above 0 (cut.front ++ cut.back))

regroup-with : (a f : List ℕ) (n : ℕ) (b r : List ℕ) → a ++ ((f ++ n ∷ b) ++ r) ≡ (a ++ f) ++ n ∷ (b ++ r)
regroup-with a f n b r = simp append_assoc

regroup-without : (a f b r : List ℕ) → (a ++ f) ++ (b ++ r) ≡ (a ++ (f ++ b)) ++ r
regroup-without a f b r = simp append_assoc

regroup-back : (a f b r : List ℕ) → (a ++ (f ++ b)) ++ r ≡ a ++ ((f ++ b) ++ r)
regroup-back a f b r = simp append_assoc

-- no number stands twice after the chain has left
pub distinct-without : (others : List ℕ) (cs : List Cut) → IsDistinct (others ++ numbers (flat_map with_node cs)) → IsDistinct (others ++ numbers (flat_map without_node cs))
distinct-without others [] h = h
distinct-without others (cut ∷ cs) h =
    let P : List ℕ → Type 0 = λ xs. IsDistinct xs in
    let a = subst P (ap (λ (xs : List ℕ). others ++ xs) (numbers-with cut (flat_map with_node cs)) ∙ regroup-with others cut.front cut.n cut.back (numbers (flat_map with_node cs))) h in
    let b = distinct-skip (others ++ cut.front) cut.n (cut.back ++ numbers (flat_map with_node cs)) a in
    let c = distinct-without (others ++ (cut.front ++ cut.back)) cs (subst P (regroup-without others cut.front cut.back (numbers (flat_map with_node cs))) b) in
    subst P (regroup-back others cut.front cut.back (numbers (flat_map without_node cs)) ∙ sym (ap (λ (xs : List ℕ). others ++ xs) (numbers-without cut (flat_map without_node cs)))) c

-- a number that was none of them is none of those that are left
pub other-without : (m : ℕ) (cs : List Cut) → Each (IsOther m) (numbers (flat_map with_node cs)) → Each (IsOther m) (numbers (flat_map without_node cs))
other-without m [] h = tt
other-without m (cut ∷ cs) h =
    let P : List ℕ → Type 0 = λ xs. Each (IsOther m) xs in
    let a = subst P (numbers-with cut (flat_map with_node cs)) h in
    let level = each-left (IsOther m) (cut.front ++ cut.n ∷ cut.back) (numbers (flat_map with_node cs)) a in
    let rest = other-without m cs (each-right (IsOther m) (cut.front ++ cut.n ∷ cut.back) (numbers (flat_map with_node cs)) a) in
    subst P (sym (numbers-without cut (flat_map without_node cs)))
    (each-append (IsOther m) (cut.front ++ cut.back) (numbers (flat_map without_node cs))
    (each-append (IsOther m) cut.front cut.back (each-left (IsOther m) cut.front (cut.n ∷ cut.back) level) (each-right (IsOther m) cut.front (cut.n ∷ cut.back) level).1) rest)

-- and the other way, but for the chain itself
pub other-with : (m : ℕ) (cs : List Cut) → Each (λ (cut : Cut). cut.n ≢ m) cs → Each (IsOther m) (numbers (flat_map without_node cs)) → Each (IsOther m) (numbers (flat_map with_node cs))
other-with m [] c h = tt
other-with m (cut ∷ cs) c h =
    let P : List ℕ → Type 0 = λ xs. Each (IsOther m) xs in
    let a = subst P (numbers-without cut (flat_map without_node cs)) h in
    let level = each-left (IsOther m) (cut.front ++ cut.back) (numbers (flat_map without_node cs)) a in
    let rest = other-with m cs c.1 (each-right (IsOther m) (cut.front ++ cut.back) (numbers (flat_map without_node cs)) a) in
    subst P (sym (numbers-with cut (flat_map with_node cs)))
    (each-append (IsOther m) (cut.front ++ cut.n ∷ cut.back) (numbers (flat_map with_node cs))
    (each-append (IsOther m) cut.front (cut.n ∷ cut.back) (each-left (IsOther m) cut.front cut.back level) (c.0, each-right (IsOther m) cut.front cut.back level)) rest)

-- as many nodes leave as there are levels
pub numbers-fewer : (cs : List Cut) → length (numbers (flat_map with_node cs)) ≡ length (numbers (flat_map without_node cs)) + length cs
numbers-fewer [] = refl
numbers-fewer (cut ∷ cs) =
    let a = ap (λ (xs : List ℕ). length xs) (numbers-with cut (flat_map with_node cs)) in
    let b = ap (λ (xs : List ℕ). length xs) (numbers-without cut (flat_map without_node cs)) in
    let ih = numbers-fewer cs in
    omega (
      arith,
      Rattle.std.proofs.Common.length-append (cut.front ++ cut.n ∷ cut.back) (numbers (flat_map with_node cs)),
      Rattle.std.proofs.Common.length-append (cut.front ++ cut.back) (numbers (flat_map without_node cs)),
      Rattle.std.proofs.Common.length-append cut.front (cut.n ∷ cut.back),
      Rattle.std.proofs.Common.length-append cut.front cut.back,
    )
