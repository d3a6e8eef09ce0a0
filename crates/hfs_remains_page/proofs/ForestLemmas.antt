-- The way through a forest comes to each of its nodes once.
use Rattle.std.proofs.Common.{◌≡◌, ◌∙◌, ℕ, zero, suc, ◌+◌, ◌<◌, ◌≤◌, Bool, true, false, ◌==◌, List, [], ◌∷◌, ◌++◌, length, map, refl, sym, ap, subst, arith, append_assoc}
use Rattle.std.specs.Prelude.{filter, if◌then◌else◌, nat_lt}
use Rattle.std.specs.List.{flat_map}
use Rattle.std.proofs.lemmas.List.Concat.{flat_map-append}
use Rattle.hfs_remains_page.specs.declared.steps.Step.{Step}
use Rattle.hfs_remains_page.specs.Walks.{deeper, step_at, walk}
use Rattle.hfs_remains_page.proofs.CountLemmas.{Each, count, count-flat, each-map, gate, one_if, same-flat, same-total, total, total-ones, total-sum}

abbrev pub nodes : List Step → List ℕ
nodes steps = map (λ (step : Step). step.node) steps

-- a node, and all that stands below it, where that is no deeper than this
abbrev pub tree : (ℕ → List ℕ) → ℕ → ℕ → List ℕ
tree inner zero x = []
tree inner (suc b) x = x ∷ flat_map (tree inner b) (inner x)

-- of what stands right below a node each is a thing, and lower
abbrev pub IsLower : (ℕ → ℕ) → ℕ → ℕ → ℕ → Type 0
IsLower height n x y = (height y < height x) × (y < n)

module _ (inner : ℕ → List ℕ) (height : ℕ → ℕ) (n : ℕ) (down : (x : ℕ) → Each (IsLower height n x) (inner x)) where
  stable : (b c x : ℕ) → height x < b → height x < c → tree inner b x ≡ tree inner c x
  stable zero c x one two = absurd (omega (arith, one))
  stable (suc b) zero x one two = absurd (omega (arith, two))
  stable (suc b) (suc c) x one two =
      ap (λ (l : List ℕ). x ∷ l) (same-flat (tree inner b) (tree inner c) (inner x)
      (each-map (IsLower height n x) (λ y. tree inner b y ≡ tree inner c y) (λ y is. stable b c y (omega (arith, is.0, one)) (omega (arith, is.0, two))) (inner x) (down x)))

  -- a node, and all that stands below it
  abbrev pub whole : ℕ → List ℕ
  whole x = tree inner (suc (height x)) x

  pub whole-is : (x : ℕ) → whole x ≡ x ∷ flat_map whole (inner x)
  whole-is x =
      ap (λ (l : List ℕ). x ∷ l) (same-flat (tree inner (height x)) whole (inner x)
      (each-map (IsLower height n x) (λ y. tree inner (height x) y ≡ whole y) (λ y is. stable (height x) (suc (height y)) y is.0 (omega arith)) (inner x) (down x)))

  -- ---- the way

  node-steps : (depth : ℕ) (l : List ℕ) (steps : List Step) → nodes (map (step_at inner depth) l ++ steps) ≡ l ++ nodes steps
  node-steps depth [] steps = refl
  node-steps depth (x ∷ l) steps = ap (λ (r : List ℕ). x ∷ r) (node-steps depth l steps)

  abbrev behind : Step → List Step → List Step
  behind s steps = map (step_at inner (deeper s.depth)) (inner s.node) ++ steps

  first-of : (s : Step) (steps : List Step) → flat_map whole (nodes (s ∷ steps)) ≡ s.node ∷ flat_map whole (nodes (behind s steps))
  first-of s steps =
      ap (λ (l : List ℕ). l ++ flat_map whole (nodes steps)) (whole-is s.node)
      ∙ ap (λ (l : List ℕ). s.node ∷ l) (sym (flat_map-append whole (inner s.node) (nodes steps)))
      ∙ ap (λ (l : List ℕ). s.node ∷ flat_map whole l) (sym (node-steps (deeper s.depth) (inner s.node) steps))

  shorter : (x k : ℕ) (rest l : List ℕ) → l ≡ x ∷ rest → length l ≤ suc k → length rest ≤ k
  shorter x k rest l is few = let long : length l ≡ suc (length rest) = ap length is in omega (arith, long, few)

  none-left : (x : ℕ) (rest l : List ℕ) → l ≡ x ∷ rest → length l ≤ 0 → suc (length rest) ≤ 0
  none-left x rest l is few = let long : length l ≡ suc (length rest) = ap length is in omega (arith, long, few)

  pub walked : (k : ℕ) (steps : List Step) → length (flat_map whole (nodes steps)) ≤ k → nodes (walk inner k steps) ≡ flat_map whole (nodes steps)
  walked zero [] few = refl
  walked zero (s ∷ steps) few = absurd (omega (arith, none-left s.node (flat_map whole (nodes (behind s steps))) (flat_map whole (nodes (s ∷ steps))) (first-of s steps) few))
  walked (suc k) [] few = refl
  walked (suc k) (s ∷ steps) few =
      let rest = flat_map whole (nodes (behind s steps)) in
      ap (λ (l : List ℕ). s.node ∷ l) (walked k (behind s steps) (shorter s.node k rest (flat_map whole (nodes (s ∷ steps))) (first-of s steps) few))
      ∙ sym (first-of s steps)

  -- ---- how often it comes to a node

  module _ (up : ℕ → ℕ) (m : ℕ) (few : n ≤ m) (held : (x j : ℕ) → x < m → count j (inner x) ≡ gate (nat_lt j n) (one_if (x == up j))) where
    gate-sum : (b : Bool) (x y : ℕ) → gate b x + gate b y ≡ gate b (x + y)
    gate-sum true x y = refl
    gate-sum false x y = omega arith

    gate-total : (b : Bool) (f : ℕ → ℕ) (l : List ℕ) → total (λ y. gate b (f y)) l ≡ gate b (total f l)
    gate-total true f [] = refl
    gate-total false f [] = refl
    gate-total b f (x ∷ l) = ap (λ (k : ℕ). gate b (f x) + k) (gate-total b f l) ∙ gate-sum b (f x) (total f l)

    counted-by : (b x j : ℕ) → height x < b → x < m → count j (tree inner b x) ≡ one_if (x == j) + gate (nat_lt j n) (count (up j) (tree inner b x))
    counted-by zero x j lt within = absurd (omega (arith, lt))
    counted-by (suc b) x j lt within =
        ap (λ (k : ℕ). one_if (x == j) + k)
        (count-flat j (tree inner b) (inner x)
        ∙ same-total (λ y. count j (tree inner b y)) (λ y. one_if (y == j) + gate (nat_lt j n) (count (up j) (tree inner b y))) (inner x)
        (each-map (IsLower height n x) (λ y. count j (tree inner b y) ≡ one_if (y == j) + gate (nat_lt j n) (count (up j) (tree inner b y)))
        (λ y is. counted-by b y j (omega (arith, is.0, lt)) (omega (arith, is.1, few))) (inner x) (down x))
        ∙ total-sum (λ y. one_if (y == j)) (λ y. gate (nat_lt j n) (count (up j) (tree inner b y))) (inner x)
        ∙ (λ i. (total-ones j (inner x) ∙ held x j within) i
        + (gate-total (nat_lt j n) (λ y. count (up j) (tree inner b y)) (inner x) ∙ ap (gate (nat_lt j n)) (sym (count-flat (up j) (tree inner b) (inner x)))) i)
        ∙ gate-sum (nat_lt j n) (one_if (x == up j)) (count (up j) (flat_map (tree inner b) (inner x))))

    pub counted : (x j : ℕ) → x < m → count j (whole x) ≡ one_if (x == j) + gate (nat_lt j n) (count (up j) (whole x))
    counted x j within = counted-by (suc (height x)) x j (omega arith) within

-- a number stands as often in a list as it is found in it
pub found-nodes : (j : ℕ) (steps : List Step) → length (filter (λ (s : Step). s.node == j) steps) ≡ count j (nodes steps)
found-nodes j [] = refl
found-nodes j (s ∷ steps) = by (s.node == j) (found-nodes j steps)
  where
    found : List Step
    found = filter (λ (t : Step). t.node == j) steps

    by : (b : Bool) → length found ≡ count j (nodes steps) → length (if b then s ∷ found else found) ≡ one_if b + count j (nodes steps)
    by true rest = let one : length (s ∷ found) ≡ suc (length found) = refl in omega (arith, rest, one)
    by false rest = omega (arith, rest)
