-- The walk, item by item.
use Rattle.std.proofs.Common.{◌≡◌, ◌∙◌, sym, ap, subst, refl, ℕ, suc, ◌+◌, Bool, false, List, [], ◌∷◌, ◌++◌, length, drop, get_or, reverse, append_assoc, arith}
use Rattle.std.proofs.lemmas.List.{append-nil, reverse-append, length_push}
use Rattle.hfs_put_sources.specs.declared.plan.PutOptions.{PutOptions}
use Rattle.hfs_put_sources.specs.Items.{PlannedItem, Told}
use Rattle.hfs_put_sources.specs.Trees.{OfEachTree, Tree}
use Rattle.hfs_put_sources.specs.Walks.{AreInside, IsWalk, marked, with_twin, with_twins}
use Rattle.hfs_put_sources.specs.WalkLaws.{IsInParts}

-- ---- what is laid on what is to come

behind-first : (twins : List Bool) (n : ℕ) → get_or (drop 1 twins) n false ≡ get_or twins (suc n) false
behind-first [] n = refl
behind-first (t ∷ ts) n = refl

marked-last : (rest : List PlannedItem) (item : PlannedItem) (twins : List Bool)
    → marked (rest ++ item ∷ []) twins ≡ marked rest twins ++ with_twin item (get_or twins (length rest) false) ∷ []
unfolding marked
marked-last [] item twins = refl
marked-last (x ∷ rest) item twins =
    ap (λ (l : List PlannedItem). with_twin x (get_or twins 0 false) ∷ l)
    (marked-last rest item (drop 1 twins)
    ∙ (λ t. marked rest (drop 1 twins) ++ with_twin item (behind-first twins (length rest) t) ∷ []))

pub laid-step : (items rest todo laid whole : List PlannedItem) (item : PlannedItem) (twins : List Bool) → items ≡ rest ++ item ∷ []
    → laid ≡ todo ++ with_twin item (get_or twins (length rest) false) ∷ []
    → marked items twins ++ reverse todo ≡ whole → marked rest twins ++ reverse laid ≡ whole
laid-step items rest todo laid whole item twins is on before =
    (λ t. marked rest twins ++ (ap (λ (l : List PlannedItem). reverse l) on ∙ reverse-append todo (with_twin item (get_or twins (length rest) false) ∷ [])) t)
    ∙ sym (append_assoc (marked rest twins) (with_twin item (get_or twins (length rest) false) ∷ []) (reverse todo))
    ∙ (λ t. sym (ap (λ (l : List PlannedItem). marked l twins) is ∙ marked-last rest item twins) t ++ reverse todo)
    ∙ before

none-marked : (items : List PlannedItem) (twins : List Bool) → items ≡ [] → marked items twins ≡ []
unfolding marked
none-marked items twins is = ap (λ (l : List PlannedItem). marked l twins) is

pub laid-done : (items todo whole : List PlannedItem) (twins : List Bool) → items ≡ [] → marked items twins ++ reverse todo ≡ whole → reverse todo ≡ whole
laid-done items todo whole twins none before = (λ t. sym (none-marked items twins none) t ++ reverse todo) ∙ before

-- ---- the walk

-- these items, and behind them the walk of what is to come, which is kept the last first, are the walk from the top
abbrev pub GoesOn : (Tree → Type 0) → Told → PutOptions → List PlannedItem → List PlannedItem → List PlannedItem → Type 0
GoesOn Holds told how items todo top =
    (host : Tree) → Holds host → (behind : List PlannedItem) → IsWalk host told how (length items) (reverse todo) behind
    → IsWalk host told how 0 top (items ++ behind)

module _ (told : Told) (how : PutOptions) where
  -- a walk of other items, and one that begins at another place
  walk-of : (host : Tree) (n : ℕ) (behind old new : List PlannedItem) → old ≡ new → IsWalk host told how n old behind → IsWalk host told how n new behind
  walk-of host n behind old new is w = subst (λ (l : List PlannedItem). IsWalk host told how n l behind) is w

  walk-at : (host : Tree) (rest behind : List PlannedItem) (n k : ℕ) → n ≡ k → IsWalk host told how n rest behind → IsWalk host told how k rest behind
  walk-at host rest behind n k is w = subst (λ (m : ℕ). IsWalk host told how m rest behind) is w

  walk-as : (host : Tree) (n : ℕ) (rest old new : List PlannedItem) → old ≡ new → IsWalk host told how n rest old → IsWalk host told how n rest new
  walk-as host n rest old new is w = subst (λ (l : List PlannedItem). IsWalk host told how n rest l) is w

  pub goes-first : (Holds : Tree → Type 0) (items todo before top : List PlannedItem) → items ≡ [] → before ≡ []
      → reverse todo ≡ top ++ reverse before → GoesOn Holds told how items todo top
  goes-first Holds items todo before top none empty laid = λ host h behind w.
      let is : reverse todo ≡ top = laid ∙ (λ t. top ++ reverse (empty t)) ∙ append-nil top in
      let begun : IsWalk host told how 0 (reverse todo) behind = walk-at host (reverse todo) behind (length items) 0 (λ t. length (none t)) w in
      walk-as host 0 top behind (items ++ behind) (λ t. sym none t ++ behind) (walk-of host 0 behind (reverse todo) top is begun)

  pub goes-step : (Held Holds : Tree → Type 0) (items made todo rest laid inside top : List PlannedItem) (item : PlannedItem)
      → OfEachTree Holds Held → OfEachTree Holds (λ host. AreInside host told how (length items) item inside)
      → todo ≡ rest ++ item ∷ [] → reverse laid ≡ with_twins inside ++ reverse rest → made ≡ items ++ item ∷ []
      → GoesOn Held told how items todo top → GoesOn Holds told how made laid top
  goes-step Held Holds items made todo rest laid inside top item narrows are popped on pushed before = λ host h behind w.
      let n : length made ≡ length items + 1 = ap (λ (l : List PlannedItem). length l) pushed ∙ length_push items item in
      let next : reverse todo ≡ item ∷ reverse rest = ap (λ (l : List PlannedItem). reverse l) popped ∙ reverse-append rest (item ∷ []) in
      let after : IsWalk host told how (length items + 1) (with_twins inside ++ reverse rest) behind =
      walk-at host (with_twins inside ++ reverse rest) behind (length made) (length items + 1) n
      (walk-of host (length made) behind (reverse laid) (with_twins inside ++ reverse rest) on w) in
      let here : IsWalk host told how (length items) (item ∷ reverse rest) (item ∷ behind) = (refl, (inside, are host h, after)) in
      let all : IsWalk host told how 0 top (items ++ item ∷ behind) =
      before host (narrows host h) (item ∷ behind) (walk-of host (length items) (item ∷ behind) (item ∷ reverse rest) (reverse todo) (sym next) here) in
      walk-as host 0 top (items ++ item ∷ behind) (made ++ behind) (sym ((λ t. pushed t ++ behind) ∙ append_assoc items (item ∷ []) behind)) all

  pub goes-done : (Holds : Tree → Type 0) (items todo top : List PlannedItem) → todo ≡ [] → GoesOn Holds told how items todo top
      → OfEachTree Holds (λ host. IsWalk host told how 0 top items)
  goes-done Holds items todo top none before = λ host h.
      walk-as host 0 top (items ++ []) items (append-nil items)
      (before host h [] (walk-of host (length items) [] [] (reverse todo) (λ t. reverse (sym none t)) tt))

  -- ---- in parts

  pub walks-parted : (host : Tree) (items : List PlannedItem) (place : ℕ) (firsts others : List PlannedItem)
      → IsWalk host told how place (firsts ++ others) items → IsInParts host told how place firsts others items
  walks-parted host items place [] others w = record {
    front = [];
    back = items;
    whole = refl;
    first_walked = tt;
    others_walked = subst (λ (n : ℕ). IsWalk host told how n others items) (omega arith) w;
  }
  walks-parted host [] place (first ∷ firsts) others w = absurd w
  walks-parted host (item ∷ items) place (first ∷ firsts) others w =
      let inside = w.1.0 in
      let parts = walks-parted host items (place + 1) (with_twins inside ++ firsts) others
      (subst (λ (l : List PlannedItem). IsWalk host told how (place + 1) l items) (sym (append_assoc (with_twins inside) firsts others)) w.1.2) in
      record {
        front = item ∷ parts.front;
        back = parts.back;
        whole = λ t. item ∷ parts.whole t;
        first_walked = (w.0, (inside, w.1.1, parts.first_walked));
        others_walked = subst (λ (n : ℕ). IsWalk host told how n others parts.back) (omega arith) parts.others_walked;
      }
