-- Exactness where a first key that has changed is told to the node above.
use Rattle.std.proofs.Common.{◌≡◌, ◌≢◌, ℕ, zero, suc, ◌+◌, ◌<◌, List, [], ◌∷◌, get_or, set, take, drop, sym, ap, ◌∙◌, subst, arith, inl, inr}
use Rattle.std.specs.declared.cmp.Ordering.TheVariants.{Equal}
use Rattle.std.proofs.lemmas.Bool.{cases_eq}
use Rattle.hfs_btree.specs.declared.node.Node.{Node}
use Rattle.hfs_btree.specs.declared.key.Key.{Ghosts}
use Rattle.hfs_fields.specs.Each.{Each}
use Rattle.hfs_fields.proofs.ElementLemmas.{each-unmap}
use Rattle.hfs_btree.specs.Tree.{Store, Spot, node_in, records_in, records_of, children, turn}
use Rattle.hfs_btree.specs.Header.{record_in, depth_of, root_level, tree_turn}
use Rattle.hfs_btree.specs.Sound.{IsRight, first_key}
use Rattle.hfs_btree_edits.proofs.EditedLemmas.{IsEdited, height-in}
use Rattle.hfs_btree_removal.proofs.ExactBut.{IsExactFor, IsExactBut, AreKeysExactFor, KeepsFirst, WasExact, exact-moved}
use Rattle.hfs_btree_edits.proofs.ReleasedLemmas.{each-both}

-- all but one element pass, and what stands in its place passes
pub each-set_other : {X : Type 0} (P : X → Type 0) (xs : List X) (i : ℕ) (y : X) → Each P (take i xs) → Each P (drop (suc i) xs) → P y → Each P (set xs i y)
each-set_other P [] i y a b p = tt
each-set_other P (x ∷ xs) zero y a b p = (p, b)
each-set_other P (x ∷ xs) (suc i) y a b p = (a.0, each-set_other P xs i y a.1 b p)

pub each-take : {X : Type 0} (P : X → Type 0) (xs : List X) (i : ℕ) → Each P xs → Each P (take i xs)
each-take P [] zero h = tt
each-take P [] (suc i) h = tt
each-take P (x ∷ xs) zero h = tt
each-take P (x ∷ xs) (suc i) h = (h.0, each-take P xs i h.1)

pub each-drop : {X : Type 0} (P : X → Type 0) (xs : List X) (i : ℕ) → Each P xs → Each P (drop i xs)
each-drop P [] zero h = tt
each-drop P [] (suc i) h = tt
each-drop P (x ∷ xs) zero h = h
each-drop P (x ∷ xs) (suc i) h = each-drop P xs i h.1

module _ {K : Type 0} (g : Ghosts K) (old new : Store) (n : ℕ) (v : Node) (k place : ℕ) (made : List ℕ) (edit : IsEdited old new n v (set v.records place made)) (height : v.height ≡ suc k + 1)
    (turn-is : tree_turn g new ≡ turn g new (depth_of new) (root_level new)) (same-turn : tree_turn g new ≡ tree_turn g old) (rights : Each (IsRight g old) (tree_turn g old))
    (c : ℕ) (was-c : c ≡ g.child (get_or v.records place [])) (names : g.child made ≡ c) (but : IsExactBut g old c)
    (named : Each (λ s. s.n ≢ n → 0 < s.above → Each (λ x. x ≢ c) (children g old s.n)) (tree_turn g old))
    (own-before : Each (λ e. g.child e ≢ c) (take place v.records)) (own-behind : Each (λ e. g.child e ≢ c) (drop (suc place) v.records))
    (first : g.compare (g.index_key made) (first_key g old k c) ≡ Equal)
    (X : ℕ → Type 0) (kept : X n → get_or (set v.records place made) 0 [] ≡ get_or v.records 0 []) where
  abbrev But : ℕ → ℕ → Type 0
  But a m = AreKeysExactFor g old (λ x. x ≢ c) a m

  abbrev Was : Spot → Type 0
  Was s = WasExact g old new X s.above s.n

  there : (a m : ℕ) → m ≢ n → (0 < a → Each (λ x. x ≢ c) (children g old m)) → But a m → WasExact g old new X a m
  there zero m d other h = tt
  there (suc j) m d other h =
      let P : List (List ℕ) → Type 0 = λ rs. Each (λ e. X (g.child e) → g.compare (g.index_key e) (first_key g old j (g.child e)) ≡ Equal) rs in
      subst P (sym (ap records_of (edit.others m d)))
      (each-both (λ e. (g.child e ≢ c) → g.compare (g.index_key e) (first_key g old j (g.child e)) ≡ Equal) (λ e. g.child e ≢ c) _ (records_in old m) (λ e f o x. f o) h
      (each-unmap (λ x. x ≢ c) g.child (records_in old m) (other (omega arith))))

  here : But (suc k) n → WasExact g old new X (suc k) n
  here h =
      let P : List (List ℕ) → Type 0 = λ rs. Each (λ e. X (g.child e) → g.compare (g.index_key e) (first_key g old k (g.child e)) ≡ Equal) rs in
      let Q : List (List ℕ) → Type 0 = λ rs. Each (λ e. (g.child e ≢ c) → g.compare (g.index_key e) (first_key g old k (g.child e)) ≡ Equal) rs in
      let old-es = subst Q (ap records_of edit.was) h in
      let F : List ℕ → Type 0 = λ e. (g.child e ≢ c) → g.compare (g.index_key e) (first_key g old k (g.child e)) ≡ Equal in
      let G : List ℕ → Type 0 = λ e. X (g.child e) → g.compare (g.index_key e) (first_key g old k (g.child e)) ≡ Equal in
      let step : (e : List ℕ) → F e → (g.child e ≢ c) → G e = λ e f o x. f o in
      subst P (sym (ap records_of edit.is))
      (each-set_other G v.records place made
      (each-both F (λ e. g.child e ≢ c) G (take place v.records) step (each-take F v.records place old-es) own-before)
      (each-both F (λ e. g.child e ≢ c) G (drop (suc place) v.records) step (each-drop F v.records (suc place) old-es) own-behind)
      (λ x. ap (λ (m : ℕ). g.compare (g.index_key made) (first_key g old k m)) names ∙ first))

  at-height : (s : Spot) → IsRight g old s → s.n ≡ n → s.above ≡ suc k
  at-height s r e =
      let same : r.value.height ≡ v.height = ap height-in (sym r.decodes ∙ ap (node_in old) e ∙ edit.was) in
      let its = r.height in
      omega arith

  was-at : (s : Spot) → IsRight g old s → (s.n ≢ n → 0 < s.above → Each (λ x. x ≢ c) (children g old s.n)) → But s.above s.n → Was s
  was-at s r other h =
      elim (cases_eq s.n n) [
        | inl e ↦
            (let level = at-height s r e in
            let P : ℕ → Type 0 = λ a. But a n in
            let Q : ℕ → Type 0 = λ a. WasExact g old new X a n in
            let P' : ℕ → Type 0 = λ m. But s.above m in
            let Q' : ℕ → Type 0 = λ m. WasExact g old new X s.above m in
            subst Q' (sym e) (subst Q (sym level) (here (subst P level (subst P' e h)))))
        | inr d ↦ there s.above s.n d (other d) h
      ]

  three : (ss : List Spot) → Each (IsRight g old) ss → Each (λ s. s.n ≢ n → 0 < s.above → Each (λ x. x ≢ c) (children g old s.n)) ss → Each (λ s. But s.above s.n) ss → Each Was ss
  three [] a b h = tt
  three (s ∷ ss) a b h = (was-at s a.0 b.0 h.0, three ss a.1 b.1 h.1)

  first-at : (m : ℕ) → X m → record_in new m 0 ≡ record_in old m 0
  first-at m x =
      elim (cases_eq m n) [
        | inl e ↦
            (let P : ℕ → Type 0 = λ a. X a in
            ap (λ (a : ℕ). record_in new a 0) e ∙ ap (λ r. get_or (records_of r) 0 []) edit.is ∙ kept (subst P e x) ∙ sym (ap (λ r. get_or (records_of r) 0 []) edit.was)
            ∙ sym (ap (λ (a : ℕ). record_in old a 0) e))
        | inr d ↦ ap (λ r. get_or (records_of r) 0 []) (edit.others m d)
      ]

  all-first : (ss : List Spot) → Each (KeepsFirst g old new X) ss
  all-first [] = tt
  all-first (s ∷ ss) = (λ x. first-at s.n x, all-first ss)

  pub raised-exact : IsExactFor g new X
  raised-exact =
      let P : List Spot → Type 0 = λ ss. Each Was ss in
      exact-moved g old new X (depth_of new) (root_level new) (all-first (tree_turn g new)) (subst P (sym same-turn) (three (tree_turn g old) rights named but))
