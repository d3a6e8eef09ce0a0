-- The levels of a tree about the nodes of a way down, and the chain at the way's end.
use Rattle.std.proofs.Common.{◌≡◌, ℕ, zero, suc, ◌+◌, ◌<◌, ◌≤◌, List, [], ◌∷◌, ◌++◌, length, map, get_or, take, drop, refl, sym, ap, ◌∙◌, subst, arith}
use Rattle.std.specs.Prelude.{⊤}
use Rattle.std.specs.List.{flat_map}
use Rattle.hfs_btree_removal.specs.declared.down.Step.{Step}
use Rattle.hfs_btree.specs.declared.key.Key.{Ghosts}
use Rattle.hfs_fields.specs.Each.{Each}
use Rattle.hfs_fields.proofs.ElementLemmas.{each-right}
use Rattle.hfs_btree.specs.Tree.{Store, Spot, node_in, records_in, records_of, forward_of, children, first_of, spots, level_below}
use Rattle.hfs_btree.proofs.DescentLemmas.{next-split}
use Rattle.hfs_btree_removal.specs.Removal.{backward_of, last_left, last_right}
use Rattle.hfs_btree_removal.specs.Ways.{IsStep, Leads}
use Rattle.hfs_btree_removal.proofs.Chains.{IsChain, cuts, bottom, only_child}
use Rattle.hfs_btree_removal.proofs.CutsUnlinked.{AreAt}
use Rattle.hfs_btree_edits.proofs.LevelPartLemmas.{upper, of-spots}
use Rattle.hfs_btree_edits.specs.LevelParts.{lift}
use Rattle.hfs_fields.proofs.ElementLemmas.{each-left}
use Rattle.hfs_btree_removal.proofs.Links.{IsKept}
use Rattle.hfs_btree_removal.proofs.Passed.{high}

pub high-is : (ss : List Step) (k : ℕ) → high ss k ≡ length ss + k
high-is [] k = omega arith
high-is (s ∷ ss) k = let e = high-is ss k in omega arith

-- the last of some steps, or the one before them
abbrev pub final : Step → List Step → Step
final d [] = d
final d (s ∷ ss) = final s ss

pub final-append : (d : Step) (xs : List Step) (s : Step) (ss : List Step) → final d (xs ++ s ∷ ss) ≡ final s ss
final-append d [] s ss = refl
final-append d (x ∷ xs) s ss = final-append x xs s ss

pub left-final : (base : Store) (s : Step) (ss : List Step) → last_left base (s ∷ ss) ≡ backward_of (node_in base (final s ss).node)
left-final base s [] = refl
left-final base s (u ∷ ss) = left-final base u ss

pub right-final : (base : Store) (s : Step) (ss : List Step) → last_right base (s ∷ ss) ≡ forward_of (node_in base (final s ss).node)
right-final base s [] = refl
right-final base s (u ∷ ss) = right-final base u ss

module _ {K : Type 0} (g : Ghosts K) (nodes : Store) where
  -- each step is at its node, the first at this one, and each later one at the child that the record before it names
  abbrev pub IsDown : ℕ → List Step → Type 0
  IsDown n [] = ⊤
  IsDown n (s ∷ ss) = IsStep nodes n s × IsDown (g.child (get_or (records_in nodes n) s.place [])) ss

  pub down-of : (above : List Step) (last : Step) (n : ℕ) → Leads g nodes n above last.node → IsStep nodes last.node last → IsDown n (above ++ last ∷ [])
  down-of [] last n leads st = let P : ℕ → Type 0 = λ m. IsStep nodes m last in (subst P (sym leads) st, tt)
  down-of (s ∷ ss) last n leads st = (leads.0, down-of ss last (g.child (get_or (records_in nodes n) s.place [])) leads.1 st)

  pub down-split : (before : List Step) (p : Step) (behind : List Step) (n : ℕ) → IsDown n (before ++ p ∷ behind)
      → Leads g nodes n before p.node × IsStep nodes p.node p × IsDown (g.child (get_or (records_in nodes p.node) p.place [])) behind
  down-split [] p behind n d =
      let P : ℕ → Type 0 = λ m. IsStep nodes m p × IsDown (g.child (get_or (records_in nodes m) p.place [])) behind in
      let e : n ≡ p.node = sym d.0.node in
      let h = subst P e d in
      (e, h.0, h.1)
  down-split (s ∷ ss) p behind n d = let h = down-split ss p behind (g.child (get_or (records_in nodes n) s.place [])) d.1 in ((d.0, h.0), h.1, h.2)

  -- the node of a later step leads on
  pub leads-split : (above told : List Step) (n m : ℕ) → Leads g nodes n (above ++ told) m → (x : ℕ) × Leads g nodes n above x × Leads g nodes x told m
  leads-split [] told n m h = (n, refl, h)
  leads-split (s ∷ above) told n m h = let r = leads-split above told (g.child (get_or (records_in nodes n) s.place [])) m h.1 in (r.0, (h.0, r.1), r.2)

  -- a level about one of its nodes
  pub record IsAtLevel (i m : ℕ) (ns : List ℕ) : Type 0 where
    pub before : List ℕ
    pub behind : List ℕ
    pub split : level_below g nodes i ns ≡ before ++ m ∷ behind

  pub leads-level : (ss : List Step) (before : List ℕ) (n : ℕ) (behind : List ℕ) (m : ℕ) → Leads g nodes n ss m → IsAtLevel (high ss zero) m (before ++ n ∷ behind)
  leads-level [] before n behind m leads = record { before = before; behind = behind; split = ap (λ (x : ℕ). before ++ x ∷ behind) leads }
  leads-level (s ∷ ss) before n behind m leads =
      let within : s.place < length (records_in nodes n) = let a = leads.0.within in let b = leads.0.count in omega arith in
      let rest = leads-level ss (flat_map (children g nodes) before ++ map g.child (take s.place (records_in nodes n))) (g.child (get_or (records_in nodes n) s.place []))
      (map g.child (drop (suc s.place) (records_in nodes n)) ++ flat_map (children g nodes) behind) m leads.1 in
      record { before = rest.before; behind = rest.behind; split = ap (level_below g nodes (high ss zero)) (next-split g nodes before n behind s.place within) ∙ rest.split }

  -- ---- nodes with one record each

  abbrev AreOnes : List Step → Type 0
  AreOnes ss = Each (λ s. s.count ≤ 1) ss

  one-place : (rs : List (List ℕ)) (q : ℕ) → length rs ≡ 1 → q < length rs → g.child (get_or rs q []) ≡ first_of (map g.child rs)
  one-place [] q one lt = absurd (omega arith)
  one-place (r ∷ rs) zero one lt = refl
  one-place (r ∷ []) (suc q) one lt = absurd (omega arith)
  one-place (r ∷ r' ∷ rs) (suc q) one lt = absurd (omega arith)

  one-record : (n : ℕ) (s : Step) → IsStep nodes n s → s.count ≤ 1 → length (records_in nodes n) ≡ 1
  one-record n s st few = let a = st.within in let b = st.count in omega arith

  only : (n : ℕ) (s : Step) → IsStep nodes n s → s.count ≤ 1 → g.child (get_or (records_in nodes n) s.place []) ≡ only_child g nodes n
  only n s st few = one-place (records_in nodes n) s.place (one-record n s st few) (let a = st.within in let b = st.count in omega arith)

  pub chain-of : (s : Step) (bs : List Step) (n : ℕ) → IsDown n (s ∷ bs) → AreOnes (s ∷ bs) → IsChain g nodes (high bs zero) n
  chain-of s [] n d ones = one-record n s d.0 ones.0
  chain-of s (u ∷ bs) n d ones =
      let P : ℕ → Type 0 = λ m. IsChain g nodes (high bs zero) m in
      (one-record n s d.0 ones.0, subst P (only n s d.0 ones.0) (chain-of u bs (g.child (get_or (records_in nodes n) s.place [])) d.1 ones.1))

  pub at-cuts : (s : Step) (bs : List Step) (n : ℕ) (front back : List ℕ) → IsDown n (s ∷ bs) → AreOnes (s ∷ bs) → AreAt (cuts g nodes (high bs zero) front n back) (s ∷ bs)
  at-cuts s [] n front back d ones = (d.0.node, tt)
  at-cuts s (u ∷ bs) n front back d ones =
      let f = flat_map (children g nodes) front in
      let b = flat_map (children g nodes) back in
      let P : ℕ → Type 0 = λ m. AreAt (cuts g nodes (high bs zero) f m b) (u ∷ bs) in
      (d.0.node, subst P (only n s d.0 ones.0) (at-cuts u bs (g.child (get_or (records_in nodes n) s.place [])) f b d.1 ones.1))

  pub bottom-is : (s : Step) (bs : List Step) (n : ℕ) (front back : List ℕ) → IsDown n (s ∷ bs) → AreOnes (s ∷ bs)
      → ((bottom g nodes (high bs zero) front n back).n ≡ (final s bs).node) × ((final s bs).place ≡ 0)
  bottom-is s [] n front back d ones = (sym d.0.node, let a = d.0.within in let b = ones.0 in omega arith)
  bottom-is s (u ∷ bs) n front back d ones =
      let f = flat_map (children g nodes) front in
      let b = flat_map (children g nodes) back in
      let P : ℕ → Type 0 = λ m. ((bottom g nodes (high bs zero) f m b).n ≡ (final u bs).node) × ((final u bs).place ≡ 0) in
      subst P (only n s d.0 ones.0) (bottom-is u bs (g.child (get_or (records_in nodes n) s.place [])) f b d.1 ones.1)

-- ---- another store whose upper levels are the same

module _ {K : Type 0} (g : Ghosts K) (old new : Store) where
  pub leads-kept : (ss : List Step) (j : ℕ) (before : List ℕ) (n : ℕ) (behind : List ℕ) (m : ℕ) → Each (λ (s : Spot). IsKept old new s.n) (upper g old (high ss zero) j (before ++ n ∷ behind))
      → Leads g old n ss m → Leads g new n ss m
  leads-kept [] j before n behind m kept leads = leads
  leads-kept (s ∷ ss) j before n behind m kept leads =
      let L = before ++ n ∷ behind in
      let h = high ss zero in
      let here = spots (suc (lift h j)) 0 L in
      let rest = upper g old h j (flat_map (children g old) L) in
      let P : Spot → Type 0 = λ x. IsKept old new x.n in
      let same : records_in old n ≡ records_in new n = sym (ap records_of (each-right (IsKept old new) before (n ∷ behind) (of-spots (IsKept old new) (suc (lift h j)) 0 L (each-left P here rest kept))).0) in
      let within : s.place < length (records_in old n) = let a = leads.0.within in let b = leads.0.count in omega arith in
      let Q : List ℕ → Type 0 = λ ns. Each P (upper g old h j ns) in
      let R : List (List ℕ) → Type 0 = λ rs. Leads g new (g.child (get_or rs s.place [])) ss m in (
        record { node = leads.0.node; count = leads.0.count ∙ ap (λ (rs : List (List ℕ)). length rs) same; within = leads.0.within },
        subst R same (leads-kept ss j _ (g.child (get_or (records_in old n) s.place [])) _ m (subst Q (next-split g old before n behind s.place within) (each-right P here rest kept)) leads.1),
      )
