-- The runs in which a block begins, and the changed blocks beside them.
use Rattle.std.proofs.Common.{◌≡◌, ◌≢◌, ◌⊎◌, ⊎_elim, inl, inr, ℕ, ◌+◌, ◌-◌, ◌<◌, ◌≤◌, Bool, true, false, cond, ◌&&◌, leb, ltb, List, [], ◌∷◌, length, get_or, Option, Some, None, refl, sym, ap, ◌∙◌, subst, arith}
use Rattle.std.specs.List.{list_any, range_with_len}
use Rattle.std.specs.List.Sorted.{IsNonDecreasingBy, IsPartitionedBy, IsPartitionPoint}
use Rattle.std.proofs.lemmas.Bool.{cases_eq, eq-eqb, ne_eqb, le-leb, lt-ltb, leb-true, leb-false, ltb-true, cases_lt, cases_Bool, and_parts}
use Rattle.std.proofs.lemmas.List.{get_or_default}
use Rattle.std.proofs.lemmas.List.Folds.{list_any_at, list_any_none}
use Rattle.std.proofs.lemmas.List.Sorted.{IsPartitionedBy-leb}
use Rattle.hfs_fields.specs.Members.{In}
use Rattle.hfs_blocks.specs.Layers.{Numbered, changes, over, with_change}
use Rattle.hfs_volume.proofs.OwnedStay.{in_range}
use Rattle.hfs_copy.specs.Keeping.{GainsChanged}
use Rattle.hfs_copy.proofs.KeptBlocks.{gained-first, put-one}
use Rattle.hfs_put.specs.ForkRuns.{AreRunsApart}
use Rattle.hfs_put_sources.specs.declared.fork_run.ForkRun.{ForkRun}
use Rattle.hfs_put.specs.Beside.{is_of_run, is_in_runs, block_beside, AreChangedBeside, PutsBeside, HaveBegun}

-- ---- whether a run has a byte

pub in-run : (byte : ℕ) (run : ForkRun) → run.place ≤ byte → byte < run.place + run.len → is_of_run byte run ≡ true
in-run byte run low high = ap (λ b. b && ltb byte (run.place + run.len)) (le-leb run.place byte low) ∙ lt-ltb byte (run.place + run.len) high

pub before-run : (byte : ℕ) (run : ForkRun) → byte < run.place → is_of_run byte run ≡ false
before-run byte run low = elim (cases_Bool (is_of_run byte run)) [
  | inl is ↦ absurd (let from = leb-true run.place byte (and_parts (leb run.place byte) (ltb byte (run.place + run.len)) is).0 in omega (arith, from, low))
  | inr not ↦ not
]

pub behind-run : (byte : ℕ) (run : ForkRun) → run.place + run.len ≤ byte → is_of_run byte run ≡ false
behind-run byte run high = elim (cases_Bool (is_of_run byte run)) [
  | inl is ↦ absurd (let to = ltb-true byte (run.place + run.len) (and_parts (leb run.place byte) (ltb byte (run.place + run.len)) is).1 in omega (arith, to, high))
  | inr not ↦ not
]

-- ---- the runs that have begun

begun-rises : (runs : List ForkRun) → AreRunsApart runs → IsNonDecreasingBy (λ run. run.place) runs
begun-rises runs apart i j d le lt = elim (cases_lt i j) [
  | inl less ↦ let end = apart i j d less lt in omega (arith, end)
  | inr more ↦ let same : i ≡ j = omega (arith, le, more) in subst (λ k. (get_or runs i d).place ≤ (get_or runs k d).place) same (omega arith)
]

pub begun-parted : (runs : List ForkRun) (byte : ℕ) → AreRunsApart runs → IsPartitionedBy (λ run. leb run.place byte) runs
begun-parted runs byte apart = IsPartitionedBy-leb (λ (run : ForkRun). run.place) runs byte (begun-rises runs apart)

pub begun-point : (runs : List ForkRun) (byte p : ℕ) → p ≤ length runs
    → IsPartitionPoint (λ run. leb run.place byte ≡ true) (λ run. leb run.place byte ≡ false) runs p → HaveBegun runs byte p
begun-point runs byte p le point = record {
  within = le;
  before = λ i d lt. leb-true (get_or runs i d).place byte (point.0 i d (omega arith) lt);
  behind = λ i d from lt. leb-false (get_or runs i d).place byte (point.1 i d from lt);
}

pub none-begun : (runs : List ForkRun) (byte p : ℕ) → HaveBegun runs byte p → p ≡ 0 → list_any (is_of_run byte) runs ≡ false
none-begun runs byte p h none = list_any_none (is_of_run byte) runs (λ i d lt. before-run byte (get_or runs i d) (h.behind i d (omega (arith, none)) lt))

pub last-begun : (runs : List ForkRun) (byte p : ℕ) → AreRunsApart runs → HaveBegun runs byte p → 0 < p → (d : ForkRun)
    → list_any (is_of_run byte) runs ≡ ltb (byte - (get_or runs (p - 1) d).place) (get_or runs (p - 1) d).len
last-begun runs byte p apart h some d =
    let run = get_or runs (p - 1) d in
    let low : run.place ≤ byte = h.before (p - 1) d (omega (arith, some)) in
    let inside : p - 1 < length runs = (let le = h.within in omega (arith, le, some)) in
    elim (cases_lt byte (run.place + run.len)) [
      | inl high ↦
          list_any_at (is_of_run byte) runs (p - 1) d inside (in-run byte run low high) ∙ sym (lt-ltb (byte - run.place) run.len (omega (arith, low, high)))
      | inr past ↦
          list_any_none (is_of_run byte) runs (λ i e lt. elim (cases_lt i (p - 1)) [
            | inl less ↦
                let end = apart i (p - 1) e less inside in
                let begins : (get_or runs (p - 1) e).place ≤ byte = h.before (p - 1) e (omega (arith, some)) in
                behind-run byte (get_or runs i e) (omega (arith, end, begins))
            | inr more ↦ elim (cases_lt i p) [
              | inl last ↦
                  let same : p - 1 ≡ i = omega (arith, last, more) in
                  behind-run byte (get_or runs i e)
                  (subst (λ k. (get_or runs k e).place + (get_or runs k e).len ≤ byte) same
                  (subst (λ (r : ForkRun). r.place + r.len ≤ byte) (get_or_default runs (p - 1) d e inside) past))
              | inr later ↦ before-run byte (get_or runs i e) (h.behind i e later lt)
            ]
          ])
          ∙ sym (not-below (byte - run.place) run.len (omega (arith, past, low)))
    ]
  where
    not-below : (a b : ℕ) → b ≤ a → ltb a b ≡ false
    not-below a b le = elim (cases_Bool (ltb a b)) [ inl is ↦ absurd (let lt = ltb-true a b is in omega (arith, lt, le)) | inr not ↦ not ]

-- ---- blocks that differ

-- two blocks are the same, or not
same-or-other : (a b : List ℕ) → (a ≡ b) ⊎ (a ≢ b)
same-or-other [] [] = inl refl
same-or-other [] (y ∷ b) = inr (λ (e : [] ≡ y ∷ b). cc)
same-or-other (x ∷ a) [] = inr (λ (e : x ∷ a ≡ []). cc)
same-or-other (x ∷ a) (y ∷ b) = ⊎_elim
    (λ (first : x ≡ y). ⊎_elim
    (λ (rest : a ≡ b). inl (λ i. first i ∷ rest i))
    (λ (other : a ≢ b). inr (λ (e : x ∷ a ≡ y ∷ b). other (tails x y a b e)))
    (same-or-other a b))
    (λ (other : x ≡ y → ⊥). inr (λ (e : x ∷ a ≡ y ∷ b). other (heads x y a b e)))
    (cases_eq x y)
  where
    heads : (x y : ℕ) (a b : List ℕ) → x ∷ a ≡ y ∷ b → x ≡ y
    heads x y a b e = cc

    tails : (x y : ℕ) (a b : List ℕ) → x ∷ a ≡ y ∷ b → a ≡ b
    tails x y a b e = cc

-- the block of this number came first
changes-first : (n : ℕ) (b : List ℕ) (es : Numbered) → changes ((n, b) ∷ es) ≡ with_change (changes es) n b
changes-first n b es = λ i m. at m i
  where
    at : (m : ℕ) → changes ((n, b) ∷ es) m ≡ with_change (changes es) n b m
    at m = ⊎_elim
        (λ (same : m ≡ n). ap (λ (t : Bool). cond t (Some b) (changes es m)) (eq-eqb m n same ∙ sym (eq-eqb n m (sym same))))
        (λ (other : m ≡ n → ⊥). ap (λ (t : Bool). cond t (Some b) (changes es m)) (ne_eqb m n other ∙ sym (ne_eqb n m (λ e. other (sym e)))))
        (cases_eq m n)

none-either : (b : Bool) → ◌≡◌ {A = Option (List ℕ)} (cond b None None) None
none-either true = refl
none-either false = refl

none-some : (b : List ℕ) → None ≡ Some b → ⊥
none-some b e = cc

-- ---- block after block

-- of the blocks before one those that differ, and of these those that begin in no run; none behind them
pub record AreBesideBelow (runs : List ForkRun) (changed : Numbered) (below : ℕ → List ℕ) (k : ℕ) (kept : Numbered) : Type 0 where
  pub differing : Numbered
  pub all : GainsChanged changed below (range_with_len 0 k) [] differing
  pub before : (n : ℕ) → n < k → changes kept n ≡ block_beside runs differing n
  pub behind : (n : ℕ) → k ≤ n → changes kept n ≡ None

module _ (runs : List ForkRun) (changed : Numbered) (below : ℕ → List ℕ) where
  abbrev new : ℕ → List ℕ
  new = over (changes changed) below

  abbrev Goes : ℕ → Type 0
  Goes n = new n ≢ below n

  abbrev Stays : ℕ → Type 0
  Stays n = new n ≡ below n

  -- a block that wasn't looked at isn't there
  unseen : (k : ℕ) (differing : Numbered) → GainsChanged changed below (range_with_len 0 k) [] differing → (n : ℕ) → k ≤ n → changes differing n ≡ None
  unseen k differing all n le = ⊎_elim
      (λ (same : changes differing n ≡ changes [] n). same)
      (λ (came : In n (range_with_len 0 k) × Goes n × (changes differing n ≡ Some (new n))). absurd (let low = (in_range 0 k n came.0).1 in omega (arith, low, le)))
      (all.only n)

  pub beside-first : (kept : Numbered) → kept ≡ [] → AreBesideBelow runs changed below 0 kept
  beside-first kept e = record {
    differing = [];
    all = record { all = tt; only = λ n. inl refl };
    before = λ n lt. absurd (omega (arith, lt));
    behind = λ n le. ap (λ (es : Numbered). changes es n) e;
  }

  module _ (k : ℕ) (old kept : Numbered) (h : AreBesideBelow runs changed below k old) where
    none-there : changes old k ≡ None
    none-there = h.behind k (omega arith)

    -- with what differs at the next block, and what is kept of it
    next-with : (differing : Numbered) → GainsChanged changed below (k ∷ []) h.differing differing → ((n : ℕ) → n ≢ k → changes differing n ≡ changes h.differing n)
        → ((n : ℕ) → n ≢ k → changes kept n ≡ changes old n) → changes kept k ≡ block_beside runs differing k → AreBesideBelow runs changed below (k + 1) kept
    next-with differing gains same others here = record {
      differing = differing;
      all = gained-first new Goes Stays k [] h.differing differing h.all gains;
      before = λ n lt. ⊎_elim
          (λ (is : n ≡ k). subst (λ (m : ℕ). changes kept m ≡ block_beside runs differing m) (sym is) here)
          (λ (other : n ≡ k → ⊥).
          others n other ∙ h.before n (omega (arith, lt, other)) ∙ ap (λ (o : Option (List ℕ)). cond (is_in_runs runs n) None o) (sym (same n other)))
          (cases_eq n k);
      behind = λ n le. others n (λ e. omega (arith, le, e)) ∙ h.behind n (omega (arith, le));
    }

    -- the next block differs
    next-other : Goes k → ((n : ℕ) → n ≢ k → changes kept n ≡ changes old n) → changes kept k ≡ cond (is_in_runs runs k) None (Some (new k))
        → AreBesideBelow runs changed below (k + 1) kept
    next-other goes others here = next-with ((k, new k) ∷ h.differing)
        (put-one new Goes Stays k (new k) h.differing ((k, new k) ∷ h.differing) goes refl (changes-first k (new k) h.differing))
        (λ n other. ap (λ (t : Bool). cond t (Some (new k)) (changes h.differing n)) (ne_eqb n k other)) others
        (here ∙ ap (λ (t : Bool). cond (is_in_runs runs k) None (cond t (Some (new k)) (changes h.differing k))) (sym (eq-eqb k k refl)))

    -- the next block is the same
    next-same : Stays k → ((n : ℕ) → n ≢ k → changes kept n ≡ changes old n) → changes kept k ≡ None → AreBesideBelow runs changed below (k + 1) kept
    next-same stays others none = next-with h.differing (record { all = (inr stays, tt); only = λ n. inl refl }) (λ n other. refl) others
        (none ∙ sym (none-either (is_in_runs runs k)) ∙ ap (λ (o : Option (List ℕ)). cond (is_in_runs runs k) None o) (sym (unseen k h.differing h.all k (omega arith))))

    next-inside : is_in_runs runs k ≡ true → kept ≡ old → AreBesideBelow runs changed below (k + 1) kept
    next-inside inside is = ⊎_elim
        (λ (stays : Stays k). next-same stays others none)
        (λ (goes : Goes k). next-other goes others (none ∙ sym (ap (λ (t : Bool). cond t None (Some (new k))) inside)))
        (same-or-other (new k) (below k))
      where
        others : (n : ℕ) → n ≢ k → changes kept n ≡ changes old n
        others n other = ap (λ (es : Numbered). changes es n) is

        none : changes kept k ≡ None
        none = ap (λ (es : Numbered). changes es k) is ∙ none-there

    next-outside : is_in_runs runs k ≡ false → GainsChanged changed below (k ∷ []) old kept → AreBesideBelow runs changed below (k + 1) kept
    next-outside outside gains = ⊎_elim
        (λ (same : changes kept k ≡ changes old k). ⊎_elim
        (λ (came : changes kept k ≡ Some (new k)). absurd (none-some (new k) (sym (same ∙ none-there) ∙ came)))
        (λ (stays : Stays k). next-same stays others (same ∙ none-there))
        gains.all.0)
        (λ (came : In k (k ∷ []) × Goes k × (changes kept k ≡ Some (new k))).
        next-other came.1 others (came.2 ∙ sym (ap (λ (t : Bool). cond t None (Some (new k))) outside)))
        (gains.only k)
      where
        others : (n : ℕ) → n ≢ k → changes kept n ≡ changes old n
        others n other = ⊎_elim
            (λ (same : changes kept n ≡ changes old n). same)
            (λ (came : In n (k ∷ []) × Goes n × (changes kept n ≡ Some (new n))). ⊎_elim (λ (is : k ≡ n). absurd (other (sym is))) (λ none. absurd none) came.0)
            (gains.only n)

    pub beside-next : PutsBeside runs changed below k old kept → AreBesideBelow runs changed below (k + 1) kept
    beside-next puts = ⊎_elim
        (λ (inside : is_in_runs runs k ≡ true). next-inside inside (puts.inside inside))
        (λ (outside : is_in_runs runs k ≡ false). next-outside outside (puts.outside outside))
        (cases_Bool (is_in_runs runs k))

  pub beside-all : (count k : ℕ) (kept : Numbered) → k ≡ count → AreBesideBelow runs changed below k kept → AreChangedBeside runs changed below count kept
  beside-all count k kept is h = record {
    differing = h.differing;
    all = subst (λ (c : ℕ). GainsChanged changed below (range_with_len 0 c) [] h.differing) is h.all;
    beside = λ n. ⊎_elim
        (λ (lt : n < k). h.before n lt)
        (λ (le : k ≤ n).
        h.behind n le ∙ sym (none-either (is_in_runs runs n)) ∙ ap (λ (o : Option (List ℕ)). cond (is_in_runs runs n) None o) (sym (unseen k h.differing h.all n le)))
        (cases_lt n k);
  }
