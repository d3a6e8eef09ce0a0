-- Lemmas about the definitions of specs/Tables.antt.
use Rattle.std.proofs.Common.{◌≡◌, ℕ, zero, suc, ◌+◌, ◌-◌, ◌<◌, ◌≤◌, Bool, true, false, cond, List, [], ◌∷◌, ◌++◌, length, length-append, length-set, get_or, get_or-set_same, get_or-set_other, get_or-append-add, take, drop, set, Option, Some, None, IsSome, unwrap_or, nat_eq, refl, sym, ap, ◌∙◌, subst, arith, ⊎_elim, inl, inr, ne_eqb, eq-eqb, eqb-true, true≢false}
use Rattle.std.specs.Prelude.{zip, ◌⊎◌, Vec, vec_len, vec_capacity}
use Rattle.std.specs.declared.alloc.Global.{Global}
use Rattle.std.specs.List.{IsDistinct, AllByRecursion}
use Rattle.std.specs.Option.{option_or}
use Rattle.std.proofs.lemmas.Bool.{cases_lt, cases_eq}
use Rattle.std.proofs.lemmas.List.{get_or_append_left, get_or-take, get_or-drop, length-take-le, length-drop}
use Rattle.std.proofs.lemmas.Option.{none-some, same_Some}
use Rattle.hfs_blocks.specs.Layers.{Numbered, Changes, changes, numbers, with_change, over, AreWhole, AreWithin, HasChangesOf, HasJoined, IsLaid}
use Rattle.hfs_blocks.proofs.LaidLemmas.{settled, over_or, within_or}
use Rattle.hfs_blocks.specs.Places.{place_in, HasRow, HaveNone, HaveSamePlaces, ArePlaced}
use Rattle.hfs_blocks.specs.Tables.{AreBlocks, HasPlaces, IsPlaceAmong, IsTable, HaveRoom, UsesRoom, HasNumbers, HasLaid, AreBlocksOf, FollowFrom, HaveRowsFor}

-- ---- what a table has of a number

-- the block at a place that is counted from 1
abbrev pub found : ℕ → List (List ℕ) → Option (List ℕ)
found zero bs = None
found (suc i) bs = Some (get_or bs i [])

absent : (ns : List ℕ) (bs : List (List ℕ)) (k : ℕ) → ((i : ℕ) → i < length ns → get_or ns i 0 ≡ k → ⊥) → changes (zip ns bs) k ≡ None
absent [] bs k none = refl
absent (n ∷ ns) [] k none = refl
absent (n ∷ ns) (b ∷ bs) k none =
    ap (λ t. cond t (Some b) (changes (zip ns bs) k)) (ne_eqb k n (λ e. none 0 (omega arith) (sym e)))
    ∙ absent ns bs k (λ i lt. none (suc i) (omega (arith, lt)))

present : (ns : List ℕ) (bs : List (List ℕ)) (k i : ℕ) → i < length ns → length bs ≡ length ns → get_or ns i 0 ≡ k → ((j : ℕ) → j < i → get_or ns j 0 ≡ k → ⊥)
    → changes (zip ns bs) k ≡ Some (get_or bs i [])
present [] bs k i lt len is before = absurd (omega (arith, lt))
present (n ∷ ns) [] k i lt len is before = absurd (omega (arith, len))
present (n ∷ ns) (b ∷ bs) k zero lt len is before = ap (λ t. cond t (Some b) (changes (zip ns bs) k)) (eq-eqb k n (sym is))
present (n ∷ ns) (b ∷ bs) k (suc i) lt len is before =
    ap (λ t. cond t (Some b) (changes (zip ns bs) k)) (ne_eqb k n (λ e. before 0 (omega arith) (sym e)))
    ∙ present ns bs k i (omega (arith, lt)) (omega (arith, len)) is (λ j lt'. before (suc j) (omega (arith, lt')))

module _ (ns : List ℕ) (bs : List (List ℕ)) (rows : Numbered) (t : IsTable ns bs rows) where
  place-at : (i k : ℕ) → i < length ns → get_or ns i 0 ≡ k → place_in rows k ≡ suc i
  place-at i k lt is = subst (λ q. place_in rows q ≡ suc i) is (t.stands i lt)

  -- a table has the block at the place of its number
  pub look : (k : ℕ) → changes (zip ns bs) k ≡ found (place_in rows k) bs
  look k = by (place_in rows k) refl
    where
      by : (p : ℕ) → place_in rows k ≡ p → changes (zip ns bs) k ≡ found p bs
      by zero none = absent ns bs k (λ i lt is. let at = place-at i k lt is in omega (arith, none, at))
      by (suc i) at =
          let there = t.placed k i at in
          present ns bs k i there.0 t.len there.1 (λ j lt is. let other = place-at j k (omega (arith, lt, there.0)) is in omega (arith, other, at, lt))

  pub look-at : (k p : ℕ) → place_in rows k ≡ p → changes (zip ns bs) k ≡ found p bs
  look-at k p e = look k ∙ ap (λ q. found q bs) e

  -- each block is whole
  pub whole-table : AreWhole (changes (zip ns bs))
  whole-table k b is = by (place_in rows k) refl
    where
      by : (p : ℕ) → place_in rows k ≡ p → length b ≡ 512
      by zero none = absurd (none-some b (sym (look-at k zero none) ∙ is))
      by (suc i) at =
          let there = t.placed k i at in
          let same : get_or bs i [] ≡ b = same_Some (get_or bs i []) b (sym (look-at k (suc i) at) ∙ is) in
          sym (ap (λ (l : List ℕ). length l) same) ∙ t.whole i (omega (arith, there.0, t.len))

  pub blocks-of-table : AreBlocksOf ns bs
  blocks-of-table = record { len = t.len; are = λ i lt. look-at (get_or ns i 0) (suc i) (t.stands i lt); whole = t.whole }

  -- two places of a table have different numbers
  pub apart-table : (i j : ℕ) → i < j → j < length ns → get_or ns i 0 ≡ get_or ns j 0 → ⊥
  apart-table i j lt lt' same =
      let one = place-at i (get_or ns j 0) (omega (arith, lt, lt')) same in
      let other = t.stands j lt' in
      omega (arith, one, other, lt)

pub empty-table : (ns : List ℕ) (bs : List (List ℕ)) (rows : Numbered) → ns ≡ [] → bs ≡ [] → rows ≡ [] → IsTable ns bs rows
unfolding place_in
empty-table ns bs rows e f h = record {
  len = ap (λ (l : List (List ℕ)). length l) f ∙ sym (ap (λ (l : List ℕ). length l) e);
  placed = λ n i is. absurd (zero-suc i (sym (ap (λ (r : Numbered). place_in r n) h) ∙ is));
  stands = λ i lt. absurd (let none = ap (λ (l : List ℕ). length l) e in omega (arith, none, lt));
  whole = λ i lt. absurd (let none = ap (λ (l : List (List ℕ)). length l) f in omega (arith, none, lt));
}
  where
    zero-suc : (i : ℕ) → 0 ≡ suc i → ⊥
    zero-suc i e = omega (arith, e)

pub numbers-zip : (ns : List ℕ) (bs : List (List ℕ)) → length bs ≡ length ns → numbers (zip ns bs) ≡ ns
numbers-zip [] bs len = refl
numbers-zip (n ∷ ns) [] len = absurd (omega (arith, len))
numbers-zip (n ∷ ns) (b ∷ bs) len = ap (λ (l : List ℕ). n ∷ l) (numbers-zip ns bs (omega (arith, len)))

none-equal : (x : ℕ) (ns : List ℕ) → ((j : ℕ) → j < length ns → x ≡ get_or ns j 0 → ⊥) → AllByRecursion (λ y. nat_eq x y ≡ false) ns
none-equal x [] h = tt
none-equal x (n ∷ ns) h = (ne_eqb x n (h 0 (omega arith)), none-equal x ns (λ j lt. h (suc j) (omega (arith, lt))))

pub distinct : (ns : List ℕ) → ((i j : ℕ) → i < j → j < length ns → get_or ns i 0 ≡ get_or ns j 0 → ⊥) → IsDistinct nat_eq ns
unfolding IsDistinct
distinct [] h = tt
distinct (n ∷ ns) h = (
  none-equal n ns (λ j lt. h 0 (suc j) (omega arith) (omega (arith, lt))),
  distinct ns (λ i j lt lt'. h (suc i) (suc j) (omega (arith, lt)) (omega (arith, lt'))),
)

-- ---- blocks that come

module _ (ns new_ns : List ℕ) (bs run new_bs : List (List ℕ)) (rows new_rows : Numbered) (first place : ℕ) (t : IsTable ns bs rows) (next : place ≡ length ns + 1)
    (came : HasNumbers first (length run) ns new_ns) (joined : new_bs ≡ bs ++ run) (placed : ArePlaced first (length run) place rows new_rows)
    (none : HaveNone rows first (first + length run)) (whole : (i : ℕ) → i < length run → length (get_or run i []) ≡ 512) where
  long : length new_bs ≡ length bs + length run
  long = ap (λ (l : List (List ℕ)). length l) joined ∙ length-append bs run

  -- a number beside the run keeps its place
  beside : (n : ℕ) → (n < first) ⊎ (first + length run ≤ n) → place_in new_rows n ≡ place_in rows n
  beside n apart = ⊎_elim (placed.before n) (placed.behind n) apart

  where-is : (n : ℕ) → ((n < first) ⊎ (first + length run ≤ n)) ⊎ ((first ≤ n) × (n < first + length run))
  where-is n = ⊎_elim
      (λ (lt : n < first). inl (inl lt))
      (λ (ge : first ≤ n). ⊎_elim
      (λ (lt : n < first + length run). inr (ge, lt))
      (λ (le : first + length run ≤ n). inl (inr le))
      (cases_lt n (first + length run)))
      (cases_lt n first)

  new-placed : (n i : ℕ) → place_in new_rows n ≡ suc i → (i < length new_ns) × (get_or new_ns i 0 ≡ n)
  new-placed n i at = ⊎_elim
      (λ (apart : (n < first) ⊎ (first + length run ≤ n)).
      let there = t.placed n i (sym (beside n apart) ∙ at) in
      (omega (arith, there.0, came.len), came.old_stay i there.0 ∙ there.1))
      (λ (inside : (first ≤ n) × (n < first + length run)).
      let is : suc i ≡ place + (n - first) = sym at ∙ placed.set n inside.0 inside.1 in
      let same : i ≡ length ns + (n - first) = omega (arith, is, next) in (
        omega (arith, same, came.len, inside.0, inside.1),
        ap (λ q. get_or new_ns q 0) same ∙ came.came (n - first) (omega (arith, inside.0, inside.1)) ∙ (let sum : first + (n - first) ≡ n = omega (arith, inside.0) in sum),
      ))
      (where-is n)

  new-stands : (i : ℕ) → i < length new_ns → place_in new_rows (get_or new_ns i 0) ≡ suc i
  new-stands i lt = ⊎_elim
      (λ (old : i < length ns).
      let q = get_or ns i 0 in
      let is = t.stands i old in
      ap (place_in new_rows) (came.old_stay i old)
      ∙ ⊎_elim
      (λ (apart : (q < first) ⊎ (first + length run ≤ q)). beside q apart ∙ is)
      (λ (inside : (first ≤ q) × (q < first + length run)). absurd (let no = none q inside.0 inside.1 in omega (arith, no, is)))
      (where-is q))
      (λ (new : length ns ≤ i).
      let j = i - length ns in
      let few : j < length run = omega (arith, new, lt, came.len) in
      let same : i ≡ length ns + j = omega (arith, new) in
      ap (place_in new_rows) (ap (λ q. get_or new_ns q 0) same ∙ came.came j few)
      ∙ placed.set (first + j) (omega arith) (omega (arith, few)) ∙ (let sum : place + (first + j - first) ≡ suc i = omega (arith, same, next) in sum))
      (cases_lt i (length ns))

  new-whole : (i : ℕ) → i < length new_bs → length (get_or new_bs i []) ≡ 512
  new-whole i lt = ⊎_elim
      (λ (old : i < length bs). ap (λ (l : List ℕ). length l) (ap (λ (l : List (List ℕ)). get_or l i []) joined ∙ get_or_append_left bs run [] i old) ∙ t.whole i old)
      (λ (new : length bs ≤ i).
      let j = i - length bs in
      let same : i ≡ length bs + j = omega (arith, new) in
      ap (λ (l : List ℕ). length l) (ap (λ (l : List (List ℕ)). get_or l i []) joined ∙ ap (λ q. get_or (bs ++ run) q []) same ∙ get_or-append-add bs run j [])
      ∙ whole j (omega (arith, new, lt, long)))
      (cases_lt i (length bs))

  pub table-appended : IsTable new_ns new_bs new_rows
  table-appended = record { len = omega (arith, long, came.len, t.len); placed = new-placed; stands = new-stands; whole = new-whole }

  kept-place : (p : ℕ) → ((i : ℕ) → p ≡ suc i → i < length bs) → found p new_bs ≡ found p bs
  kept-place zero few = refl
  kept-place (suc i) few = ap (λ b. Some b) (ap (λ (l : List (List ℕ)). get_or l i []) joined ∙ get_or_append_left bs run [] i (few i refl))

  others : (n : ℕ) → (n < first) ⊎ (first + length run ≤ n) → changes (zip new_ns new_bs) n ≡ changes (zip ns bs) n
  others n apart =
      look-at new_ns new_bs new_rows table-appended n (place_in rows n) (beside n apart)
      ∙ kept-place (place_in rows n) (λ i at. let there = t.placed n i at in omega (arith, there.0, t.len))
      ∙ sym (look ns bs rows t n)

  pub laid-appended : HasLaid first (length run) run (changes (zip ns bs)) (changes (zip new_ns new_bs))
  laid-appended = record {
    laid = λ i lt.
        let at : place_in new_rows (first + i) ≡ suc (length bs + i) = placed.set (first + i) (omega arith) (omega (arith, lt)) ∙ (let sum : place + (first + i - first) ≡ suc (length bs + i) = omega (arith, next, t.len) in sum) in
        look-at new_ns new_bs new_rows table-appended (first + i) (suc (length bs + i)) at
        ∙ ap (λ b. Some b) (ap (λ (l : List (List ℕ)). get_or l (length bs + i) []) joined ∙ get_or-append-add bs run i []);
    before = λ n lt. others n (inl lt);
    behind = λ n le. others n (inr le);
  }

-- ---- a block that is written over

module _ (ns : List ℕ) (bs new_bs : List (List ℕ)) (rows : Numbered) (n i : ℕ) (b : List ℕ) (t : IsTable ns bs rows) (at : place_in rows n ≡ suc i)
    (written : new_bs ≡ set bs i b) (whole : length b ≡ 512) where
  within : i < length bs
  within = omega (arith, (t.placed n i at).0, t.len)

  still : length new_bs ≡ length bs
  still = ap (λ (l : List (List ℕ)). length l) written ∙ length-set bs i b

  over-whole : (j : ℕ) → j < length new_bs → length (get_or new_bs j []) ≡ 512
  over-whole j lt = ap (λ (l : List ℕ). length l) (ap (λ (l : List (List ℕ)). get_or l j []) written) ∙ ⊎_elim
      (λ (e : j ≡ i). ap (λ (l : List ℕ). length l) (ap (λ q. get_or (set bs i b) q []) e ∙ get_or-set_same bs i b [] within) ∙ whole)
      (λ (ne : j ≡ i → ⊥). ap (λ (l : List ℕ). length l) (get_or-set_other bs i j b [] ne) ∙ t.whole j (omega (arith, lt, still)))
      (cases_eq j i)

  pub table-overwritten : IsTable ns new_bs rows
  table-overwritten = record { len = omega (arith, still, t.len); placed = t.placed; stands = t.stands; whole = over-whole }

  at-number : (k : ℕ) → changes (zip ns new_bs) k ≡ with_change (changes (zip ns bs)) n b k
  at-number k = ⊎_elim
      (λ (e : n ≡ k).
      look-at ns new_bs rows table-overwritten k (suc i) (sym (ap (place_in rows) e) ∙ at)
      ∙ ap (λ c. Some c) (ap (λ (l : List (List ℕ)). get_or l i []) written ∙ get_or-set_same bs i b [] within)
      ∙ sym (ap (λ t. cond t (Some b) (changes (zip ns bs) k)) (eq-eqb n k e)))
      (λ (ne : n ≡ k → ⊥).
      look-at ns new_bs rows table-overwritten k (place_in rows k) refl ∙ other (place_in rows k) refl ne ∙ sym (look ns bs rows t k)
      ∙ sym (ap (λ t. cond t (Some b) (changes (zip ns bs) k)) (ne_eqb n k ne)))
      (cases_eq n k)
    where
      other : (p : ℕ) → place_in rows k ≡ p → (n ≡ k → ⊥) → found p new_bs ≡ found p bs
      other zero e ne = refl
      other (suc j) e ne = ap (λ c. Some c) (ap (λ (l : List (List ℕ)). get_or l j []) written
          ∙ get_or-set_other bs i j b [] (λ (same : j ≡ i). ne (sym (t.placed n i at).1 ∙ sym (ap (λ q. get_or ns q 0) same) ∙ (t.placed k j e).1)))

  pub changes-overwritten : changes (zip ns new_bs) ≡ with_change (changes (zip ns bs)) n b
  changes-overwritten = λ j k. at-number k j

-- ---- one block, and blocks one after the other

pub one-laid : (n : ℕ) (b : List ℕ) (run : List (List ℕ)) (old new : Changes) → get_or run 0 [] ≡ b → HasLaid n 1 run old new → new ≡ with_change old n b
one-laid n b run old new is laid = λ j k. at k j
  where
    at : (k : ℕ) → new k ≡ with_change old n b k
    at k = ⊎_elim
        (λ (e : n ≡ k).
        (let same : k ≡ n + 0 = omega (arith, e) in ap new same) ∙ laid.laid 0 (omega arith) ∙ ap (λ c. Some c) is ∙ sym (ap (λ t. cond t (Some b) (old k)) (eq-eqb n k e)))
        (λ (ne : n ≡ k → ⊥). ⊎_elim (λ (lt : k < n). laid.before k lt) (λ (ge : n ≤ k). laid.behind k (next n k ge ne)) (cases_lt k n)
        ∙ sym (ap (λ t. cond t (Some b) (old k)) (ne_eqb n k ne)))
        (cases_eq n k)
      where
        next : (n k : ℕ) → n ≤ k → (n ≡ k → ⊥) → n + 1 ≤ k
        next n k ge ne = omega (arith, ge, ne)

pub laid-none : (first : ℕ) (run : List (List ℕ)) (old : Changes) → HasLaid first 0 run old old
laid-none first run old = record { laid = λ i lt. absurd (omega (arith, lt)); before = λ n lt. refl; behind = λ n le. refl }

module _ (first i : ℕ) (run : List (List ℕ)) (old mid new : Changes) (n : ℕ) (b : List ℕ) (at : n ≡ first + i) (is : get_or run i [] ≡ b) (one : new ≡ with_change mid n b) where
  one-at : (k : ℕ) → new k ≡ cond (nat_eq n k) (Some b) (mid k)
  one-at k = ap (λ (f : Changes). f k) one

  one-here : new (first + i) ≡ Some b
  one-here = one-at (first + i) ∙ ap (λ t. cond t (Some b) (mid (first + i))) (eq-eqb n (first + i) at)

  one-other : (k : ℕ) → (n ≡ k → ⊥) → new k ≡ mid k
  one-other k ne = one-at k ∙ ap (λ t. cond t (Some b) (mid k)) (ne_eqb n k ne)

  pub laid-next : HasLaid first i run old mid → HasLaid first (i + 1) run old new
  laid-next laid = record {
    laid = λ j lt. ⊎_elim
        (λ (e : j ≡ i). ap (λ q. new (first + q)) e ∙ one-here ∙ ap (λ c. Some c) (sym (ap (λ q. get_or run q []) e ∙ is)))
        (λ (ne : j ≡ i → ⊥). one-other (first + j) (λ e. ne (omega (arith, e, at))) ∙ laid.laid j (less j i lt ne))
        (cases_eq j i);
    before = λ k lt. one-other k (λ e. omega (arith, e, at, lt)) ∙ laid.before k lt;
    behind = λ k le. one-other k (λ e. omega (arith, e, at, le)) ∙ laid.behind k (omega (arith, le));
  }
    where
      less : (j i : ℕ) → j < i + 1 → (j ≡ i → ⊥) → j < i
      less j i lt ne = omega (arith, lt, ne)

-- ---- the blocks of another table

module _ (ns : List ℕ) (bs run : List (List ℕ)) (old mid new : Changes) (done count first : ℕ) (other : AreBlocksOf ns bs) (within : done + count ≤ length ns)
    (at : first ≡ get_or ns done 0) (follow : FollowFrom ns done count) (part : (i : ℕ) → i < count → get_or run i [] ≡ get_or bs (done + i) []) (laid : HasLaid first count run mid new) where
  abbrev theirs : Changes
  theirs = changes (zip ns bs)

  -- a block of the run is the other table's
  in-run : (k : ℕ) → first ≤ k → k < first + count → (b : List ℕ) × (new k ≡ Some b) × (theirs k ≡ Some b)
  in-run k low high =
      let i = k - first in
      let lt : i < count = omega (arith, low, high) in
      let same : k ≡ first + i = omega (arith, low) in
      let number : get_or ns (done + i) 0 ≡ k = follow i lt ∙ sym (ap (λ q. q + i) at) ∙ sym same in (
        get_or bs (done + i) [],
        ap new same ∙ laid.laid i lt ∙ ap (λ c. Some c) (part i lt),
        sym (ap theirs number) ∙ other.are (done + i) (omega (arith, within, lt)),
      )

  -- each block is as it was, or the other table's
  either : (k : ℕ) → (new k ≡ mid k) ⊎ ((b : List ℕ) × (new k ≡ Some b) × (theirs k ≡ Some b))
  either k = ⊎_elim
      (λ (lt : k < first). inl (laid.before k lt))
      (λ (ge : first ≤ k). ⊎_elim (λ (lt : k < first + count). inr (in-run k ge lt)) (λ (le : first + count ≤ k). inl (laid.behind k le)) (cases_lt k (first + count)))
      (cases_lt k first)

  pub rest-next : ((k : ℕ) → option_or (theirs k) (mid k) ≡ option_or (theirs k) (old k)) → (k : ℕ) → option_or (theirs k) (new k) ≡ option_or (theirs k) (old k)
  rest-next rest k = ⊎_elim
      (λ (e : new k ≡ mid k). ap (λ o. option_or (theirs k) o) e ∙ rest k)
      (λ (e : (b : List ℕ) × (new k ≡ Some b) × (theirs k ≡ Some b)). ap (λ p. option_or p (new k)) e.2 ∙ sym (ap (λ p. option_or p (old k)) e.2))
      (either k)

  pub all-laid-next : ((i : ℕ) → i < done → mid (get_or ns i 0) ≡ theirs (get_or ns i 0)) → (i : ℕ) → i < done + count → new (get_or ns i 0) ≡ theirs (get_or ns i 0)
  all-laid-next before i lt = ⊎_elim
      (λ (early : i < done). ⊎_elim
      (λ (e : new (get_or ns i 0) ≡ mid (get_or ns i 0)). e ∙ before i early)
      (λ (e : (b : List ℕ) × (new (get_or ns i 0) ≡ Some b) × (theirs (get_or ns i 0) ≡ Some b)). e.1 ∙ sym e.2)
      (either (get_or ns i 0)))
      (λ (late : done ≤ i).
      let j = i - done in
      let same : i ≡ done + j = omega (arith, late) in
      let number : get_or ns i 0 ≡ first + j = ap (λ q. get_or ns q 0) same ∙ follow j (omega (arith, lt, late)) ∙ ap (λ q. q + j) (sym at) in
      let e = in-run (get_or ns i 0) (omega (arith, number)) (omega (arith, number, lt, late)) in
      e.1 ∙ sym e.2)
      (cases_lt i done)

-- a number of a table is that of one of its places
pub number-of : (ns : List ℕ) (bs : List (List ℕ)) (k : ℕ) → IsSome (changes (zip ns bs) k) → (i : ℕ) × (i < length ns) × (get_or ns i 0 ≡ k)
number-of [] bs k some = absurd (true≢false (sym some))
number-of (n ∷ ns) [] k some = absurd (true≢false (sym some))
number-of (n ∷ ns) (b ∷ bs) k some = by (nat_eq k n) refl (number-of ns bs k)
  where
    by : (t : Bool) → nat_eq k n ≡ t → (IsSome (changes (zip ns bs) k) → (i : ℕ) × (i < length ns) × (get_or ns i 0 ≡ k)) → (i : ℕ) × (i < length (n ∷ ns)) × (get_or (n ∷ ns) i 0 ≡ k)
    by true same rest = (0, omega arith, sym (eqb-true k n same))
    by false other rest =
        let r = rest (subst (λ t. IsSome (cond t (Some b) (changes (zip ns bs) k))) other some) in
        (suc r.0, omega (arith, r.1), r.2)

pub all-laid : (ns : List ℕ) (bs : List (List ℕ)) (old new : Changes) → ((k : ℕ) → option_or (changes (zip ns bs) k) (new k) ≡ option_or (changes (zip ns bs) k) (old k))
    → ((i : ℕ) → i < length ns → new (get_or ns i 0) ≡ changes (zip ns bs) (get_or ns i 0)) → (k : ℕ) → new k ≡ option_or (changes (zip ns bs) k) (old k)
all-laid ns bs old new rest laid k =
    settled (changes (zip ns bs) k) (new k) (old k) (rest k) (λ some. let at = number-of ns bs k some in subst (λ q. new q ≡ changes (zip ns bs) q) at.2 (laid at.0 at.1))

-- ---- rows for numbers

pub rows-next : (ns : List ℕ) (rows new : Numbered) (done count first : ℕ) → first ≡ get_or ns done 0 → FollowFrom ns done count → ((n : ℕ) → HasRow rows n → HasRow new n)
    → ((n : ℕ) → first ≤ n → n < first + count → HasRow new n) → ((i : ℕ) → i < done → HasRow rows (get_or ns i 0)) → (i : ℕ) → i < done + count → HasRow new (get_or ns i 0)
rows-next ns rows new done count first at follow kept there before i lt = ⊎_elim
    (λ (early : i < done). kept (get_or ns i 0) (before i early))
    (λ (late : done ≤ i).
    let j = i - done in
    let same : i ≡ done + j = omega (arith, late) in
    let number : get_or ns i 0 ≡ first + j = ap (λ q. get_or ns q 0) same ∙ follow j (omega (arith, lt, late)) ∙ ap (λ q. q + j) (sym at) in
    there (get_or ns i 0) (omega (arith, number)) (omega (arith, number, lt, late)))
    (cases_lt i done)

-- numbers that follow one another from a place on have rows where each has one
pub rows-of-run : (ns : List ℕ) (rows : Numbered) (done count first : ℕ) → first ≡ get_or ns done 0 → FollowFrom ns done count → done + count ≤ length ns → HaveRowsFor ns rows
    → (n : ℕ) → first ≤ n → n < first + count → HasRow rows n
rows-of-run ns rows done count first at follow within all n low high =
    let j = n - first in
    let number : get_or ns (done + j) 0 ≡ n = follow j (omega (arith, low, high)) ∙ ap (λ q. q + j) (sym at) ∙ (let sum : first + j ≡ n = omega (arith, low) in sum) in
    subst (λ q. HasRow rows q) number (all (done + j) (omega (arith, low, high, within)))

-- ---- room

pub room-less : (numbers : Vec ℕ Global) (blocks : Vec (List ℕ) Global) (count more : ℕ) → count ≤ more → HaveRoom numbers blocks more → HaveRoom numbers blocks count
room-less numbers blocks count more le room = record { numbers_fit = omega (arith, room.numbers_fit, le); blocks_fit = omega (arith, room.blocks_fit, le); few = omega (arith, room.few, le) }

pub room-used : (numbers new_numbers : Vec ℕ Global) (blocks new_blocks : Vec (List ℕ) Global) (count : ℕ) → vec_len new_numbers ≡ vec_len numbers + count
    → vec_capacity new_numbers ≡ vec_capacity numbers → vec_len new_blocks ≡ vec_len blocks + count → vec_capacity blocks ≤ vec_capacity new_blocks
    → UsesRoom numbers blocks count new_numbers new_blocks
room-used numbers new_numbers blocks new_blocks count longer same longer_blocks more_blocks more room = record {
  numbers_fit = omega (arith, room.numbers_fit, longer, same);
  blocks_fit = omega (arith, room.blocks_fit, longer_blocks, more_blocks);
  few = omega (arith, room.few, longer);
}

pub room-next : (numbers mid_numbers new_numbers : Vec ℕ Global) (blocks mid_blocks new_blocks : Vec (List ℕ) Global) (done count : ℕ) → UsesRoom numbers blocks done mid_numbers mid_blocks
    → UsesRoom mid_numbers mid_blocks count new_numbers new_blocks → UsesRoom numbers blocks (done + count) new_numbers new_blocks
room-next numbers mid_numbers new_numbers blocks mid_blocks new_blocks done count first next more room =
    next more (first (count + more) (room-less numbers blocks (done + (count + more)) (done + count + more) (omega arith) room))

-- ---- one block

pub row-of-one : (rows : Numbered) (n count : ℕ) → count ≡ 1 → HasRow rows n → (m : ℕ) → n ≤ m → m < n + count → HasRow rows m
row-of-one rows n count one there m low high = subst (λ q. HasRow rows q) (let e : n ≡ m = omega (arith, one, low, high) in e) there

pub none-of-one : (rows : Numbered) (n count : ℕ) → count ≡ 1 → place_in rows n ≡ 0 → HaveNone rows n (n + count)
none-of-one rows n count one none m low high = ap (place_in rows) (let e : m ≡ n = omega (arith, one, low, high) in e) ∙ none

-- the place that was found
pub place-is : (ns : List ℕ) (bs : List (List ℕ)) (rows : Numbered) (n place : ℕ) → IsTable ns bs rows → place ≡ place_in rows n → 0 < place → (place_in rows n ≡ suc (place - 1)) × (place - 1 < length bs)
place-is ns bs rows n place t is some =
    let at : place_in rows n ≡ suc (place - 1) = sym is ∙ (let e : place ≡ suc (place - 1) = omega (arith, some) in e) in
    let there = t.placed n (place - 1) at in
    (at, omega (arith, there.0, t.len))

pub places-of-table : (ns : List ℕ) (bs : List (List ℕ)) (rows : Numbered) → IsTable ns bs rows → HasPlaces ns rows
places-of-table ns bs rows t = (t.placed, t.stands)

-- what is found among the numbers is what the rows say
pub place-among : (ns : List ℕ) (rows : Numbered) (n place : ℕ) → HasPlaces ns rows → IsPlaceAmong ns n place → place ≡ place_in rows n
place-among ns rows n zero has found = by (place_in rows n) refl
  where
    by : (p : ℕ) → place_in rows n ≡ p → zero ≡ place_in rows n
    by zero e = sym e
    by (suc i) e = let at = has.0 n i e in absurd (found.nowhere refl i at.0 at.1)
place-among ns rows n (suc i) has found =
    let at = found.there (omega arith) in
    let same : suc i - 1 ≡ i = omega arith in
    let lt : i < length ns = omega (arith, at.0) in
    sym (subst (λ q. place_in rows q ≡ suc i) (ap (λ j. get_or ns j 0) (sym same) ∙ at.1) (has.1 i lt))

-- ---- tables that are the same

pub table-same : (ns new_ns : List ℕ) (bs new_bs : List (List ℕ)) (rows new : Numbered) → IsTable ns bs rows → new_ns ≡ ns → new_bs ≡ bs → HaveSamePlaces rows new → IsTable new_ns new_bs new
table-same ns new_ns bs new_bs rows new t e f same = subst (λ (l : List ℕ). IsTable l new_bs new) (sym e) (subst (λ (l : List (List ℕ)). IsTable ns l new) (sym f) (record {
  len = t.len;
  placed = λ n i at. t.placed n i (sym (same n) ∙ at);
  stands = λ i lt. same (get_or ns i 0) ∙ t.stands i lt;
  whole = t.whole;
}))

pub zip-same : (ns new_ns : List ℕ) (bs new_bs : List (List ℕ)) → new_ns ≡ ns → new_bs ≡ bs → zip new_ns new_bs ≡ zip ns bs
zip-same ns new_ns bs new_bs e f = ap (λ (l : List ℕ). zip l new_bs) e ∙ ap (λ (l : List (List ℕ)). zip ns l) f

-- ---- a part of the blocks

module _ (bs : List (List ℕ)) (done count : ℕ) (fits : done + count ≤ length bs) where
  abbrev part : List (List ℕ)
  part = take (done + count - done) (drop done bs)

  pub part-long : length part ≡ count
  part-long = length-take-le (done + count - done) (drop done bs) (omega (arith, length-drop done bs, fits)) ∙ (let e : done + count - done ≡ count = omega arith in e)

  pub part-at : (i : ℕ) → i < count → get_or part i [] ≡ get_or bs (done + i) []
  part-at i lt = get_or-take (done + count - done) (drop done bs) i [] (omega (arith, lt)) ∙ get_or-drop done bs i []

  pub part-whole : AreBlocks bs → AreBlocks part
  part-whole whole i lt =
      let few : i < count = omega (arith, lt, part-long) in
      ap (λ (l : List ℕ). length l) (part-at i few) ∙ whole (done + i) (omega (arith, few, fits))

-- ---- a patch that was laid over another

module _ (p old new : Changes) (either : (k : ℕ) → new k ≡ option_or (p k) (old k)) where
  or_some : (o q : Option (List ℕ)) → IsSome q → IsSome (option_or o q)
  or_some None q some = some
  or_some (Some x) q some = refl

  first_some : (o q : Option (List ℕ)) → IsSome o → IsSome (option_or o q)
  first_some None q some = absurd (true≢false (sym some))
  first_some (Some x) q some = refl

  from : (o q : Option (List ℕ)) → IsSome (option_or o q) → IsSome q ⊎ IsSome o
  from None q some = inl some
  from (Some x) q some = inr refl

  pub joined-laid : HasJoined old p new
  joined-laid = record {
    of_first = λ k some. subst (λ o. IsSome o) (sym (either k)) (or_some (p k) (old k) some);
    of_second = λ k some. subst (λ o. IsSome o) (sym (either k)) (first_some (p k) (old k) some);
    of_none_else = λ k some. from (p k) (old k) (subst (λ o. IsSome o) (either k) some);
  }

  pub shows-laid : (below : ℕ → List ℕ) (k : ℕ) → over new below k ≡ over p (over old below) k
  shows-laid below k = ap (λ o. unwrap_or o (below k)) (either k) ∙ over_or (p k) (old k) (below k)

-- the same of patches, one of which is known by other words
module _ (theirs patch mid old new : Numbered) (e : theirs ≡ patch) (f : mid ≡ old) (laid : HasChangesOf (changes theirs) (changes mid) (changes new)) where
  by-words : (k : ℕ) → changes new k ≡ option_or (changes patch k) (changes old k)
  by-words k = laid k ∙ ap (λ (l : Numbered). option_or (changes l k) (changes mid k)) e ∙ ap (λ (l : Numbered). option_or (changes patch k) (changes l k)) f

  pub lay-within : (total : ℕ) → AreWithin (changes patch) total → AreWithin (changes old) total → AreWithin (changes new) total
  lay-within total = within_or (changes patch) (changes old) (changes new) total by-words

  pub lay-joined : HasJoined (changes old) (changes patch) (changes new)
  lay-joined = joined-laid (changes patch) (changes old) (changes new) by-words

  pub lay-shows : (below : ℕ → List ℕ) → IsLaid below old patch new
  lay-shows below = shows-laid (changes patch) (changes old) (changes new) by-words below
