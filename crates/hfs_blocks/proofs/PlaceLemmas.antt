-- Lemmas about the definitions of specs/Places.antt.
use Rattle.std.proofs.Common.{◌≡◌, ◌≢◌, ℕ, ◌+◌, ◌-◌, ◌*◌, ◌/◌, ◌%◌, ◌<◌, ◌≤◌, Bool, true, false, cond, List, [], get_or, Option, Some, None, IsSome, unwrap_or, nat_eq, refl, sym, ap, ◌∙◌, subst, arith, ⊎_elim, ne_eqb, eq-eqb, true≢false, Bor}
use Rattle.std.proofs.lemmas.Bool.{cases_lt, cases_eq}
use Rattle.std.proofs.lemmas.List.{get_or-replicate, get_or_past}
use Rattle.std.specs.Prelude.{replicate, is_some}
use Rattle.std.specs.Option.{option_copied}
use Rattle.hfs_blocks.specs.Layers.{Numbered, Changes, changes, HasChange, HasEachOf}
use Rattle.hfs_blocks.specs.Places.{row_of, place_in, HasRow, HaveNone, HaveSamePlaces, KeepsRows, AreSet, ArePlaced}

-- blocks of one row
pub row-same : (rows : Numbered) (n m : ℕ) → m / 16 ≡ n / 16 → HasRow rows n → HasRow rows m
unfolding HasRow
row-same rows n m e there = subst (λ k. IsSome (changes rows k)) (sym e) there

-- rows stay where each block of a map stays
pub rows-kept : (old new : Numbered) → HasEachOf (changes old) (changes new) → KeepsRows old new
unfolding HasRow
rows-kept old new kept n there = kept (n / 16) there

-- the row that was looked up is there
pub row-there : (rows : Numbered) (n : ℕ) (o : Option (List ℕ)) → o ≡ changes rows (n / 16) → IsSome o → HasRow rows n
unfolding HasRow
row-there rows n o is some = subst (λ o. IsSome o) is some

pub copied-some : (o : Option (Bor (List ℕ))) → is_some o ≡ true → IsSome (option_copied o)
copied-some None e = absurd (true≢false (sym e))
copied-some (Some x) e = refl

pub copied-none : (o : Option (Bor (List ℕ))) → is_some o ≡ false → option_copied o ≡ None
copied-none None e = refl
copied-none (Some x) e = absurd (true≢false e)

-- none of the blocks of a part of a row has a place
pub none-in_row : (rows : Numbered) (row : List ℕ) (from until : ℕ) → from < until → until ≤ from / 16 * 16 + 16 → Some row ≡ changes rows (from / 16)
    → ((k : ℕ) → from % 16 ≤ k → k < from % 16 + (until - from) → get_or row k 0 ≡ 0) → HaveNone rows from until
unfolding place_in
none-in_row rows row from until some one is none n low high =
    let same : n / 16 ≡ from / 16 = omega (arith, low, high, one) in
    ap (λ k. get_or (row_of rows k) (n % 16) 0) same ∙ ap (λ o. get_or (unwrap_or o []) (n % 16) 0) (sym is)
    ∙ none (n % 16) (omega (arith, low, same)) (omega (arith, high, low, same))

-- a row that isn't there has no place
pub none-no_row : (rows : Numbered) (from until : ℕ) → from < until → until ≤ from / 16 * 16 + 16 → None ≡ changes rows (from / 16) → HaveNone rows from until
unfolding place_in
none-no_row rows from until some one is n low high =
    let same : n / 16 ≡ from / 16 = omega (arith, low, high, one) in
    ap (λ k. get_or (row_of rows k) (n % 16) 0) same ∙ ap (λ o. get_or (unwrap_or o []) (n % 16) 0) (sym is) ∙ get_or_past [] (n % 16) 0 (omega arith)

-- a row of zeros came, which was lacking
module _ (old new : Numbered) (n : ℕ) (lacks : changes old (n / 16) ≡ None) (put : (q : ℕ) → changes new q ≡ cond (nat_eq (n / 16) q) (Some (replicate 16 0)) (changes old q)) where
  came-row : (q : ℕ) (t : Bool) → nat_eq (n / 16) q ≡ t → changes new q ≡ cond t (Some (replicate 16 0)) (changes old q)
  came-row q t e = put q ∙ ap (λ b. cond b (Some (replicate 16 0)) (changes old q)) e

  pub row-came-same : HaveSamePlaces old new
  unfolding place_in
  row-came-same m = ⊎_elim
      (λ (here : n / 16 ≡ m / 16).
      ap (λ o. get_or (unwrap_or o []) (m % 16) 0) (came-row (m / 16) true (eq-eqb (n / 16) (m / 16) here))
      ∙ get_or-replicate 16 (m % 16) 0 0 (omega arith)
      ∙ sym (ap (λ o. get_or (unwrap_or o []) (m % 16) 0) (ap (changes old) (sym here) ∙ lacks) ∙ get_or_past [] (m % 16) 0 (omega arith)))
      (λ (other : n / 16 ≡ m / 16 → ⊥). ap (λ o. get_or (unwrap_or o []) (m % 16) 0) (came-row (m / 16) false (ne_eqb (n / 16) (m / 16) other)))
      (cases_eq (n / 16) (m / 16))

  pub row-came-kept : KeepsRows old new
  unfolding HasRow
  row-came-kept m there = ⊎_elim
      (λ (here : n / 16 ≡ m / 16). subst (λ o. IsSome o) (sym (came-row (m / 16) true (eq-eqb (n / 16) (m / 16) here))) refl)
      (λ (other : n / 16 ≡ m / 16 → ⊥). subst (λ o. IsSome o) (sym (came-row (m / 16) false (ne_eqb (n / 16) (m / 16) other))) there)
      (cases_eq (n / 16) (m / 16))

  pub row-came-there : HasRow new n
  unfolding HasRow
  row-came-there = subst (λ o. IsSome o) (sym (came-row (n / 16) true (eq-eqb (n / 16) (n / 16) refl))) refl

-- what a change of one block says of it, and of the others
module _ (old new : Changes) (k : ℕ) (b : List ℕ) (change : HasChange k b old new) where
  pub changed-here : new k ≡ Some b
  changed-here = change k ∙ ap (λ t. cond t (Some b) (old k)) (eq-eqb k k refl)

  pub changed-others : (q : ℕ) → q ≢ k → new q ≡ old q
  changed-others q ne = change q ∙ ap (λ t. cond t (Some b) (old q)) (ne_eqb k q (λ e. ne (sym e)))

  pub changed-kept : HasEachOf old new
  changed-kept q some = ⊎_elim
      (λ (e : q ≡ k). subst (λ o. IsSome o) (sym (ap new e ∙ changed-here)) refl)
      (λ (ne : q ≡ k → ⊥). subst (λ o. IsSome o) (sym (changed-others q ne)) some)
      (cases_eq q k)

pub set-in_rows : (old new : Numbered) (k from count place : ℕ) (was row : List ℕ) → Some was ≡ changes old k → changes new k ≡ Some row
    → AreSet from count place was row → AreSet from count place (row_of old k) (row_of new k)
set-in_rows old new k from count place was row is now set =
    subst (λ o. AreSet from count place (unwrap_or o []) (row_of new k)) is
    (subst (λ o. AreSet from count place was (unwrap_or o [])) (sym now) set)

-- some more blocks of one row got their places
module _ (rows mid new : Numbered) (first done more place n : ℕ) (at : n ≡ first + done) (one : n % 16 + more ≤ 16)
    (set : AreSet (n % 16) more (place + done) (row_of mid (n / 16)) (row_of new (n / 16))) (others : (q : ℕ) → q ≢ n / 16 → changes new q ≡ changes mid q) where
  here : (m : ℕ) → m / 16 ≡ n / 16 → place_in new m ≡ get_or (row_of new (n / 16)) (m % 16) 0
  unfolding place_in
  here m e = ap (λ k. get_or (row_of new k) (m % 16) 0) e

  was : (m : ℕ) → m / 16 ≡ n / 16 → get_or (row_of mid (n / 16)) (m % 16) 0 ≡ place_in mid m
  unfolding place_in
  was m e = ap (λ k. get_or (row_of mid k) (m % 16) 0) (sym e)

  elsewhere : (m : ℕ) → m / 16 ≢ n / 16 → place_in new m ≡ place_in mid m
  unfolding place_in
  elsewhere m ne = ap (λ o. get_or (unwrap_or o []) (m % 16) 0) (others (m / 16) ne)

  now-set : (m : ℕ) → n ≤ m → m < n + more → place_in new m ≡ place + (m - first)
  now-set m low high =
      let e : m / 16 ≡ n / 16 = omega (arith, low, high, one) in
      here m e ∙ set.set (m % 16) (omega (arith, low, e)) (omega (arith, low, high, e)) ∙ (let sum : place + done + (m % 16 - n % 16) ≡ place + (m - first) = omega (arith, low, e, at) in sum)

  now-before : (m : ℕ) → m < n → place_in new m ≡ place_in mid m
  now-before m lt = ⊎_elim
      (λ (e : m / 16 ≡ n / 16). here m e ∙ set.before (m % 16) (omega (arith, lt, e)) ∙ was m e)
      (λ (ne : m / 16 ≡ n / 16 → ⊥). elsewhere m ne)
      (cases_eq (m / 16) (n / 16))

  now-behind : (m : ℕ) → n + more ≤ m → place_in new m ≡ place_in mid m
  now-behind m le = ⊎_elim
      (λ (e : m / 16 ≡ n / 16). here m e ∙ set.behind (m % 16) (omega (arith, le, e)) ∙ was m e)
      (λ (ne : m / 16 ≡ n / 16 → ⊥). elsewhere m ne)
      (cases_eq (m / 16) (n / 16))

  pub placed-next : ArePlaced first done place rows mid → ArePlaced first (done + more) place rows new
  placed-next placed = record {
    set = λ m low high. ⊎_elim
        (λ (lt : m < n). now-before m lt ∙ placed.set m low (omega (arith, lt, at)))
        (λ (ge : n ≤ m). now-set m ge (omega (arith, high, at)))
        (cases_lt m n);
    before = λ m lt. now-before m (omega (arith, lt, at)) ∙ placed.before m lt;
    behind = λ m le. now-behind m (omega (arith, le, at)) ∙ placed.behind m (omega (arith, le));
  }

-- none has got a place yet
pub placed-none : (first place : ℕ) (rows : Numbered) → ArePlaced first 0 place rows rows
placed-none first place rows = record { set = λ m low high. absurd (omega (arith, low, high)); before = λ m lt. refl; behind = λ m le. refl }
