-- A step that publishes or enters keeps the rule of the pair.
use Rattle.std.proofs.Common.{◌≡◌, ◌≢◌, ℕ, zero, suc, ◌+◌, List, [], ◌∷◌, ◌++◌, length, set, Option, Some, None, refl, sym, ap, ◌∙◌, subst, ⊎_elim, All, length-append, arith}
use Rattle.std.proofs.lemmas.List.Elements.{All-append, All-nil}
use mathlib.Core.Option.{some}
use mathlib.Core.List.{IsPrefix}
use lib.ListN.{get_elem?}
use Rattle.left_right.specs.Register.{Admits, Turns, TurnsAt, Forks, Merges}
use Rattle.atomic_table.proofs.Lists.{at_set, at_snoc, set_again}
use Rattle.hfs_shared.specs.declared.published.Published.{Published}
use Rattle.hfs_shared.specs.Histories.{Known}
use Rattle.hfs_shared.specs.Lists.{IsGood, Begins, Keeps, Shown, Sits}
use Rattle.hfs_shared.proofs.Prefixes.{prefix_self, prefix_trans}

View : Type 0
View = Option Known

pub some_known : (a b : Known) → ◌≡◌ {A = Option Known} (Some a) (Some b) → a ≡ b
some_known a b e = cc e

-- all but one seat are as they were
pub keeps_set : (x : Published) (views : List (Option Known)) (seat : ℕ) (w : Option Known)
    → ((j : ℕ) (k : Known) → j ≢ seat → get_elem? views j ≡ some (Some k) → Begins k x) → ((k : Known) → w ≡ Some k → Begins k x)
    → (j : ℕ) (k : Known) → get_elem? (set views seat w) j ≡ some (Some k) → Begins k x
keeps_set x views seat w others mine j k e =
    ⊎_elim
    (λ (t : (j ≡ seat) × (w ≡ Some k)). mine k t.1)
    (λ (t : (j ≢ seat) × (get_elem? views j ≡ some (Some k))). others j k t.0 t.1)
    (at_set views seat j w (Some k) e)

pub begins_self : (x : Published) → Begins x.front x
begins_self x = (refl, prefix_self x.front.list)

pub begins_more : (k : Known) (x y : Published) → Begins k x → x.front.book ≡ y.front.book → IsPrefix x.front.list y.front.list → Begins k y
begins_more k x y b same more = (b.0 ∙ same, prefix_trans k.list x.front.list y.front.list b.1 more)

-- the list that is published goes on
pub turns : (seat : ℕ) (v : Option Known) (x y : Published) → (IsGood x → IsGood y) → x.front.book ≡ y.front.book → IsPrefix x.front.list y.front.list → TurnsAt Keeps seat v x y Shown
turns seat v x y good same more views h at = (
  Some y.front,
  (
    good h.0,
    keeps_set y views seat (Some y.front) (λ j k apart e. begins_more k x y (h.1 j k e) same more)
        (λ k e. subst (λ (z : Known). Begins z y) (some_known y.front k e) (begins_self y)),
  ),
  (refl, good h.0, λ k e. begins_more k x y (h.1 seat k (subst (λ (z : Option Known). get_elem? views seat ≡ some z) e at)) same more),
)

pub enters : (seat : ℕ) (v : Option Known) → Turns Keeps seat v (λ x. x) Shown
enters seat v x = turns seat v x x (λ g. g) refl (prefix_self x.front.list)

pub admits : Admits Keeps None
admits x views h = (
  h.0,
  λ j k e. ⊎_elim (λ was. h.1 j k was) (λ (same : ◌≡◌ {A = Option Known} None (Some k)). absurd (cc same)) (at_snoc views None (Some k) j e),
)

pub forks : (seat : ℕ) (v : Option Known) → Forks Keeps seat v v v
forks seat v x views h at = (
  h.0,
  λ j k e. ⊎_elim
      (λ was. h.1 j k (subst (λ (l : List (Option Known)). get_elem? l j ≡ some (Some k)) (set_again views seat v at) was))
      (λ (same : v ≡ Some k). h.1 seat k (subst (λ (z : Option Known). get_elem? views seat ≡ some z) same at))
      (at_snoc (set views seat v) v (Some k) j e),
)

pub merges : (seat : ℕ) (v : Option Known) (other : ℕ) (w : Option Known) → Merges Keeps seat v other w w None
merges seat v other w x views h at apart there =
    let theirs : (k : Known) → w ≡ Some k → Begins k x = λ k e. ⊎_elim
    (λ (t : (other ≡ seat) × (w ≡ w)). absurd (apart t.0))
    (λ (t : (other ≢ seat) × (get_elem? views other ≡ some w)). h.1 other k (subst (λ (z : Option Known). get_elem? views other ≡ some z) e t.1))
    (at_set views seat other w w there) in (
      h.0,
      keeps_set x (set views seat w) other None
          (λ j k _ e. keeps_set x views seat w (λ i u _ e'. h.1 i u e') theirs j k e)
          (λ k e. absurd (cc e)),
    )

-- a reader took this copy: its seat has seen the copy's list, which begins with what it met before
pub taken : (v w out : Option Known) (x : Published) (met now : Known) → Shown v x x w → Sits met v → out ≡ w → now ≡ x.front
    → Sits now out × (now.book ≡ met.book) × IsPrefix met.list now.list
taken v w out x met now saw sits left same =
    let b : Begins met x = saw.2 met sits in (
      left ∙ saw.0 ∙ ap (λ (k : Known). let o : Option Known = Some k in o) (sym same),
      ap (λ (k : Known). k.book) same ∙ sym b.0,
      subst (λ (k : Known). IsPrefix met.list k.list) (sym same) b.1,
    )

-- one viewer more
pub seated : (f : Known) (xs ys : List Known) (n : ℕ) → length xs ≡ n → All (λ (k : Known). k ≡ f) xs → ys ≡ xs ++ f ∷ []
    → (length ys ≡ n + 1) × All (λ (k : Known). k ≡ f) ys
seated f xs ys n long all is =
    subst (λ (l : List Known). (length l ≡ n + 1) × All (λ (k : Known). k ≡ f) l) (sym is)
    (omega (arith, long, length-append xs (f ∷ [])), All-append (λ (k : Known). k ≡ f) xs (f ∷ []) all (one f))
  where
    one : (g : Known) → All (λ (k : Known). k ≡ g) (g ∷ [])
    one g zero d lt = refl
    one g (suc i) d lt = absurd (omega (arith, lt))
