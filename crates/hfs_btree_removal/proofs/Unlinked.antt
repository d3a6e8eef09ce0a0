-- Nodes of several levels, taken out of their links one after the other.
use Rattle.std.proofs.Common.{◌≡◌, ◌≢◌, ℕ, List, [], ◌∷◌, ◌++◌, length, refl, sym, ap, ◌∙◌, subst}
use Rattle.std.specs.List.{flat_map}
use Rattle.std.proofs.lemmas.List.{map-append}
use Rattle.hfs_fields.specs.Each.{Each}
use Rattle.hfs_fields.proofs.ElementLemmas.{each-left, each-right, each-append}
use Rattle.hfs_btree.specs.Tree.{Store, Spot, first_of}
use Rattle.hfs_btree.specs.Sound.{IsOther, IsDistinct}
use Rattle.hfs_btree_edits.proofs.DistinctLemmas.{distinct-left, distinct-right}
use Rattle.hfs_btree_edits.proofs.LevelPartLemmas.{numbers, numbers-spots}
use Rattle.hfs_btree_removal.proofs.Chains.{Cut, with_node}
use Rattle.hfs_btree_removal.proofs.Links.{last_or, IsKept, IsForward, IsBackward, IsFrontGap, IsBackGap}
use Rattle.hfs_btree_removal.proofs.Detached.{HasGap}
use Rattle.hfs_btree_edits.proofs.ReleasedLemmas.{apart as cross-back}
use Rattle.hfs_btree.proofs.DistinctLemmas.{cross}
pub use Rattle.hfs_btree_removal.specs.Removal.{HasUnlinked}

abbrev pub Some : ℕ → Type 0
Some n = n ≢ 0

module _ (old new : Store) where
  -- the last of those before, or 0, is other than one that is none of them
  last-other : (m d : ℕ) (xs : List ℕ) → m ≢ d → Each (IsOther m) xs → m ≢ last_or d xs
  last-other m d [] ne o = ne
  last-other m d (x ∷ xs) ne o = last-other m x xs (λ e. o.0 (sym e)) o.1

  first-other : (m : ℕ) (ys : List ℕ) → m ≢ 0 → Each (IsOther m) ys → m ≢ first_of ys
  first-other m [] some o = some
  first-other m (y ∷ ys) some o = λ e. o.0 (sym e)

  kept-behind : (l y : ℕ) (u : HasUnlinked old new l y) (ys : List ℕ) → Each (IsOther y) ys → Each (IsOther l) ys → Each (IsKept old new) ys
  kept-behind l y u [] a b = tt
  kept-behind l y u (z ∷ ys) a b = (u.rest z b.0 a.0, kept-behind l y u ys a.1 b.1)

  back-gap : (l : ℕ) (ys : List ℕ) (u : HasUnlinked old new l (first_of ys)) → Each Some ys → IsDistinct ys → Each (IsOther l) ys → IsBackGap old new l ys
  back-gap l [] u some d o = tt
  back-gap l (y ∷ ys) u some d o = (u.right some.0, kept-behind l y u ys d.0 o.1)

  front-gap : (d : ℕ) (xs : List ℕ) (r : ℕ) (u : HasUnlinked old new (last_or d xs) r) → Each Some xs → IsDistinct xs → Each (λ x. x ≢ r) xs → IsFrontGap old new xs r
  front-gap d [] r u some dist o = tt
  front-gap d (x ∷ []) r u some dist o = u.left some.0
  front-gap d (x ∷ z ∷ xs) r u some dist o =
      (u.rest x (last-other x z xs (λ e. dist.0.0 (sym e)) dist.0.1) o.0, front-gap x (z ∷ xs) r u some.1 dist.1 o.1)

  -- ---- a level whose nodes are different and none of which is 0

  module _ (xs : List ℕ) (n : ℕ) (ys : List ℕ) (some : Each Some (xs ++ n ∷ ys)) (distinct : IsDistinct (xs ++ n ∷ ys)) (u : HasUnlinked old new (last_or 0 xs) (first_of ys)) where
    some-x : Each Some xs
    some-x = each-left Some xs (n ∷ ys) some

    some-y : Each Some ys
    some-y = (each-right Some xs (n ∷ ys) some).1

    -- each of those before is other than each behind
    apart-by : (zs : List ℕ) → IsDistinct (zs ++ n ∷ ys) → Each (λ z. Each (IsOther z) ys) zs
    apart-by [] h = tt
    apart-by (z ∷ zs) h = ((each-right (IsOther z) zs (n ∷ ys) h.0).1, apart-by zs h.1)

    firsts : (zs : List ℕ) → Each Some zs → Each (λ z. Each (IsOther z) ys) zs → Each (λ z. z ≢ first_of ys) zs
    firsts [] a b = tt
    firsts (z ∷ zs) a b = (first-other z ys a.0 b.0, firsts zs a.1 b.1)

    zero-other : (zs : List ℕ) → Each Some zs → Each (IsOther 0) zs
    zero-other [] a = tt
    zero-other (z ∷ zs) a = (a.0, zero-other zs a.1)

    last-apart : (d : ℕ) (zs : List ℕ) → Each (IsOther d) ys → Each (λ z. Each (IsOther z) ys) zs → Each (IsOther (last_or d zs)) ys
    last-apart d [] a b = a
    last-apart d (z ∷ zs) a b = last-apart z zs b.0 b.1

    pub gap : HasGap old new (record { above = 0; front = xs; n = n; back = ys })
    gap =
        let apart = apart-by xs distinct in
        record {
          front = front-gap 0 xs (first_of ys) u some-x (distinct-left xs (n ∷ ys) distinct) (firsts xs some-x apart);
          back = back-gap (last_or 0 xs) ys u some-y (distinct-right xs (n ∷ ys) distinct).1 (last-apart 0 xs (zero-other ys some-y) apart);
        }

    -- a node that is none of the level is the same
    pub outside : (m : ℕ) → m ≢ 0 → Each (IsOther m) (xs ++ n ∷ ys) → IsKept old new m
    outside m ne o = u.rest m (last-other m 0 xs ne (each-left (IsOther m) xs (n ∷ ys) o)) (first-other m ys ne (each-right (IsOther m) xs (n ∷ ys) o).1)

-- ---- gaps in one store, and then another

module _ (old mid new : Store) where
  forward-later : (n to : ℕ) → IsForward old mid n to → IsKept mid new n → IsForward old new n to
  forward-later n to f k v is = k ∙ f v is

  backward-later : (n to : ℕ) → IsBackward old mid n to → IsKept mid new n → IsBackward old new n to
  backward-later n to f k v is = k ∙ f v is

  each-later : (ns : List ℕ) → Each (IsKept old mid) ns → Each (IsKept mid new) ns → Each (IsKept old new) ns
  each-later [] a b = tt
  each-later (n ∷ ns) a b = (b.0 ∙ a.0, each-later ns a.1 b.1)

  front-later : (xs : List ℕ) (r : ℕ) → IsFrontGap old mid xs r → Each (IsKept mid new) xs → IsFrontGap old new xs r
  front-later [] r f k = tt
  front-later (x ∷ []) r f k = forward-later x r f k.0
  front-later (x ∷ z ∷ xs) r f k = (k.0 ∙ f.0, front-later (z ∷ xs) r f.1 k.1)

  back-later : (l : ℕ) (ys : List ℕ) → IsBackGap old mid l ys → Each (IsKept mid new) ys → IsBackGap old new l ys
  back-later l [] f k = tt
  back-later l (y ∷ ys) f k = (backward-later y l f.0 k.0, each-later ys f.1 k.1)

  pub gap-later : (cut : Cut) → HasGap old mid cut → Each (IsKept mid new) (cut.front ++ cut.back) → HasGap old new cut
  gap-later cut h k = record {
    front = front-later cut.front (first_of cut.back) h.front (each-left (IsKept mid new) cut.front cut.back k);
    back = back-later (last_or 0 cut.front) cut.back h.back (each-right (IsKept mid new) cut.front cut.back k);
  }

  forward-sooner : (n to : ℕ) → IsKept old mid n → IsForward mid new n to → IsForward old new n to
  forward-sooner n to k f v is = f v (k ∙ is)

  backward-sooner : (n to : ℕ) → IsKept old mid n → IsBackward mid new n to → IsBackward old new n to
  backward-sooner n to k f v is = f v (k ∙ is)

  front-sooner : (xs : List ℕ) (r : ℕ) → Each (IsKept old mid) xs → IsFrontGap mid new xs r → IsFrontGap old new xs r
  front-sooner [] r k f = tt
  front-sooner (x ∷ []) r k f = forward-sooner x r k.0 f
  front-sooner (x ∷ z ∷ xs) r k f = (f.0 ∙ k.0, front-sooner (z ∷ xs) r k.1 f.1)

  back-sooner : (l : ℕ) (ys : List ℕ) → Each (IsKept old mid) ys → IsBackGap mid new l ys → IsBackGap old new l ys
  back-sooner l [] k f = tt
  back-sooner l (y ∷ ys) k f = (backward-sooner y l k.0 f.0, each-later ys k.1 f.1)

  pub gap-sooner : (cut : Cut) → Each (IsKept old mid) (cut.front ++ cut.back) → HasGap mid new cut → HasGap old new cut
  gap-sooner cut k h = record {
    front = front-sooner cut.front (first_of cut.back) (each-left (IsKept old mid) cut.front cut.back k) h.front;
    back = back-sooner (last_or 0 cut.front) cut.back (each-right (IsKept old mid) cut.front cut.back k) h.back;
  }

-- ---- one level after the other

abbrev pub AreUnlinked : List Cut → Store → Store → Type 0
AreUnlinked [] old new = old ≡ new
AreUnlinked (cut ∷ cs) old new = (mid : Store) × HasUnlinked old mid (last_or 0 cut.front) (first_of cut.back) × AreUnlinked cs mid new

-- what the steps give: each level is linked over its node, and nodes of no level are the same
pub record HasGaps (cs : List Cut) (old new : Store) : Type 0 where
  pub len : length new ≡ length old
  pub head : IsKept old new 0
  pub gaps : Each (HasGap old new) cs
  pub rest : (m : ℕ) → m ≢ 0 → Each (IsOther m) (numbers (flat_map with_node cs)) → IsKept old new m

no-gaps : (old new : Store) → old ≡ new → HasGaps [] old new
no-gaps old new e =
    let P : Store → Type 0 = λ s. HasGaps [] old s in
    subst P e (record { len = refl; head = refl; gaps = tt; rest = λ m ne o. refl })

-- numbers that are other than all of some are kept
keep-all : (old new : Store) (ns ms : List ℕ) → ((m : ℕ) → m ≢ 0 → Each (IsOther m) ms → IsKept old new m) → Each Some ns → Each (λ n. Each (IsOther n) ms) ns → Each (IsKept old new) ns
keep-all old new [] ms f s o = tt
keep-all old new (n ∷ ns) ms f s o = (f n s.0 o.0, keep-all old new ns ms f s.1 o.1)

pick : (P : ℕ → Type 0) (xs : List ℕ) (n : ℕ) (ys : List ℕ) → Each P (xs ++ n ∷ ys) → Each P (xs ++ ys)
pick P xs n ys h = each-append P xs ys (each-left P xs (n ∷ ys) h) (each-right P xs (n ∷ ys) h).1

shift : (old mid new : Store) (cs : List Cut) → Each (λ (cut : Cut). Each (IsKept old mid) (cut.front ++ cut.back)) cs → Each (HasGap mid new) cs → Each (HasGap old new) cs
shift old mid new [] k h = tt
shift old mid new (cut ∷ cs) k h = (gap-sooner old mid new cut k.0 h.0, shift old mid new cs k.1 h.1)

pub numbers-with : (cut : Cut) (cs : List Cut) → numbers (flat_map with_node (cut ∷ cs)) ≡ (cut.front ++ cut.n ∷ cut.back) ++ numbers (flat_map with_node cs)
numbers-with cut cs =
    map-append (λ (s : Spot). s.n) (with_node cut) (flat_map with_node cs)
    ∙ ap (λ (ns : List ℕ). ns ++ numbers (flat_map with_node cs)) (numbers-spots cut.above 0 (cut.front ++ cut.n ∷ cut.back))

-- what holds of all numbers of the levels holds beside the node of each
levels-of : (P : ℕ → Type 0) (cs : List Cut) → Each P (numbers (flat_map with_node cs)) → Each (λ (cut : Cut). Each P (cut.front ++ cut.back)) cs
levels-of P [] h = tt
levels-of P (cut ∷ cs) h =
    let Q : List ℕ → Type 0 = λ ns. Each P ns in
    let all = subst Q (numbers-with cut cs) h in
    (pick P cut.front cut.n cut.back (each-left P (cut.front ++ cut.n ∷ cut.back) (numbers (flat_map with_node cs)) all), levels-of P cs (each-right P (cut.front ++ cut.n ∷ cut.back) (numbers (flat_map with_node cs)) all))

pub all-gaps : (cs : List Cut) (old new : Store) → Each Some (numbers (flat_map with_node cs)) → IsDistinct (numbers (flat_map with_node cs)) → AreUnlinked cs old new → HasGaps cs old new
all-gaps [] old new some d u = no-gaps old new u
all-gaps (cut ∷ cs) old new some d u =
    let mid = u.0 in
    let step = u.1 in
    let level = cut.front ++ cut.n ∷ cut.back in
    let below = numbers (flat_map with_node cs) in
    let P : List ℕ → Type 0 = λ ns. Each Some ns in
    let Q : List ℕ → Type 0 = λ ns. IsDistinct ns in
    let some' = subst P (numbers-with cut cs) some in
    let d' = subst Q (numbers-with cut cs) d in
    let some-level = each-left Some level below some' in
    let some-below = each-right Some level below some' in
    let d-level = distinct-left level below d' in
    let rest = all-gaps cs mid new some-below (distinct-right level below d') u.2 in
    let here = gap old mid cut.front cut.n cut.back some-level d-level step in
    let kept-level = keep-all mid new level below rest.rest some-level (cross level below d') in
    let kept-below = keep-all old mid below level (outside old mid cut.front cut.n cut.back some-level d-level step) some-below (cross-back level below d') in
    record {
      len = rest.len ∙ step.len;
      head = rest.head ∙ step.head;
      gaps = (
        gap-later old mid new cut (record { front = here.front; back = here.back }) (pick (IsKept mid new) cut.front cut.n cut.back kept-level),
        shift old mid new cs (levels-of (IsKept old mid) cs kept-below) rest.gaps,
      );
      rest = λ m ne o.
          (let R : List ℕ → Type 0 = λ ns. Each (IsOther m) ns in
          let o' = subst R (numbers-with cut cs) o in
          rest.rest m ne (each-right (IsOther m) level below o') ∙ outside old mid cut.front cut.n cut.back some-level d-level step m ne (each-left (IsOther m) level below o'));
    }
