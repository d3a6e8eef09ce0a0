-- Each thing stands once in the order of the tree.
use Rattle.std.proofs.Common.{◌≡◌, ◌∙◌, ◌⊎◌, inl, inr, ⊎_elim, ℕ, zero, suc, ◌+◌, ◌-◌, ◌<◌, ◌≤◌, Bool, true, false, ◌==◌, List, [], ◌∷◌, ◌++◌, length, map, Option, None, Some, refl, sym, ap, subst, arith, append-nil, take, true≢false}
use Rattle.std.specs.Prelude.{◌&&◌, not, codes, drop, filter, if◌then◌else◌, min, nat_lt}
use Rattle.std.specs.List.{flat_map, range_with_len}
use Rattle.std.specs.Option.{unwrap_or}
use Rattle.std.specs.Str.{bytes_eq}
use Rattle.std.proofs.lemmas.Bool.{eqb-false, eqb-true, eq-eqb, lt-ltb, ltb-false, ltb-true, ne_eqb}
use Rattle.std.proofs.lemmas.List.{length-append, length-drop, length-take, map-append}
use Rattle.std.proofs.Math.Nat.{min-le_right}
use Rattle.std.proofs.lemmas.Option.{none-some}
use Rattle.std.proofs.lemmas.Slice.Eq.{bytes_eq-Decides}
use Rattle.hfs_catalog.specs.Indexes.{is_place}
use Rattle.hfs_catalog.proofs.Indexed.{found_within}
use Rattle.hfs_page.specs.Bases.{begins_with}
use Rattle.hfs_remains_places.specs.declared.things.Thing.{Thing}
use Rattle.hfs_remains_places.specs.Folders.{is_folder_of, place_of, thing_at}
use Rattle.hfs_remains_places.specs.Paths.{front_of, is_root, path, payload_path, root_of}
use Rattle.hfs_remains_places.specs.Things.{folder_of}
use Rattle.hfs_rescue_items.specs.Found.{path_at}
use Rattle.hfs_remains_page.specs.declared.steps.Step.{Step}
use Rattle.hfs_remains_page.specs.Trees.{apart, inside, lies_in, lost_node, no_node, old_node, own_path, top_node, tree_order, up, up_by, up_in, up_top, walk_from, walk_if}
use Rattle.hfs_remains_page.specs.Walks.{below, step_at, walk}
use Rattle.hfs_remains_page.proofs.CountLemmas.{Each, StandOnce, count, count-append, count-filter, gate, one_if, short, total, within-total}
use Rattle.hfs_remains_page.proofs.ForestLemmas.{IsLower, counted, found-nodes, nodes, walked, whole, whole-is}

-- ---- tests

off : (a b : ℕ) → (a ≡ b → ⊥) → one_if (a == b) ≡ 0
off a b apart = ap one_if (ne_eqb a b apart)

on : (a b : ℕ) → a ≡ b → one_if (a == b) ≡ 1
on a b same = ap one_if (eq-eqb a b same)

turned : (a b : ℕ) → (a == b) ≡ (b == a)
turned a b = by (a == b) refl
  where
    by : (t : Bool) → (a == b) ≡ t → (a == b) ≡ (b == a)
    by true e = e ∙ sym (eq-eqb b a (sym (eqb-true a b e)))
    by false e = e ∙ sym (ne_eqb b a (λ same. eqb-false a b e (sym same)))

each-filter : (P : ℕ → Type 0) (p : ℕ → Bool) (m a : ℕ) → ((j : ℕ) → a ≤ j → j < a + m → p j ≡ true → P j) → Each P (filter p (range_with_len a m))
each-filter P p zero a is = tt
each-filter P p (suc m) a is = by (p a) refl (each-filter P p m (a + 1) (λ j from to. is j (omega (arith, from)) (omega (arith, to))))
  where
    later : List ℕ
    later = filter p (range_with_len (a + 1) m)

    by : (b : Bool) → p a ≡ b → Each P later → Each P (if b then a ∷ later else later)
    by true e rest = (is a (omega arith) (omega arith) e, rest)
    by false e rest = rest

-- ---- paths

-- what stands before a path is no longer
begun-short : (url start : List ℕ) → begins_with url start ≡ true → length start ≤ length url
begun-short url start e =
    let same = (bytes_eq-Decides (take (length start) url) start).0 e in
    let long : length start ≡ min (length start) (length url) = sym (ap length same) ∙ length-take (length start) url in
    let short = min-le_right (length start) (length url) in
    omega (arith, long, short)

own-more : (b : Bool) (p : List ℕ) → (b ≡ true → 5 ≤ length p) → suc (length (own_path b p)) ≤ length (own_path b (p ++ codes "/"))
own-more true p some =
    let one : length (p ++ codes "/") ≡ length p + 1 = length-append p (codes "/") in
    let short : length (drop 5 p) ≡ length p - 5 = length-drop 5 p in
    let long : length (drop 5 (p ++ codes "/")) ≡ length (p ++ codes "/") - 5 = length-drop 5 (p ++ codes "/") in
    let five : 5 ≤ length p = some refl in
    omega (arith, one, short, long, five)
own-more false p some =
    let one : length (p ++ codes "/") ≡ length p + 1 = length-append p (codes "/") in
    let short : length (drop 0 p) ≡ length p - 0 = length-drop 0 p in
    let long : length (drop 0 (p ++ codes "/")) ≡ length (p ++ codes "/") - 0 = length-drop 0 (p ++ codes "/") in
    omega (arith, one, short, long)

module _ (things : List Thing) where
  abbrev n : ℕ
  n = length things

  abbrev top : ℕ
  top = top_node things

  abbrev is-root : ℕ → Bool
  is-root i = is_place (root_of things) i

  -- how long the paths are of what lies in a thing, at least
  abbrev long : ℕ → ℕ
  long i = length (own_path (thing_at things i).old (path_at things i ++ codes "/"))

  -- what has something above it has a longer path
  abbrev rank-by : Bool → ℕ → ℕ
  rank-by true i = suc (long i)
  rank-by false i = 0

  abbrev rank : ℕ → ℕ
  rank i = rank-by (nat_lt i n && not (is-root i)) i

  abbrev most : ℕ
  most = total long (range_with_len 0 n)

  abbrev height : ℕ → ℕ
  height i = suc most - rank i

  rank-few : (i : ℕ) → rank i ≤ suc (long i)
  rank-few i = by (nat_lt i n && not (is-root i))
    where
      by : (b : Bool) → rank-by b i ≤ suc (long i)
      by true = omega arith
      by false = omega arith

  rank-there : (i : ℕ) → i < n → is-root i ≡ false → rank i ≡ suc (long i)
  rank-there i within rootless = λ k. rank-by (lt-ltb i n within k && not (rootless k)) i

  past : (i : ℕ) → n ≤ i → nat_lt i n ≡ false
  past i far = by (nat_lt i n) refl
    where
      by : (b : Bool) → nat_lt i n ≡ b → nat_lt i n ≡ false
      by true e = absurd (omega (arith, far, ltb-true i n e))
      by false e = e

  rank-past : (i : ℕ) → n ≤ i → rank i ≡ 0
  rank-past i far = ap (λ (b : Bool). rank-by (b && not (is-root i)) i) (past i far)

  rank-root : (i : ℕ) → is-root i ≡ true → rank i ≡ 0
  rank-root i rooted = ap (λ (b : Bool). rank-by (nat_lt i n && not b) i) rooted ∙ by (nat_lt i n)
    where
      by : (b : Bool) → rank-by (b && false) i ≡ 0
      by true = refl
      by false = refl

  rank-most : (i : ℕ) → rank i ≤ suc most
  rank-most i = by (nat_lt i n) refl
    where
      by : (b : Bool) → nat_lt i n ≡ b → rank i ≤ suc most
      by true e =
          let few = rank-few i in
          let held : long i ≤ most = within-total long n 0 i (omega arith) (omega (arith, ltb-true i n e)) in
          omega (arith, few, held)
      by false e = let none = rank-past i (omega (arith, ltb-false i n e)) in omega (arith, none)

  -- ---- what a thing stands below

  root-is : (o : Option ℕ) (i : ℕ) → is_place o i ≡ true → unwrap_or o n ≡ i
  root-is None i e = absurd (true≢false (sym e))
  root-is (Some r) i e = eqb-true r i e

  root-not : (o : Option ℕ) (i : ℕ) → i < n → is_place o i ≡ false → unwrap_or o n ≡ i → ⊥
  root-not None i within e same = absurd (omega (arith, within, same))
  root-not (Some r) i within e same = eqb-false r i e same

  top-by : (o : Option ℕ) → root_of things ≡ o → (unwrap_or o n < n) ⊎ (unwrap_or o n ≡ n)
  top-by None e = inr refl
  top-by (Some r) e = inl (found_within is_root things r e)

  top-is : (top < n) ⊎ (top ≡ n)
  top-is = top-by (root_of things) refl

  top-few : top ≤ n
  top-few = ⊎_elim (λ (lt : top < n). omega (arith, lt)) (λ (e : top ≡ n). omega (arith, e)) top-is

  rank-top : rank top ≡ 0
  rank-top = by (root_of things) refl
    where
      by : (o : Option ℕ) → root_of things ≡ o → rank (unwrap_or o n) ≡ 0
      by None e = rank-past n (omega arith)
      by (Some r) e = rank-root r (ap (λ (p : Option ℕ). is_place p r) e ∙ eq-eqb r r refl)

  rank-apart : (i : ℕ) → rank (apart things i) ≡ 0
  rank-apart i = by (thing_at things i).old
    where
      by : (b : Bool) → rank (if b then old_node things else lost_node things) ≡ 0
      by true = rank-past (old_node things) (omega arith)
      by false = rank-past (lost_node things) (omega arith)

  -- a path with what old things lie below has five bytes at least
  path-long : (i : ℕ) → i < n → is-root i ≡ false → (thing_at things i).old ≡ true → 5 ≤ length (path_at things i)
  unfolding payload_path
  path-long i within rootless old =
      let is : path_at things i ≡ codes "=old/" ++ path things i =
      λ k. if lt-ltb i n within k then (if rootless k then [] else (if old k then codes "=old/" else []) ++ path things i) else [] in
      let whole-long : length (path_at things i) ≡ 5 + length (path things i) = ap length is ∙ length-append (codes "=old/") (path things i) in
      omega (arith, whole-long)

  lies-long : (i q : ℕ) → lies_in things i q ≡ true → long q ≤ length (own_path (thing_at things i).old (path_at things i))
  unfolding lies_in
  lies-long i q e =
      begun-short (own_path (thing_at things i).old (path_at things i)) (own_path (thing_at things q).old (path_at things q ++ codes "/")) e

  up-lower : (i : ℕ) → i < n → is-root i ≡ false → (folder : Option ℕ) → rank (up_by things i folder) ≤ long i
  up-lower i within rootless None = by (((thing_at things i).parent == 2) && not (thing_at things i).old)
    where
      by : (b : Bool) → rank (if b then top_node things else apart things i) ≤ long i
      by true = let none = rank-top in omega (arith, none)
      by false = let none = rank-apart i in omega (arith, none)
  up-lower i within rootless (Some q) = by (lies_in things i q) refl ((thing_at things i).old && not (thing_at things q).old)
    where
      by : (b : Bool) → lies_in things i q ≡ b → (c : Bool) → rank (if b then (if c then old_node things else q) else apart things i) ≤ long i
      by true e true = let none = rank-past (old_node things) (omega arith) in omega (arith, none)
      by true e false =
          let few = rank-few q in
          let held = lies-long i q e in
          let more = own-more (thing_at things i).old (path_at things i) (path-long i within rootless) in
          omega (arith, few, held, more)
      by false e c = let none = rank-apart i in omega (arith, none)

  up-is : (i : ℕ) (b : Bool) → is-root i ≡ b → up things i ≡ (if b then no_node things else up_by things i (folder_of things (thing_at things i).parent))
  unfolding up
  up-is i b e = ap (λ (t : Bool). if t then no_node things else up_by things i (folder_of things (thing_at things i).parent)) e

  rises : (i : ℕ) → i < n → is-root i ≡ false → rank (up things i) < rank i
  rises i within rootless =
      let is : rank (up things i) ≡ rank (up_by things i (folder_of things (thing_at things i).parent)) = ap rank (up-is i false rootless) in
      let own = rank-there i within rootless in
      let few = up-lower i within rootless (folder_of things (thing_at things i).parent) in
      omega (arith, is, own, few)

  -- ---- where the ways up end

  abbrev base : ℕ → ℕ
  base j = one_if (top == j) + (one_if (lost_node things == j) + one_if (old_node things == j))

  base-top : top ≡ n → base top ≡ 1
  base-top is =
      let one = on top top refl in
      let two = off (lost_node things) top (λ e. absurd (omega (arith, e, is))) in
      let three = off (old_node things) top (λ e. absurd (omega (arith, e, is))) in
      omega (arith, one, two, three)

  base-lost : base (lost_node things) ≡ 1
  base-lost =
      let few = top-few in
      let one = off top (lost_node things) (λ e. absurd (omega (arith, e, few))) in
      let two = on (lost_node things) (lost_node things) refl in
      let three = off (old_node things) (lost_node things) (λ e. absurd (omega (arith, e))) in
      omega (arith, one, two, three)

  base-old : base (old_node things) ≡ 1
  base-old =
      let few = top-few in
      let one = off top (old_node things) (λ e. absurd (omega (arith, e, few))) in
      let two = off (lost_node things) (old_node things) (λ e. absurd (omega (arith, e))) in
      let three = on (old_node things) (old_node things) refl in
      omega (arith, one, two, three)

  base-past : (j : ℕ) → no_node things ≤ j → base j ≡ 0
  base-past j far =
      let few = top-few in
      let one = off top j (λ e. absurd (omega (arith, e, few, far))) in
      let two = off (lost_node things) j (λ e. absurd (omega (arith, e, far))) in
      let three = off (old_node things) j (λ e. absurd (omega (arith, e, far))) in
      omega (arith, one, two, three)

  base-within : (j : ℕ) → j < n → base j ≡ one_if (top == j)
  base-within j within =
      let two = off (lost_node things) j (λ e. absurd (omega (arith, e, within))) in
      let three = off (old_node things) j (λ e. absurd (omega (arith, e, within))) in
      omega (arith, two, three)

  few-one : (b : Bool) → one_if b ≤ 1
  few-one true = omega arith
  few-one false = omega arith

  base-other : (j : ℕ) → one_if (top == j) ≡ 0 → (b : Bool) → (lost_node things == j) ≡ b → base j ≤ 1
  base-other j one true e =
      let same : lost_node things ≡ j = eqb-true (lost_node things) j e in
      let two : one_if (lost_node things == j) ≡ 1 = ap one_if e in
      let three = off (old_node things) j (λ s. absurd (omega (arith, s, same))) in
      omega (arith, one, two, three)
  base-other j one false e =
      let two : one_if (lost_node things == j) ≡ 0 = ap one_if e in
      let three = few-one (old_node things == j) in
      omega (arith, one, two, three)

  base-by : (j : ℕ) (b : Bool) → (top == j) ≡ b → base j ≤ 1
  base-by j true e =
      let same : top ≡ j = eqb-true top j e in
      let few = top-few in
      let one : one_if (top == j) ≡ 1 = ap one_if e in
      let two = off (lost_node things) j (λ s. absurd (omega (arith, s, same, few))) in
      let three = off (old_node things) j (λ s. absurd (omega (arith, s, same, few))) in
      omega (arith, one, two, three)
  base-by j false e = base-other j (ap one_if e) (lost_node things == j) refl

  base-few : (j : ℕ) → base j ≤ 1
  base-few j = base-by j (top == j) refl

  abbrev End : ℕ → Type 0
  End u = (u < n) ⊎ (base u ≡ 1)

  end-top : End top
  end-top = ⊎_elim (λ (lt : top < n). inl lt) (λ (e : top ≡ n). inr (base-top e)) top-is

  end-apart : (i : ℕ) → End (apart things i)
  end-apart i = by (thing_at things i).old
    where
      by : (b : Bool) → End (if b then old_node things else lost_node things)
      by true = inr base-old
      by false = inr base-lost

  folder-within : (number q : ℕ) → folder_of things number ≡ Some q → q < n
  folder-within number q is = by (number == 2) is
    where
      by : (b : Bool) → (if b then None else place_of things number) ≡ Some q → q < n
      by true e = absurd (none-some q e)
      by false e = found_within (is_folder_of number) things q e

  up-ends : (i : ℕ) (folder : Option ℕ) → folder_of things (thing_at things i).parent ≡ folder → End (up_by things i folder)
  up-ends i None e = by (((thing_at things i).parent == 2) && not (thing_at things i).old)
    where
      by : (b : Bool) → End (if b then top_node things else apart things i)
      by true = end-top
      by false = end-apart i
  up-ends i (Some q) e = by (lies_in things i q) ((thing_at things i).old && not (thing_at things q).old)
    where
      by : (b c : Bool) → End (if b then (if c then old_node things else q) else apart things i)
      by true true = inr base-old
      by true false = inl (folder-within (thing_at things i).parent q e)
      by false c = end-apart i

  ends : (i : ℕ) → is-root i ≡ false → End (up things i)
  ends i rootless = subst End (sym (up-is i false rootless)) (up-ends i (folder_of things (thing_at things i).parent) refl)

  -- ---- what stands below a node

  inside-is : (x : ℕ) (b : Bool) → nat_lt x (n + 3) ≡ b → inside things x ≡ (if b then below (up things) n x else [])
  unfolding inside
  inside-is x b e = ap (λ (t : Bool). if t then below (up things) n x else []) e

  lower : (x j : ℕ) → x < n + 3 → j < n → up things j ≡ x → IsLower height n x j
  lower x j few within is = by (is-root j) refl
    where
      by : (b : Bool) → is-root j ≡ b → IsLower height n x j
      by true e = let none : up things j ≡ n + 3 = up-is j true e in absurd (omega (arith, none, is, few))
      by false e =
          let more : rank (up things j) < rank j = rises j within e in
          let same : rank (up things j) ≡ rank x = ap rank is in
          let bound = rank-most j in
          (omega (arith, more, same, bound), within)

  down : (x : ℕ) → Each (IsLower height n x) (inside things x)
  down x = by (nat_lt x (n + 3)) refl
    where
      by : (b : Bool) → nat_lt x (n + 3) ≡ b → Each (IsLower height n x) (inside things x)
      by true e =
          subst (Each (IsLower height n x)) (sym (inside-is x true e))
          (each-filter (IsLower height n x) (λ i. up things i == x) n 0 (λ j from to is. lower x j (ltb-true x (n + 3) e) (omega (arith, to)) (eqb-true (up things j) x is)))
      by false e = subst (Each (IsLower height n x)) (sym (inside-is x false e)) tt

  held : (x j : ℕ) → x < n + 3 → count j (inside things x) ≡ gate (nat_lt j n) (one_if (x == up things j))
  held x j few =
      let bare : 0 + n ≡ n = omega arith in
      ap (count j) (inside-is x true (lt-ltb x (n + 3) few)) ∙ count-filter (λ i. up things i == x) n 0 j (omega arith)
      ∙ (λ k. gate (nat_lt j (bare k)) (one_if (turned (up things j) x k)))

  -- ---- how often the way comes to a node

  abbrev all : ℕ → List ℕ
  all x = whole (inside things) height n down x

  abbrev times : ℕ → ℕ
  times j = count j (all top) + (count j (all (lost_node things)) + count j (all (old_node things)))

  sum-three : (a b c x y z : ℕ) → (a + x) + ((b + y) + (c + z)) ≡ (a + (b + c)) + (x + (y + z))
  sum-three a b c x y z = omega arith

  gate-three : (b : Bool) (x y z : ℕ) → gate b x + (gate b y + gate b z) ≡ gate b (x + (y + z))
  gate-three true x y z = refl
  gate-three false x y z = omega arith

  counted-at : (x j : ℕ) → x < n + 3 → count j (all x) ≡ one_if (x == j) + gate (nat_lt j n) (count (up things j) (all x))
  counted-at = counted (inside things) height n down (up things) (n + 3) (omega arith) held

  times-step : (j : ℕ) → times j ≡ base j + gate (nat_lt j n) (times (up things j))
  times-step j =
      let few = top-few in
      (λ k. counted-at top j (omega (arith, few)) k + (counted-at (lost_node things) j (omega arith) k + counted-at (old_node things) j (omega arith) k))
      ∙ sum-three (one_if (top == j)) (one_if (lost_node things == j)) (one_if (old_node things == j))
      (gate (nat_lt j n) (count (up things j) (all top))) (gate (nat_lt j n) (count (up things j) (all (lost_node things)))) (gate (nat_lt j n) (count (up things j) (all (old_node things))))
      ∙ ap (λ (m : ℕ). base j + m) (gate-three (nat_lt j n) (count (up things j) (all top)) (count (up things j) (all (lost_node things))) (count (up things j) (all (old_node things))))

  times-past : (j : ℕ) → n ≤ j → times j ≡ base j
  times-past j far =
      let is = times-step j ∙ ap (λ (b : Bool). base j + gate b (times (up things j))) (past j far) in
      omega (arith, is)

  times-within : (j : ℕ) → j < n → times j ≡ base j + times (up things j)
  times-within j within = times-step j ∙ ap (λ (b : Bool). base j + gate b (times (up things j))) (lt-ltb j n within)

  -- what is above stands once
  above-once : (j : ℕ) → is-root j ≡ false → (t : Bool) → nat_lt (up things j) n ≡ t → (up things j < n → times (up things j) ≡ 1) → times (up things j) ≡ 1
  above-once j rootless true e higher = higher (ltb-true (up things j) n e)
  above-once j rootless false e higher =
      let far = ltb-false (up things j) n e in
      times-past (up things j) far ∙ ⊎_elim (λ (lt : up things j < n). absurd (omega (arith, lt, far))) (λ (one : base (up things j) ≡ 1). one) (ends j rootless)

  step-once : (j : ℕ) → j < n → (r : Bool) → is-root j ≡ r → (r ≡ false → up things j < n → times (up things j) ≡ 1) → times j ≡ 1
  step-once j within true e higher =
      let is = times-within j within in
      let one : base j ≡ 1 = base-within j within ∙ on top j (root-is (root_of things) j e) in
      let above : up things j ≡ no_node things = up-is j true e in
      let none : times (up things j) ≡ 0 = ap times above ∙ times-past (no_node things) (omega arith) ∙ base-past (no_node things) (omega arith) in
      omega (arith, is, one, none)
  step-once j within false e higher =
      let is = times-within j within in
      let none : base j ≡ 0 = base-within j within ∙ off top j (root-not (root_of things) j within e) in
      let above : times (up things j) ≡ 1 = above-once j e (nat_lt (up things j) n) refl (higher refl) in
      omega (arith, is, none, above)

  once-by : (b j : ℕ) → j < n → rank j < b → times j ≡ 1
  once-by zero j within lt = absurd (omega (arith, lt))
  once-by (suc b) j within lt =
      step-once j within (is-root j) refl (λ rootless lower. let less = rises j within rootless in once-by b (up things j) lower (omega (arith, less, lt)))

  once : (j : ℕ) → j < n → times j ≡ 1
  once j within = once-by (suc (rank j)) j within (omega arith)

  -- ---- the way is long enough

  times-few : (j : ℕ) → times j ≤ one_if (nat_lt j (n + 3))
  times-few j = by (nat_lt j n) refl
    where
      ahead : (b : Bool) → nat_lt j (n + 3) ≡ b → n ≤ j → times j ≤ one_if b
      ahead true e far = let is = times-past j far in let few = base-few j in omega (arith, is, few)
      ahead false e far = let is = times-past j far in let none = base-past j (ltb-false j (n + 3) e) in omega (arith, is, none)

      by : (b : Bool) → nat_lt j n ≡ b → times j ≤ one_if (nat_lt j (n + 3))
      by true e =
          let within = ltb-true j n e in
          let one = once j within in
          let there : one_if (nat_lt j (n + 3)) ≡ 1 = ap one_if (lt-ltb j (n + 3) (omega (arith, within))) in
          omega (arith, one, there)
      by false e = ahead (nat_lt j (n + 3)) refl (ltb-false j n e)

  top-once : StandOnce (n + 3) (all top)
  top-once j = let few = times-few j in omega (arith, few)

  lost-once : StandOnce (n + 3) (all (lost_node things))
  lost-once j = let few = times-few j in omega (arith, few)

  old-once : StandOnce (n + 3) (all (old_node things))
  old-once j = let few = times-few j in omega (arith, few)

  way-is : (x : ℕ) → StandOnce (n + 3) (all x) → nodes (walk_from things x) ≡ all x ++ []
  unfolding walk_from
  way-is x stands =
      walked (inside things) height n down (n + 3) (step_at (inside things) 0 x ∷ [])
      (let bare : length (all x ++ []) ≡ length (all x) = ap length (append-nil (all x)) in let few = short (n + 3) (all x) stands in omega (arith, bare, few))

  way-count : (x j : ℕ) → StandOnce (n + 3) (all x) → count j (nodes (walk_from things x)) ≡ count j (all x)
  way-count x j stands = ap (count j) (way-is x stands ∙ append-nil (all x))

  if-count : (x j : ℕ) → j < n → n ≤ x → StandOnce (n + 3) (all x) → count j (nodes (walk_if things x)) ≡ count j (all x)
  if-count x j within far stands = by (inside things x) refl
    where
      by : (l : List ℕ) → inside things x ≡ l → count j (nodes (if length l == 0 then [] else walk_from things x)) ≡ count j (all x)
      by [] e =
          let only : all x ≡ x ∷ [] = whole-is (inside things) height n down x ∙ ap (λ (l : List ℕ). x ∷ flat_map (whole (inside things) height n down) l) e in
          let none : one_if (x == j) ≡ 0 = off x j (λ s. absurd (omega (arith, s, within, far))) in
          sym (ap (count j) only ∙ ap (λ (m : ℕ). m + 0) none)
      by (y ∷ l) e =
          ap (λ (b : Bool). count j (nodes (if b then [] else walk_from things x))) (ne_eqb (suc (length l)) 0 (λ none. absurd (omega (arith, none)))) ∙ way-count x j stands

  order-count : (j : ℕ) → j < n → count j (nodes (tree_order things)) ≡ times j
  unfolding tree_order
  order-count j within =
      let one = walk_from things top in
      let two = walk_if things (lost_node things) in
      let three = walk_if things (old_node things) in
      let split : nodes (tree_order things) ≡ (nodes one ++ nodes two) ++ nodes three =
      map-append (λ (s : Step). s.node) (one ++ two) three ∙ ap (λ (l : List ℕ). l ++ nodes three) (map-append (λ (s : Step). s.node) one two) in
      let sum : count j (nodes (tree_order things)) ≡ (count j (nodes one) + count j (nodes two)) + count j (nodes three) =
      ap (count j) split ∙ count-append j (nodes one ++ nodes two) (nodes three) ∙ ap (λ (m : ℕ). m + count j (nodes three)) (count-append j (nodes one) (nodes two)) in
      let first = way-count top j top-once in
      let second = if-count (lost_node things) j within (omega arith) lost-once in
      let third = if-count (old_node things) j within (omega arith) old-once in
      omega (arith, sum, first, second, third)

pub things-stand-once : (things : List Thing) (i : ℕ) → i < length things → length (filter (λ (s : Step). s.node == i) (tree_order things)) ≡ 1
things-stand-once things i within = found-nodes i (tree_order things) ∙ order-count things i within ∙ once things i within
