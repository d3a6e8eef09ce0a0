-- A pair that is taken out, with a chain of nodes below it or none.
use Rattle.std.proofs.Common.{◌≡◌, ℕ, zero, suc, ◌+◌, ◌-◌, ◌<◌, ◌≤◌, List, [], ◌∷◌, ◌++◌, length, get_or, take, drop, refl, sym, ap, ◌∙◌, subst, arith, length-append, length-drop}
use Rattle.std.specs.Prelude.{Option, Some, None}
use Rattle.std.specs.Cmp.{IsTotalOrder}
use Rattle.std.specs.List.{flat_map}
use Rattle.std.proofs.lemmas.List.{length-map, take_all}
use Rattle.hfs_btree_removal.specs.declared.down.Step.{Step}
use Rattle.hfs_btree.specs.declared.key.Key.{Ghosts}
use Rattle.hfs_btree.specs.Pairs.{Pairs}
use Rattle.hfs_btree.specs.Tree.{Store, node_in, records_in, records_of, pair_of, pairs, last_level}
use Rattle.hfs_btree.specs.Header.{header_in, record_in, depth_of, root_level, leaves}
use Rattle.hfs_btree.specs.Sound.{IsRight, IsSound, IsExact}
use Rattle.hfs_btree.proofs.DecodedLemmas.{decoded-within}
use Rattle.hfs_btree.proofs.DescentLemmas.{content-about}
use Rattle.hfs_btree_removal.proofs.RemovalLemmas.{HasTold}
use Rattle.hfs_btree_removal.specs.Removal.{IsPassedUp, HasTakenOut, HasDetached, HasRecordTaken, AreUnlinkable, AreStepsUnlinked, AreReleased, AreSettable, AreStray, IsWayBelow, HasToldAbove}
use Rattle.hfs_btree_removal.specs.Ways.{IsWayTo, IsLastWide}
use Rattle.hfs_btree_removal.proofs.ChainOut.{gaps, chain-can, chain-take, chain-sound, chain-settable, chain-told, chain-exact, chain-same, chain-stray, chain-out}
use Rattle.hfs_btree_removal.proofs.LeafOut.{leaf-take, leaf-sound, leaf-settable, leaf-told, leaf-exact, leaf-same, leaf-out}
use Rattle.hfs_btree_removal.proofs.Ends.{CanTake}
use Rattle.hfs_btree_removal.proofs.Firsts.{at-level}
use Rattle.hfs_btree_removal.proofs.Passed.{high, told-none}
use Rattle.hfs_btree_removal.proofs.ReleasedSteps.{nodes-of}
use Rattle.hfs_btree_removal.proofs.WayLevels.{high-is, leads-level}
use Rattle.hfs_btree_removal.proofs.WayOut.{deep-by, at}
use Rattle.hfs_btree_removal.proofs.KeysSet.{no-step}

module _ {K : Type 0} (g : Ghosts K) (total : IsTotalOrder g.compare) (old : Store) (sound : IsSound g old) (above : List Step) (p : Step) where
  pub can-unlink : (chain : List Step) → IsWayBelow g old above p chain → AreUnlinkable old chain
  can-unlink [] w = tt
  can-unlink (s ∷ bs) w = chain-can g total old sound above p s bs w

  pub take-can : (chain : List Step) → IsWayBelow g old above p chain → (one : Store) → AreStepsUnlinked old chain old one → CanTake g one p
  take-can [] w one u = leaf-take g total old sound above p w one u
  take-can (s ∷ bs) w one u = chain-take g total old sound above p s bs w one u

  same-head : (chain : List Step) → IsWayBelow g old above p chain → (one : Store) → AreStepsUnlinked old chain old one → node_in one 0 ≡ node_in old 0
  same-head [] w one u = ap (λ (s : Store). node_in s 0) (sym u)
  same-head (s ∷ bs) w one u = (gaps g total old sound above p s bs w one u).head

  module _ (chain : List Step) (w : IsWayBelow g old above p chain) where
    spot : (l : ℕ) × (r : ℕ) × IsRight g old (record { left = l; n = p.node; right = r; above = length chain })
    spot =
        let a = at g old above p chain w in
        let s = at-level g old (high above zero) (length chain) (deep-by g old above p chain w (length chain) refl) a.before p.node a.behind a.split (IsRight g old) sound.structure.levels.each in
        (s.0, Rattle.hfs_btree.specs.Tree.first_of a.behind, s.1)

    leaf-split : leaves g old ≡ (leads-level g old w.way.above [] (header_in old).root [] w.way.last.node w.way.leads).before ++ w.way.last.node ∷ (leads-level g old w.way.above [] (header_in old).root [] w.way.last.node w.way.leads).behind
    leaf-split =
        let flat : depth_of old ≡ suc (high w.way.above zero) = omega (arith, w.way.long, high-is w.way.above zero) in
        ap (λ (d : ℕ). last_level g old d (root_level old)) flat ∙ (leads-level g old w.way.above [] (header_in old).root [] w.way.last.node w.way.leads).split

    pub records-some : 1 ≤ (header_in old).records
    records-some =
        let a = leads-level g old w.way.above [] (header_in old).root [] w.way.last.node w.way.leads in
        let n = w.way.last.node in
        let all = ap (λ (ps : Pairs K). length ps) (content-about g old a.before n a.behind leaf-split) in
        let c = sound.counts.records in
        let lt = w.way.leaf.within in
        let few = w.way.leaf.count in
        omega (
          arith,
          all,
          c,
          lt,
          few,
          length-append (flat_map (pairs g old) a.before) (pairs g old n ++ flat_map (pairs g old) a.behind),
          length-append (pairs g old n) (flat_map (pairs g old) a.behind),
          length-map (records_in old n) (pair_of g),
        )

    module _ (one two : Store) (u : AreStepsUnlinked old chain old one) (taken : HasRecordTaken p.node p.place one two) where
      head-two : node_in two 0 ≡ node_in old 0
      head-two = taken.stored.rest 0 (λ e. absurd (let some = spot.2.within.0 in omega arith)) ∙ same-head chain w one u

      pub put-within : 0 < length two
      put-within = let v = sound.structure.header in decoded-within two 0 v.value (head-two ∙ v.decodes)

      pub put-long : 30 ≤ length (record_in two 0 0)
      put-long = let e = ap (λ r. length (get_or (records_of r) 0 [])) head-two in let long = sound.structure.header.long in omega arith

  -- ---- behind the writes

  pub out-settable : (chain : List Step) (w : IsWayBelow g old above p chain) (three : Store) (changed : Option K) → HasDetached g p chain old three changed → AreSettable g three above
  out-settable [] w three changed d = leaf-settable g total old sound above p w three changed d
  out-settable (s ∷ bs) w three changed d = chain-settable g total old sound above p s bs w three changed d

  -- what was told above
  pub record IsToldAbove (three four : Store) : Type 0 where
    pub told : HasTold g three four
    pub exact : IsExact g old → IsExact g four

  pub out-told : (chain : List Step) (w : IsWayBelow g old above p chain) (three : Store) (changed : Option K) (d : HasDetached g p chain old three changed) (t : K) → changed ≡ Some t → (four : Store) → IsPassedUp g t above three four → IsToldAbove three four
  out-told [] w three changed d t is four up = record { told = leaf-told g total old sound above p w three changed d t is four up; exact = leaf-exact g total old sound above p w three changed d t is four up }
  out-told (s ∷ bs) w three changed d t is four up = record {
    told = chain-told g total old sound above p s bs w three changed d t is four up;
    exact = chain-exact g total old sound above p s bs w three changed d t is four up;
  }

  pub out-same : (chain : List Step) (w : IsWayBelow g old above p chain) (three : Store) (changed : Option K) (d : HasDetached g p chain old three changed) → changed ≡ None → IsToldAbove three three
  out-same [] w three changed d is = record { told = told-none g three (leaf-sound g total old sound above p w three changed d); exact = leaf-same g total old sound above p w three changed d is }
  out-same (s ∷ bs) w three changed d is = record {
    told = told-none g three (chain-sound g total old sound above p s bs w three changed d);
    exact = chain-same g total old sound above p s bs w three changed d is;
  }

  pub told-any : (chain : List Step) (w : IsWayBelow g old above p chain) (three : Store) (changed : Option K) (d : HasDetached g p chain old three changed) (four : Store) → HasToldAbove g changed above three four → IsToldAbove three four
  told-any chain w three None d four t = let P : Store → Type 0 = λ s. IsToldAbove three s in subst P (sym t) (out-same chain w three None d refl)
  told-any chain w three (Some k) d four t = out-told chain w three (Some k) d k refl four t

  pub out-stray : (chain : List Step) (w : IsWayBelow g old above p chain) (three : Store) (changed : Option K) (d : HasDetached g p chain old three changed) (four : Store) → IsToldAbove three four → AreStray g four chain
  out-stray [] w three changed d four a = tt
  out-stray (s ∷ bs) w three changed d four a = chain-stray g total old sound above p s bs w three changed d four a.told

  pub out-whole : (chain : List Step) (w : IsWayBelow g old above p chain) (three : Store) (changed : Option K) (d : HasDetached g p chain old three changed) (four : Store) → IsToldAbove three four → (new : Store)
      → AreReleased g (nodes-of chain) four new → HasTakenOut g (above ++ p ∷ chain) old new
  out-whole [] w three changed d four a new given =
      let P : Store → Type 0 = λ s. HasTakenOut g (above ++ p ∷ []) old s in
      subst P given (leaf-out g total old sound above p w three changed d four a.told a.exact)
  out-whole (s ∷ bs) w three changed d four a new given = chain-out g total old sound above p s bs w three changed d four a.told a.exact new given

take-front : (xs ys : List Step) → take (length xs) (xs ++ ys) ≡ xs
take-front [] ys = refl
take-front (x ∷ xs) ys = ap (λ (zs : List Step). x ∷ zs) (take-front xs ys)

get-middle : (xs : List Step) (y : Step) (ys : List Step) → get_or (xs ++ y ∷ ys) (length xs) no-step ≡ y
get-middle [] y ys = refl
get-middle (x ∷ xs) y ys = get-middle xs y ys

drop-back : (xs : List Step) (y : Step) (ys : List Step) → drop (suc (length xs)) (xs ++ y ∷ ys) ≡ ys
drop-back [] y ys = refl
drop-back (x ∷ xs) y ys = drop-back xs y ys

module _ (steps : List Step) (wide : ℕ) (l : IsLastWide steps wide) where
  front-is : take wide steps ≡ l.before
  front-is = ap (λ (n : ℕ). take n steps) (sym l.long) ∙ ap (take (length l.before)) l.split ∙ take-front l.before (l.wide ∷ l.behind)

  middle-is : get_or steps wide no-step ≡ l.wide
  middle-is = ap (λ (n : ℕ). get_or steps n no-step) (sym l.long) ∙ ap (λ (ss : List Step). get_or ss (length l.before) no-step) l.split ∙ get-middle l.before l.wide l.behind

  back-is : drop (wide + 1) steps ≡ l.behind
  back-is =
      let e : wide + 1 ≡ suc (length l.before) = omega (arith, l.long) in
      ap (λ (n : ℕ). drop n steps) e ∙ ap (drop (suc (length l.before))) l.split ∙ drop-back l.before l.wide l.behind

  -- as a slice is cut
  abbrev pub back : List Step
  back = take (length steps - (wide + 1)) (drop (wide + 1) steps)

  back-whole : back ≡ drop (wide + 1) steps
  back-whole = take_all (length steps - (wide + 1)) (drop (wide + 1) steps) (omega (arith, length-drop (wide + 1) steps))

  pub steps-are : take wide steps ++ get_or steps wide no-step ∷ back ≡ steps
  steps-are =
      ap (λ (ss : List Step). ss ++ get_or steps wide no-step ∷ back) front-is
      ∙ ap (λ (s : Step). l.before ++ s ∷ back) middle-is
      ∙ ap (λ (ss : List Step). l.before ++ l.wide ∷ ss) (back-whole ∙ back-is)
      ∙ sym l.split

  pub way-below : {K : Type 0} (g : Ghosts K) (old : Store) (t : K) → IsWayTo g old t steps → IsWayBelow g old (take wide steps) (get_or steps wide no-step) back
  way-below g old t way =
      let P : List Step → Type 0 = λ ss. IsWayTo g old t ss in
      let Q : List Step → Type 0 = λ ss. Rattle.hfs_fields.specs.Each.Each (λ s. s.count ≤ 1) ss in
      record {
        key = t;
        way = subst P (sym steps-are) way;
        more = (let e = ap (λ (s : Step). s.count) middle-is in let m = l.more in omega arith);
        ones = subst Q (sym (back-whole ∙ back-is)) l.ones;
      }
