-- A pair that is taken out at the end of a way: what all ways have in common.
use Rattle.std.proofs.Common.{◌≡◌, ℕ, zero, suc, ◌<◌, ◌≤◌, List, [], ◌∷◌, ◌++◌, length, get_or, refl, sym, ap, ◌∙◌, subst, arith, length-append}
use Rattle.std.specs.Prelude.{remove}
use Rattle.std.specs.Cmp.{IsTotalOrder}
use Rattle.std.specs.declared.cmp.Ordering.TheVariants.{Less, Equal}
use Rattle.hfs_btree_removal.specs.declared.down.Step.{Step}
use Rattle.hfs_btree.specs.declared.key.Key.{Ghosts}
use Rattle.hfs_fields.specs.Each.{Each}
use Rattle.hfs_fields.specs.Members.{In}
use Rattle.hfs_btree.proofs.LookupLemmas.{le-lt}
use Rattle.hfs_btree.specs.Tree.{Store, Spot, records_in, records_of, under}
use Rattle.hfs_btree.specs.Header.{header_in, depth_of, root_level}
use Rattle.hfs_btree.specs.Sound.{IsSound, IsExact, first_key}
use Rattle.hfs_btree_removal.proofs.RemovalLemmas.{HasTold}
use Rattle.hfs_btree_removal.specs.Removal.{IsPassedUp, AreSettable, IsWayBelow}
use Rattle.hfs_btree_removal.specs.Ways.{IsStep, Leads, IsWayTo}
use Rattle.hfs_btree_removal.proofs.ExactBut.{IsExactBut}
use Rattle.hfs_btree_edits.specs.LevelParts.{lift}
use Rattle.hfs_btree_edits.proofs.LevelPartLemmas.{lift-is, upper}
use Rattle.hfs_btree_removal.proofs.Links.{IsKept}
use Rattle.hfs_btree_removal.proofs.Passed.{high, IsLower}
use Rattle.hfs_btree_removal.proofs.Overs.{IsUnder, over, settable}
use Rattle.hfs_btree_removal.proofs.ToldUp.{up-told, up-exact}
use Rattle.hfs_btree_removal.proofs.WayLevels.{high-is, IsDown, down-of, down-split, IsAtLevel, leads-level, leads-kept, final, final-append}
use Rattle.hfs_btree_removal.proofs.Ends.{steps-kept}

-- a first record stays where a later one goes
pub first-stays : (rs : List (List ℕ)) (q : ℕ) → 0 < q → get_or (remove rs q) 0 [] ≡ get_or rs 0 []
first-stays [] zero lt = absurd (omega arith)
first-stays [] (suc q) lt = refl
first-stays (r ∷ rs) zero lt = absurd (omega arith)
first-stays (r ∷ rs) (suc q) lt = refl

module _ {K : Type 0} (g : Ghosts K) (old : Store) (above : List Step) (p : Step) (chain : List Step) (w : IsWayBelow g old above p chain) where
  abbrev pub root : ℕ
  root = (header_in old).root

  down-all : IsDown g old root (above ++ p ∷ chain)
  down-all = let P : List Step → Type 0 = λ ss. IsDown g old root ss in subst P (sym w.way.split) (down-of g old w.way.above w.way.last root w.way.leads w.way.leaf)

  pub parts : Leads g old root above p.node × IsStep old p.node p × IsDown g old (g.child (get_or (records_in old p.node) p.place [])) chain
  parts = down-split g old above p chain root down-all

  pub deep-by : (j : ℕ) → length chain ≡ j → depth_of old ≡ suc (lift (high above zero) j)
  deep-by j len =
      let all = ap (λ (ss : List Step). length ss) w.way.split in
      omega (
        arith,
        all,
        len,
        w.way.long,
        length-append above (p ∷ chain),
        length-append w.way.above (w.way.last ∷ []),
        high-is above zero,
        lift-is (high above zero) j,
      )

  pub at : IsAtLevel g old (high above zero) p.node (root_level old)
  at = leads-level g old above [] root [] p.node parts.0

  pub within : p.place < length (records_in old p.node)
  within = let a = parts.1.within in let b = parts.1.count in omega arith

  pub many : 2 ≤ length (records_in old p.node)
  many = let a = w.more in let b = parts.1.count in omega arith

  -- the pair at the end of the way
  pub equal-final : (t : K) → IsWayTo g old t (above ++ p ∷ chain) → g.compare t (g.leaf_key (get_or (records_in old (final p chain).node) (final p chain).place [])) ≡ Equal
  equal-final t way =
      let last : final p chain ≡ way.last = sym (final-append p above p chain) ∙ ap (final p) way.split ∙ final-append p way.above way.last [] in
      let P : Step → Type 0 = λ s. g.compare t (g.leaf_key (get_or (records_in old s.node) s.place [])) ≡ Equal in
      subst P (sym last) way.equal

  -- ---- after the writes, where the upper levels are the same

  module _ (total : IsTotalOrder g.compare) (sound : IsSound g old) (j : ℕ) (deep : depth_of old ≡ suc (lift (high above zero) j)) (three : Store) (sound3 : IsSound g three) (depth : depth_of three ≡ depth_of old)
      (same-root : (header_in three).root ≡ root) (uppers : Each (λ (s : Spot). IsKept old three s.n) (upper g old (high above zero) j (root_level old))) where
    leads3 : Leads g three (header_in three).root above p.node
    leads3 = let P : ℕ → Type 0 = λ n. Leads g three n above p.node in subst P (sym same-root) (leads-kept g old three above j [] root [] p.node uppers parts.0)

    deep3 : depth_of three ≡ suc (lift (high above zero) j)
    deep3 = depth ∙ deep

    flat : (d : ℕ) → d ≡ suc (lift (high above zero) j) → d ≡ suc (lift zero (high above j))
    flat d is = omega (arith, is, high-is above zero, high-is above j, lift-is (high above zero) j)

    pub settable3 : AreSettable g three above
    settable3 = settable g total three sound3 p.node j above zero (flat (depth_of three) deep3) [] (header_in three).root [] refl leads3

    module _ (x : K × List ℕ) (in-x : In x (under g old j p.node)) (t : K) (past : g.compare x.0 t ≡ Less) (first : t ≡ first_key g three j p.node) (four : Store) (up : IsPassedUp g t above three four) where
      under-old : Each (IsUnder g total old sound p.node j x) above
      under-old = (over g total old sound p.node j x above zero (flat (depth_of old) deep) [] root [] refl parts.0 in-x).1

      lower-of : (ss : List Step) → Each (IsUnder g total old sound p.node j x) ss → Each (λ s. IsKept old three s.node) ss → Each (IsLower g total three sound3 t p.node j) ss
      lower-of [] a b = tt
      lower-of (s ∷ ss) a b =
          let P : List (List ℕ) → Type 0 = λ rs. g.compare (g.index_key (get_or rs s.place [])) t ≡ Less in (
            subst P (sym (ap records_of b.0)) (le-lt g.compare total (g.index_key (get_or (records_in old s.node) s.place [])) x.0 t a.0 past),
            lower-of ss a.1 b.1,
          )

      lower3 : Each (IsLower g total three sound3 t p.node j) above
      lower3 = lower-of above under-old (steps-kept g old three above j [] root [] p.node uppers parts.0)

      pub told4 : HasTold g three four
      told4 = up-told g total three sound3 above p.node j deep3 leads3 t lower3 first four up

      pub exact4 : IsExactBut g three p.node → IsExact g four
      exact4 = up-exact g total three sound3 above p.node j deep3 leads3 t lower3 first four up
