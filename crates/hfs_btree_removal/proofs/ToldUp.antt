-- A first key that was told upwards along a way from the root.
use Rattle.std.proofs.Common.{◌≡◌, ℕ, zero, suc, ◌-◌, List, [], ◌∷◌, length, sym, ap, ◌∙◌, subst, arith, length-append}
use Rattle.std.specs.Cmp.{IsTotalOrder}
use Rattle.hfs_btree_removal.specs.declared.down.Step.{Step}
use Rattle.hfs_btree.specs.declared.key.Key.{Ghosts}
use Rattle.hfs_fields.specs.Each.{Each}
use Rattle.hfs_fields.proofs.ElementLemmas.{each-right}
use Rattle.hfs_btree.specs.Tree.{Store}
use Rattle.hfs_btree.specs.Header.{header_in, depth_of}
use Rattle.hfs_btree.specs.Sound.{IsSound, IsExact, first_key}
use Rattle.hfs_btree_removal.proofs.RemovalLemmas.{HasTold}
use Rattle.hfs_btree_removal.specs.Removal.{IsPassedUp, IsEnded}
use Rattle.hfs_btree_removal.specs.Ways.{Leads}
use Rattle.hfs_btree_edits.specs.LevelParts.{lift}
use Rattle.hfs_btree_edits.proofs.LevelPartLemmas.{lift-is}
use Rattle.hfs_btree_removal.proofs.ExactBut.{IsExactBut}
use Rattle.hfs_btree_removal.proofs.Told.{exact-root}
use Rattle.hfs_btree_removal.proofs.Passed.{high, IsLower, IsPassed, passed}
use Rattle.hfs_btree_removal.proofs.WayLevels.{high-is, leads-split, leads-level}

module _ {K : Type 0} (g : Ghosts K) (total : IsTotalOrder g.compare) (one : Store) (sound : IsSound g one) (above : List Step) (p j : ℕ) (deep : depth_of one ≡ suc (lift (high above zero) j))
    (leads : Leads g one (header_in one).root above p) (t : K) (lower : Each (IsLower g total one sound t p j) above) (first : t ≡ first_key g one j p) (two : Store) (up : IsPassedUp g t above one two) where
  abbrev root : ℕ
  root = (header_in one).root

  parted : (x : ℕ) × Leads g one root up.above x × Leads g one x up.told p
  parted = let P : List Step → Type 0 = λ ss. Leads g one root ss p in leads-split g one up.above up.told root p (subst P up.split leads)

  deep' : depth_of one ≡ suc (lift (high up.above zero) (high up.told j))
  deep' =
      let all = ap (λ (ss : List Step). length ss) up.split in
      omega (
        arith,
        deep,
        all,
        length-append up.above up.told,
        high-is above zero,
        high-is up.above zero,
        high-is up.told j,
        lift-is (high above zero) j,
        lift-is (high up.above zero) (high up.told j),
      )

  lower' : Each (IsLower g total one sound t p j) up.told
  lower' = let P : List Step → Type 0 = λ ss. Each (IsLower g total one sound t p j) ss in each-right (IsLower g total one sound t p j) up.above up.told (subst P up.split lower)

  is-passed : IsPassed g total one sound t p j up.told parted.0 two
  is-passed =
      let at = leads-level g one up.above [] root [] parted.0 parted.1 in
      passed g total one sound t p j up.told two (high up.above zero) deep' at.before parted.0 at.behind at.split parted.2 up.set up.firsts lower' first

  pub up-told : HasTold g one two
  up-told = is-passed.told'

  at-root : root ≡ parted.0 → IsExactBut g one p → IsExact g two
  at-root e b =
      let P : ℕ → Type 0 = λ n. IsExactBut g two n in
      let same : parted.0 ≡ (header_in two).root = sym e ∙ sym up-told.root in
      let high' = up-told.depth in
      exact-root g two up-told.sound.structure (depth_of two - 1) (omega (arith, high', deep)) (subst P same (is-passed.but b))

  exact-of : (tops told : List Step) → IsEnded tops told → Leads g one root tops parted.0 → IsPassed g total one sound t p j told parted.0 two → (IsExactBut g one p → root ≡ parted.0 → IsExact g two) → IsExactBut g one p → IsExact g two
  exact-of [] told ended l ip f b = f b l
  exact-of (a ∷ tops) [] ended l ip f b = absurd ended
  exact-of (a ∷ tops) (s ∷ ss) ended l ip f b = ip.exact ended b

  pub up-exact : IsExactBut g one p → IsExact g two
  up-exact = exact-of up.above up.told up.ended parted.1 is-passed (λ b e. at-root e b)
