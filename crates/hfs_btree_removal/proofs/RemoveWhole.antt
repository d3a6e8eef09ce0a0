-- The removal of a pair: the root before and after, and between them the pair.
use Rattle.std.proofs.Common.{◌≡◌, ℕ, zero, suc, ◌+◌, ◌<◌, ◌≤◌, List, [], ◌∷◌, ◌++◌, length, map, get_or, refl, sym, ap, ◌∙◌, subst, arith}
use Rattle.std.specs.Prelude.{Ok, Err, Result, OnOk}
use Rattle.std.specs.List.{flat_map}
use Rattle.std.specs.Ordering.{is_eq}
use Rattle.std.specs.declared.cmp.Ordering.TheVariants.{Equal}
use Rattle.std.proofs.lemmas.Bool.{cond-true}
use Rattle.hfs_btree_removal.specs.declared.down.Step.{Step}
use Rattle.hfs_btree.specs.declared.key.Key.{Ghosts}
use Rattle.hfs_btree_edits.specs.Edits.{without_pair, HasRemoved}
use Rattle.hfs_btree_removal.specs.Removal.{KeepsSound, GainsNothing}
use Rattle.hfs_btree.specs.Header.{header_in, depth_of, root_level, free_nodes, tree_content}
use Rattle.hfs_btree.specs.Sound.{IsSound}
use Rattle.hfs_fields.specs.Each.{Each}
use Rattle.hfs_fields.proofs.ElementLemmas.{each-right}
use Rattle.hfs_btree_removal.specs.Removal.{HasLowered, HasTakenOut}
use Rattle.hfs_btree.specs.Tree.{Store, records_in, pair_of, pairs, last_level}
use Rattle.hfs_btree_removal.specs.Ways.{Leads, IsWayTo}
use Rattle.hfs_btree_removal.proofs.Composed.{keeps-then}
use Rattle.hfs_btree_removal.proofs.Gains.{gains-then, gains-keeps, gains-blank}

module _ {K : Type 0} (g : Ghosts K) where
  pub removed-all : (old low mid new : Store) (t : K) (steps : List Step) → IsSound g old → HasLowered g old low → IsWayTo g low t steps → HasTakenOut g steps low mid → HasLowered g mid new
      → (2 ≤ depth_of new → 2 ≤ length (records_in new (header_in new).root)) → HasRemoved g t old new
  removed-all old low mid new t steps sound a way out b wide =
      let first = keeps-then g old low mid a.keeps out.keeps in
      let keeps = keeps-then g old mid new first b.keeps in
      let gains = gains-then g old mid new sound first.frame.map (gains-then g old low mid sound a.keeps.frame.map a.gains out.gains) b.gains in
      record {
        keeps = gains-keeps g old new keeps gains;
        content = b.content ∙ out.content t way ∙ ap (without_pair g.compare t) a.content;
        keys = gains.keys;
        blank = gains-blank g old new keeps gains;
        free = let x = a.free in let y = out.free in let z = b.free in omega arith;
        depth = let x = a.depth in let y = out.depth in let z = b.depth in omega arith;
        root = wide;
      }

  -- ---- where no step's node has another record

  without-one : (t : K) (place : ℕ) (es : List (List ℕ)) → length es ≤ 1 → place < length es → g.compare t (g.leaf_key (get_or es place [])) ≡ Equal → without_pair g.compare t (map (pair_of g) es ++ []) ≡ []
  without-one t place [] few lt e = absurd (omega arith)
  without-one t zero (x ∷ []) few lt e = cond-true (is_eq (g.compare t (g.leaf_key x))) _ _ (ap is_eq e)
  without-one t (suc place) (x ∷ []) few lt e = absurd (omega arith)
  without-one t place (x ∷ y ∷ es) few lt e = absurd (omega arith)

  module _ (low : Store) (wide : 2 ≤ depth_of low → 2 ≤ length (records_in low (header_in low).root)) (t : K) (steps : List Step) (way : IsWayTo g low t steps) (ones : Each (λ (s : Step). s.count ≤ 1) steps) where
    abbrev AreOnes : List Step → Type 0
    AreOnes ss = Each (λ (s : Step). s.count ≤ 1) ss

    none-above : (above : List Step) (n : ℕ) → length above + 1 ≡ depth_of low → Leads g low (header_in low).root above n → AreOnes (above ++ way.last ∷ []) → above ≡ []
    none-above [] n long leads o = refl
    none-above (s ∷ ss) n long leads o =
        absurd (let count = leads.0.count in
        let few = o.0 in
        let deep : 2 ≤ depth_of low = omega arith in
        let two = wide deep in
        omega arith)

    parted : AreOnes (way.above ++ way.last ∷ [])
    parted = subst AreOnes way.split ones

    above-none : way.above ≡ []
    above-none = none-above way.above way.last.node way.long way.leads parted

    pub one-level : depth_of low ≡ 1
    one-level = let e = ap (λ (ss : List Step). length ss) above-none in let f = way.long in omega arith

    root-is : (header_in low).root ≡ way.last.node
    root-is = let P : List Step → Type 0 = λ ss. Leads g low (header_in low).root ss way.last.node in subst P above-none way.leads

    pub none-left : without_pair g.compare t (tree_content g low) ≡ []
    none-left =
        let count = way.leaf.count in
        let within = way.leaf.within in
        let few = (each-right (λ (s : Step). s.count ≤ 1) way.above (way.last ∷ []) parted).0 in
        ap (λ (d : ℕ). without_pair g.compare t (flat_map (pairs g low) (last_level g low d (root_level low)))) one-level
        ∙ ap (λ (n : ℕ). without_pair g.compare t (map (pair_of g) (records_in low n) ++ [])) root-is
        ∙ without-one t way.last.place (records_in low way.last.node) (omega arith) (omega arith) way.equal

    pub removed-last : (old new : Store) → IsSound g old → HasLowered g old low → KeepsSound g low new → GainsNothing g low new → tree_content g new ≡ [] → depth_of new ≡ 0 → free_nodes new ≡ free_nodes low + 1 → HasRemoved g t old new
    removed-last old new sound a kept gained empty flat free =
        let keeps = keeps-then g old low new a.keeps kept in
        let gains = gains-then g old low new sound a.keeps.frame.map a.gains gained in
        record {
          keeps = gains-keeps g old new keeps gains;
          content = empty ∙ sym none-left ∙ ap (without_pair g.compare t) a.content;
          keys = gains.keys;
          blank = gains-blank g old new keeps gains;
          free = let x = a.free in omega arith;
          depth = omega arith;
          root = λ deep. absurd (omega arith);
        }

-- two facts at an Ok
pub on_both : {A E : Type 0} (r : Result A E) (P Q : Type 0) → OnOk r P → OnOk r Q → OnOk r (P × Q)
on_both (Ok x) P Q p q = (p, q)
on_both (Err e) P Q p q = p
