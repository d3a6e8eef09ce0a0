-- The nodes of several steps, given back one after the other.
use Rattle.std.proofs.Common.{◌≡◌, ◌≢◌, ℕ, ◌+◌, ◌<◌, ◌≤◌, List, [], ◌∷◌, ◌++◌, length, map, get_or, take, drop, refl, sym, ap, ◌∙◌, subst, arith}
use Rattle.std.proofs.lemmas.List.{drop_more, take_more, take_all, map-append}
use Rattle.hfs_btree_removal.specs.declared.down.Step.{Step}
use Rattle.hfs_btree.specs.declared.key.Key.{Ghosts}
use Rattle.hfs_fields.specs.Each.{Each}
use Rattle.hfs_btree.specs.Tree.{Store}
use Rattle.hfs_btree.specs.Sound.{IsSound, IsStray}
use Rattle.hfs_btree_edits.specs.Stored.{IsReleased}
use Rattle.hfs_btree_removal.specs.Removal.{AreReleased, AreStray}
use Rattle.hfs_btree_edits.proofs.ReleasedLemmas.{released-sound, released-stray}
use Rattle.hfs_btree_removal.proofs.KeysSet.{no-step}

abbrev pub nodes-of : List Step → List ℕ
nodes-of ss = map (λ (s : Step). s.node) ss

module _ {K : Type 0} (g : Ghosts K) where
  more : (ns : List ℕ) (n : ℕ) (old mid new : Store) → AreReleased g ns old mid → IsReleased g n mid new → AreReleased g (ns ++ n ∷ []) old new
  more [] n old mid new e r = let P : Store → Type 0 = λ x. IsReleased g n x new in (new, subst P (sym e) r, refl)
  more (m ∷ ns) n old mid new h r = (h.0, h.1, more ns n h.0 mid new h.2 r)

  keep : (old new : Store) (n : ℕ) (r : IsReleased g n old new) → IsSound g old → (ss : List Step) → Each (λ u. u.node ≢ n) ss → AreStray g old ss → AreStray g new ss
  keep old new n r sound [] o h = tt
  keep old new n r sound (s ∷ ss) o h = (
    (released-stray g n old new r sound s.node o.0).1 h.0,
    (let a = h.1 in let e = r.len in omega arith),
    h.2,
    keep old new n r sound ss o.1 h.3,
  )

  -- after i steps
  pub record AreGiven (base : Store) (chain : List Step) (i : ℕ) (nodes : Store) : Type 0 where
    pub done : AreReleased g (nodes-of (take i chain)) base nodes
    pub sound : IsSound g nodes
    pub rest : AreStray g nodes (drop i chain)

  pub given-none : (base : Store) (chain : List Step) → IsSound g base → AreStray g base chain → AreGiven base chain 0 base
  given-none base chain sound h = record { done = refl; sound = sound; rest = h }

  module _ (base : Store) (chain : List Step) (i : ℕ) (nodes : Store) (d : AreGiven base chain i nodes) (lt : i < length chain) where
    abbrev s : Step
    s = get_or chain i no-step

    parted : drop i chain ≡ s ∷ drop (i + 1) chain
    parted = drop_more chain i no-step lt

    here : AreStray g nodes (s ∷ drop (i + 1) chain)
    here = let P : List Step → Type 0 = λ ss. AreStray g nodes ss in subst P parted d.rest

    pub next-stray : IsStray g nodes s.node
    next-stray = here.0

    pub next-within : s.node < length nodes
    next-within = here.1

    pub given-more : (new : Store) → IsReleased g s.node nodes new → AreGiven base chain (i + 1) new
    given-more new r =
        let P : List ℕ → Type 0 = λ ns. AreReleased g ns base new in
        let taken : nodes-of (take (i + 1) chain) ≡ nodes-of (take i chain) ++ s.node ∷ [] = ap nodes-of (take_more chain i no-step lt) ∙ map-append (λ (x : Step). x.node) (take i chain) (s ∷ []) in
        record {
          done = subst P (sym taken) (more (nodes-of (take i chain)) s.node base nodes new d.done r);
          sound = released-sound g s.node nodes new r d.sound;
          rest = keep nodes new s.node r d.sound (drop (i + 1) chain) here.2 here.3;
        }

  pub given-all : (base : Store) (chain : List Step) (i : ℕ) (nodes : Store) → AreGiven base chain i nodes → length chain ≤ i → AreReleased g (nodes-of chain) base nodes
  given-all base chain i nodes d past =
      let P : List Step → Type 0 = λ ss. AreReleased g (nodes-of ss) base nodes in subst P (take_all i chain past) d.done
