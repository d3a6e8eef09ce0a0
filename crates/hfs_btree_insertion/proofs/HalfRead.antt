-- The parts of a node that was read, and the sizes of its halves.
use Rattle.std.proofs.Common.{◌≡◌, ℕ, ◌<◌, ◌≤◌, List, [], ◌∷◌, length, get_or, take, drop, sym, ap, ◌∙◌, subst, arith}
use Rattle.std.specs.Prelude.{Ok, Err, true}
use Rattle.hfs_btree.specs.declared.node.Node.{Node}
use Rattle.hfs_btree.specs.declared.fault.NodeFault.{NodeFault}
use Rattle.hfs_btree.specs.Node.{node_of, size_of}
use Rattle.hfs_btree.proofs.SizeLemmas.{size_of-nil, size_of-take-le, size_of-take-drop}
use Rattle.hfs_btree.specs.declared.key.Key.{Ghosts}
use Rattle.hfs_btree.specs.Tree.{Store, records_in, records_of}
use Rattle.hfs_btree.proofs.DecodedLemmas.{records-read, error-empty}
use Rattle.hfs_btree_edits.specs.LevelParts.{entry_key}
use Rattle.hfs_btree_insertion.specs.Cut.{child_at}
use Rattle.hfs_btree_insertion.specs.Halves.{NamesHalf}

-- ---- a node that was read

module _ (nodes : Store) (n : ℕ) (bytes : List ℕ) (read : bytes ≡ get_or nodes n []) where
  pub none-read : (e : NodeFault) → Err e ≡ node_of bytes → 0 < length (records_in nodes n) → ⊥
  none-read e is some =
      let none = error-empty (node_of bytes) e is in
      let same = ap (λ (xs : List (List ℕ)). length xs) (records-read nodes n bytes read) in
      omega (arith, none, same, some)

  module _ (v : Node) (is : Ok v ≡ node_of bytes) where
    pub view-same : v.records ≡ records_in nodes n
    view-same = ap records_of is ∙ records-read nodes n bytes read

    pub view-place : (i : ℕ) → i < length (records_in nodes n) → i < length v.records
    view-place i lt = let P : List (List ℕ) → Type 0 = λ xs. i < length xs in subst P (sym view-same) lt

    -- a fact about its records holds of those that were read, and the other way
    pub of-view : (P : List (List ℕ) → Type 0) → P v.records → P (records_in nodes n)
    of-view P h = subst P view-same h

    pub to-view : (P : List (List ℕ) → Type 0) → P (records_in nodes n) → P v.records
    to-view P h = subst P (sym view-same) h

    -- one of its records
    module _ (i : ℕ) (entry : List ℕ) (at : entry ≡ get_or v.records i []) where
      entry-same : entry ≡ get_or (records_in nodes n) i []
      entry-same = at ∙ ap (λ (xs : List (List ℕ)). get_or xs i []) view-same

      pub to-entry : (P : List ℕ → Type 0) → P (get_or (records_in nodes n) i []) → P entry
      to-entry P h = subst P (sym entry-same) h

      pub child-read : {K : Type 0} (g : Ghosts K) (child : ℕ) → child ≡ g.child entry → child ≡ child_at g nodes n i
      child-read g child is' = is' ∙ ap g.child entry-same

      pub names-half : {K : Type 0} (g : Ghosts K) (k m : ℕ) (key : K) (made : List ℕ) → key ≡ entry_key g k entry → g.is_index made ≡ true → g.index_key made ≡ key → g.child made ≡ m → NamesHalf g nodes n i k m made
      names-half g k m key made key-is index keyed names = record { index = index; names = names; keyed = keyed ∙ key-is ∙ ap (entry_key g k) entry-same }

-- ---- sizes

pub first-fits : (xs es : List (List ℕ)) (c : ℕ) → xs ≡ take c es → size_of es ≤ 496 → size_of xs ≤ 496
first-fits xs es c is fits = let same = ap size_of is in let less = size_of-take-le es c in omega (arith, same, less, fits)

pub second-fits : (xs es : List (List ℕ)) (c : ℕ) → xs ≡ drop c es → size_of es ≤ 496 → size_of xs ≤ 496
second-fits xs es c is fits = let same = ap size_of is in let both = size_of-take-drop es c in omega (arith, same, both, fits)

pub some-size : (es : List (List ℕ)) → 0 < size_of es → 0 < length es
some-size [] some = let none = size_of-nil in absurd (omega (arith, none, some))
some-size (e ∷ es) some = omega arith
