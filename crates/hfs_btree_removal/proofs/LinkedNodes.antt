-- Nodes decode as before when others were linked.
use Rattle.std.proofs.Common.{◌≡◌, ◌≢◌, ℕ, sym, subst, inl, inr}
use Rattle.std.specs.Prelude.{Ok}
use Rattle.std.proofs.lemmas.Bool.{cases_eq}
use Rattle.hfs_btree.specs.declared.node.Node.{Node}
use Rattle.hfs_btree.specs.Tree.{Store, node_in}
use Rattle.hfs_btree_edits.specs.Stored.{Decodes, IsSame}
use Rattle.hfs_btree_edits.proofs.DecodesLemmas.{decoded, decodes-as, decodes-same}
use Rattle.hfs_btree_removal.specs.Removal.{HasUnlinked}

-- the node that was linked
linked-decodes : (old new : Store) (n : ℕ) (linked : Node → Node) → IsSame old new 0 → (n ≢ 0 → (v : Node) → node_in old n ≡ Ok v → node_in new n ≡ Ok (linked v)) → Decodes old n → Decodes new n
linked-decodes old new n linked head here h = elim (cases_eq n 0) [
  | inl z ↦ decodes-same old new n (subst (λ (k : ℕ). IsSame old new k) (sym z) head) h
  | inr some ↦ let was = decoded old n h in decodes-as new n (linked was.0) (here some was.0 was.1)
]

pub unlinked-decodes : (old new : Store) (l r : ℕ) → HasUnlinked old new l r → (x : ℕ) → Decodes old x → Decodes new x
unlinked-decodes old new l r u x h = elim (cases_eq x l) [
  | inl e ↦ subst (λ (k : ℕ). Decodes new k) (sym e) (linked-decodes old new l (λ v. record v { forward = r }) u.head u.left (subst (λ (k : ℕ). Decodes old k) e h))
  | inr left ↦ elim (cases_eq x r) [
    | inl e ↦ subst (λ (k : ℕ). Decodes new k) (sym e) (linked-decodes old new r (λ v. record v { backward = l }) u.head u.right (subst (λ (k : ℕ). Decodes old k) e h))
    | inr right ↦ decodes-same old new x (u.rest x left right) h
  ]
]
