-- Nodes that decode, whatever they decode to.
use Rattle.std.proofs.Common.{◌≡◌, ℕ, ◌<◌, length, refl, sym, subst, arith, inl, inr}
use Rattle.std.specs.Prelude.{Ok, Err, Result, IsOk}
use Rattle.std.proofs.lemmas.Bool.{cases_eq, true≢false}
use Rattle.hfs_btree.specs.declared.node.Node.{Node}
use Rattle.hfs_btree.specs.declared.fault.NodeFault.{NodeFault}
use Rattle.hfs_btree.specs.Tree.{Store, node_in, records_in, records_of}
use Rattle.hfs_btree.proofs.DecodedLemmas.{decoded-within}
use Rattle.hfs_btree_edits.specs.Stored.{Decodes, HasStored}

value-of : (r : Result Node NodeFault) → IsOk r → (v : Node) × (r ≡ Ok v)
value-of (Ok v) ok = (v, refl)
value-of (Err e) ok = absurd (true≢false (sym ok))

ok-of : (r : Result Node NodeFault) → 0 < length (records_of r) → IsOk r
ok-of (Ok v) some = refl
ok-of (Err e) some = absurd (omega arith)

-- what a node decodes to
pub decoded : (nodes : Store) (n : ℕ) → Decodes nodes n → (v : Node) × (node_in nodes n ≡ Ok v)
decoded nodes n h = value-of (node_in nodes n) h

pub decodes-as : (nodes : Store) (n : ℕ) (v : Node) → node_in nodes n ≡ Ok v → Decodes nodes n
decodes-as nodes n v is = subst (λ (r : Result Node NodeFault). IsOk r) (sym is) refl

pub decodes-within : (nodes : Store) (n : ℕ) → Decodes nodes n → n < length nodes
decodes-within nodes n h = let d = decoded nodes n h in decoded-within nodes n d.0 d.1

-- what has a record decodes
pub decodes-some : (nodes : Store) (n : ℕ) → 0 < length (records_in nodes n) → Decodes nodes n
decodes-some nodes n some = ok-of (node_in nodes n) some

-- what decoded, decodes where it is the same
pub decodes-same : (old new : Store) (n : ℕ) → node_in new n ≡ node_in old n → Decodes old n → Decodes new n
decodes-same old new n same h = subst (λ (r : Result Node NodeFault). IsOk r) (sym same) h

-- what decoded, decodes after a write
pub decodes-stored : (n m : ℕ) (v : Node) (old new : Store) → HasStored n v old new → Decodes old m → Decodes new m
decodes-stored n m v old new stored h = elim (cases_eq m n) [
  | inl e ↦ subst (λ (k : ℕ). Decodes new k) (sym e) (decodes-as new n v stored.here)
  | inr ne ↦ decodes-same old new m (stored.rest m ne) h
]
