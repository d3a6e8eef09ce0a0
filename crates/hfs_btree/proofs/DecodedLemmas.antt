-- Nodes that decode.
use Rattle.std.proofs.Common.{◌≡◌, ℕ, ◌<◌, List, [], length, get_or, refl, sym, ap, ◌∙◌, arith, inl, inr}
use Rattle.std.specs.Prelude.{Ok, Err, Result}
use Rattle.std.proofs.lemmas.Bool.{cases_lt}
use Rattle.std.proofs.lemmas.List.{get_or_past}
use Rattle.hfs_fields.specs.Numbers.{number_at}
use Rattle.hfs_btree.specs.declared.node.Node.{Node}
use Rattle.hfs_btree.specs.declared.fault.NodeFault.{NodeFault}
use Rattle.hfs_btree.specs.declared.fault.NodeFault.TheVariants.{Outside}
use Rattle.hfs_btree.specs.Kind.{kind_of}
use Rattle.hfs_btree.specs.Node.{node_of, node_of_kind, are_inside, count_of, offset_of}
use Rattle.hfs_btree.specs.Tree.{Store, node_in, records_in, records_of}

-- no bytes are no node
pub node_of-none : node_of [] ≡ Err Outside
unfolding node_of node_of_kind kind_of are_inside count_of offset_of number_at
node_of-none = refl

-- what decodes is one of the nodes
pub decoded-within : (nodes : Store) (n : ℕ) (v : Node) → node_in nodes n ≡ Ok v → n < length nodes
unfolding node_in
decoded-within nodes n v is =
    elim (cases_lt n (length nodes)) [
      | inl lt ↦ lt
      | inr ge ↦ absurd (let none : node_of (get_or nodes n []) ≡ Err Outside = ap node_of (get_or_past nodes n [] ge) ∙ node_of-none in cc)
    ]

some-decoded : (r : Result Node NodeFault) → 0 < length (records_of r) → (v : Node) × (r ≡ Ok v)
some-decoded (Ok v) some = (v, refl)
some-decoded (Err e) some = absurd (omega arith)

pub records-within : (nodes : Store) (n : ℕ) → 0 < length (records_in nodes n) → n < length nodes
records-within nodes n some = let d = some-decoded (node_in nodes n) some in decoded-within nodes n d.0 d.1

-- what was read of node n
pub read-in : (nodes : Store) (n : ℕ) (bytes : List ℕ) (r : Result Node NodeFault) → bytes ≡ get_or nodes n [] → r ≡ node_of bytes → r ≡ node_in nodes n
unfolding node_in
read-in nodes n bytes r read is = is ∙ ap node_of read

pub records-read : (nodes : Store) (n : ℕ) (bytes : List ℕ) → bytes ≡ get_or nodes n [] → records_of (node_of bytes) ≡ records_in nodes n
records-read nodes n bytes read = ap records_of (read-in nodes n bytes (node_of bytes) read refl)

pub error-empty : (r : Result Node NodeFault) (e : NodeFault) → Err e ≡ r → length (records_of r) ≡ 0
error-empty r e is = ap (λ (x : Result Node NodeFault). length (records_of x)) (sym is)
