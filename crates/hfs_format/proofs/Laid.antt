-- The bytes of the new trees' nodes, in the order in which they are laid.
use Rattle.std.proofs.Common.{◌≡◌, ℕ, ◌+◌, ◌-◌, List, [], ◌∷◌, ◌++◌, length, replicate, ◌∙◌, arith}
use Rattle.std.proofs.lemmas.List.{append_assoc, append-nil}
use Rattle.byteorder.specs.Endian.{big_bytes}
use Rattle.hfs_btree.specs.Node.{size_of, start_of}
use Rattle.hfs_btree.specs.declared.kind.NodeKind.TheVariants.{Header, Leaf, Map}
use Rattle.hfs_format.specs.NewTrees.{descriptor, descriptor_bytes, offsets_down, node_bytes, lone_leaf}

two-pieces : (d a b z x y w : List ℕ) → ((d ++ (a ++ (b ++ []))) ++ z) ++ (x ++ (y ++ w)) ≡ (((((d ++ a) ++ b) ++ z) ++ x) ++ y) ++ w
two-pieces d a b z x y w = simp (append_assoc, append-nil)

pub leaf-bytes : (a b : List ℕ)
    → node_bytes (lone_leaf (a ∷ b ∷ []))
    ≡ (((((descriptor 0 0 Leaf 1 2 ++ a) ++ b) ++ replicate (506 - (14 + length a + length b)) 0) ++ big_bytes 2 (14 + length a + length b)) ++ big_bytes 2 (14 + length a))
    ++ big_bytes 2 14
unfolding node_bytes descriptor_bytes offsets_down size_of start_of
leaf-bytes a b =
    let zeros : 496 - size_of (a ∷ b ∷ []) ≡ 506 - (14 + length a + length b) = omega arith in
    let free : start_of (a ∷ b ∷ []) 2 ≡ 14 + length a + length b = omega arith in
    let second : start_of (a ∷ b ∷ []) 1 ≡ 14 + length a = omega arith in
    (λ i. ((descriptor 0 0 Leaf 1 2 ++ (a ++ (b ++ []))) ++ replicate (zeros i) 0) ++ (big_bytes 2 (free i) ++ (big_bytes 2 (second i) ++ big_bytes 2 14)))
    ∙ two-pieces (descriptor 0 0 Leaf 1 2) a b _ _ _ _

three-pieces : (d a b m x y z w : List ℕ) → ((d ++ (a ++ (b ++ (m ++ [])))) ++ []) ++ (x ++ (y ++ (z ++ w))) ≡ ((((((d ++ a) ++ b) ++ m) ++ x) ++ y) ++ z) ++ w
three-pieces d a b m x y z w = simp (append_assoc, append-nil)

pub header-bytes : (forward : ℕ) (a m : List ℕ) → length a ≡ 106 → length m ≡ 256
    → node_bytes (record { forward = forward; backward = 0; kind = Header; height = 0; records = a ∷ replicate 128 0 ∷ m ∷ [] })
    ≡ ((((((descriptor forward 0 Header 0 3 ++ a) ++ replicate 128 0) ++ m) ++ big_bytes 2 504) ++ big_bytes 2 248) ++ big_bytes 2 120) ++ big_bytes 2 14
unfolding node_bytes descriptor_bytes offsets_down size_of start_of
header-bytes forward a m la lm =
    let records : List (List ℕ) = a ∷ replicate 128 0 ∷ m ∷ [] in
    let zeros : 496 - size_of records ≡ 0 = omega (arith, la, lm) in
    let free : start_of records 3 ≡ 504 = omega (arith, la, lm) in
    let third : start_of records 2 ≡ 248 = omega (arith, la) in
    let second : start_of records 1 ≡ 120 = omega (arith, la) in
    (λ i. ((descriptor forward 0 Header 0 3 ++ (a ++ (replicate 128 0 ++ (m ++ [])))) ++ replicate (zeros i) 0)
    ++ (big_bytes 2 (free i) ++ (big_bytes 2 (third i) ++ (big_bytes 2 (second i) ++ big_bytes 2 14))))
    ∙ three-pieces (descriptor forward 0 Header 0 3) a (replicate 128 0) m _ _ _ _

one-piece : (d m z x w : List ℕ) → ((d ++ (m ++ [])) ++ z) ++ (x ++ w) ≡ (((d ++ m) ++ z) ++ x) ++ w
one-piece d m z x w = simp (append_assoc, append-nil)

pub map-bytes : (forward backward : ℕ) (m : List ℕ) → length m ≡ 492
    → node_bytes (record { forward = forward; backward = backward; kind = Map; height = 0; records = m ∷ [] })
    ≡ (((descriptor forward backward Map 0 1 ++ m) ++ replicate 2 0) ++ big_bytes 2 506) ++ big_bytes 2 14
unfolding node_bytes descriptor_bytes offsets_down size_of start_of
map-bytes forward backward m lm =
    let zeros : 496 - size_of (m ∷ []) ≡ 2 = omega (arith, lm) in
    let free : start_of (m ∷ []) 1 ≡ 506 = omega (arith, lm) in
    (λ i. ((descriptor forward backward Map 0 1 ++ (m ++ [])) ++ replicate (zeros i) 0) ++ (big_bytes 2 (free i) ++ big_bytes 2 14))
    ∙ one-piece (descriptor forward backward Map 0 1) m _ _ _
