-- What the steps of a removal make of a tree's nodes.
use Rattle.std.specs.Prelude.{◌≡◌, ◌≢◌, ℕ, zero, suc, ◌+◌, ◌-◌, ◌<◌, ◌≤◌, ◌==◌, if◌then◌else◌, true, List, [], ◌∷◌, ◌++◌, ⊤, Ok, Err, Result, Option, Some, None, IsOk, length, map, slice_set, slice_index_or, remove}
use Rattle.hfs_btree.specs.declared.fault.NodeFault.{NodeFault}
use Rattle.hfs_btree.specs.declared.node.Node.{Node}
use Rattle.hfs_btree.specs.declared.kind.NodeKind.TheVariants.{Leaf}
use Rattle.hfs_btree_removal.specs.declared.down.Step.{Step}
use Rattle.hfs_btree_removal.specs.declared.unlink.Neighbours.{Neighbours}
use Rattle.hfs_btree.specs.declared.header.Header.{Header as HeaderRecord}
use Rattle.hfs_btree.specs.declared.key.Key.{Ghosts}
use Rattle.hfs_btree_edits.specs.Edits.{without_pair}
use Rattle.hfs_btree_edits.specs.KeptKeys.{tree_keys, EachKey}
use Rattle.hfs_btree.specs.Laid.{IsZeroFrom}
use Rattle.hfs_fields.specs.Each.{Each}
use Rattle.hfs_fields.specs.Members.{In}
use Rattle.hfs_btree_edits.specs.Stored.{HasStored, HasHeaderPut, IsLink, IsSame, IsReleased, bytes_in}
use Rattle.hfs_btree.specs.Tree.{Store, node_in, records_in, forward_of}
use Rattle.hfs_btree.specs.Header.{header_in, depth_of, own_nodes, free_nodes, tree_content, tree_nodes}
use Rattle.hfs_btree.specs.Sound.{IsOther, IsStray, IsSound, IsExact, KeepsFrame}
use Rattle.hfs_btree_removal.specs.Ways.{IsWayTo}

-- ---- what each step keeps

-- a sound tree, exact where it was, with its frame; a node that goes is given back to the free ones
pub record KeepsSound {K : Type 0} (g : Ghosts K) (old new : Store) : Type 0 where
  pub sound : IsSound g new
  pub exact : IsExact g old → IsExact g new
  pub frame : KeepsFrame g old new
  pub free : free_nodes new + length (tree_nodes g new) ≡ free_nodes old + length (tree_nodes g old)

-- The tree has got no key and no node. Nodes that have left its levels are zeros, and besides header node, map nodes and levels no
-- node of the file has changed.
pub record GainsNothing {K : Type 0} (g : Ghosts K) (old new : Store) : Type 0 where
  pub keys : EachKey g (λ k. In k (tree_keys g old)) new
  pub nodes : (m : ℕ) → Each (IsOther m) (tree_nodes g old) → Each (IsOther m) (tree_nodes g new)
  pub blank : (m : ℕ) → In m (tree_nodes g old) → Each (IsOther m) (tree_nodes g new) → IsZeroFrom 0 512 (bytes_in new m)
  pub rest : (m : ℕ) → Each (IsOther m) (own_nodes old ++ tree_nodes g old) → bytes_in new m ≡ bytes_in old m

-- ---- links

-- the node is linked to another one on the right, and has changed in nothing else
abbrev pub IsForward : Store → Store → ℕ → ℕ → Type 0
IsForward old new n to = (v : Node) → node_in old n ≡ Ok v → node_in new n ≡ Ok (record v { forward = to })

-- the same on the left
abbrev pub IsBackward : Store → Store → ℕ → ℕ → Type 0
IsBackward old new n to = (v : Node) → node_in old n ≡ Ok v → node_in new n ≡ Ok (record v { backward = to })

-- the nodes left and right, 0 where there is none, were linked to each other, and nothing else has changed
pub record HasUnlinked (old new : Store) (l r : ℕ) : Type 0 where
  pub len : length new ≡ length old
  pub left : l ≢ 0 → IsForward old new l r
  pub right : r ≢ 0 → IsBackward old new r l
  pub head : IsSame old new 0
  pub rest : (m : ℕ) → m ≢ l → m ≢ r → IsSame old new m
  pub bytes : (m : ℕ) → m ≢ l → m ≢ r → bytes_in new m ≡ bytes_in old m

-- ---- the root

-- roots with one record gave way: the content is the same, and there are no more levels than before
pub record HasLowered {K : Type 0} (g : Ghosts K) (old new : Store) : Type 0 where
  pub keeps : KeepsSound g old new
  pub gains : GainsNothing g old new
  pub content : tree_content g new ≡ tree_content g old
  pub depth : depth_of new ≤ depth_of old
  pub free : free_nodes old ≤ free_nodes new

-- ---- nodes that leave their links

abbrev pub backward_of : Result Node NodeFault → ℕ
backward_of (Ok v) = v.backward
backward_of (Err e) = 0

-- where the node is one, it is linked to another one on the right
pub record HasForward (n to : ℕ) (old new : Store) : Type 0 where
  pub len : length new ≡ length old
  pub here : n ≢ 0 → IsForward old new n to
  pub head : IsSame old new 0
  pub rest : (m : ℕ) → m ≢ n → IsSame old new m
  pub bytes : (m : ℕ) → m ≢ n → bytes_in new m ≡ bytes_in old m

-- the same on the left
pub record HasBackwardTo (n to : ℕ) (old new : Store) : Type 0 where
  pub len : length new ≡ length old
  pub here : n ≢ 0 → IsBackward old new n to
  pub head : IsSame old new 0
  pub rest : (m : ℕ) → m ≢ n → IsSame old new m
  pub bytes : (m : ℕ) → m ≢ n → bytes_in new m ≡ bytes_in old m

-- what decodes, and has neighbours that do: they can be linked to each other
pub record IsUnlinkable (nodes : Store) (r : Result Node NodeFault) : Type 0 where
  pub node : IsOk r
  pub left : IsLink nodes (backward_of r)
  pub right : IsLink nodes (forward_of r)
  pub apart : backward_of r ≢ 0 → backward_of r ≢ forward_of r

-- a later step's node is none of these neighbours
abbrev pub IsClear : Result Node NodeFault → Step → Type 0
IsClear r t = (t.node ≢ backward_of r) × (t.node ≢ forward_of r)

abbrev pub AreUnlinkable : Store → List Step → Type 0
AreUnlinkable nodes [] = ⊤
AreUnlinkable nodes (s ∷ ss) = IsUnlinkable nodes (node_in nodes s.node) × Each (IsClear (node_in nodes s.node)) ss × AreUnlinkable nodes ss

-- the neighbours of each step's node, as they were at first, were linked to each other, one step after the other
abbrev pub AreStepsUnlinked : Store → List Step → Store → Store → Type 0
AreStepsUnlinked base [] old new = old ≡ new
AreStepsUnlinked base (s ∷ ss) old new = (mid : Store) × HasUnlinked old mid (backward_of (node_in base s.node)) (forward_of (node_in base s.node)) × AreStepsUnlinked base ss mid new

-- the neighbours of the last step's node
abbrev pub last_left : Store → List Step → ℕ
last_left base [] = 0
last_left base (s ∷ []) = backward_of (node_in base s.node)
last_left base (s ∷ t ∷ ss) = last_left base (t ∷ ss)

abbrev pub last_right : Store → List Step → ℕ
last_right base [] = 0
last_right base (s ∷ []) = forward_of (node_in base s.node)
last_right base (s ∷ t ∷ ss) = last_right base (t ∷ ss)

-- ---- one index key

-- the record at a place of node n has got another key, and names the same child
pub record HasKeySet {K : Type 0} (g : Ghosts K) (n place : ℕ) (t : K) (old new : Store) : Type 0 where
  pub value : Node
  pub was : node_in old n ≡ Ok value
  pub made : List ℕ
  pub index : g.is_index made ≡ true
  pub told : g.index_key made ≡ t
  pub names : g.child made ≡ g.child (slice_index_or value.records place [])
  pub stored : HasStored n (record value { records = slice_set value.records place made }) old new

-- ---- keys of several steps

-- the key of the index record on the way can be set
pub record IsSettable {K : Type 0} (g : Ghosts K) (nodes : Store) (s : Step) : Type 0 where
  pub within : s.node < length nodes
  pub place : s.place < length (records_in nodes s.node)
  pub index : g.is_index (slice_index_or (records_in nodes s.node) s.place []) ≡ true

-- the keys of all these steps can be set, and their nodes are different ones
abbrev pub AreSettable : {K : Type 0} → Ghosts K → Store → List Step → Type 0
AreSettable g nodes [] = ⊤
AreSettable g nodes (s ∷ ss) = IsSettable g nodes s × Each (λ u. s.node ≢ u.node) ss × AreSettable g nodes ss

-- the keys of these steps were set, from the last one upwards
abbrev pub AreKeysSet : {K : Type 0} → Ghosts K → K → List Step → Store → Store → Type 0
AreKeysSet g t [] old new = old ≡ new
AreKeysSet g t (s ∷ ss) old new = (mid : Store) × AreKeysSet g t ss old mid × HasKeySet g s.node s.place t mid new

-- all steps but the first lead on by the first record
abbrev pub AreBehindFirst : List Step → Type 0
AreBehindFirst [] = ⊤
AreBehindFirst (s ∷ ss) = Each (λ u. u.place ≡ 0) ss

-- the first of some steps leads on by a later record, where there are steps above them
abbrev pub IsEnded : List Step → List Step → Type 0
IsEnded [] ss = ⊤
IsEnded (a ∷ above) [] = ⊥
IsEnded (a ∷ above) (s ∷ ss) = 0 < s.place

-- the key was set on the way upwards, up to the first record that isn't its node's first
pub record IsPassedUp {K : Type 0} (g : Ghosts K) (t : K) (steps : List Step) (old new : Store) : Type 0 where
  pub above : List Step
  pub told : List Step
  pub split : steps ≡ above ++ told
  pub set : AreKeysSet g t told old new
  pub firsts : AreBehindFirst told
  pub ended : IsEnded above told

-- a first key that has changed was given to these steps, and one that hasn't was not
abbrev pub HasToldAbove : {K : Type 0} → Ghosts K → Option K → List Step → Store → Store → Type 0
HasToldAbove g None steps old new = new ≡ old
HasToldAbove g (Some t) steps old new = IsPassedUp g t steps old new

-- ---- the pair

-- the record at a place of node n is gone
pub record HasRecordTaken (n place : ℕ) (old new : Store) : Type 0 where
  pub value : Node
  pub was : node_in old n ≡ Ok value
  pub stored : HasStored n (record value { records = remove value.records place }) old new

-- the first key of the step's node, which has changed; none where the record that went was a later one
abbrev pub IsNewFirst : {K : Type 0} → Ghosts K → Step → Store → Option K → Type 0
IsNewFirst g p nodes None = 0 < p.place
IsNewFirst g p nodes (Some t) =
    (p.place ≡ 0) × ((v : Node) → node_in nodes p.node ≡ Ok v → (v.kind ≡ Leaf → t ≡ g.leaf_key (slice_index_or v.records 0 [])) × (v.kind ≢ Leaf → t ≡ g.index_key (slice_index_or v.records 0 [])))

-- a header record that counts one pair less; where nodes left their levels, the last of them between these two leaves, it names the ends that are left
abbrev pub fewer : HeaderRecord → ℕ → ℕ → ℕ → HeaderRecord
fewer h left right zero = record h { records = h.records - 1 }
fewer h left right (suc n) =
    record h {
      records = h.records - 1;
      first_leaf = if left == 0 then right else h.first_leaf;
      last_leaf = if right == 0 then left else h.last_leaf;
    }

-- the way to a pair by these steps: the last with several records, and those below it
pub record IsWayBelow {K : Type 0} (g : Ghosts K) (nodes : Store) (above : List Step) (p : Step) (chain : List Step) : Type 0 where
  pub key : K
  pub way : IsWayTo g nodes key (above ++ p ∷ chain)
  pub more : 2 ≤ p.count
  pub ones : Each (λ s. s.count ≤ 1) chain

-- the chain left its links, the record on the way its node, and the header record counts one pair less
pub record HasDetached {K : Type 0} (g : Ghosts K) (p : Step) (chain : List Step) (old new : Store) (changed : Option K) : Type 0 where
  pub one : Store
  pub two : Store
  pub links : AreStepsUnlinked old chain old one
  pub taken : HasRecordTaken p.node p.place one two
  pub first : IsNewFirst g p two changed
  pub put : HasHeaderPut (fewer (header_in old) (last_left old chain) (last_right old chain) (length chain)) two new

-- nodes that are stray ones, and different
abbrev pub AreStray : {K : Type 0} → Ghosts K → Store → List Step → Type 0
AreStray g nodes [] = ⊤
AreStray g nodes (s ∷ ss) = IsStray g nodes s.node × (s.node < length nodes) × Each (λ u. u.node ≢ s.node) ss × AreStray g nodes ss

-- nodes that are given back one after the other
abbrev pub AreReleased : {K : Type 0} → Ghosts K → List ℕ → Store → Store → Type 0
AreReleased g [] old new = old ≡ new
AreReleased g (n ∷ ns) old new = (mid : Store) × IsReleased g n old mid × AreReleased g ns mid new

-- the pair at the end of these steps was taken out, and no more nodes and levels are there than before
pub record HasTakenOut {K : Type 0} (g : Ghosts K) (steps : List Step) (old new : Store) : Type 0 where
  pub keeps : KeepsSound g old new
  pub gains : GainsNothing g old new
  pub content : (t : K) → IsWayTo g old t steps → tree_content g new ≡ without_pair g.compare t (tree_content g old)
  pub depth : depth_of new ≤ depth_of old
  pub free : free_nodes old ≤ free_nodes new

-- ---- words of the steps' contracts

-- the neighbours of node n, 0 where there is none
abbrev pub left_of : Store → ℕ → ℕ
left_of nodes n = backward_of (node_in nodes n)

abbrev pub right_of : Store → ℕ → ℕ
right_of nodes n = forward_of (node_in nodes n)

-- where node n has a neighbour on the left, that is not the one on the right
abbrev pub HasApartNeighbours : Store → ℕ → Type 0
HasApartNeighbours nodes n = backward_of (node_in nodes n) ≢ 0 → backward_of (node_in nodes n) ≢ forward_of (node_in nodes n)

-- these neighbours were linked to each other
abbrev pub AreLinked : Store → Store → Neighbours → Type 0
AreLinked old new = λ beside. HasUnlinked old new beside.left beside.right

-- the nodes of the chain's steps left their links, one after the other
abbrev pub AreUnlinked : List Step → Store → Store → Type 0
AreUnlinked chain old new = AreStepsUnlinked old chain old new

-- where node n is a leaf, each of its records is one of a leaf
abbrev pub IfLeafReads : {K : Type 0} → Ghosts K → Store → ℕ → Type 0
IfLeafReads g nodes n = (v : Node) → node_in nodes n ≡ Ok v → v.kind ≡ Leaf → Each (λ e. g.is_leaf e ≡ true) v.records

-- where node n is none, each of its records is an index record
abbrev pub IfIndexReads : {K : Type 0} → Ghosts K → Store → ℕ → Type 0
IfIndexReads g nodes n = (v : Node) → node_in nodes n ≡ Ok v → v.kind ≢ Leaf → Each (λ e. g.is_index e ≡ true) v.records

-- the record of the step is gone
abbrev pub HasStepTaken : Step → Store → Store → Type 0
HasStepTaken s old new = HasRecordTaken s.node s.place old new

-- the step and those of the chain are the last ones of a way to a pair
abbrev pub EndWay : {K : Type 0} → Ghosts K → Store → Step → List Step → Type 0
EndWay g nodes p chain = (above : List Step) × IsWayBelow g nodes above p chain

-- the nodes of the chain's steps are given back one after the other
abbrev pub AreStepsReleased : {K : Type 0} → Ghosts K → List Step → Store → Store → Type 0
AreStepsReleased g chain old new = AreReleased g (map (λ s. s.node) chain) old new

-- the record of the step is an index record
abbrev pub IsIndexStep : {K : Type 0} → Ghosts K → Store → Step → Type 0
IsIndexStep g nodes s = g.is_index (slice_index_or (records_in nodes s.node) s.place []) ≡ true

-- the record of the step has got this key, and names the same child
abbrev pub HasStepKey : {K : Type 0} → Ghosts K → Step → K → Store → Store → Type 0
HasStepKey g s t old new = HasKeySet g s.node s.place t old new

-- how many records the root has
abbrev pub root_count : Store → ℕ
root_count nodes = length (records_in nodes (header_in nodes).root)

-- a root that is above the leaves has more than one child
abbrev pub RootBranches : Store → Type 0
RootBranches nodes = 2 ≤ depth_of nodes → 2 ≤ root_count nodes

-- the pairs are the same
abbrev pub KeepsContent : {K : Type 0} → Ghosts K → Store → Store → Type 0
KeepsContent g old new = tree_content g new ≡ tree_content g old

-- one more node is free
abbrev pub FreesOne : Store → Store → Type 0
FreesOne old new = free_nodes new ≡ free_nodes old + 1

-- the chain left its links, and the record on the way its node, of these nodes
abbrev pub Detaches : {K V : Type 0} → Ghosts K → Step → List Step → (V → Store) → V → V → Option K → Type 0
Detaches g p chain nodes old new = HasDetached g p chain (nodes old) (nodes new)
