-- The way from the root of a tree down to a pair, as steps.
use Rattle.std.specs.Prelude.{◌≡◌, ℕ, ◌+◌, ◌<◌, ◌≤◌, List, [], ◌∷◌, ◌++◌, length, slice_index_or}
use Rattle.std.specs.declared.cmp.Ordering.TheVariants.{Equal}
use Rattle.hfs_btree_removal.specs.declared.down.Step.{Step}
use Rattle.hfs_btree.specs.declared.key.Key.{Ghosts}
use Rattle.hfs_fields.specs.Each.{Each}
use Rattle.hfs_btree.specs.Tree.{Store, records_in, records_of}
use Rattle.hfs_btree.specs.Node.{node_of}
use Rattle.hfs_btree.specs.Header.{header_in, depth_of}

-- the step is at this node, and says how many records it has and one of them
pub record IsStep (nodes : Store) (n : ℕ) (s : Step) : Type 0 where
  pub node : s.node ≡ n
  pub count : s.count ≡ length (records_in nodes n)
  pub within : s.place < s.count

-- the steps lead from one node down to another
abbrev pub Leads : {K : Type 0} → Ghosts K → Store → ℕ → List Step → ℕ → Type 0
Leads g nodes n [] m = n ≡ m
Leads g nodes n (s ∷ ss) m = IsStep nodes n s × Leads g nodes (g.child (slice_index_or (records_in nodes n) s.place [])) ss m

-- the steps lead from the root to the record of a leaf that has the key, one at each level
pub record IsWayTo {K : Type 0} (g : Ghosts K) (nodes : Store) (key : K) (steps : List Step) : Type 0 where
  pub above : List Step
  pub last : Step
  pub split : steps ≡ above ++ last ∷ []
  pub long : length above + 1 ≡ depth_of nodes
  pub leads : Leads g nodes (header_in nodes).root above last.node
  pub leaf : IsStep nodes last.node last
  pub equal : g.compare key (g.leaf_key (slice_index_or (records_in nodes last.node) last.place [])) ≡ Equal

-- the step at this place is the last whose node has more than one record
pub record IsLastWide (steps : List Step) (at : ℕ) : Type 0 where
  pub before : List Step
  pub wide : Step
  pub behind : List Step
  pub split : steps ≡ before ++ wide ∷ behind
  pub long : length before ≡ at
  pub more : 2 ≤ wide.count
  pub ones : Each (λ s. s.count ≤ 1) behind

-- no node of these steps has more than one record
abbrev pub AreNarrow : List Step → Type 0
AreNarrow steps = Each (λ s. s.count ≤ 1) steps

-- the child that the record at a place names
abbrev pub child_in : {K : Type 0} → Ghosts K → List ℕ → ℕ → ℕ
child_in g bytes place = g.child (slice_index_or (records_of (node_of bytes)) place [])
