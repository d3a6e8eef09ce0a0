-- What stays in a volume of whose allocation blocks only those of one file have changed.
use Rattle.std.proofs.Common.{◌≡◌, ℕ, zero, suc, ◌+◌, ◌*◌, ◌/◌, ◌<◌, Bool, cond, eqb, List, [], ◌∷◌, ◌++◌, map, take, get_or, refl, sym, ◌∙◌, ap, subst, arith}
use Rattle.std.specs.List.{flat_map, range_with_len}
use Rattle.std.proofs.lemmas.Nat.{div-mul-add}
use Rattle.std.proofs.lemmas.List.Sums.{sum_by-cons}
use Rattle.std.proofs.lemmas.Bool.{eq-eqb}
use Rattle.hfs_fields.specs.declared.mdb.Mdb.{Mdb}
use Rattle.hfs_fields.specs.declared.extent.Extent.{Extent}
use Rattle.hfs_fields.specs.Each.{Each}
use Rattle.hfs_fields.proofs.ElementLemmas.{each-append, each-mono, each-unmap, each-map}
use Rattle.hfs_btree.specs.Sound.{IsOther}
use Rattle.hfs_blocks.specs.Blocks.{nodes_in}
use Rattle.hfs_space.specs.Extents.{extent_blocks}
use Rattle.hfs_space.specs.Forks.{blocks_each, file_blocks, fork_bytes, joined}
use Rattle.hfs_space.proofs.ForkLawLemmas.{allocation_block, file_blocks-in_order}
use Rattle.hfs_space.specs.ForkLaws.{block_numbers}
use Rattle.hfs_space.specs.TreeFiles.{tree_nodes, node_count}
use Rattle.hfs_space.specs.Owners.{owners}
use Rattle.hfs_record_edits.proofs.Space.{each_owned}

-- ---- rows of numbers

pub each_range : (P : ℕ → Type 0) (a n : ℕ) → ((j : ℕ) → j < n → P (a + j)) → Each P (range_with_len a n)
each_range P a zero h = tt
each_range P a (suc n) h = (
  subst P (let e : a + 0 ≡ a = omega arith in e) (h 0 (omega arith)),
  each_range P (a + 1) n (λ j lt. subst P (let e : a + suc j ≡ a + 1 + j = omega arith in e) (h (suc j) (omega arith))),
)

map_range : {X : Type 0} (f g : ℕ → X) (a n : ℕ) → ((j : ℕ) → j < n → f (a + j) ≡ g (a + j)) → map f (range_with_len a n) ≡ map g (range_with_len a n)
map_range f g a zero h = refl
map_range f g a (suc n) h =
    let here : f a ≡ g a = subst (λ (x : ℕ). f x ≡ g x) (let e : a + 0 ≡ a = omega arith in e) (h 0 (omega arith)) in
    λ i. here i ∷ map_range f g (a + 1) n (λ j lt. subst (λ (x : ℕ). f x ≡ g x) (let e : a + suc j ≡ a + 1 + j = omega arith in e) (h (suc j) (omega arith))) i

-- what is made of numbers, each of which stands there
flat_same : {X : Type 0} (f g : ℕ → List X) (xs : List ℕ) → Each (λ a. f a ≡ g a) xs → flat_map f xs ≡ flat_map g xs
flat_same f g [] h = refl
flat_same f g (x ∷ xs) h = λ i. h.0 i ++ flat_same f g xs h.1 i

-- ---- the logical blocks of allocation blocks

module _ (mdb : Mdb) where
  -- logical block j of allocation block a
  abbrev pub block_in : ℕ → ℕ → ℕ
  block_in a j = mdb.allocation_start + a * blocks_each mdb + j

  one_place : (a c j k : ℕ) → j < blocks_each mdb → k < blocks_each mdb → block_in a j ≡ block_in c k → a ≡ c
  one_place a c j k low high same =
      let e : a * blocks_each mdb + j ≡ c * blocks_each mdb + k = omega (arith, same) in
      sym (div-mul-add a (blocks_each mdb) j low) ∙ ap (λ (n : ℕ). n / blocks_each mdb) e ∙ div-mul-add c (blocks_each mdb) k high

  same_one : (m n : ℕ) → m ∷ [] ≡ n ∷ [] → m ≡ n
  same_one m n e = ap (λ (l : List ℕ). get_or l 0 m) e

  rows : (a j : ℕ) → j < blocks_each mdb → (cs : List ℕ) → owners cs a ≡ 0 → Each (λ (l : List ℕ). l ≡ block_in a j ∷ [] → ⊥) (flat_map (allocation_block (λ (n : ℕ). n ∷ []) mdb) cs)
  rows a j low [] e = tt
  rows a j low (c ∷ cs) e =
      let parts : owners (c ∷ cs) a ≡ cond (eqb c a) 1 0 + owners cs a = sum_by-cons (λ (o : ℕ). cond (eqb o a) 1 0) c cs in
      let other : a ≡ c → ⊥ = λ same. let here : ◌≡◌ {A = ℕ} (cond (eqb c a) 1 0) 1 = ap (λ (b : Bool). cond b 1 0) (eq-eqb c a (sym same)) in omega (arith, here, parts, e) in
      let Q = λ (l : List ℕ). l ≡ block_in a j ∷ [] → ⊥ in
      each-append Q (allocation_block (λ (n : ℕ). n ∷ []) mdb c) (flat_map (allocation_block (λ (n : ℕ). n ∷ []) mdb) cs)
      (each-map Q (λ (n : ℕ). n ∷ []) (range_with_len (mdb.allocation_start + c * blocks_each mdb) (blocks_each mdb))
      (each_range (λ n. Q (n ∷ [])) (mdb.allocation_start + c * blocks_each mdb) (blocks_each mdb) (λ k high same. other (one_place a c j k low high (sym (same_one _ _ same))))))
      (rows a j low cs (omega (arith, parts, e)))

  -- a block of another allocation block is none of a file's
  pub beside_file : (file : List Extent) (a j : ℕ) → j < blocks_each mdb → owners (extent_blocks file) a ≡ 0 → Each (IsOther (block_in a j)) (block_numbers mdb file)
  unfolding nodes_in
  beside_file file a j low none =
      let one = λ (n : ℕ). n ∷ [] in
      let apart : Each (λ (l : List ℕ). l ≡ one (block_in a j) → ⊥) (flat_map (allocation_block one mdb) (extent_blocks file)) = rows a j low (extent_blocks file) none in
      each-mono _ _ (block_numbers mdb file) (λ n h same. h (ap one same))
      (each-unmap (λ (l : List ℕ). l ≡ one (block_in a j) → ⊥) one (block_numbers mdb file) (subst (Each (λ (l : List ℕ). l ≡ one (block_in a j) → ⊥)) (sym (file_blocks-in_order one mdb file)) apart))

-- ---- one file's blocks have changed, and no others among the allocation blocks

module _ (f g : ℕ → List ℕ) (mdb : Mdb) (file : List Extent) (beside : (a j : ℕ) → j < blocks_each mdb → owners (extent_blocks file) a ≡ 0 → g (block_in mdb a j) ≡ f (block_in mdb a j)) where
  pub same_allocation : (a : ℕ) → owners (extent_blocks file) a ≡ 0 → allocation_block g mdb a ≡ allocation_block f mdb a
  same_allocation a none = map_range g f (mdb.allocation_start + a * blocks_each mdb) (blocks_each mdb) (λ j low. beside a j low none)

  -- a file that has none of these blocks has its bytes
  module _ (extents : List Extent) (apart : (a : ℕ) → 0 < owners (extent_blocks extents) a → owners (extent_blocks file) a ≡ 0) where
    pub same_file : file_blocks g mdb extents ≡ file_blocks f mdb extents
    same_file =
        file_blocks-in_order g mdb extents
        ∙ flat_same (allocation_block g mdb) (allocation_block f mdb) (extent_blocks extents) (each_owned _ (extent_blocks extents) (λ a some. same_allocation a (apart a some)))
        ∙ sym (file_blocks-in_order f mdb extents)

    pub same_bytes : (len : ℕ) → fork_bytes g mdb extents len ≡ fork_bytes f mdb extents len
    unfolding fork_bytes
    same_bytes len = ap (λ l. take len (joined l)) same_file

    pub same_nodes : (size : ℕ) → tree_nodes g mdb extents size ≡ tree_nodes f mdb extents size
    unfolding tree_nodes
    same_nodes size = ap (λ l. take (node_count size) l) same_file
