-- A level of which a node has left, and whose neighbours are linked to each other.
use Rattle.std.proofs.Common.{◌≡◌, ℕ, ◌<◌, ◌≤◌, List, [], ◌∷◌, ◌++◌, refl, sym, ap, ◌∙◌, arith}
use Rattle.hfs_btree.specs.declared.key.Key.{Ghosts}
use Rattle.hfs_fields.specs.Each.{Each}
use Rattle.hfs_btree.specs.Tree.{Store, Spot, node_in, records_in, records_of, first_of, spots}
use Rattle.hfs_btree.specs.Header.{header_in}
use Rattle.hfs_btree.specs.Sound.{IsMarked, IsRight}
pub use Rattle.hfs_btree_removal.specs.Removal.{IsForward, IsBackward}

-- the last of a list, or what stands before it
abbrev pub last_or : ℕ → List ℕ → ℕ
last_or d [] = d
last_or d (x ∷ xs) = last_or x xs

module _ (old new : Store) where
  abbrev pub IsKept : ℕ → Type 0
  IsKept n = node_in new n ≡ node_in old n

  -- what links over a node: the last before it, the first behind it; all others are the same
  abbrev pub IsBackGap : ℕ → List ℕ → Type 0
  IsBackGap left [] = Unit {0}
  IsBackGap left (y ∷ ys) = IsBackward old new y left × Each IsKept ys

  abbrev pub IsFrontGap : List ℕ → ℕ → Type 0
  IsFrontGap [] right = Unit {0}
  IsFrontGap (x ∷ []) right = IsForward old new x right
  IsFrontGap (x ∷ z ∷ xs) right = IsKept x × IsFrontGap (z ∷ xs) right

module _ {K : Type 0} (g : Ghosts K) (old new : Store) (count : (header_in new).nodes ≡ (header_in old).nodes) (marks : (m : ℕ) → IsMarked old m → IsMarked new m) where
  within : (n : ℕ) → (1 ≤ n) × (n < (header_in old).nodes) → (1 ≤ n) × (n < (header_in new).nodes)
  within n h = (h.0, let lt = h.1 in let e = count in omega arith)

  pub right-kept : (spot : Spot) → IsKept old new spot.n → IsRight g old spot → IsRight g new spot
  right-kept spot same r = record {
    within = within spot.n r.within;
    value = r.value;
    decodes = same ∙ r.decodes;
    kind = r.kind;
    height = r.height;
    some = r.some;
    left = r.left;
    right = r.right;
    whole = r.whole;
    marked = marks spot.n r.marked;
  }

  pub right-forward : (above left n right to : ℕ) → IsForward old new n to → IsRight g old (record { left = left; n = n; right = right; above = above }) → IsRight g new (record { left = left; n = n; right = to; above = above })
  right-forward above left n right to f r = record {
    within = within n r.within;
    value = record (r.value) { forward = to };
    decodes = f r.value r.decodes;
    kind = r.kind;
    height = r.height;
    some = r.some;
    left = r.left;
    right = refl;
    whole = r.whole;
    marked = marks n r.marked;
  }

  pub right-backward : (above left n right to : ℕ) → IsBackward old new n to → IsRight g old (record { left = left; n = n; right = right; above = above }) → IsRight g new (record { left = to; n = n; right = right; above = above })
  right-backward above left n right to f r = record {
    within = within n r.within;
    value = record (r.value) { backward = to };
    decodes = f r.value r.decodes;
    kind = r.kind;
    height = r.height;
    some = r.some;
    left = refl;
    right = r.right;
    whole = r.whole;
    marked = marks n r.marked;
  }

  pub spots-kept : (above left : ℕ) (ns : List ℕ) → Each (IsKept old new) ns → Each (IsRight g old) (spots above left ns) → Each (IsRight g new) (spots above left ns)
  spots-kept above left [] k h = tt
  spots-kept above left (n ∷ ns) k h = (right-kept _ k.0 h.0, spots-kept above n ns k.1 h.1)

  gap-back : (above n left : ℕ) (ys : List ℕ) → IsBackGap old new left ys → Each (IsRight g old) (spots above n ys) → Each (IsRight g new) (spots above left ys)
  gap-back above n left [] k h = tt
  gap-back above n left (y ∷ ys) k h = (right-backward above n y (first_of ys) left k.0 h.0, spots-kept above y ys k.1 h.1)

  -- the level without the node is linked
  pub gap-linked : (above left : ℕ) (xs : List ℕ) (n : ℕ) (ys : List ℕ) → IsFrontGap old new xs (first_of ys) → IsBackGap old new (last_or left xs) ys
      → Each (IsRight g old) (spots above left (xs ++ n ∷ ys)) → Each (IsRight g new) (spots above left (xs ++ ys))
  gap-linked above left [] n ys f b h = gap-back above n left ys b h.1
  gap-linked above left (x ∷ []) n ys f b h = (right-forward above left x n (first_of ys) f h.0, gap-back above n x ys b h.1.1)
  gap-linked above left (x ∷ z ∷ xs) n ys f b h = (right-kept _ f.0 h.0, gap-linked above x (z ∷ xs) n ys f.1 b h.1)

-- ---- the records beside a node that has left

module _ {K : Type 0} (g : Ghosts K) (old new : Store) where
  same-back : (above left : ℕ) (ys : List ℕ) → Each (IsKept old new) ys → Each (λ n. records_in new n ≡ records_in old n) ys
  same-back above left [] k = tt
  same-back above left (y ∷ ys) k = (ap records_of k.0, same-back above y ys k.1)

  back-records : (above left n : ℕ) (ys : List ℕ) → IsBackGap old new left ys → Each (IsRight g old) (spots above n ys) → Each (λ m. records_in new m ≡ records_in old m) ys
  back-records above left n [] k h = tt
  back-records above left n (y ∷ ys) k h = (ap records_of (k.0 h.0.value h.0.decodes) ∙ sym (ap records_of h.0.decodes), same-back above y ys k.1)

  -- all nodes of the level have kept their records
  pub gap-records : (above left : ℕ) (xs : List ℕ) (n : ℕ) (ys : List ℕ) (l : ℕ) → IsFrontGap old new xs (first_of ys) → IsBackGap old new l ys
      → Each (IsRight g old) (spots above left (xs ++ n ∷ ys)) → Each (λ m. records_in new m ≡ records_in old m) (xs ++ ys)
  gap-records above left [] n ys l f b h = back-records above l n ys b h.1
  gap-records above left (x ∷ []) n ys l f b h = (ap records_of (f h.0.value h.0.decodes) ∙ sym (ap records_of h.0.decodes), back-records above l n ys b h.1.1)
  gap-records above left (x ∷ z ∷ xs) n ys l f b h = (ap records_of f.0, gap-records above x (z ∷ xs) n ys l f.1 b h.1)
