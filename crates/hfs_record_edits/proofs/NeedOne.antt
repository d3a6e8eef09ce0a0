-- Who has nodes enough for several records has enough for one.
use Rattle.std.proofs.Common.{◌≡◌, ℕ, suc, ◌+◌, ◌-◌, ◌*◌, ◌/◌, ◌<◌, ◌≤◌, inl, inr, length, arith}
use Rattle.std.proofs.Math.Nat.{suc-mul}
use Rattle.std.proofs.lemmas.Bool.{cases_lt}
use Rattle.std.proofs.lemmas.List.{length-map}
use Rattle.std.proofs.lemmas.List.FromFn.{length-range_with_len}
use Rattle.std.proofs.lemmas.List.Sums.{count_by-le-length}
use Rattle.std.specs.Prelude.{not}
use Rattle.std.specs.List.{range_with_len}
use Rattle.hfs_btree.specs.Tree.{Store}
use Rattle.hfs_btree.specs.Header.{header_in, depth_of, free_nodes, marks, map_bytes, bit_of}
use Rattle.hfs_space.specs.TreeKeys.{overflow_of}
use Rattle.hfs_record_edits.specs.Need.{extents_need, HasNodesFor}
use Rattle.hfs_record_edits.proofs.Needs.{need-leaf, need-many, need-rest}

half-some : (p : ℕ) → 2 ≤ p → 1 ≤ p / 2
half-some p le = omega (arith, le)

-- more than one record on each level, and a root
several : (n d : ℕ) → d + 1 ≤ suc n * d + suc n * (suc n + 1) / 2
several n d =
    let a = suc-mul n d in
    let b = suc-mul n (suc n + 1) in
    let c = half-some (suc n * (suc n + 1)) (omega (arith, b)) in
    omega (arith, a, c)

pub need-one_of : (n d r f : ℕ) → f < 4294967296 → extents_need (suc n) d r ≤ f → extents_need 1 d r ≤ f
need-one_of n d r f small enough = elim (cases_lt 1 d) [
  | inl deep ↦ over (λ flat. absurd (omega (arith, flat, deep)))
  | inr flat ↦ elim (cases_lt 22 (r + 1)) [
    | inl many ↦ over (λ _. many)
    | inr few ↦ (let one = need-leaf 1 d r (omega arith) flat few in fits flat one)
  ]
]
  where
    -- more than fits into one leaf
    over : (d ≤ 1 → 22 < r + 1) → extents_need 1 d r ≤ f
    over past = elim (cases_lt 16 (d + suc n)) [
      | inl deep ↦ absurd (let e = need-many (suc n) d r (omega arith) (λ flat. let p = past flat in omega (arith, p)) deep in omega (arith, e, small, enough))
      | inr shallow ↦
          (let was = need-rest (suc n) d r (omega arith) (λ flat. let p = past flat in omega (arith, p)) (omega (arith, shallow)) in
          let is = need-rest 1 d r (omega arith) past (omega (arith, shallow)) in
          let once : 1 * d + 1 * (1 + 1) / 2 ≡ d + 1 = omega arith in
          let most = several n d in
          omega (arith, was, is, once, most, enough))
    ]

    fits : d ≤ 1 → extents_need 1 d r ≡ 1 - d → extents_need 1 d r ≤ f
    fits flat one = elim (cases_lt 22 (r + suc n)) [
      | inr few ↦ (let was = need-leaf (suc n) d r (omega arith) flat few in omega (arith, was, one, enough))
      | inl many ↦ elim (cases_lt 16 (d + suc n)) [
        | inl deep ↦ absurd (let e = need-many (suc n) d r (omega arith) (λ _. many) deep in omega (arith, e, small, enough))
        | inr shallow ↦
            (let was = need-rest (suc n) d r (omega arith) (λ _. many) (omega (arith, shallow)) in
            let most = several n d in
            omega (arith, was, one, most, enough))
      ]
    ]

pub has-one : (n : ℕ) (nodes : Store) → free_nodes nodes < 4294967296 → HasNodesFor (suc n) nodes → HasNodesFor 1 nodes
has-one n nodes small enough = need-one_of n (depth_of nodes) (length (overflow_of nodes)) (free_nodes nodes) small enough

-- no more nodes are free than there are
pub free-small : (nodes : Store) → 512 * (header_in nodes).nodes < 4294967296 → free_nodes nodes < 4294967296
unfolding free_nodes marks
free-small nodes small =
    let most = count_by-le-length not (marks nodes) in
    let long = length-map (range_with_len 0 (header_in nodes).nodes) (bit_of (map_bytes nodes)) in
    let count = length-range_with_len 0 (header_in nodes).nodes in
    omega (arith, most, long, count, small)
