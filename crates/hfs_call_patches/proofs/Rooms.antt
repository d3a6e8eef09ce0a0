-- Extents by their blocks.
use Rattle.std.proofs.Common.{◌≡◌, inl, inr, ℕ, zero, suc, ◌+◌, ◌*◌, ◌<◌, ◌≤◌, Bool, true, false, cond, eqb, List, [], ◌∷◌, length, filter, refl, sym, ◌∙◌, ap, subst, arith}
use Rattle.std.specs.Prelude.{not}
use Rattle.std.proofs.lemmas.Bool.{cases_lt, eq-eqb}
use Rattle.std.specs.List.{range_with_len}
use Rattle.std.proofs.lemmas.Grind.{div_ceil_times}
use Rattle.std.proofs.lemmas.List.Elements.{All-nil, All-cons}
use Rattle.hfs_fields.specs.declared.extent.Extent.{Extent}
use Rattle.hfs_fields.specs.Each.{Each}
use Rattle.hfs_fields.proofs.ElementLemmas.{each-left, each-mono, each-right}
use Rattle.hfs_fields.proofs.PartLemmas.{flat-each}
use Rattle.hfs_space.specs.Bitmap.{count_below}
use Rattle.hfs_space.specs.Extents.{block_total, extent_blocks, IsExtentWithin, AreExtentsWithin}
use Rattle.hfs_space.specs.Owners.{owners}
use Rattle.hfs_space.proofs.CountingLemmas.{count_below-suc}
use Rattle.hfs_space.proofs.Decided.{each_from_all}
use Rattle.hfs_space.proofs.OwnedOnce.{each-range}
use Rattle.hfs_record_edits.proofs.Space.{cons, one, no, owned_each}
use Rattle.hfs_model.specs.Forks.{blocks}
use Rattle.hfs_space.proofs.OwnedLemmas.{length-blocks}

-- of a row of numbers that are all below n, the last is
last_below : (n a k : ℕ) → Each (λ (b : ℕ). b < n) (range_with_len a k) → 0 < k → a + k ≤ n
last_below n a zero h some = absurd (omega (arith, some))
last_below n a (suc zero) h some = let low : a < n = h.0 in omega (arith, low)
last_below n a (suc (suc k)) h some = let rest = last_below n (a + 1) (suc k) h.1 (omega arith) in omega (arith, rest)

-- extents whose blocks are all below n lie within it
pub extents_within : (n : ℕ) (es : List Extent) → Each (λ (b : ℕ). b < n) (extent_blocks es) → AreExtentsWithin n es
extents_within n [] h = All-nil (IsExtentWithin n)
extents_within n (e ∷ es) h =
    All-cons (IsExtentWithin n) e es
    (λ some. last_below n e.first e.count (each-left (λ (b : ℕ). b < n) (range_with_len e.first e.count) (extent_blocks es) h) some)
    (extents_within n es (each-right (λ (b : ℕ). b < n) (range_with_len e.first e.count) (extent_blocks es) h))

-- as many blocks as bytes take have room for these
pub has_room : (size len : ℕ) (es : List Extent) → 0 < size → length (extent_blocks es) ≡ blocks size len → len ≤ block_total es * size
has_room size len es least exact =
    let ceiling = div_ceil_times len size least in
    subst (λ (k : ℕ). len ≤ k * size) (sym exact ∙ length-blocks es) ceiling.0

-- a block of extents that lie in the volume is the volume's
pub within_each : (n : ℕ) (b : ℕ) (es : List Extent) → AreExtentsWithin n es → 0 < owners (extent_blocks es) b → b < n
within_each n b es within some = owned_each (λ (x : ℕ). x < n) (extent_blocks es) (flat-each (λ (x : ℕ). x < n) (λ (e : Extent). range_with_len e.first e.count) es
    (each-mono _ _ es (λ e inside. each-range (λ (x : ℕ). x < n) e.first e.count (λ x from to. omega (arith, inside (omega (arith, from, to)), to))) (each_from_all (IsExtentWithin n) es within))) b some

-- ---- marked blocks, each once, leave no more clear ones than there are others

-- all but those of number n
abbrev others_than : ℕ → List ℕ → List ℕ
others_than n xs = filter (λ x. not (eqb x n)) xs

parted : (n : ℕ) (xs : List ℕ) → length xs ≡ length (others_than n xs) + owners xs n
parted n [] = refl
parted n (x ∷ xs) = elim (eqb x n) as (λ (t : Bool). eqb x n ≡ t → length (x ∷ xs) ≡ length (cond (not t) (x ∷ others_than n xs) (others_than n xs)) + owners (x ∷ xs) n) [
  | true ↦ λ e. omega (arith, parted n xs, cons n x xs, one (eqb x n) e)
  | false ↦ λ e. omega (arith, parted n xs, cons n x xs, no (eqb x n) e)
] refl

others_have : (n b : ℕ) (xs : List ℕ) → owners (others_than n xs) b ≤ owners xs b
others_have n b [] = omega arith
others_have n b (x ∷ xs) = elim (eqb x n) as (λ (t : Bool). owners (cond (not t) (x ∷ others_than n xs) (others_than n xs)) b ≤ owners (x ∷ xs) b) [
  | true ↦ omega (arith, others_have n b xs, cons b x xs)
  | false ↦ omega (arith, others_have n b xs, cons b x xs, cons b x (others_than n xs))
]

none_of : (n : ℕ) (xs : List ℕ) → owners (others_than n xs) n ≡ 0
none_of n [] = refl
none_of n (x ∷ xs) = elim (eqb x n) as (λ (t : Bool). eqb x n ≡ t → owners (cond (not t) (x ∷ others_than n xs) (others_than n xs)) n ≡ 0) [
  | true ↦ λ e. none_of n xs
  | false ↦ λ e. omega (arith, none_of n xs, cons n x (others_than n xs), no (eqb x n) e)
] refl

pub room_left : (used : ℕ → Bool) (n : ℕ) (xs : List ℕ) → ((b : ℕ) → owners xs b ≤ 1) → ((b : ℕ) → 0 < owners xs b → b < n) → ((b : ℕ) → 0 < owners xs b → used b ≡ true)
    → count_below (λ b. not (used b)) n + length xs ≤ n
room_left used zero [] once within marked = let none : count_below (λ b. not (used b)) 0 ≡ 0 = refl in omega (arith, none)
room_left used zero (x ∷ xs) once within marked =
    absurd (let low = within x (omega (arith, cons x x xs, one (eqb x x) (eq-eqb x x refl))) in omega (arith, low))
room_left used (suc n) xs once within marked =
    let ys = others_than n xs in
    let rest = room_left used n ys (λ b. omega (arith, once b, others_have n b xs))
    (λ b some. let low = within b (omega (arith, some, others_have n b xs)) in below b some (ne b some) low)
    (λ b some. marked b (omega (arith, some, others_have n b xs))) in
    let step = count_below-suc (λ b. not (used b)) n in
    let all = parted n xs in
    elim (cases_lt 0 (owners xs n)) [
      | inl some ↦
          let none : ◌≡◌ {A = ℕ} (cond (not (used n)) 1 0) 0 = ap (λ (b : Bool). cond (not b) 1 0) (marked n some) in
          omega (arith, rest, step, all, none, once n)
      | inr none ↦ omega (arith, rest, step, all, none, at_most_one (not (used n)))
    ]
  where
    ne : (b : ℕ) → 0 < owners (others_than n xs) b → b ≡ n → ⊥
    ne b some same = let none = none_of n xs in let few = subst (λ (k : ℕ). 0 < owners (others_than n xs) k) same some in omega (arith, none, few)

    below : (b : ℕ) → 0 < owners (others_than n xs) b → (b ≡ n → ⊥) → b < suc n → b < n
    below b some other low = elim (cases_lt b n) [ inl lt ↦ lt | inr ge ↦ absurd (other (omega (arith, ge, low))) ]

    at_most_one : (t : Bool) → cond t 1 0 ≤ 1
    at_most_one true = omega arith
    at_most_one false = omega arith
