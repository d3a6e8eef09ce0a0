-- What one more block that is held makes of those that were held before.
use Rattle.std.proofs.Common.{◌≡◌, ℕ, ◌+◌, ◌<◌, inl, inr, Bool, true, false, cond, List, [], ◌∷◌, Option, Some, None, nat_eq, eqb-true, refl, sym, ap, ◌∙◌, subst, arith, rules, true≢false, ⊎_elim}
use Rattle.std.proofs.lemmas.Bool.{cases_eq}
use Rattle.std.specs.Map.{lookup}
use Rattle.std.specs.Option.{option_map}
use Rattle.hfs_blocks.specs.Blocks.{block_at}
use Rattle.std.specs.Prelude.{is_some, length}
use Rattle.hfs_blocks.specs.Layers.{Numbered, changes, with_change, AreWhole}
use Rattle.hfs_source.specs.declared.held.Held.{Held}
use Rattle.hfs_source.specs.Sparse.{zero_block, length-zero_block}
use Rattle.hfs_source.proofs.BlockBytes.{whole-block}
use Rattle.hfs_source.specs.Held.{held_block, held_blocks, blocks_by, AreHeld, ArePlacedBelow, IsPutIn, PutsInOnly, PutsInAll, SameBehind}

-- ---- by their places

pub changes-by : (bytes : List ℕ) (places : List (ℕ × Option ℕ)) (n : ℕ) → changes (blocks_by bytes places) n ≡ option_map (held_block bytes) (lookup (nat_eq n) places)
changes-by bytes [] n = refl
changes-by bytes (e ∷ places) n = by (nat_eq n e.0) (changes-by bytes places n)
  where
    by : (t : Bool) → changes (blocks_by bytes places) n ≡ option_map (held_block bytes) (lookup (nat_eq n) places)
        → cond t (Some (held_block bytes e.1)) (changes (blocks_by bytes places) n) ≡ option_map (held_block bytes) (cond t (Some e.1) (lookup (nat_eq n) places))
    by true rest = refl
    by false rest = rest

module _ (bytes later : List ℕ) (places new : List (ℕ × Option ℕ)) (count : ℕ) (placed : ArePlacedBelow places count)
    (same : (k : ℕ) → k < count → block_at later k ≡ block_at bytes k) where
  pub other : (n : ℕ) → option_map (held_block later) (lookup (nat_eq n) places) ≡ option_map (held_block bytes) (lookup (nat_eq n) places)
  other n = by (lookup (nat_eq n) places) refl
    where
      by : (o : Option (Option ℕ)) → lookup (nat_eq n) places ≡ o → option_map (held_block later) o ≡ option_map (held_block bytes) o
      by None e = refl
      by (Some None) e = refl
      by (Some (Some place)) e = ap Some (same place (placed n place e))

  pub put-by : (n : ℕ) (place : Option ℕ) (b : List ℕ) → ((q : ℕ) → lookup (nat_eq q) new ≡ cond (nat_eq n q) (Some place) (lookup (nat_eq q) places))
      → held_block later place ≡ b → changes (blocks_by later new) ≡ with_change (changes (blocks_by bytes places)) n b
  put-by n place b updates own = λ i q. pointwise q i
    where
      pointwise : (q : ℕ) → changes (blocks_by later new) q ≡ with_change (changes (blocks_by bytes places)) n b q
      pointwise q = changes-by later new q ∙ ap (λ o. option_map (held_block later) o) (updates q) ∙ by (nat_eq n q)
        where
          by : (t : Bool) → option_map (held_block later) (cond t (Some place) (lookup (nat_eq q) places)) ≡ cond t (Some b) (changes (blocks_by bytes places) q)
          by true = ap Some own
          by false = other q ∙ sym (changes-by bytes places q)

-- ---- one of several

module _ (first start i : ℕ) (raw bytes : List ℕ) (old before new : Numbered)
    (is : changes new ≡ with_change (changes before) (first + i) (block_at bytes (start + i))) (behind : SameBehind (start + i) raw bytes) where
  written : (n : ℕ) → changes new n ≡ cond (nat_eq (first + i) n) (Some (block_at raw (start + i))) (changes before n)
  written n = (λ j. is j n) ∙ ap (λ b. cond (nat_eq (first + i) n) (Some b) (changes before n)) (behind (start + i) (omega arith))

  here : changes new (first + i) ≡ Some (block_at raw (start + i))
  here = written (first + i) ∙ by (nat_eq (first + i) (first + i)) refl
    where
      by : (t : Bool) → nat_eq (first + i) (first + i) ≡ t → cond t (Some (block_at raw (start + i))) (changes before (first + i)) ≡ Some (block_at raw (start + i))
      by true e = refl
      by false e = absurd (true≢false (sym (same (first + i)) ∙ e))
        where
          same : (x : ℕ) → nat_eq x x ≡ true
          same x = search rules

  elsewhere : (n : ℕ) → (n ≡ first + i → ⊥) → changes new n ≡ changes before n
  elsewhere n away = written n ∙ by (nat_eq (first + i) n) refl
    where
      by : (t : Bool) → nat_eq (first + i) n ≡ t → cond t (Some (block_at raw (start + i))) (changes before n) ≡ changes before n
      by true e = absurd (away (sym (eqb-true (first + i) n e)))
      by false e = refl

  pub all-more : PutsInAll first i start raw before → PutsInAll first (i + 1) start raw new
  all-more all k lt = ⊎_elim
      (λ (same : k ≡ i). subst (λ j. changes new (first + j) ≡ Some (block_at raw (start + j))) (sym same) here)
      (λ (away : k ≡ i → ⊥). elsewhere (first + k) (λ e. away (let same : k ≡ i = omega (arith, e) in same)) ∙ all k (let few : k < i = omega (arith, lt, away) in few))
      (cases_eq k i)

  wider : (n : ℕ) → changes new n ≡ changes before n → IsPutIn first i start raw before n → IsPutIn first (i + 1) start raw new n
  wider n same put = record { k = put.k; few = omega (arith, put.few); number = put.number; block = same ∙ put.block }

  pub only-more : PutsInOnly first i start raw old before → PutsInOnly first (i + 1) start raw old new
  only-more only n = ⊎_elim
      (λ (same : n ≡ first + i). inr (subst (λ m. IsPutIn first (i + 1) start raw new m) (sym same)
      (record { k = i; few = omega arith; number = refl; block = here })))
      (λ (away : n ≡ first + i → ⊥). ⊎_elim
      (λ (stays : changes before n ≡ changes old n). inl (elsewhere n away ∙ stays))
      (λ (put : IsPutIn first i start raw before n). inr (wider n (elsewhere n away) put))
      (only n))
      (cases_eq n (first + i))

-- ---- of blocks that are held

-- whether a number has a place, it has a block
pub some-by : (bytes : List ℕ) (places : List (ℕ × Option ℕ)) (n : ℕ) → is_some (lookup (nat_eq n) places) ≡ is_some (changes (blocks_by bytes places) n)
some-by bytes places n = by (lookup (nat_eq n) places) ∙ sym (ap is_some (changes-by bytes places n))
  where
    by : (o : Option (Option ℕ)) → is_some o ≡ is_some (option_map (held_block bytes) o)
    by None = refl
    by (Some place) = refl

-- each has 512 bytes
pub whole-held : (held : Held) → AreHeld held → AreWhole (changes (held_blocks held))
whole-held held are n b found = by (lookup (nat_eq n) held.places.entries) refl (sym (changes-by held.bytes.items held.places.entries n) ∙ found)
  where
    by : (o : Option (Option ℕ)) → lookup (nat_eq n) held.places.entries ≡ o → option_map (held_block held.bytes.items) o ≡ Some b → length b ≡ 512
    by None e h = absurd (true≢false (sym (ap is_some h)))
    by (Some None) e h = let own : zero_block ≡ b = cc in ap length (sym own) ∙ length-zero_block
    by (Some (Some place)) e h =
        let own : block_at held.bytes.items place ≡ b = cc in
        ap length (sym own) ∙ whole-block held.bytes.items place (omega (arith, are.placed n place e, are.there))
