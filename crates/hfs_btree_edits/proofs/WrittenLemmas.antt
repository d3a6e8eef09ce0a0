-- A block that is written into a patch is one node of a file whose nodes lie in different blocks.
use Rattle.std.proofs.Common.{◌≡◌, ℕ, zero, suc, ◌<◌, Bool, true, false, cond, ◌||◌, List, [], ◌∷◌, length, map, get_or, slice_set, nat_eq, refl, sym, ap, ◌∙◌, subst, arith, true≢false, eqb-true}
use Rattle.std.proofs.lemmas.Bool.{eq-eqb}
use Rattle.std.specs.List.{flat_map}
use Rattle.std.specs.Prelude.{Some, Result, Ok, Err, OnOk, OnErr}
use Rattle.std.proofs.lemmas.List.{length-map}
use Rattle.hfs_blocks.specs.declared.run.Run.{Run}
use Rattle.hfs_blocks.specs.Blocks.{run_of, nodes_in}
use Rattle.hfs_fields.specs.Each.{Each}
use Rattle.hfs_btree.specs.Sound.{IsOther, IsDistinct}
use Rattle.hfs_blocks.specs.Layers.{Changes, Numbered, changes, with_change, over}
use Rattle.hfs_blocks.proofs.LayerLemmas.{with_block, over-with_change}
use Rattle.hfs_btree_edits.specs.Files.{is_one_of, beside, AreWithin}

-- ---- one block among distinct numbers

module _ (f : ℕ → List ℕ) (b : ℕ) (v : List ℕ) where
  pub at_other : (n : ℕ) → (n ≡ b → ⊥) → with_block f b v n ≡ f n
  at_other n other = elim (nat_eq b n) as (λ (t : Bool). nat_eq b n ≡ t → cond t v (f n) ≡ f n) [
    | true ↦ λ e. absurd (other (sym (eqb-true b n e)))
    | false ↦ λ e. refl
  ] refl

  pub at_own : with_block f b v b ≡ v
  at_own = ap (λ (t : Bool). cond t v (f b)) (eq-eqb b b refl)

  pub untouched : (ns : List ℕ) → Each (IsOther b) ns → map (with_block f b v) ns ≡ map f ns
  untouched [] h = refl
  untouched (n ∷ ns) h = λ i. at_other n h.0 i ∷ untouched ns h.1 i

each_at : (P : ℕ → Type 0) (ns : List ℕ) (k : ℕ) → Each P ns → k < length ns → P (get_or ns k 0)
each_at P [] k h lt = absurd (omega arith)
each_at P (n ∷ ns) zero h lt = h.0
each_at P (n ∷ ns) (suc k) h lt = each_at P ns k h.1 (omega arith)

pub map_written : (f : ℕ → List ℕ) (v : List ℕ) (ns : List ℕ) (k : ℕ) → IsDistinct ns → k < length ns
    → map (with_block f (get_or ns k 0) v) ns ≡ slice_set (map f ns) k v
map_written f v [] k h lt = absurd (omega arith)
map_written f v (n ∷ ns) zero h lt = λ i. at_own f n v i ∷ untouched f n v ns h.0 i
map_written f v (n ∷ ns) (suc k) h lt = λ i.
    at_other f (get_or ns k 0) v n (λ (e : n ≡ get_or ns k 0). each_at (IsOther n) ns k h.0 (omega arith) (sym e)) i
    ∷ map_written f v ns k h.1 (omega arith) i

one_at : (ns : List ℕ) (k : ℕ) → k < length ns → is_one_of ns (get_or ns k 0) ≡ true
one_at [] k lt = absurd (omega arith)
one_at (n ∷ ns) zero lt = ap (λ (t : Bool). t || is_one_of ns n) (eq-eqb n n refl)
one_at (n ∷ ns) (suc k) lt = later (nat_eq n (get_or ns k 0)) (is_one_of ns (get_or ns k 0)) (one_at ns k (omega arith))
  where
    later : (s t : Bool) → t ≡ true → (s || t) ≡ true
    later true t e = refl
    later false t e = e

pub beside_written : (f : ℕ → List ℕ) (v : List ℕ) (ns : List ℕ) (k : ℕ) → k < length ns → beside ns (with_block f (get_or ns k 0) v) ≡ beside ns f
beside_written f v ns k lt i m = elim (is_one_of ns m) as (λ (t : Bool). is_one_of ns m ≡ t → cond t [] (with_block f (get_or ns k 0) v m) ≡ cond t [] (f m)) [
  | true ↦ λ e. refl
  | false ↦ λ e. at_other f (get_or ns k 0) v m (λ (same : m ≡ get_or ns k 0). true≢false (sym (ap (is_one_of ns) same ∙ one_at ns k lt) ∙ e))
] refl i

-- ---- the same over a patch

module _ (runs : List Run) (below : ℕ → List ℕ) (g h : Changes) (n : ℕ) (b : ℕ) (v : List ℕ) (different : IsDistinct (flat_map run_of runs))
    (lt : n < length (flat_map run_of runs)) (block : b ≡ get_or (flat_map run_of runs) n 0) (is : h ≡ with_change g b v) where
  over_is : over h below ≡ with_block (over g below) (get_or (flat_map run_of runs) n 0) v
  over_is = ap (λ (c : Changes). over c below) is ∙ over-with_change g below b v ∙ ap (λ (k : ℕ). with_block (over g below) k v) block

  pub written_node : nodes_in (over h below) runs ≡ slice_set (nodes_in (over g below) runs) n v
  unfolding nodes_in
  written_node = ap (λ (f : ℕ → List ℕ). map f (flat_map run_of runs)) over_is ∙ map_written (over g below) v (flat_map run_of runs) n different lt

  pub kept_beside : beside (flat_map run_of runs) (over h below) ≡ beside (flat_map run_of runs) (over g below)
  kept_beside = ap (λ (f : ℕ → List ℕ). beside (flat_map run_of runs) f) over_is ∙ beside_written (over g below) v (flat_map run_of runs) n lt

pub node_within : (blocks : ℕ → List ℕ) (runs : List Run) (n : ℕ) → n < length (nodes_in blocks runs) → n < length (flat_map run_of runs)
unfolding nodes_in
node_within blocks runs n lt = omega (arith, lt, length-map (flat_map run_of runs) blocks)

-- ---- what a patch has stays within

pub put_within : (g h : Changes) (n : ℕ) (b : List ℕ) (count : ℕ) → h ≡ with_change g n b → n < count → length b ≡ 512 → AreWithin g count → AreWithin h count
put_within g h n b count is low whole within q c found = elim (nat_eq n q) as (λ (t : Bool). nat_eq n q ≡ t → (q < count) × (length c ≡ 512)) [
  | true ↦ λ same.
      let e : Some b ≡ Some c = sym (ap (λ t. cond t (Some b) (g q)) same) ∙ sym (ap (λ (f : Changes). f q) is) ∙ found in
      let bc : b ≡ c = cc in
      (subst (λ (x : ℕ). x < count) (eqb-true n q same) low, subst (λ (x : List ℕ). length x ≡ 512) bc whole)
  | false ↦ λ other. within q c (sym (ap (λ t. cond t (Some b) (g q)) other) ∙ sym (ap (λ (f : Changes). f q) is) ∙ found)
] refl

pub stays_within : {X Y : Type 0} (result : Result X Y) (old new : Numbered) (n : ℕ) (b : List ℕ) (count : ℕ) → OnOk result (changes new ≡ with_change (changes old) n b) → OnErr result (new ≡ old)
    → n < count → length b ≡ 512 → AreWithin (changes old) count → AreWithin (changes new) count
stays_within (Ok x) old new n b count written kept low whole within = put_within (changes old) (changes new) n b count written low whole within
stays_within (Err y) old new n b count written kept low whole within = subst (λ (l : Numbered). AreWithin (changes l) count) (sym kept) within
