-- Nodes of a file that were edited over a patch, on the blocks below.
use Rattle.std.proofs.Common.{◌≡◌, ℕ, zero, suc, ◌+◌, ◌-◌, ◌<◌, ◌≤◌, Bool, true, false, cond, List, [], ◌∷◌, length, map, take, drop, get_or, refl, sym, ap, ◌∙◌, subst, arith}
use Rattle.std.specs.List.{flat_map}
use Rattle.hfs_blocks.specs.declared.run.Run.{Run}
use Rattle.hfs_blocks.specs.Blocks.{run_of, nodes_in}
use Rattle.hfs_fields.specs.declared.mdb.Mdb.{Mdb}
use Rattle.hfs_blocks.specs.Layers.{Changes, Numbered, changes, over}
use Rattle.hfs_btree.specs.Sound.{IsOther}
use Rattle.hfs_btree.specs.Tree.{Store}
use Rattle.hfs_btree_edits.specs.Files.{is_one_of, beside, AreWithin}
use Rattle.hfs_fields.specs.Each.{Each}
use Rattle.hfs_record_edits.specs.Released.{HasReleased}
use Rattle.hfs_check.specs.Parts.{Blocks}
use Rattle.hfs_call_patches.proofs.Placed.{IsAt, place_of, behind_first, at_place}

-- ---- what the edit kept: y and qs are what it left of the blocks and of the runs

module _ {X : Type 0} (blocks : X → Blocks) (totals : X → ℕ) (x y : X) (runs qs : List Run) (p q : Changes)
    (kept : ◌≡◌ {A = X × List Run × (ℕ → List ℕ)} (y, qs, beside (flat_map run_of qs) (over q (blocks y))) (x, runs, beside (flat_map run_of runs) (over p (blocks x)))) where
  pub edited_nodes : nodes_in (over q (blocks y)) qs ≡ nodes_in (over q (blocks x)) runs
  edited_nodes i = nodes_in (over q (blocks (kept i).0)) (kept i).1

  pub edited_beside : beside (flat_map run_of runs) (over q (blocks x)) ≡ beside (flat_map run_of runs) (over p (blocks x))
  edited_beside = sym (λ i. beside (flat_map run_of (kept i).1) (over q (blocks (kept i).0))) ∙ (λ i. (kept i).2)

  pub edited_within : AreWithin q (totals y) → AreWithin q (totals x)
  edited_within within = subst (λ (z : X). AreWithin q (totals z)) (λ i. (kept i).0) within

-- ---- blocks in the file of these numbers have changed, and of those behind the first m none

at_drop : (m j : ℕ) (xs : Store) → get_or (drop m xs) j [] ≡ get_or xs (m + j) []
at_drop zero j [] = refl
at_drop zero j (x ∷ xs) = ap (λ (k : ℕ). get_or (x ∷ xs) k []) (let e : j ≡ zero + j = omega arith in e)
at_drop (suc m) j [] = refl
at_drop (suc m) j (x ∷ xs) = at_drop m j xs ∙ ap (λ (k : ℕ). get_or (x ∷ xs) k []) (let e : suc (m + j) ≡ suc m + j = omega arith in e)

pub behind_drop : (m : ℕ) (xs ys : Store) → drop m ys ≡ drop m xs → (k : ℕ) → m ≤ k → get_or ys k [] ≡ get_or xs k []
behind_drop m xs ys same k le =
    let at : m + (k - m) ≡ k = omega (arith, le) in
    ap (λ (i : ℕ). get_or ys i []) (sym at) ∙ sym (at_drop m (k - m) ys) ∙ ap (λ (l : Store). get_or l (k - m) []) same ∙ at_drop m (k - m) xs ∙ ap (λ (i : ℕ). get_or xs i []) at

module _ (ns all : List ℕ) (c m : ℕ) (is : ns ≡ take c all) (f g : Blocks) (side : beside ns g ≡ beside ns f)
    (behind : (k : ℕ) → m ≤ k → get_or (map g ns) k [] ≡ get_or (map f ns) k []) where
  pub first_only : (n : ℕ) → Each (IsOther n) (take m all) → g n ≡ f n
  first_only n apart = elim (is_one_of ns n) as (λ (t : Bool). is_one_of ns n ≡ t → cond t [] (g n) ≡ cond t [] (f n) → g n ≡ f n) [
    | false ↦ λ e same. same
    | true ↦ λ e same.
        let found = place_of ns n e in
        let taken = subst (λ (l : List ℕ). IsAt l n) is found in
        let there : get_or ns taken.place 0 ≡ n = ap (λ (l : List ℕ). get_or l taken.place 0) is ∙ taken.is in
        let lt : taken.place < length ns = subst (λ (l : List ℕ). taken.place < length l) (sym is) taken.within in
        let le : m ≤ taken.place = behind_first n all m c taken.place apart taken.within taken.is in
        sym (ap g there) ∙ sym (at_place g ns taken.place lt) ∙ behind taken.place le ∙ at_place f ns taken.place lt ∙ ap f there
  ] refl (ap (λ (b : Blocks). b n) side)

-- ---- blocks that are the same

pub same_on : (f g : Blocks) (ns : List ℕ) → Each (λ n. g n ≡ f n) ns → map g ns ≡ map f ns
same_on f g [] h = refl
same_on f g (n ∷ ns) h = λ i. h.0 i ∷ same_on f g ns h.1 i

-- ---- bits that were cleared in a patch without blocks

pub released_from : (old new : Blocks) (mdb own : Mdb) → own ≡ mdb → (freed : List ℕ) (l : Numbered) → l ≡ [] → HasReleased own.bitmap_start own.allocation_blocks freed (over (changes l) old) new
    → HasReleased mdb.bitmap_start mdb.allocation_blocks freed old new
released_from old new mdb own e freed l empty released =
    subst (λ (b : Blocks). HasReleased mdb.bitmap_start mdb.allocation_blocks freed b new) (λ i. over (changes (empty i)) old)
    (subst (λ (m : Mdb). HasReleased m.bitmap_start m.allocation_blocks freed (over (changes l) old) new) e released)
