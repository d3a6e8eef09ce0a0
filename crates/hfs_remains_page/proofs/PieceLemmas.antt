-- Blocks that follow one another, and the uses of blocks.
use Rattle.std.proofs.Common.{◌≡◌, ◌∙◌, ℕ, suc, ◌+◌, ◌<◌, Bool, true, false, List, [], ◌∷◌, ◌++◌, length, take, drop, map, get_or, Option, None, Some, refl, sym, ap, subst, arith}
use Rattle.std.specs.Prelude.{reverse}
use Rattle.std.specs.List.{flat_map, range_with_len}
use Rattle.std.proofs.lemmas.List.{drop_more, append_assoc, append-nil, drop_all, map-append, reverse-append}
use Rattle.std.proofs.lemmas.List.Concat.{flat_map-append}
use Rattle.hfs_fields.specs.declared.extent.Extent.{Extent}
use Rattle.hfs_page.specs.declared.parts.BlockUse.{BlockUse}
use Rattle.hfs_page.specs.declared.parts.Holding.{Holding}
use Rattle.hfs_remains.specs.TreeFiles.{FileBlocks}
use Rattle.hfs_remains_page.proofs.TreeLemmas.{range-more}
use Rattle.hfs_remains_page.specs.Pictures.{joined, pieces, put_before, with_block, with_place}

-- ---- pieces, of which the first lies above the others

pub put_first : (b : ℕ) (own : Extent) (old popped new : List Extent) → own ≡ record { first = b; count = 1 } → old ≡ [] → popped ≡ old → new ≡ popped ++ own ∷ []
    → reverse new ≡ with_block b (reverse old)
put_first b own old popped new is none same gains =
    ap reverse (gains ∙ ap (λ l. l ++ own ∷ []) (same ∙ none)) ∙ ap (λ (e : Extent). e ∷ []) is ∙ ap (λ l. with_block b (reverse l)) (sym none)

turned : (below : List Extent) (e : Extent) → reverse (below ++ e ∷ []) ≡ e ∷ reverse below
turned below e = reverse-append below (e ∷ [])

pub put_joined : (b : ℕ) (next both : Extent) (old below new : List Extent) → old ≡ below ++ next ∷ [] → joined b next ≡ Some both → new ≡ below ++ both ∷ []
    → reverse new ≡ with_block b (reverse old)
put_joined b next both old below new was is gains =
    ap reverse gains ∙ turned below both ∙ ap (put_before b next (reverse below)) (sym is) ∙ ap (with_block b) (sym (ap reverse was ∙ turned below next))

pub put_apart : (b : ℕ) (next own : Extent) (old below more new : List Extent) → old ≡ below ++ next ∷ [] → joined b next ≡ None → own ≡ record { first = b; count = 1 }
    → more ≡ below ++ next ∷ [] → new ≡ more ++ own ∷ [] → reverse new ≡ with_block b (reverse old)
put_apart b next own old below more new was is one first gains =
    ap reverse gains ∙ turned more own ∙ (λ i. one i ∷ (ap reverse first ∙ turned below next) i) ∙ ap (put_before b next (reverse below)) (sym is)
    ∙ ap (with_block b) (sym (ap reverse was ∙ turned below next))

-- one block more, from the last on
pub pieces_more : (places : FileBlocks) (left : ℕ) (place d : Option ℕ) (old new : List Extent) → left < length places → place ≡ get_or places left d
    → reverse new ≡ with_place place (reverse old) → reverse old ≡ pieces (drop (left + 1) places) → reverse new ≡ pieces (drop left places)
pieces_more places left place d old new within is gains all =
    gains ∙ (λ i. with_place (is i) (all i)) ∙ sym (ap pieces (drop_more places left d within))

pub pieces_none : (places : FileBlocks) (left : ℕ) (made : List Extent) → left ≡ length places → made ≡ [] → reverse made ≡ pieces (drop left places)
pieces_none places left made all none = ap reverse none ∙ sym (ap pieces (drop_all left places (omega (arith, all))))

-- ---- items

-- one item more
pub items_more : (held : ℕ → List Holding) (i : ℕ) (old now new : List Holding) → now ≡ old ++ flat_map held (range_with_len 0 i) → new ≡ now ++ held i
    → new ≡ old ++ flat_map held (range_with_len 0 (i + 1))
items_more held i old now new is gains =
    let one : suc i ≡ i + 1 = omega arith in
    let last : flat_map held (range_with_len 0 (suc i)) ≡ flat_map held (range_with_len 0 i) ++ held i =
    ap (flat_map held) (range-more 0 i i (omega arith)) ∙ flat_map-append held (range_with_len 0 i) (i ∷ [])
    ∙ ap (λ l. flat_map held (range_with_len 0 i) ++ l) (append-nil (held i)) in
    gains ∙ ap (λ l. l ++ held i) is ∙ append_assoc old (flat_map held (range_with_len 0 i)) (held i)
    ∙ ap (λ l. old ++ l) (sym last ∙ ap (λ n. flat_map held (range_with_len 0 n)) one)

-- ---- uses

-- one block more
pub uses_more : (used : BlockUse) (n : ℕ) (old new : List BlockUse) → old ≡ map (λ block. used) (range_with_len 0 n) → new ≡ old ++ used ∷ []
    → new ≡ map (λ block. used) (range_with_len 0 (n + 1))
uses_more used n old new is gains =
    let one : suc n ≡ n + 1 = omega arith in
    gains ∙ ap (λ l. l ++ used ∷ []) is
    ∙ sym (map-append (λ (block : ℕ). used) (range_with_len 0 n) (n ∷ [])) ∙ ap (map (λ (block : ℕ). used)) (sym (range-more 0 n n (omega arith)))
    ∙ ap (λ k. map (λ block. used) (range_with_len 0 k)) one
