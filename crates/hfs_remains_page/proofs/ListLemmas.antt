-- A number more stands in the list of a node.
use Rattle.std.proofs.Common.{◌≡◌, ◌∙◌, ℕ, ◌<◌, Bool, true, false, ◌==◌, List, [], ◌∷◌, ◌++◌, length, get_or, set, Vec, Global, refl, sym, ap, append-nil}
use Rattle.std.specs.Prelude.{if◌then◌else◌, slice_index_or}
use Rattle.std.proofs.lemmas.Bool.{eqb-false, eqb-true}
use Rattle.std.proofs.lemmas.List.{length-set, get_or-set_other, get_or-set_same, get_or_default}
use Rattle.hfs_remains_page.specs.Walks.{GainsBelow}

pub gained : (lists : List (Vec ℕ Global)) (node number : ℕ) (was now : Vec ℕ Global) → node < length lists → was ≡ get_or lists node was → now.items ≡ was.items ++ number ∷ []
    → GainsBelow lists (set lists node now) number node
gained lists node number was now within is gains = (length-set lists node now, λ k none lt. by k none lt (node == k) refl)
  where
    by : (k : ℕ) (d : Vec ℕ Global) → k < length lists → (test : Bool) → (node == k) ≡ test
        → (slice_index_or (set lists node now) k d).items ≡ (slice_index_or lists k d).items ++ (if test then number ∷ [] else [])
    by k d lt true e =
        let same : k ≡ node = sym (eqb-true node k e) in
        let found : get_or (set lists node now) k d ≡ now = ap (λ (j : ℕ). get_or (set lists node now) j d) same ∙ get_or-set_same lists node now d within in
        let old : was ≡ get_or lists k d = is ∙ get_or_default lists node was d within ∙ ap (λ (j : ℕ). get_or lists j d) (sym same) in
        ap (λ (v : Vec ℕ Global). v.items) found ∙ gains ∙ ap (λ (v : Vec ℕ Global). v.items ++ number ∷ []) old
    by k d lt false e =
        ap (λ (v : Vec ℕ Global). v.items) (get_or-set_other lists node k now d (λ same. eqb-false node k e (sym same)))
        ∙ sym (append-nil (slice_index_or lists k d).items)
