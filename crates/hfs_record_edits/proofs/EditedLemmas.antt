-- The three edits of a tree's content, as swaps.
use Rattle.std.proofs.Common.{◌≡◌, ⊎_elim, ℕ, Bool, true, false, cond, List, [], ◌∷◌, refl, sym, ap, ◌∙◌, Option, Some, None}
use Rattle.std.specs.List.{find}
use Rattle.std.specs.declared.cmp.Ordering.{Ordering}
use Rattle.std.specs.declared.cmp.Ordering.TheVariants.{Less, Equal}
use Rattle.std.specs.Ordering.{is_eq, is_gt, ordering_reverse}
use Rattle.std.specs.Cmp.{IsTotalOrder}
use Rattle.hfs_btree.specs.Pairs.{Order, Pairs, Rises}
use Rattle.hfs_fields.specs.Members.{In}
use Rattle.hfs_fields.proofs.MemberLemmas.{each_in}
use Rattle.hfs_btree_edits.specs.Edits.{with_pair, without_pair, with_replaced}
use Rattle.hfs_record_edits.specs.Swaps.{Swaps}
use Rattle.hfs_record_edits.proofs.SwapLemmas.{deeper}
use Rattle.hfs_model.proofs.Facts.{same_some}
use Rattle.hfs_model.proofs.InOrder.{none_some}

module _ {K : Type 0} (cmp : Order K) (key : K) (body : List ℕ) where
  pub with_pair-swaps : (ps : Pairs K) → Swaps None (Some (key, body)) ps (with_pair cmp key body ps)
  with_pair-swaps [] = record { before = []; behind = []; was = refl; is = refl }
  with_pair-swaps (p ∷ ps) = elim (is_gt (cmp key p.0)) as (λ (b : Bool). Swaps None (Some (key, body)) (p ∷ ps) (cond b (p ∷ with_pair cmp key body ps) ((key, body) ∷ p ∷ ps))) [
    | true ↦ deeper p None (Some (key, body)) ps (with_pair cmp key body ps) (with_pair-swaps ps)
    | false ↦ record { before = []; behind = p ∷ ps; was = refl; is = refl }
  ]

  -- the first whose key is equal in the order
  abbrev pub pair_at : Pairs K → Option (K × List ℕ)
  pair_at ps = find (λ q. is_eq (cmp key q.0)) ps

  pub without_pair-swaps : (ps : Pairs K) (p : K × List ℕ) → pair_at ps ≡ Some p → Swaps (Some p) None ps (without_pair cmp key ps)
  without_pair-swaps [] p e = absurd (none_some p (sym e))
  without_pair-swaps (q ∷ ps) p e = elim (is_eq (cmp key q.0)) as (λ (b : Bool). cond b (Some q) (pair_at ps) ≡ Some p → Swaps (Some p) None (q ∷ ps) (cond b ps (q ∷ without_pair cmp key ps))) [
    | true ↦ λ here. record { before = []; behind = ps; was = ap (λ x. x ∷ ps) (same_some q p here); is = refl }
    | false ↦ λ later. deeper q (Some p) None ps (without_pair cmp key ps) (without_pair-swaps ps p later)
  ] e

  pub with_replaced-swaps : (ps : Pairs K) (p : K × List ℕ) → pair_at ps ≡ Some p → Swaps (Some p) (Some (key, body)) ps (with_replaced cmp key body ps)
  with_replaced-swaps [] p e = absurd (none_some p (sym e))
  with_replaced-swaps (q ∷ ps) p e = elim (is_eq (cmp key q.0)) as (λ (b : Bool). cond b (Some q) (pair_at ps) ≡ Some p → Swaps (Some p) (Some (key, body)) (q ∷ ps) (cond b ((key, body) ∷ ps) (q ∷ with_replaced cmp key body ps))) [
    | true ↦ λ here. record { before = []; behind = ps; was = ap (λ x. x ∷ ps) (same_some q p here); is = refl }
    | false ↦ λ later. deeper q (Some p) (Some (key, body)) ps (with_replaced cmp key body ps) (with_replaced-swaps ps p later)
  ] e

-- ---- where keys rise, a pair that stands there is the one with its key

module _ {K : Type 0} (cmp : Order K) (total : IsTotalOrder cmp) where
  flip : (x y : K) (o : Ordering) → cmp x y ≡ o → cmp y x ≡ ordering_reverse o
  flip x y o e = total.antisymm y x ∙ ap ordering_reverse e

  pub at_equal_key : (key : K) (ps : Pairs K) (p : K × List ℕ) → Rises cmp ps → In p ps → cmp key p.0 ≡ Equal → pair_at cmp key [] ps ≡ Some p
  at_equal_key key [] p rises there tie = absurd there
  at_equal_key key (q ∷ ps) p rises there tie = ⊎_elim
      (λ (here : q ≡ p). ap (λ (b : Bool). cond b (Some q) (pair_at cmp key [] ps)) (ap (λ (x : K × List ℕ). is_eq (cmp key x.0)) here ∙ ap is_eq tie) ∙ ap Some here)
      (λ (later : In p ps).
      let less : cmp q.0 p.0 ≡ Less = each_in (λ (x : K × List ℕ). cmp q.0 x.0 ≡ Less) ps p rises.0 later in
      let other : is_eq (cmp key q.0) ≡ false = ap is_eq (total.congr key p.0 q.0 tie ∙ flip q.0 p.0 Less less) in
      ap (λ (b : Bool). cond b (Some q) (pair_at cmp key [] ps)) other ∙ at_equal_key key ps p rises.1 later tie)
      there
