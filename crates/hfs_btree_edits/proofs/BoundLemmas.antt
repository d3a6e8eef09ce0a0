-- Bounds on the keys of pairs, which stay where pairs are taken out or have an equal key.
use Rattle.std.proofs.Common.{◌≡◌, ℕ, false, List, [], ◌∷◌, ◌++◌, map, sym, ap, ◌∙◌, subst}
use Rattle.std.specs.List.{flat_map}
use Rattle.std.specs.declared.cmp.Ordering.TheVariants.{Less, Equal}
use Rattle.std.specs.Ordering.{is_gt}
use Rattle.std.specs.Cmp.{IsTotalOrder}
use Rattle.hfs_btree.specs.Pairs.{Order, Pairs, IsAbove, IsAtMost}
use Rattle.hfs_fields.specs.Each.{Each}
use Rattle.hfs_fields.proofs.ElementLemmas.{each-left, each-right, each-append}
use Rattle.hfs_btree.specs.Sound.{ArePartsInOrder}

-- bounds on the keys of `ps` hold of those of `qs`
pub record KeepsBounds {K : Type 0} (cmp : Order K) (ps qs : Pairs K) : Type 0 where
  pub low : (key : K) → IsAtMost cmp key ps → IsAtMost cmp key qs
  pub high : (key : K) → IsAbove cmp key ps → IsAbove cmp key qs

module _ {K : Type 0} (cmp : Order K) (total : IsTotalOrder cmp) where
  pub bounds-same : (ps qs : Pairs K) → qs ≡ ps → KeepsBounds cmp ps qs
  bounds-same ps qs e = record {
    low = λ key h. (let P : Pairs K → Type 0 = λ xs. IsAtMost cmp key xs in subst P (sym e) h);
    high = λ key h. (let P : Pairs K → Type 0 = λ xs. IsAbove cmp key xs in subst P (sym e) h);
  }

  pub bounds-without : (xs : Pairs K) (p : K × List ℕ) (ys : Pairs K) → KeepsBounds cmp (xs ++ p ∷ ys) (xs ++ ys)
  bounds-without xs p ys = record {
    low = λ key h. each-append _ xs ys (each-left _ xs (p ∷ ys) h) (each-right _ xs (p ∷ ys) h).1;
    high = λ key h. each-append _ xs ys (each-left _ xs (p ∷ ys) h) (each-right _ xs (p ∷ ys) h).1;
  }

  at-most-equal : (key x y : K) → cmp y x ≡ Equal → is_gt (cmp key x) ≡ false → is_gt (cmp key y) ≡ false
  at-most-equal key x y e h =
      ap is_gt (total.antisymm key y ∙ ap Rattle.std.specs.Ordering.ordering_reverse (total.congr y x key e) ∙ sym (total.antisymm key x)) ∙ h

  pub bounds-with : (xs : Pairs K) (p q : K × List ℕ) (ys : Pairs K) → cmp q.0 p.0 ≡ Equal → KeepsBounds cmp (xs ++ p ∷ ys) (xs ++ q ∷ ys)
  bounds-with xs p q ys e = record {
    low = λ key h.
        (let P : K × List ℕ → Type 0 = λ r. is_gt (cmp key r.0) ≡ false in
        let rest = each-right P xs (p ∷ ys) h in each-append P xs (q ∷ ys) (each-left P xs (p ∷ ys) h) (at-most-equal key p.0 q.0 e rest.0, rest.1));
    high = λ key h.
        (let P : K × List ℕ → Type 0 = λ r. cmp r.0 key ≡ Less in
        let rest = each-right P xs (p ∷ ys) h in each-append P xs (q ∷ ys) (each-left P xs (p ∷ ys) h) (total.congr q.0 p.0 key e ∙ rest.0, rest.1));
  }

  low-flat : (f h : ℕ → Pairs K) (ns : List ℕ) → Each (λ n. KeepsBounds cmp (f n) (h n)) ns → (key : K) → IsAtMost cmp key (flat_map f ns) → IsAtMost cmp key (flat_map h ns)
  low-flat f h [] b key e = tt
  low-flat f h (n ∷ ns) b key e =
      each-append _ (h n) (flat_map h ns) (b.0.low key (each-left _ (f n) (flat_map f ns) e)) (low-flat f h ns b.1 key (each-right _ (f n) (flat_map f ns) e))

  high-flat : (f h : ℕ → Pairs K) (ns : List ℕ) → Each (λ n. KeepsBounds cmp (f n) (h n)) ns → (key : K) → IsAbove cmp key (flat_map f ns) → IsAbove cmp key (flat_map h ns)
  high-flat f h [] b key e = tt
  high-flat f h (n ∷ ns) b key e =
      each-append _ (h n) (flat_map h ns) (b.0.high key (each-left _ (f n) (flat_map f ns) e)) (high-flat f h ns b.1 key (each-right _ (f n) (flat_map f ns) e))

  pub bounds-flat : (f h : ℕ → Pairs K) (ns : List ℕ) → Each (λ n. KeepsBounds cmp (f n) (h n)) ns → KeepsBounds cmp (flat_map f ns) (flat_map h ns)
  bounds-flat f h ns b = record { low = low-flat f h ns b; high = high-flat f h ns b }

  -- parts stay in order where their keys stay and the bounds on their pairs
  pub parts-kept : (key : List ℕ → K) (own own' : List ℕ → Pairs K) (before before' : Pairs K) (es : List (List ℕ)) → KeepsBounds cmp before before'
      → Each (λ e. KeepsBounds cmp (own e) (own' e)) es → ArePartsInOrder cmp before (map (λ e. (key e, own e)) es) → ArePartsInOrder cmp before' (map (λ e. (key e, own' e)) es)
  parts-kept key own own' before before' [] b bs h = tt
  parts-kept key own own' before before' (e ∷ es) b bs h =
      (b.high (key e) h.0, bs.0.low (key e) h.1, parts-kept key own own' (own e) (own' e) es bs.0 bs.1 h.2)
