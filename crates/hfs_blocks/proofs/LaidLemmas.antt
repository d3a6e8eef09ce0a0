-- One layer of blocks over another, as functions.
use Rattle.std.proofs.Common.{◌≡◌, ℕ, ◌<◌, List, length, Option, Some, None, IsSome, unwrap_or, refl, sym, ap, ◌∙◌}
use Rattle.std.specs.Option.{option_or}
use Rattle.hfs_blocks.specs.Layers.{Changes, AreWithin}

-- blocks within before others within are within
pub within_or : (p g h : Changes) (count : ℕ) → ((q : ℕ) → h q ≡ option_or (p q) (g q)) → AreWithin p count → AreWithin g count → AreWithin h count
within_or p g h count either first second q c is = by (p q) refl
  where
    by : (o : Option (List ℕ)) → p q ≡ o → (q < count) × (length c ≡ 512)
    by None e = second q c (sym (either q ∙ ap (λ o. option_or o (g q)) e) ∙ is)
    by (Some b) e = first q c (e ∙ sym (either q ∙ ap (λ o. option_or o (g q)) e) ∙ is)

-- two answers that agree but for what the first has
pub settled : (p new old : Option (List ℕ)) → option_or p new ≡ option_or p old → (IsSome p → new ≡ p) → new ≡ option_or p old
settled None new old rest done = rest
settled (Some b) new old rest done = done refl

-- one layer over another
pub over_or : (p g : Option (List ℕ)) (b : List ℕ) → unwrap_or (option_or p g) b ≡ unwrap_or p (unwrap_or g b)
over_or None g b = refl
over_or (Some c) g b = refl
