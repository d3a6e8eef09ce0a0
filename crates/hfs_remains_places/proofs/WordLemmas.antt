-- Words with commas between them.
use Rattle.std.proofs.Common.{◌≡◌, ℕ, ◌++◌, List, [], ◌∷◌, map, length, String, Global, string_bytes, refl, ap, arith}
use Rattle.std.specs.Prelude.{codes}
use Rattle.std.specs.List.{join_by, flat_map}
use Rattle.hfs_remains_places.specs.Verdicts.{text_of_words}

behind-map : (ws : List (String Global)) → flat_map (λ (w : String Global). codes "," ++ string_bytes w) ws ≡ flat_map (λ (w : List ℕ). codes "," ++ w) (map string_bytes ws)
behind-map [] = refl
behind-map (w ∷ ws) = ap (λ (l : List ℕ). (codes "," ++ string_bytes w) ++ l) (behind-map ws)

-- no words
pub whole-words : (ws : List (String Global)) → length ws ≡ 0 → codes "whole" ≡ text_of_words (map string_bytes ws)
unfolding text_of_words
whole-words [] none = refl
whole-words (w ∷ ws) none = absurd (omega (arith, none))

-- some words
pub joined-words : (ws : List (String Global)) → (length ws ≡ 0 → ⊥) → join_by string_bytes (codes ",") ws ≡ text_of_words (map string_bytes ws)
unfolding text_of_words
joined-words [] some = absurd (some refl)
joined-words (w ∷ ws) some = ap (λ (l : List ℕ). string_bytes w ++ l) (behind-map ws)
