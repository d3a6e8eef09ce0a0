-- Hexadecimal digits, four bytes at a time.
use Rattle.std.proofs.Common.{◌≡◌, ◌∙◌, ap, ℕ, ◌-◌, ◌≤◌, List, [], ◌∷◌, ◌++◌, length, get_or, take, drop, arith, append_assoc}
use Rattle.std.proofs.lemmas.List.{length-drop, take_all}
use Rattle.hfs_texts.specs.Digits.{hex_byte, hex_text}

-- a text that was to get the digits of these bytes, and has got those of the first four, is to get those of the others
pub hex_four_more : (bytes old new whole : List ℕ) → 4 ≤ length bytes
    → new ≡ old ++ hex_text (get_or bytes 0 0 ∷ get_or bytes 1 0 ∷ get_or bytes 2 0 ∷ get_or bytes 3 0 ∷ [])
    → old ++ hex_text bytes ≡ whole → new ++ hex_text (drop 4 bytes) ≡ whole
unfolding hex_text hex_byte
hex_four_more [] old new whole some begun to-come = absurd (omega (arith, some))
hex_four_more (a ∷ []) old new whole some begun to-come = absurd (omega (arith, some))
hex_four_more (a ∷ b ∷ []) old new whole some begun to-come = absurd (omega (arith, some))
hex_four_more (a ∷ b ∷ c ∷ []) old new whole some begun to-come = absurd (omega (arith, some))
hex_four_more (a ∷ b ∷ c ∷ d ∷ rest) old new whole some begun to-come =
    ap (λ t. t ++ hex_text rest) begun ∙ append_assoc old (hex_text (a ∷ b ∷ c ∷ d ∷ [])) (hex_text rest) ∙ to-come

-- the same, where the others are taken as a slice up to the end
pub hex_four_passed : (bytes old new whole : List ℕ) → 4 ≤ length bytes
    → new ≡ old ++ hex_text (get_or bytes 0 0 ∷ get_or bytes 1 0 ∷ get_or bytes 2 0 ∷ get_or bytes 3 0 ∷ [])
    → old ++ hex_text bytes ≡ whole → new ++ hex_text (take (length bytes - 4) (drop 4 bytes)) ≡ whole
hex_four_passed bytes old new whole some begun to-come =
    let others : take (length bytes - 4) (drop 4 bytes) ≡ drop 4 bytes = take_all (length bytes - 4) (drop 4 bytes) (omega (arith, length-drop 4 bytes)) in
    ap (λ r. new ++ hex_text r) others ∙ hex_four_more bytes old new whole some begun to-come
