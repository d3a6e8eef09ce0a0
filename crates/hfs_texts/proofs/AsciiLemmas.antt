-- Texts of eight and of ten characters of ASCII.
use Rattle.std.proofs.Common.{ℕ, ◌<◌, [], ◌∷◌}
use Rattle.std.specs.Prelude.{IsAscii}
use Rattle.std.proofs.lemmas.Str.Ascii.{IsAscii-nil, IsAscii-cons}

pub ascii_eight : (a b c d e f g h : ℕ) → a < 128 → b < 128 → c < 128 → d < 128 → e < 128 → f < 128 → g < 128 → h < 128
    → IsAscii (a ∷ b ∷ c ∷ d ∷ e ∷ f ∷ g ∷ h ∷ [])
ascii_eight a b c d e f g h ah bh ch dh eh fh gh hh =
    IsAscii-cons a (b ∷ c ∷ d ∷ e ∷ f ∷ g ∷ h ∷ []) ah (IsAscii-cons b (c ∷ d ∷ e ∷ f ∷ g ∷ h ∷ []) bh (IsAscii-cons c (d ∷ e ∷ f ∷ g ∷ h ∷ []) ch (IsAscii-cons d (e ∷ f ∷ g ∷ h ∷ []) dh (IsAscii-cons e (f ∷ g ∷ h ∷ []) eh (IsAscii-cons f (g ∷ h ∷ []) fh (IsAscii-cons g (h ∷ []) gh (IsAscii-cons h [] hh IsAscii-nil)))))))

pub ascii_ten : (a b c d e f g h j k : ℕ) → a < 128 → b < 128 → c < 128 → d < 128 → e < 128 → f < 128 → g < 128 → h < 128 → j < 128 → k < 128
    → IsAscii (a ∷ b ∷ c ∷ d ∷ e ∷ f ∷ g ∷ h ∷ j ∷ k ∷ [])
ascii_ten a b c d e f g h j k ah bh ch dh eh fh gh hh jh kh =
    IsAscii-cons a (b ∷ c ∷ d ∷ e ∷ f ∷ g ∷ h ∷ j ∷ k ∷ []) ah (IsAscii-cons b (c ∷ d ∷ e ∷ f ∷ g ∷ h ∷ j ∷ k ∷ []) bh (IsAscii-cons c (d ∷ e ∷ f ∷ g ∷ h ∷ j ∷ k ∷ []) ch (IsAscii-cons d (e ∷ f ∷ g ∷ h ∷ j ∷ k ∷ []) dh (IsAscii-cons e (f ∷ g ∷ h ∷ j ∷ k ∷ []) eh (IsAscii-cons f (g ∷ h ∷ j ∷ k ∷ []) fh (IsAscii-cons g (h ∷ j ∷ k ∷ []) gh (IsAscii-cons h (j ∷ k ∷ []) hh (IsAscii-cons j (k ∷ []) jh (IsAscii-cons k [] kh IsAscii-nil)))))))))
