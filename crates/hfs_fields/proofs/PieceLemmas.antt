-- Bytes laid into the middle of others.
use Rattle.std.proofs.Common.{List, ℕ, ◌≡◌, length, ◌++◌, ◌∙◌, ap, drop, drop_at, arith, append-nil}
use borrow.Rule.Slice.PartMut.{put_mid}
use Rattle.std.proofs.lemmas.List.{take_at, drop_all}

pub halves : (xs ys zeros a b : List ℕ) → xs ≡ a → ys ≡ b → length a ≡ 16 → length zeros ≡ 16 → put_mid 16 16 (xs ++ zeros) ys ≡ a ++ b
halves xs ys zeros a b e f long zeros_long =
    (λ i. put_mid 16 16 (e i ++ zeros) (f i))
    ∙ ap (λ l. l ++ (b ++ drop 16 (drop 16 (a ++ zeros)))) (take_at a zeros 16 long)
    ∙ ap (λ l. a ++ (b ++ drop 16 l)) (drop_at a zeros 16 long)
    ∙ ap (λ l. a ++ (b ++ l)) (drop_all 16 zeros (omega arith))
    ∙ ap (λ l. a ++ l) (append-nil b)
