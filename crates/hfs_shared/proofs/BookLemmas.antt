-- The book of those who know it.
use Rattle.hfs_shared.specs.Histories.{Known}
use Rattle.std.specs.Prelude.{List, All, ◌≡◌}
use Rattle.std.proofs.lemmas.List.Elements.{All-weaker}
use Rattle.std.proofs.Common.{ap}

pub of_book : (k : Known) (xs : List Known) → All (λ x. x ≡ k) xs → All (λ (x : Known). x.book ≡ k.book) xs
of_book k xs all = All-weaker (λ x. x ≡ k) (λ (x : Known). x.book ≡ k.book) (λ x e. ap (λ (y : Known). y.book) e) xs all
