-- The ends of folders, one after the other.
use Rattle.std.proofs.Common.{◌≡◌, ℕ, zero, suc, ◌-◌, ◌<◌, List, ◌++◌, ap, ◌∙◌, arith}
use Rattle.std.specs.Prelude.{codes}
use Rattle.std.proofs.lemmas.List.{append_assoc}
use Rattle.hfs_page.specs.Items.{closings}

one-closed : (n : ℕ) → 0 < n → codes "</ul></details></li>\n" ++ closings (n - 1) ≡ closings n
unfolding closings
one-closed zero lt = absurd (omega arith)
one-closed (suc n) lt = let e : suc n - 1 ≡ n = omega arith in ap (λ k. codes "</ul></details></li>\n" ++ closings k) e

pub closed-more : (n : ℕ) (old new whole : List ℕ) → 0 < n → new ≡ old ++ codes "</ul></details></li>\n" → old ++ closings n ≡ whole → new ++ closings (n - 1) ≡ whole
closed-more n old new whole lt is all =
    ap (λ l. l ++ closings (n - 1)) is ∙ append_assoc old (codes "</ul></details></li>\n") (closings (n - 1)) ∙ ap (λ l. old ++ l) (one-closed n lt) ∙ all
