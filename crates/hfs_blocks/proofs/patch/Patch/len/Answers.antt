-- There are as many blocks as numbers, each of which stands once.
use Rattle.std.proofs.Common.{List, ℕ, length, nat_eq, sym, ap, ◌∙◌, subst, arith}
use Rattle.std.specs.List.{IsDistinct}
use Rattle.hfs_blocks.specs.Layers.{Numbered, numbers}
use Rattle.hfs_blocks.proofs.TableLemmas.{numbers-zip, distinct, apart-table}
use Rattle.hfs_blocks.proofs.patch.Patch.len.Goals as goal

pub returns-clause-len : goal.returns-clause-len
returns-clause-len c =
    let all = ap (λ (l : Numbered). numbers l) (sym c.self.view_is) ∙ numbers-zip c.self.inside.numbers.items c.self.inside.blocks.items c.self.invariant.len in
    let long = ap (λ (l : List ℕ). length l) all in
    omega (arith, c.len.ensures, c.self.inside.numbers.ok.0, long)

pub returns-clause-different : goal.returns-clause-different
returns-clause-different c =
    subst (λ (l : List ℕ). IsDistinct nat_eq l) (sym (ap (λ (l : Numbered). numbers l) (sym c.self.view_is) ∙ numbers-zip c.self.inside.numbers.items c.self.inside.blocks.items c.self.invariant.len))
    (distinct c.self.inside.numbers.items (apart-table _ _ _ c.self.invariant))
