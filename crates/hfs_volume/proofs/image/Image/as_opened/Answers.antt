-- Nothing is kept as changed, so the bytes are the base's.
use Rattle.std.proofs.Common.{◌≡◌, ℕ, [], ◌∷◌, length, None, refl, sym, ap, ◌∙◌, arith}
use Rattle.hfs_blocks.specs.Layers.{Numbered, changes, numbers}
use Rattle.hfs_volume.proofs.Laid.{laid_over-nothing}
use Rattle.hfs_volume.proofs.image.Image.as_opened.Goals as goal

none_there : (es : Numbered) → length (numbers es) ≡ 0 → (n : ℕ) → changes es n ≡ None
none_there [] none n = refl
none_there (e ∷ es) none n = absurd (omega (arith, none))

base_is : (c : goal.After-drop-self-inside-7) → c.self.inside.base ≡ c.args.self.current
base_is c =
    let none : length (numbers c.self.inside.changed) ≡ 0 = ap (λ v. length v.changed) c.self.view_is ∙ c.requires in
    sym (laid_over-nothing (changes c.self.inside.changed) c.self.inside.base (none_there c.self.inside.changed none)) ∙ ap (λ v. v.current) c.self.view_is

pub returns-clause-base : goal.returns-clause-base
returns-clause-base c = c.over.ensures.base ∙ base_is c

pub returns-clause-current : goal.returns-clause-current
returns-clause-current c = c.over.ensures.current ∙ base_is c
