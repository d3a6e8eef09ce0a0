-- They are those of the fields.
use Rattle.std.proofs.Common.{length, nat_eq, sym, ap, ◌∙◌, subst}
use Rattle.std.specs.List.{IsDistinct}
use Rattle.hfs_blocks.specs.Layers.{Numbered, changes, numbers, AreWithin}
use Rattle.hfs_space.specs.Changed.{all_blocks}
use Rattle.hfs_space.proofs.changed.ChangedBlocks.len.Goals as goal

pub count_all-requires : goal.count_all-requires
count_all-requires c =
    subst (λ (v : Numbered). AreWithin (changes v) 4294967296) (sym (ap (all_blocks c.self.inside.kept) c.deref.ensures.value ∙ c.self.view_is)) c.requires

pub returns-clause-len : goal.returns-clause-len
returns-clause-len c = c.count_all.ensures.len ∙ ap (λ (v : Numbered). length (numbers v)) (ap (all_blocks c.self.inside.kept) c.deref.ensures.value ∙ c.self.view_is)

pub returns-clause-different : goal.returns-clause-different
returns-clause-different c = subst (λ (v : Numbered). IsDistinct nat_eq (numbers v)) (ap (all_blocks c.self.inside.kept) c.deref.ensures.value ∙ c.self.view_is) c.count_all.ensures.different
