-- A kept block, or one of zeros, or none.
use Rattle.std.proofs.Common.{Some, sym, ap, ◌∙◌, subst}
use Rattle.hfs_blocks.specs.Layers.{Numbered, changes, AreWhole}
use Rattle.hfs_space.specs.Flags.{is_flagged}
use Rattle.hfs_space.proofs.AllBlocks.{kept-shown, zeros-shown, none-shown, whole-all}
use Rattle.hfs_space.proofs.changed.ChangedBlocks.get.Goals as goal

pub returns-in-Some-clause-value : goal.returns-in-Some-clause-value
returns-in-Some-clause-value c =
    kept-shown c.self.inside.kept c.self.inside.flags.items c.args.n c.in-Some.block.now c.in-Some.ensures.value ∙ ap (λ (v : Numbered). changes v c.args.n) c.self.view_is

pub returns-in-Some-clause-whole : goal.returns-in-Some-clause-whole
returns-in-Some-clause-whole c = subst (λ (v : Numbered). AreWhole (changes v)) c.self.view_is (whole-all c.self.inside.kept c.self.inside.flags.items c.in-Some.ensures.whole)

pub returns-then-is_flagged-clause-value : goal.returns-then-is_flagged-clause-value
returns-then-is_flagged-clause-value c =
    ap Some c.self.invariant
    ∙ zeros-shown c.self.inside.kept c.self.inside.flags.items c.args.n c.in-None.ensures.value
    (sym (c.is_flagged.ensures ∙ ap (λ fs. is_flagged fs c.args.n) c.deref.ensures.value) ∙ c.if-is_flagged.true)
    ∙ ap (λ (v : Numbered). changes v c.args.n) c.self.view_is

pub returns-then-is_flagged-clause-whole : goal.returns-then-is_flagged-clause-whole
returns-then-is_flagged-clause-whole c = subst (λ (v : Numbered). AreWhole (changes v)) c.self.view_is (whole-all c.self.inside.kept c.self.inside.flags.items c.in-None.ensures.whole)

pub returns-else-is_flagged-clause-value : goal.returns-else-is_flagged-clause-value
returns-else-is_flagged-clause-value c =
    none-shown c.self.inside.kept c.self.inside.flags.items c.args.n c.in-None.ensures.value
    (sym (c.is_flagged.ensures ∙ ap (λ fs. is_flagged fs c.args.n) c.deref.ensures.value) ∙ c.if-is_flagged.false)
    ∙ ap (λ (v : Numbered). changes v c.args.n) c.self.view_is

pub returns-else-is_flagged-clause-whole : goal.returns-else-is_flagged-clause-whole
returns-else-is_flagged-clause-whole c = subst (λ (v : Numbered). AreWhole (changes v)) c.self.view_is (whole-all c.self.inside.kept c.self.inside.flags.items c.in-None.ensures.whole)
