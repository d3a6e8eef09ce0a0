-- the uses are written back
use Rattle.std.proofs.Common.{false, ap, ◌∙◌, length, subst}
use Rattle.hfs_page.specs.Uses.{AreUsed}
use Rattle.hfs_page.proofs.UseLemmas.{uses-back}
use Rattle.hfs_remains_page.proofs.pictures.uses_by.Goals as goal

pub returns : goal.returns
returns c =
    uses-back c.args.holdings.now (λ block. false) c.args.count
    c.in_ok-uses.uses.items c.lay_all.new.uses c.in_ok-uses.uses.len c.in_ok-uses.ensures (c.lay_all.ensures.len ∙ ap length c.deref_mut.ensures.value) c.in_ok-uses.uses.ok.0
    (subst (λ old. AreUsed c.args.holdings.now old c.lay_all.new.uses) c.deref_mut.ensures.value c.lay_all.ensures.used)
