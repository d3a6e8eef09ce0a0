-- a catalog of no records has no files
use Rattle.std.proofs.Common.{◌≡◌, ◌∙◌, [], ◌++◌, OnOk, refl, subst}
use Rattle.hfs_space.specs.TreeKeys.{overflow_of}
use Rattle.hfs_page.specs.declared.parts.Part.TheVariants.{BadBlocks}
use Rattle.hfs_page.specs.Holdings.{all_held}
use Rattle.hfs_page.proofs.HoldingLemmas.{bad-behind, bad-within}
use Rattle.hfs_page.proofs.holdings.push_bad.Goals as goal

pub behind-bad-requires : goal.behind-bad-requires
behind-bad-requires g c =
    bad-within c.args.mdb.now (overflow_of (g.N.Nodes.nodes c.args.tree.now)) c.args.catalog.now c.deref.result.now _ c.requires.catalog (c.deref.ensures.value ∙ c.in_ok-owned.ensures [] refl) refl

pub returns : goal.returns
returns g c =
    let is = c.behind-bad.ensures ∙ bad-behind c.args.mdb.now (overflow_of (g.N.Nodes.nodes c.args.tree.now)) c.args.catalog.now c.deref.result.now _ c.requires.catalog (c.deref.ensures.value ∙ c.in_ok-owned.ensures [] refl) refl in
    subst (λ bad. OnOk c.push_held.result (c.push_held.new.holdings.items ≡ c.args.holdings.now.items ++ all_held BadBlocks bad)) is c.push_held.ensures
