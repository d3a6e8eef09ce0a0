use Rattle.std.proofs.Common.{◌≡◌, ℕ, suc, ◌-◌, sym, ◌∙◌, ap, arith}
use Rattle.hfs_catalog.specs.Tree.{catalog_of}
use Rattle.hfs_call_edits.specs.ChoosingMoving.{up_by_folders}
use Rattle.hfs_call_edits.proofs.UpFolders.{reached, no_more, no_folder, one_up}
use Rattle.hfs_call_edits.proofs.choosing_moving.lies_in.Goals as goal

pub returns-then-left-eq0 : goal.returns-then-left-eq0
returns-then-left-eq0 g c =
    sym (no_more (catalog_of (g.N.Nodes.nodes c.args.nodes.now)) c.args.up c.loop-at.left c.loop-at.at (omega arith) (λ (e : c.loop-at.at ≡ c.args.up). omega (arith, e)))
    ∙ c.loop-at.invariant

pub returns-in_default : goal.returns-in_default
returns-in_default g c =
    sym (no_folder (catalog_of (g.N.Nodes.nodes c.args.nodes.now)) c.args.up c.loop-at.left c.loop-at.at (λ (e : c.loop-at.at ≡ c.args.up). omega (arith, e)) c.in_default.ensures)
    ∙ c.loop-at.invariant

pub loop-at-preserved : goal.loop-at-preserved
loop-at-preserved g c =
    let catalog = catalog_of (g.N.Nodes.nodes c.args.nodes.now) in
    let left : suc (c.loop-at.left - 1) ≡ c.loop-at.left = omega arith in
    sym (one_up catalog c.args.up (c.loop-at.left - 1) c.loop-at.at c.in-Some.item (λ (e : c.loop-at.at ≡ c.args.up). omega (arith, e)) c.in-Some.ensures)
    ∙ ap (λ (n : ℕ). up_by_folders catalog n c.loop-at.at c.args.up) left
    ∙ c.loop-at.invariant

pub returns : goal.returns
returns g c = sym (reached (catalog_of (g.N.Nodes.nodes c.args.nodes.now)) c.args.up c.loop-at.left c.loop-at.at (omega arith)) ∙ c.loop-at.invariant
