-- What differs, beside the runs.
use Rattle.std.proofs.Common.{◌≡◌, ℕ, List, sym, ap, subst, ◌∙◌}
use Rattle.hfs_fields.proofs.OutcomeLemmas.{if_ok}
use Rattle.hfs_blocks.specs.Blocks.{block_at, block_count}
use Rattle.hfs_blocks.specs.Layers.{Numbered}
use Rattle.hfs_volume.specs.declared.base.BaseBlocks.{BaseBlocks}
use Rattle.hfs_volume.specs.Image.{patched}
use Rattle.hfs_put.specs.Beside.{AreChangedBeside}
use Rattle.hfs_put.specs.PutImages.{AreGoingOut}
use Rattle.hfs_put.proofs.PutOver.{going-out}
use Rattle.hfs_put.proofs.putting.going_out.Goals as goal

pub returns : goal.returns
returns c =
    let volume = c.args.volume.now in
    let runs = c.args.runs.now in
    let changed : Numbered = c.over-now.result.changed.now in
    let bytes : List ℕ = c.over-now.result.below.now.base.now in
    let same : bytes ≡ volume.base = ap (λ (b : BaseBlocks). b.base.now) c.over-now.ensures.below ∙ c.blocks-below.ensures ∙ c.in_ok-base.ensures.base in
    let current : volume.current ≡ patched changed volume.base = c.changes.ensures.current ∙ ap (λ (es : Numbered). patched es volume.base) (sym c.over-now.ensures.changed) in
    if_ok c.changed_beside.result (AreChangedBeside runs changed (block_at bytes) (block_count bytes)) (AreGoingOut volume runs)
    (λ patch beside.
    going-out volume changed runs patch c.base.ensures.agrees current c.over-now.result.whole
    (subst (λ (b : List ℕ). AreChangedBeside runs changed (block_at b) (block_count b) patch) same beside))
    c.changed_beside.ensures
