-- The block, where it is other than it was.
use Rattle.std.proofs.Common.{◌≡◌, ◌≢◌, ℕ, List, Option, unwrap_or, sym, ap, ◌∙◌, rules}
use Rattle.hfs_fields.proofs.OutcomeLemmas.{on_ok}
use Rattle.hfs_blocks.specs.Layers.{changes, over}
use Rattle.hfs_copy.proofs.KeptBlocks.{put-one}
use Rattle.hfs_copy.proofs.keeping.keep_changed.Goals as goal

pub returns : goal.returns
returns g c =
    let below = g.B.Blocks.blocks c.args.now.now.below.now in
    let new = over (changes c.args.now.now.changed.now) below in
    let differ : c.in-Some.block.now ≢ c.block.new.into = search rules in
    let is : c.in-Some.block.now ≡ new c.args.n = ap (λ (o : Option (List ℕ)). unwrap_or o (below c.args.n)) c.in-Some.ensures.value in
    on_ok c.put.result _ _
    (put-one new (λ (n : ℕ). new n ≢ below n) (λ (n : ℕ). new n ≡ below n) c.args.n c.in-Some.block.now c.args.kept.now c.put.new.self
    (λ same. differ (is ∙ same ∙ sym c.block.ensures)) is)
    c.put.ensures.written
