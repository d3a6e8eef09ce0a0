-- Each block that was put is one of the first five.
use Rattle.std.proofs.Common.{◌≡◌, ℕ, ◌<◌, sym, subst, arith, replicate}
use Rattle.std.proofs.lemmas.List.{length-replicate}
use Rattle.hfs_blocks.specs.Blocks.{block_count}
use Rattle.hfs_blocks.specs.Layers.{Numbered, Changes, changes, with_change, AreWithin}
use Rattle.hfs_blocks.proofs.LayerLemmas.{AreWithin-with_change, AreWithin-nothing}
use Rattle.hfs_volume_tests.proofs.saving.commit_three.Goals as goal

one_more : (old new : Changes) (n value count : ℕ) → new ≡ with_change old n (replicate 512 value) → n < count → AreWithin old count → AreWithin new count
one_more old new n value count is low within =
    subst (λ (f : Changes). AreWithin f count) (sym is) (AreWithin-with_change old n (replicate 512 value) count low (length-replicate 512 value) within)

pub commit-requires-clause-patch : goal.commit-requires-clause-patch
commit-requires-clause-patch c =
    let count = block_count c.args.image.now.current in
    let none = subst (λ (l : Numbered). AreWithin (changes l) count) (sym c.new-patch.ensures) (AreWithin-nothing count) in
    let first = one_more _ _ 4 _ count c.in_ok-put.ensures.written (omega (arith, c.requires)) none in
    let second = one_more _ _ 1 _ count c.in_ok-put-2.ensures.written (omega (arith, c.requires)) first in
    one_more _ _ 2 _ count c.in_ok-put-3.ensures.written (omega (arith, c.requires)) second
