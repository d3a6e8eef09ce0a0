-- The first of the blocks that were read are those of the image.
use Rattle.std.proofs.Common.{rules, ◌≡◌, ◌*◌, ◌≤◌, arith, length, subst, sym, List, ℕ}
use Rattle.std.specs.Int.{div_ceil}
use Rattle.std.proofs.lemmas.Grind.{div_ceil_times}
use Rattle.hfs_source.specs.Images.{HasAt}
use Rattle.hfs_bag.proofs.ForkLemmas.{held_first}
use Rattle.hfs_bag.proofs.fork_reading.fill_blocks.Goals as goal

pub returns-clause-read : goal.returns-clause-read
returns-clause-read g c = λ image h.
    let into = c.fill_whole.new.piece.items in
    let blocks : c.div_ceil-blocks.result ≡ div_ceil c.args.len 512 = search rules in
    let fits : c.args.len ≤ length into = omega (arith, c.in_ok-fill_whole.ensures.len, blocks, (div_ceil_times c.args.len 512 (omega arith)).0) in
    subst (λ (bytes : List ℕ). HasAt (512 * c.args.first) bytes image) (sym c.truncate.ensures.items)
    (held_first image into (512 * c.args.first) c.args.len fits (c.in_ok-fill_whole.ensures.read image h))
