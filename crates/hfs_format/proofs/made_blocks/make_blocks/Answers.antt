use Rattle.std.proofs.Common.{rules, ◌≡◌, ◌-◌, ◌+◌, ◌*◌, ◌≤◌, length, take, sym, ap, ◌∙◌, arith}
use Rattle.std.specs.List.{flat_map, range_with_len}
use Rattle.std.proofs.lemmas.List.{take_all}
use borrow.Rule.Slice.PartMut.{put_mid}
use Rattle.hfs_format.specs.Image.{new_block}
use Rattle.hfs_format.proofs.Ranges.{made-more}
use Rattle.hfs_format.proofs.made_blocks.make_blocks.Goals as goal

pub loop-k-preserved : goal.loop-k-preserved
loop-k-preserved c =
    let k = c.loop-k.k in
    let block = c.copy_from_slice.new.self in
    let is : block ≡ c.new_block.result = search rules in
    let whole : length block ≡ 512 = search rules in
    let long : length (put_mid (k * 512) (k * 512 + 512 - k * 512) c.loop-k.into block) ≡ length c.loop-k.into = search rules in
    record {
      made = made-more (new_block c.args.volume.now) c.args.first k (k * 512) (k * 512 + 512 - k * 512) c.loop-k.into block (omega arith)
          (omega (arith, c.loop-k.invariant.long, c.requires.room, c.loop-k-test.true)) whole (is ∙ c.new_block.ensures)
          (ap (λ n. take n c.loop-k.into) (omega arith) ∙ c.loop-k.invariant.made);
      long = long ∙ c.loop-k.invariant.long;
    }

pub returns : goal.returns
returns c =
    let all : c.loop-k.k ≡ c.args.count = omega (arith, c.loop-k-test.false) in
    let most : length c.loop-k.into ≤ 512 * c.loop-k.k = omega (arith, all, c.loop-k.invariant.long, c.requires.room) in
    sym (take_all (512 * c.loop-k.k) c.loop-k.into most) ∙ c.loop-k.invariant.made
    ∙ ap (λ n. flat_map (new_block c.args.volume.now) (range_with_len c.args.first n)) all
