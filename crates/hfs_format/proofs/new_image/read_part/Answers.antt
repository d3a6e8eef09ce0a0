use Rattle.std.proofs.Common.{rules, ◌≡◌, ◌∙◌, ap, ◌+◌, ◌*◌, ◌≤◌, length, take, drop, refl, arith}
use Rattle.hfs_format.specs.Image.{image_bytes}
use Rattle.hfs_format.proofs.ReadLemmas.{part-at}
use Rattle.hfs_format.proofs.new_image.read_part.Goals as goal

pub returns-clause-read : goal.returns-clause-read
returns-clause-read c =
    let part = c.copy_from_slice.new.self in
    let bytes = c.read_blocks.new.into in
    let whole : length bytes ≡ 512 = search rules in
    let within : c.args.skip + length part ≤ 512 = omega (arith, c.requires, c.copy_from_slice.ensures.len) in
    let is : part ≡ take (length part) (drop c.args.skip bytes) =
    c.copy_from_slice.ensures.after ∙ ap (λ n. take n (drop c.args.skip bytes)) (omega (arith, c.copy_from_slice.ensures.len)) in
    part-at (512 * c.args.block) c.args.skip (length part) bytes part (image_bytes c.args.image.now) within whole
    c.in_ok-read_blocks.ensures.read is refl
