-- The row of fields is the head, and what is read of it with a fork behind it is what was written.
use Rattle.std.proofs.Common.{rules, ◌≡◌, ◌∙◌, sym, subst, ap, ℕ, List, ◌++◌, length}
use Rattle.std.proofs.lemmas.List.{append-nil}
use Rattle.byteorder.specs.Endian.{big_bytes}
use Rattle.hfs_fields.proofs.Written.{written}
use Rattle.hfs_encodings.specs.AppleDouble.{HoldsAppleDouble, apple_double_layout, apple_double_head_bytes}
use Rattle.hfs_encodings.proofs.WrittenAppleDouble.{length-apple_double_head_bytes, holds-apple_double}
use Rattle.hfs_encodings.proofs.apple_double.AppleDoubleHead.bytes.Goals as goal

pub returns-clause-bytes : goal.returns-clause-bytes
unfolding apple_double_head_bytes
returns-clause-bytes c =
    let whole : length c.args.self.now.finder ≡ 32 = search rules in
    let first : c.push.new.self ≡ apple_double_layout = c.push.ensures.bytes ∙ ap (λ (row : List ℕ). row ++ apple_double_layout) c.new-row.ensures in
    let second : c.push_u32.new.self ≡ apple_double_layout ++ big_bytes 4 c.args.self.now.resource_length =
    c.push_u32.ensures.bytes ∙ ap (λ (row : List ℕ). row ++ big_bytes 4 c.args.self.now.resource_length) first in
    written 82 c.push-2.new.self (apple_double_head_bytes c.args.self.now) _ c.copy_to.new.bytes c.copy_to.ensures
    (c.push-2.ensures.bytes ∙ ap (λ (row : List ℕ). row ++ c.args.self.now.finder) second) (length-apple_double_head_bytes c.args.self.now whole)
    ∙ append-nil (apple_double_head_bytes c.args.self.now)

pub returns-clause-back : goal.returns-clause-back
returns-clause-back c = λ fork own.
    let whole : length c.args.self.now.finder ≡ 32 = search rules in
    subst (λ (head : List ℕ). HoldsAppleDouble c.args.self.now fork (head ++ fork)) (sym (returns-clause-bytes c))
    (holds-apple_double c.args.self.now fork whole c.push_u32.ensures.range own)
