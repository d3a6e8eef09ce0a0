-- The row of fields, check and zeros is the header, and what is read of it with both forks behind it is what was written.
use Rattle.std.proofs.Common.{◌≡◌, ◌∙◌, sym, subst, ap, ℕ, List, [], ◌∷◌, ◌++◌, ◌^◌, ◌<◌}
use Rattle.std.proofs.lemmas.List.{append-nil}
use Rattle.byteorder.specs.Endian.{big_bytes}
use Rattle.hfs_fields.proofs.Written.{written}
use Rattle.hfs_encodings.specs.Crc.{crc16}
use Rattle.hfs_encodings.specs.MacBinary.{HoldsMacBinary, macbinary_fields, macbinary_head_bytes, filled}
use Rattle.hfs_encodings.proofs.WrittenMacBinary.{length-macbinary_head_bytes, holds-macbinary}
use Rattle.hfs_encodings.proofs.macbinary.MacBinaryHead.bytes.Goals as goal

pub returns-clause-bytes : goal.returns-clause-bytes
unfolding macbinary_head_bytes
returns-clause-bytes c =
    let first : c.push.new.self ≡ macbinary_fields c.args.self.now = c.push.ensures.bytes ∙ (λ i. c.new-row.ensures i ++ c.fields-fields.ensures.bytes i) in
    let check : c.crc16.result ≡ crc16 (macbinary_fields c.args.self.now) = c.crc16.ensures ∙ ap crc16 c.fields-fields.ensures.bytes in
    let second : c.push_u16.new.self ≡ macbinary_fields c.args.self.now ++ big_bytes 2 (crc16 (macbinary_fields c.args.self.now)) =
    c.push_u16.ensures.bytes ∙ (λ i. first i ++ big_bytes 2 (check i)) in
    written 128 c.push_zeros.new.self (macbinary_head_bytes c.args.self.now) _ c.copy_to.new.bytes c.copy_to.ensures
    (c.push_zeros.ensures.bytes ∙ ap (λ (row : List ℕ). row ++ 0 ∷ 0 ∷ []) second) (length-macbinary_head_bytes c.args.self.now c.fields-fields.ensures.value)
    ∙ append-nil (macbinary_head_bytes c.args.self.now)

pub returns-clause-back : goal.returns-clause-back
returns-clause-back c = λ data_fork resource_fork named data_own resource_own.
    let check : c.crc16.result ≡ crc16 (macbinary_fields c.args.self.now) = c.crc16.ensures ∙ ap crc16 c.fields-fields.ensures.bytes in
    subst (λ (head : List ℕ). HoldsMacBinary c.args.self.now data_fork resource_fork (head ++ filled data_fork ++ filled resource_fork)) (sym (returns-clause-bytes c))
    (holds-macbinary c.args.self.now data_fork resource_fork c.fields-fields.ensures.value (subst (λ (n : ℕ). n < 2 ^ 16) check c.push_u16.ensures.range) named data_own resource_own)
