-- The row of fields fills the array.
use Rattle.std.proofs.Common.{◌∙◌, ap, arith, List, ℕ, length}
use Rattle.std.proofs.lemmas.List.{append-nil}
use Rattle.hfs_fields.proofs.Written.{written}
use Rattle.hfs_encodings.specs.MacBinary.{macbinary_fields}
use Rattle.hfs_encodings.proofs.WrittenMacBinary.{length-macbinary_fields}
use Rattle.hfs_encodings.proofs.macbinary.MacBinaryHead.fields.Goals as goal

pub copy_to-requires : goal.copy_to-requires
copy_to-requires c =
    omega (arith, ap (λ (row : List ℕ). length row) c.laid.ensures.bytes, length-macbinary_fields c.args.self.now c.laid.ensures.value)

pub returns-clause-bytes : goal.returns-clause-bytes
returns-clause-bytes c =
    written 124 c.laid.result (macbinary_fields c.args.self.now) _ c.copy_to.new.bytes c.copy_to.ensures c.laid.ensures.bytes
    (length-macbinary_fields c.args.self.now c.laid.ensures.value)
    ∙ append-nil (macbinary_fields c.args.self.now)
