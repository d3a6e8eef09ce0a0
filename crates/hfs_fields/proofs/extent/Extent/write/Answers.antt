use Rattle.std.proofs.Common.{◌++◌, drop, refl, ◌∙◌, ap}
use Rattle.byteorder.specs.Endian.{big_bytes}
use Rattle.hfs_fields.specs.RecordForms.{extent_bytes}
use Rattle.hfs_fields.proofs.RecordFormLemmas.{extent_at-read}
use Rattle.hfs_fields.proofs.Written.{written}
use Rattle.hfs_fields.proofs.extent.Extent.write.Goals as goal

pub returns-clause-written : goal.returns-clause-written
returns-clause-written c =
    written 4 c.push_u16-2.new.self (extent_bytes c.args.self.now) c.args.bytes.now _ c.copy_to.ensures
    (c.push_u16-2.ensures.bytes ∙ ap (λ bytes. bytes ++ big_bytes 2 c.args.self.now.count) (c.push_u16.ensures.bytes ∙ ap (λ bytes. bytes ++ big_bytes 2 c.args.self.now.first) c.new-row.ensures)) refl

pub returns-clause-back : goal.returns-clause-back
returns-clause-back c =
    extent_at-read 0 c.args.self.now _ (drop 4 c.args.bytes.now) (returns-clause-written c) (record { first = c.push_u16.ensures.range; count = c.push_u16-2.ensures.range })
