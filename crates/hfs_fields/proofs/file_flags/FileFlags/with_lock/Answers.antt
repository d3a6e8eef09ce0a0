use Rattle.std.proofs.Common.{◌≡◌, ◌<◌, ◌∙◌, true, false, arith}
use Rattle.std.specs.Prelude.{if◌then◌else◌}
use Rattle.std.specs.Int.RustNames.{bit_or}
use Rattle.bitflags.specs.Sets.{without}
use Rattle.hfs_fields.specs.Records.{with_bit}
use Rattle.hfs_fields.proofs.FlagBits.{lock-set, lock-cleared}
use Rattle.hfs_fields.proofs.file_flags.FileFlags.with_lock.Goals as goal

pub returns : goal.returns
returns c =
    let small : c.args.self.0 < 256 = omega arith in
    let both : (if c.args.locked then bit_or c.args.self.0 1 else without 8 c.args.self.0 1) ≡ with_bit 0 c.args.locked c.args.self.0 =
    elim c.args.locked as (λ b. (if b then bit_or c.args.self.0 1 else without 8 c.args.self.0 1) ≡ with_bit 0 b c.args.self.0)
    [ true ↦ lock-set c.args.self.0 small | false ↦ lock-cleared c.args.self.0 small ] in
    c.set.ensures tt ∙ both
