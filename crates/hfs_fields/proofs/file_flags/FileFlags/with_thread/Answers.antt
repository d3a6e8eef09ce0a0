use Rattle.std.proofs.Common.{◌≡◌, ◌<◌, ◌∙◌, true, false, arith}
use Rattle.std.specs.Prelude.{if◌then◌else◌}
use Rattle.std.specs.Int.RustNames.{bit_or}
use Rattle.bitflags.specs.Sets.{without}
use Rattle.hfs_fields.specs.Records.{with_bit}
use Rattle.hfs_fields.proofs.FlagBits.{thread-set, thread-cleared}
use Rattle.hfs_fields.proofs.file_flags.FileFlags.with_thread.Goals as goal

pub returns : goal.returns
returns c =
    let small : c.args.self.0 < 256 = omega arith in
    let both : (if c.args.exists then bit_or c.args.self.0 2 else without 8 c.args.self.0 2) ≡ with_bit 1 c.args.exists c.args.self.0 =
    elim c.args.exists as (λ b. (if b then bit_or c.args.self.0 2 else without 8 c.args.self.0 2) ≡ with_bit 1 b c.args.self.0)
    [ true ↦ thread-set c.args.self.0 small | false ↦ thread-cleared c.args.self.0 small ] in
    c.set.ensures tt ∙ both
