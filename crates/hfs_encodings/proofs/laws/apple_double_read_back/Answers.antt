-- What the writer makes is what the reader looks at.
use Rattle.std.proofs.Common.{rules, ◌≡◌, ◌∙◌, sym, ap, ◌^◌, ◌<◌, length}
use Rattle.hfs_encodings.proofs.AppleDoubleRead.{apple-double-back}
use Rattle.hfs_encodings.proofs.laws.apple_double_read_back.Goals as goal

pub returns : goal.returns
returns c = λ fork own.
    let whole : length c.args.head.finder ≡ 32 = search rules in
    let small : c.args.head.resource_length < 2 ^ 32 = search rules in
    let size : length c.bytes-bytes.result ≡ 82 = search rules in
    apple-double-back c.args.head fork whole small (sym (ap length c.bytes-bytes.ensures.bytes) ∙ size) own
