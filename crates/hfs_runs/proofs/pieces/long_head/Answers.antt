use Rattle.std.proofs.Common.{rules, refl, ◌<◌, length, string_bytes, arith}
use Rattle.hfs_scripts.specs.Texts.{caller_text}
use Rattle.hfs_runs.proofs.PieceLemmas.{long-answer}
use Rattle.hfs_runs.proofs.pieces.long_head.Goals as goal

pub returns-in_ok-head-in-Bytes : goal.returns-in_ok-head-in-Bytes
returns-in_ok-head-in-Bytes c =
    let some : 0 < length c.as_slice.result.now = omega (arith, c.if-as_slice-lt-LONG.false) in
    long-answer c.args.asked c.args.reply.now c.as_slice.result.now (caller_text c.args.asked.caller) (string_bytes c.in_ok-head-in-Bytes.head)
    (search rules) some refl c.in_ok-head-in-Bytes.ensures
