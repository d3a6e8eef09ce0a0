-- What the writer promises of its header is all that the reader looks at.
use Rattle.std.proofs.Common.{rules, ◌≡◌, ◌∙◌, sym, subst, ap, ℕ, List, ◌++◌, length}
use Rattle.hfs_encodings.specs.MacBinary.{HoldsMacBinary, filled}
use Rattle.hfs_encodings.proofs.MacBinaryRead.{read-back}
use Rattle.hfs_encodings.proofs.laws.macbinary_read_back.Goals as goal

pub returns : goal.returns
returns c = λ data_fork resource_fork named data_own resource_own.
    let size : length c.bytes-bytes.result ≡ 128 = search rules in
    read-back c.args.head data_fork resource_fork (sym (ap length c.bytes-bytes.ensures.bytes) ∙ size) data_own resource_own
    (subst (λ (head : List ℕ). HoldsMacBinary c.args.head data_fork resource_fork (head ++ filled data_fork ++ filled resource_fork)) c.bytes-bytes.ensures.bytes
    (c.bytes-bytes.ensures.back data_fork resource_fork named data_own resource_own))
