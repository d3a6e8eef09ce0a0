-- Of 128 zeros so many were written.
use Rattle.std.proofs.Common.{ℕ, List, OnOk, OnErr, subst}
use Rattle.std.proofs.lemmas.List.{take-replicate}
use Rattle.std.specs.Io.KnownBytes.{Appends}
use Rattle.hfs_texts.specs.Writing.{AppendsFront}
use Rattle.hfs_commands.proofs.macbinary.write_zeros.Goals as goal

pub returns-clause-written : goal.returns-clause-written
returns-clause-written g c =
    subst (λ (bytes : List ℕ). OnOk c.write_bytes.result (Appends (g.W.Write.contents c.args.writer.now) (g.W.Write.contents c.write_bytes.new.writer) bytes))
    (take-replicate c.args.count 128 0 c.requires) c.write_bytes.ensures.written

pub returns-clause-part : goal.returns-clause-part
returns-clause-part g c =
    subst (λ (bytes : List ℕ). OnErr c.write_bytes.result (AppendsFront (g.W.Write.contents c.args.writer.now) (g.W.Write.contents c.write_bytes.new.writer) bytes))
    (take-replicate c.args.count 128 0 c.requires) c.write_bytes.ensures.part
