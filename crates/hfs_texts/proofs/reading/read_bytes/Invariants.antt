-- the bytes so far were read
use Rattle.std.specs.Prelude.{◌≡◌, take}
use Rattle.std.specs.List.{fold}
use Rattle.hfs_texts.specs.Paths.{read_byte, read_of}
use Rattle.hfs_texts.proofs.reading.read_bytes.Given as goal

abbrev pub invariant-loop-byte : goal.invariant-loop-byte
invariant-loop-byte l = read_of l.reading ≡ fold read_byte (read_of l.initial.reading) (take l.byte-index l.text)
