-- each letter so far, named
use Rattle.std.proofs.Common.{◌≡◌, map, take}
use Rattle.hfs_encodings.specs.Names.{named_letter}
use Rattle.hfs_encodings.proofs.names.named_letters.Given as goal

abbrev pub invariant-loop-letter : goal.invariant-loop-letter
invariant-loop-letter l = l.row ≡ map named_letter (take l.letter-index l.letters)
