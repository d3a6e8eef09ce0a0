-- The first letters are enough.
use Rattle.std.proofs.Common.{◌∙◌, ap, chars, length, arith}
use Rattle.std.proofs.lemmas.List.{length-take}
use Rattle.hfs_encodings.specs.Spelled.{letters_in, seen_letters}
use Rattle.hfs_encodings.proofs.Given.{given_row}
use Rattle.hfs_encodings.proofs.names.read_name.Goals as goal

pub copy_to-requires : goal.copy_to-requires
copy_to-requires c = omega (arith, ap length c.first_letters-row.ensures, length-take 32 (seen_letters c.args.spelling (chars c.args.text.now)))

pub returns : goal.returns
returns c =
    c.given_name.ensures
    ∙ given_row c.first_letters-row.result _ c.copy_to.new.bytes (letters_in c.args.spelling (chars c.args.text.now)) c.len.result c.copy_to.ensures c.len.ensures c.first_letters-row.ensures
