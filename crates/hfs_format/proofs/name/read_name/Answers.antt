use Rattle.std.proofs.Common.{◌≡◌, ◌≤◌, sym, ap, ◌∙◌, length, le-leb, arith}
use Rattle.std.proofs.lemmas.Bool.{and_from}
use Rattle.std.specs.Prelude.{nat_le}
use Rattle.hfs_fields.specs.Names.{is_item_name}
use Rattle.hfs_format.proofs.NameLemmas.{source-named}
use Rattle.hfs_format.proofs.name.read_name.Goals as goal

pub invariant_of-result : goal.invariant_of-result
invariant_of-result c =
    let name = c.in-Some.name in
    let same : c.bytes.result.now ≡ name = c.bytes.ensures.bytes in
    let short : length name ≤ 27 = omega (arith, c.if-bytes-gt27.false, ap length same) in
    record {
      volume = and_from (is_item_name name) (nat_le (length name) 27)
          (source-named c.args.source name (sym c.name_in.ensures ∙ c.in-Some.is)) (le-leb (length name) 27 short);
    }
