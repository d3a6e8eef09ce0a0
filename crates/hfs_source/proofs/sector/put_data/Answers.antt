-- The part as it stands in the sector, or zeros.
use Rattle.std.proofs.Common.{rules, ◌≡◌, ◌+◌, length, ◌∙◌, arith, sym, replicate}
use Rattle.hfs_fields.specs.Mdb.{bytes_at}
use Rattle.hfs_source.proofs.DataLemmas.{data-missing, data-there}
use Rattle.hfs_source.proofs.sector.put_data.Goals as goal

pub returns-in-Some : goal.returns-in-Some
returns-in-Some c =
    let laid : c.copy_from_slice.new.self ≡ bytes_at (c.in-Some.start + c.args.from) (length c.args.part.now) c.args.sector.now = search rules in
    laid ∙ data-there c.args.sector.now c.in-Some.start c.args.from (length c.args.part.now) (omega arith) (sym c.in-Some.is ∙ c.start_in.ensures.start)

pub returns-in-None : goal.returns-in-None
returns-in-None c =
    let laid : c.fill.new.self ≡ replicate (length c.args.part.now) 0 = search rules in
    laid ∙ data-missing c.args.sector.now c.args.from (length c.args.part.now) (omega arith) (sym c.in-None.is ∙ c.start_in.ensures.start)
