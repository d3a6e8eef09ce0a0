-- the day lies in a cycle of four years, and in one of these
use Rattle.std.proofs.Common.{◌∙◌, sym}
use Rattle.hfs_texts.proofs.Days.{since-1904, in-leap-year, in-year-behind}
use Rattle.hfs_texts.proofs.calendar.day_since_1904.Goals as goal

pub day_of_year-requires : goal.day_of_year-requires
day_of_year-requires c = in-leap-year c.args.days c.requires c.if-left-lt366.true

pub returns-then-left-lt366 : goal.returns-then-left-lt366
returns-then-left-lt366 c = c.day_of_year.ensures ∙ sym ((since-1904 c.args.days c.requires).leap c.if-left-lt366.true)

pub day_of_year-requires-2 : goal.day_of_year-requires-2
day_of_year-requires-2 c = in-year-behind c.args.days c.requires c.if-left-lt366.false

pub returns : goal.returns
returns c = c.day_of_year-2.ensures ∙ sym ((since-1904 c.args.days c.requires).behind c.if-left-lt366.false)
