use Rattle.hfs_catalog.specs.Indexes.{number_of}
use Rattle.hfs_catalog.proofs.Indexed.{count_more}
use Rattle.hfs_catalog.proofs.numbers.Numbers.count_more.Goals as goal

pub returns : goal.returns
returns c = count_more (number_of c.args.self.now) (number_of c.put.new.self) c.args.id c.count-count.result c.args.more c.count-count.ensures c.in_ok-put.ensures
