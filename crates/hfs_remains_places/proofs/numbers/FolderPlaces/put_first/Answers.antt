use Rattle.std.proofs.Common.{sym, ◌∙◌}
use Rattle.hfs_catalog.specs.Indexes.{number_of}
use Rattle.hfs_catalog.proofs.Indexed.{put_where_none, put_back}
use Rattle.hfs_fields.proofs.OutcomeLemmas.{on_ok}
use Rattle.hfs_remains_places.proofs.numbers.FolderPlaces.put_first.Goals as goal

pub returns-in-None : goal.returns-in-None
returns-in-None c = put_where_none (number_of c.args.self.now) (number_of c.replace.new.self) c.args.number c.args.place (sym c.in_ok-replace.ensures.was ∙ c.in-None.is) c.in_ok-replace.ensures.put

pub returns-in-Some : goal.returns-in-Some
returns-in-Some c =
    let there = sym c.in_ok-replace.ensures.was ∙ c.in-Some.is in
    on_ok _ _ _ (λ is. put_back (number_of c.args.self.now) (number_of c.replace.new.self) (number_of c.put.new.self) c.args.number c.args.place c.in-Some.first there c.in_ok-replace.ensures.put is) c.put.ensures
