-- There is a row, or one of zeros comes.
use Rattle.std.proofs.Common.{◌≡◌, true, false, sym, ◌∙◌, rules}
use Rattle.std.specs.Prelude.{is_some}
use Rattle.hfs_blocks.proofs.PlaceLemmas.{copied-none, copied-some, row-there, row-came-same, row-came-kept, row-came-there}
use Rattle.hfs_blocks.proofs.places.add_row.Goals as goal

pub returns-then-is_some-clause-there : goal.returns-then-is_some-clause-there
returns-then-is_some-clause-there c =
    let some : is_some c.get.result ≡ true = search rules in
    row-there c.args.places.now.entries c.args.n _ c.get.ensures.value (copied-some c.get.result some)

pub returns-clause-same : goal.returns-clause-same
returns-clause-same c =
    let none : is_some c.get.result ≡ false = search rules in
    row-came-same c.args.places.now.entries c.insert.new.self.entries c.args.n (sym c.get.ensures.value ∙ copied-none c.get.result none) c.in_ok-insert.ensures.updates.0

pub returns-clause-kept : goal.returns-clause-kept
returns-clause-kept c =
    let none : is_some c.get.result ≡ false = search rules in
    row-came-kept c.args.places.now.entries c.insert.new.self.entries c.args.n (sym c.get.ensures.value ∙ copied-none c.get.result none) c.in_ok-insert.ensures.updates.0

pub returns-clause-there : goal.returns-clause-there
returns-clause-there c =
    let none : is_some c.get.result ≡ false = search rules in
    row-came-there c.args.places.now.entries c.insert.new.self.entries c.args.n (sym c.get.ensures.value ∙ copied-none c.get.result none) c.in_ok-insert.ensures.updates.0
