-- the place of the first point is where the stem ends
use Rattle.std.proofs.Common.{ℕ}
use Rattle.std.specs.Prelude.{◌==◌}
use Rattle.hfs_texts.proofs.Stems.{before_first-at, before_first-none}
use Rattle.hfs_texts.proofs.hosts.stem.Goals as goal

pub returns-in-Some : goal.returns-in-Some
returns-in-Some c = before_first-at (λ (c : ℕ). c == 46) c.args.name.now c.in-Some.place c.in-Some.ensures

pub returns-in-None : goal.returns-in-None
returns-in-None c = before_first-none (λ (c : ℕ). c == 46) c.args.name.now c.in-None.ensures
