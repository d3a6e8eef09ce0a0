use Rattle.std.proofs.Common.{List, Option, String, Global, sym, subst, ◌∙◌, arith}
use Rattle.hfs_remains_places.specs.Paths.{AreRight}
use Rattle.hfs_remains_places.proofs.PathLemmas.{path-endless}
use Rattle.hfs_remains_places.proofs.RowLemmas.{right-set}
use Rattle.hfs_remains_places.proofs.paths.Frame.place_lost.Goals as goal

pub returns-clause-right : goal.returns-clause-right
returns-clause-right c =
    let things = c.args.self.now.things.now in
    subst (λ (l : List (Option (String Global))). AreRight things l) (sym c.put_path.ensures)
    (right-set things c.args.paths.now c.args.i c.in_ok-text.text (omega (arith, c.requires.within, c.requires.all))
    (c.in_ok-text.ensures ∙ sym (path-endless things c.args.i c.requires.folder c.requires.endless)) c.requires.right)
