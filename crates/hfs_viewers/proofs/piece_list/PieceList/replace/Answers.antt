-- The vector's own pieces come.
use Rattle.std.proofs.Common.{◌∙◌, List, sym, ap, arith}
use Rattle.std.specs.List.{splice}
use Rattle.std.proofs.lemmas.List.{map-id}
use Rattle.std.proofs.lemmas.Iterator.{items_from_drains}
use Rattle.std.proofs.lemmas.Iterator.Adapters.{YieldsList-from_vec}
use Rattle.hfs_viewers.specs.declared.piece.Piece.{Piece}
use Rattle.hfs_viewers.proofs.piece_list.PieceList.replace.Goals as goal

pub returns-clause-ok : goal.returns-clause-ok
returns-clause-ok c =
    let it = c.in-Ok.ensures.items in
    let road = YieldsList-from_vec c.args.come.items it.2.0 (omega (arith, it.2.1, c.args.come.ok.0)) in
    let came = sym (map-id it.1) ∙ items_from_drains it.1 (it.3.1.0, it.3.1.1, λ _. (it.3.0, it.3.1.2)) road in
    it.4 ∙ ap (splice c.self.inside.items.items c.args.from c.args.to) came ∙ ap (λ (ps : List Piece). splice ps c.args.from c.args.to c.args.come.items) c.self.view_is
