use Rattle.std.proofs.Common.{arith, ap, sym, ◌∙◌}
use Rattle.std.proofs.lemmas.Bool.{le-ltb}
use Rattle.hfs_btree.specs.Header.{bit_of}
use Rattle.hfs_btree.proofs.MarkLemmas.{marked-here}
use Rattle.hfs_btree.proofs.MarkLemmas.{marked-past}
use Rattle.hfs_btree_checks.proofs.shape_map.MappedNodes.is_marked.Goals as goal

pub returns-then-n-self : goal.returns-then-n-self
returns-then-n-self g c =
    let self = c.args.self.now in
    c.bit_at.ensures ∙ ap (λ (bytes : _). bit_of bytes c.args.n) self.mapped ∙ sym (marked-here (g.N.Nodes.nodes self.nodes.now) c.args.n (omega (arith, self.counted)))

pub returns-else-n-self : goal.returns-else-n-self
returns-else-n-self g c =
    let self = c.args.self.now in
    le-ltb c.args.n self.count c.if-n-self.false ∙ sym (marked-past (g.N.Nodes.nodes self.nodes.now) c.args.n (omega (arith, self.counted)))
