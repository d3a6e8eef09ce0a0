use Rattle.std.proofs.Common.{◌∙◌, ap, length, sym}
use Rattle.hfs_btree.specs.Header.{tree_content}
use Rattle.hfs_btree_checks.specs.declared.tree_counts.TreeCounts.{TreeCounts}
use Rattle.hfs_repair.proofs.Recounts.{in-field, in-field-small, records-fit}
use Rattle.hfs_repair.proofs.right_counts.right_counts.Goals as goal

pub unreachable-requires : goal.unreachable-requires
unreachable-requires g c =
    let nodes = g.N.Nodes.nodes c.args.nodes.now in
    let small = c.ranges.size.fits in
    c.in_default.not-Some (length (tree_content g.K.Key nodes)) (ap (λ (x : TreeCounts). x.records) c.in-Ok.ensures.counts ∙ records-fit g.K.Key c.args.size nodes c.in-Ok.ensures.place c.in-Ok.ensures.structure small)

pub head_with-requires-clause-records : goal.head_with-requires-clause-records
head_with-requires-clause-records g c =
    in-field (length (tree_content g.K.Key (g.N.Nodes.nodes c.args.nodes.now))) c.in-Some.records (sym c.in-Some.is ∙ ap (λ (x : TreeCounts). x.records) c.in-Ok.ensures.counts)

pub returns : goal.returns
returns g c = record {
  bytes = c.requires;
  fault = c.in-Ok.ensures.place;
  structure = c.in-Ok.ensures.structure;
  header = ap (λ (x : TreeCounts). x.header) c.in-Ok.ensures.counts;
  records = in-field (length (tree_content g.K.Key (g.N.Nodes.nodes c.args.nodes.now))) c.in-Some.records (sym c.in-Some.is ∙ ap (λ (x : TreeCounts). x.records) c.in-Ok.ensures.counts);
  small = in-field-small (length (tree_content g.K.Key (g.N.Nodes.nodes c.args.nodes.now))) c.in-Some.records (sym c.in-Some.is ∙ ap (λ (x : TreeCounts). x.records) c.in-Ok.ensures.counts);
  free = ap (λ (x : TreeCounts). x.free_nodes) c.in-Ok.ensures.counts;
  recount = c.in_ok-head.ensures;
}
