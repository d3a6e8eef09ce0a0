use Rattle.std.proofs.Common.{Ok, Err, sym, ap, ◌∙◌, arith}
use Rattle.std.proofs.lemmas.Bool.{and_parts}
use Rattle.hfs_btree.specs.declared.header.Header.{Header}
use Rattle.hfs_btree_checks.specs.Shape.{is_header_value}
use Rattle.hfs_btree_checks.proofs.ShapeNode.{decodes}
use Rattle.hfs_btree_checks.proofs.ShapeTurn.{passed-fault}
use Rattle.hfs_btree_checks.proofs.ShapeWhole.{value-parts, record-parts, header-is, has_header-is, no-header, no-nodes, headless, mapped, mapless-fault, answered, shaped-where}
use Rattle.hfs_btree_checks.proofs.ShapeLawLemmas.{structure-law}
use Rattle.hfs_btree_checks.proofs.shape.count_tree.Goals as goal

pub returns-then-count-eq0-clause-place : goal.returns-then-count-eq0-clause-place
returns-then-count-eq0-clause-place g c =
    let nodes = g.N.Nodes.nodes c.args.nodes.now in
    headless g.K.Key c.args.size nodes (no-nodes g.K.Key c.args.size nodes (omega (arith, c.count.ensures)) c.requires)

pub returns-in_default-clause-place : goal.returns-in_default-clause-place
returns-in_default-clause-place g c =
    let nodes = g.N.Nodes.nodes c.args.nodes.now in
    let is = decodes nodes 0 c.read.new.into (Err c.in_default.field-0) c.read.ensures c.in_default.ensures.node in
    headless g.K.Key c.args.size nodes (no-header g.K.Key c.args.size nodes c.in_default.field-0 is)

pub returns-in_default-checked_header-clause-place : goal.returns-in_default-checked_header-clause-place
returns-in_default-checked_header-clause-place g c =
    let nodes = g.N.Nodes.nodes c.args.nodes.now in
    let is = decodes nodes 0 c.read.new.into (Ok c.in-Ok.head) c.read.ensures c.in-Ok.ensures.node in
    headless g.K.Key c.args.size nodes (sym (has_header-is g.K.Key c.args.size nodes c.in-Ok.head is) ∙ c.in_default-checked_header.ensures)

pub read_map-requires-clause-head : goal.read_map-requires-clause-head
read_map-requires-clause-head g c = decodes (g.N.Nodes.nodes c.args.nodes.now) 0 c.read.new.into (Ok c.in-Ok.head) c.read.ensures c.in-Ok.ensures.node

pub read_map-requires-clause-three : goal.read_map-requires-clause-three
read_map-requires-clause-three g c = (value-parts c.in-Ok.head (and_parts (is_header_value c.in-Ok.head) _ c.in-Some.ensures.0).0).1

pub read_map-requires-clause-counted : goal.read_map-requires-clause-counted
read_map-requires-clause-counted g c =
    let nodes = g.N.Nodes.nodes c.args.nodes.now in
    let is = decodes nodes 0 c.read.new.into (Ok c.in-Ok.head) c.read.ensures c.in-Ok.ensures.node in
    ap (λ (h : Header). h.nodes) (c.in-Some.ensures.1 ∙ header-is g.K.Key c.args.size nodes c.in-Ok.head is)

pub read_map-requires-clause-within : goal.read_map-requires-clause-within
read_map-requires-clause-within g c =
    let parts = record-parts g.K.Key c.args.size _ (and_parts (is_header_value c.in-Ok.head) _ c.in-Some.ensures.0).1 in
    omega (arith, parts.3, c.requires, ap (λ (h : Header). h.nodes) c.in-Some.ensures.1)

pub read_map-requires-clause-some : goal.read_map-requires-clause-some
read_map-requires-clause-some g c =
    let parts = record-parts g.K.Key c.args.size _ (and_parts (is_header_value c.in-Ok.head) _ c.in-Some.ensures.0).1 in
    omega (arith, parts.2, ap (λ (h : Header). h.nodes) c.in-Some.ensures.1)

pub returns-in_err-read-clause-place : goal.returns-in_err-read-clause-place
returns-in_err-read-clause-place g c =
    let nodes = g.N.Nodes.nodes c.args.nodes.now in
    let e = c.in_err-read.field-0.0 in
    let is = decodes nodes 0 c.read.new.into (Ok c.in-Ok.head) c.read.ensures c.in-Ok.ensures.node in
    passed-fault c.from_residual.result e _ _ c.from_residual.ensures.1
    (mapless-fault g.K.Key c.args.size nodes e (sym (has_header-is g.K.Key c.args.size nodes c.in-Ok.head is) ∙ c.in-Some.ensures.0) c.in_err-read.ensures.wrong)

pub invariant_of-tree : goal.invariant_of-tree
invariant_of-tree g c =
    let nodes = g.N.Nodes.nodes c.args.nodes.now in
    let is = decodes nodes 0 c.read.new.into (Ok c.in-Ok.head) c.read.ensures c.in-Ok.ensures.node in
    let parts = record-parts g.K.Key c.args.size _ (and_parts (is_header_value c.in-Ok.head) _ c.in-Some.ensures.0).1 in
    record {
      counted = ap (λ (h : Header). h.nodes) (c.in-Some.ensures.1 ∙ header-is g.K.Key c.args.size nodes c.in-Ok.head is);
      mapped = c.deref.ensures.value ∙ c.in_ok-read.ensures.bytes;
      within = omega (arith, parts.3, c.requires, ap (λ (h : Header). h.nodes) c.in-Some.ensures.1);
      long = omega (arith, c.in_ok-read.ensures.long, c.deref.ensures.len);
    }

pub count_mapped-requires-clause-head : goal.count_mapped-requires-clause-head
count_mapped-requires-clause-head g c =
    let nodes = g.N.Nodes.nodes c.args.nodes.now in
    let is = decodes nodes 0 c.read.new.into (Ok c.in-Ok.head) c.read.ensures c.in-Ok.ensures.node in
    c.in-Some.ensures.1 ∙ header-is g.K.Key c.args.size nodes c.in-Ok.head is

pub returns-clause-place : goal.returns-clause-place
returns-clause-place g c =
    let nodes = g.N.Nodes.nodes c.args.nodes.now in
    let is = decodes nodes 0 c.read.new.into (Ok c.in-Ok.head) c.read.ensures c.in-Ok.ensures.node in
    let same = mapped g.K.Key c.args.size nodes (sym (has_header-is g.K.Key c.args.size nodes c.in-Ok.head is) ∙ c.in-Some.ensures.0) c.in_ok-read.ensures.right in
    answered c.count_mapped.result _ _ (sym same) c.count_mapped.ensures.fault

pub returns-clause-structure : goal.returns-clause-structure
returns-clause-structure g c =
    let nodes = g.N.Nodes.nodes c.args.nodes.now in
    let is = decodes nodes 0 c.read.new.into (Ok c.in-Ok.head) c.read.ensures c.in-Ok.ensures.node in
    let same = mapped g.K.Key c.args.size nodes (sym (has_header-is g.K.Key c.args.size nodes c.in-Ok.head is) ∙ c.in-Some.ensures.0) c.in_ok-read.ensures.right in
    shaped-where c.count_mapped.result _ _ (λ none. ((structure-law g.K.Key c.args.size nodes).0 (same ∙ none)).0) c.count_mapped.ensures.fault
