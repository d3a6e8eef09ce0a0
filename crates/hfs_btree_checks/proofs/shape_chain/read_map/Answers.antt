use Rattle.std.proofs.Common.{ℕ, ◌≡◌, ◌∷◌, ◌++◌, [], List, length, refl, sym, ap, ◌∙◌, arith}
use Rattle.std.specs.List.{list_all}
use Rattle.hfs_btree.specs.Header.{is_marked, chain_from, own_nodes}
use Rattle.hfs_btree_checks.proofs.ShapeTurn.{passed-on}
use Rattle.hfs_btree_checks.proofs.ShapeMaps.{wrong-on, chain-is, bytes-are, chain-fault-is, wrong-chain, no-bits, wrong-marks, has_map-from, own-are}
use Rattle.hfs_btree_checks.proofs.shape_chain.read_map.Goals as goal

pub returns-in_err-read_chain-clause-wrong : goal.returns-in_err-read_chain-clause-wrong
returns-in_err-read_chain-clause-wrong g c =
    let nodes = g.N.Nodes.nodes c.args.nodes.now in
    let e = c.in_err-read_chain.field-0.0 in
    let is = chain-is nodes c.args.count c.forward.result c.args.head.now c.requires.head c.requires.counted c.forward.ensures in
    let unmet = c.in_ok-met.ensures.items_if_clones_equal (λ y h. h) in
    passed-on c.from_residual-in_err-read_chain.result e _ c.from_residual-in_err-read_chain.ensures.1
    (wrong-on _ _ 0 e (wrong-chain nodes _ (chain-fault-is nodes c.in_ok-met.met.items c.args.count (chain_from nodes c.args.count c.forward.result) unmet is)) c.in_err-read_chain.ensures.wrong)

pub returns-then-div_ceil-len-clause-wrong : goal.returns-then-div_ceil-len-clause-wrong
returns-then-div_ceil-len-clause-wrong g c =
    let nodes = g.N.Nodes.nodes c.args.nodes.now in
    let is = chain-is nodes c.args.count c.forward.result c.args.head.now c.requires.head c.requires.counted c.forward.ensures in
    let bytes = bytes-are nodes c.args.head.now c.in_ok-bytes.bytes.items c.read_chain.new.map.items (chain_from nodes c.args.count c.forward.result) c.requires.head
    (c.in_ok-bytes.ensures.items ∙ c.record.ensures.bytes) is c.in_ok-read_chain.ensures.parts in
    (refl, no-bits nodes (omega (arith, ap (λ (xs : List ℕ). length xs) bytes, c.read_chain.new.map.ok.0, c.requires.counted, c.len.ensures, c.div_ceil.ensures)))

pub invariant_of-tree : goal.invariant_of-tree
invariant_of-tree g c =
    let nodes = g.N.Nodes.nodes c.args.nodes.now in
    let is = chain-is nodes c.args.count c.forward.result c.args.head.now c.requires.head c.requires.counted c.forward.ensures in
    let bytes = bytes-are nodes c.args.head.now c.in_ok-bytes.bytes.items c.read_chain.new.map.items (chain_from nodes c.args.count c.forward.result) c.requires.head
    (c.in_ok-bytes.ensures.items ∙ c.record.ensures.bytes) is c.in_ok-read_chain.ensures.parts in
    record {
      counted = c.requires.counted;
      mapped = c.deref.ensures.value ∙ bytes;
      within = c.requires.within;
      long = omega (arith, c.deref.ensures.len, c.read_chain.new.map.ok.0, c.len.ensures, c.div_ceil.ensures);
    }

pub returns-then-not-are_marked-clause-wrong : goal.returns-then-not-are_marked-clause-wrong
returns-then-not-are_marked-clause-wrong g c =
    let nodes = g.N.Nodes.nodes c.args.nodes.now in
    let is = chain-is nodes c.args.count c.forward.result c.args.head.now c.requires.head c.requires.counted c.forward.ensures in
    let own : c.deref-2.result.now ≡ own_nodes nodes = c.deref-2.ensures.value ∙ c.in_ok-read_chain.ensures.numbers ∙ ap (λ (ns : List ℕ). ns ++ chain_from nodes c.args.count c.forward.result) c.in_ok-push.ensures.items ∙ ap (λ (ns : List ℕ). (ns ++ 0 ∷ []) ++ chain_from nodes c.args.count c.forward.result) c.new-own.ensures.items ∙ ap (λ (ns : List ℕ). 0 ∷ ns) is in
    (refl, wrong-marks nodes (sym (c.are_marked.ensures ∙ ap (list_all (is_marked nodes)) own) ∙ c.if-not-are_marked.true))

pub returns-clause-right : goal.returns-clause-right
returns-clause-right g c =
    let nodes = g.N.Nodes.nodes c.args.nodes.now in
    let is = chain-is nodes c.args.count c.forward.result c.args.head.now c.requires.head c.requires.counted c.forward.ensures in
    let unmet = c.in_ok-met.ensures.items_if_clones_equal (λ y h. h) in
    let bytes = bytes-are nodes c.args.head.now c.in_ok-bytes.bytes.items c.read_chain.new.map.items (chain_from nodes c.args.count c.forward.result) c.requires.head
    (c.in_ok-bytes.ensures.items ∙ c.record.ensures.bytes) is c.in_ok-read_chain.ensures.parts in
    let own : c.deref-2.result.now ≡ own_nodes nodes = c.deref-2.ensures.value ∙ c.in_ok-read_chain.ensures.numbers ∙ ap (λ (ns : List ℕ). ns ++ chain_from nodes c.args.count c.forward.result) c.in_ok-push.ensures.items ∙ ap (λ (ns : List ℕ). (ns ++ 0 ∷ []) ++ chain_from nodes c.args.count c.forward.result) c.new-own.ensures.items ∙ ap (λ (ns : List ℕ). 0 ∷ ns) is in
    has_map-from nodes _ (chain-fault-is nodes c.in_ok-met.met.items c.args.count (chain_from nodes c.args.count c.forward.result) unmet is) c.in_ok-read_chain.ensures.right
    (omega (arith, ap (λ (xs : List ℕ). length xs) bytes, c.read_chain.new.map.ok.0, c.requires.counted, c.len.ensures, c.div_ceil.ensures))
    (sym (c.are_marked.ensures ∙ ap (list_all (is_marked nodes)) own) ∙ c.if-not-are_marked.false)

pub returns-clause-own : goal.returns-clause-own
returns-clause-own g c =
    let nodes = g.N.Nodes.nodes c.args.nodes.now in
    let is = chain-is nodes c.args.count c.forward.result c.args.head.now c.requires.head c.requires.counted c.forward.ensures in
    let unmet = c.in_ok-met.ensures.items_if_clones_equal (λ y h. h) in
    let some = c.requires.some in
    own-are nodes c.in_ok-met.met.items c.read_chain.new.met.items c.args.count (chain_from nodes c.args.count c.forward.result) unmet is
    (omega (arith, c.read_chain.new.met.ok.0, c.in_ok-read_chain.ensures.kept)) c.in_ok-read_chain.ensures.marked
