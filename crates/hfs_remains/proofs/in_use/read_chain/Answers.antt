use Rattle.std.proofs.Common.{◌≡◌, ℕ, suc, ◌-◌, true, false, List, ◌++◌, length, sym, ap, ◌∙◌, arith}
use Rattle.std.proofs.lemmas.List.{append-nil}
use Rattle.std.proofs.lemmas.Option.{MatchOption-at_some, MatchOption-at_none}
use Rattle.hfs_catalog.specs.Indexes.{has_number}
use Rattle.hfs_catalog.proofs.Ordered.{id_there, id_put}
use Rattle.hfs_remains.specs.TreeFiles.{nodes_of}
use Rattle.hfs_remains.specs.InUse.{chain_bytes}
use Rattle.hfs_remains.proofs.NodeLemmas.{length-nodes}
use Rattle.hfs_remains.proofs.ChainLemmas.{chain_bytes-met, chain_bytes-other, chain_bytes-more}
use Rattle.hfs_remains.proofs.in_use.read_chain.Goals as goal

pub loop-most-init : goal.loop-most-init
loop-most-init g c =
    let blocks = g.B.Blocks.blocks c.args.nodes.now.blocks.now in
    let mdb = c.args.nodes.now.mdb.now in
    let file = c.args.nodes.now.file.now in
    let all : c.count-most.result ≡ length (nodes_of blocks mdb file) = c.count-most.ensures ∙ sym (length-nodes blocks mdb file) in
    (λ t. c.args.map.now.items ++ chain_bytes (nodes_of blocks mdb file) (has_number (c.new-met.ensures.empty t)) (all t) c.args.first)

pub returns-then-contains : goal.returns-then-contains
returns-then-contains g c =
    let nodes = nodes_of (g.B.Blocks.blocks c.args.nodes.now.blocks.now) c.args.nodes.now.mdb.now c.args.nodes.now.file.now in
    let met : has_number c.loop-most.met.keys c.loop-most.n ≡ true = sym (c.contains.ensures ∙ id_there c.loop-most.met.keys c.loop-most.n) ∙ c.if-contains.true in
    sym (append-nil c.loop-most.map.items)
    ∙ ap (λ (l : List ℕ). c.loop-most.map.items ++ l) (sym (chain_bytes-met nodes (has_number c.loop-most.met.keys) c.loop-most.most c.loop-most.n met))
    ∙ c.loop-most.invariant

pub returns-in_default : goal.returns-in_default
returns-in_default g c =
    let nodes = nodes_of (g.B.Blocks.blocks c.args.nodes.now.blocks.now) c.args.nodes.now.mdb.now c.args.nodes.now.file.now in
    let none = MatchOption-at_none _ _ c.in_default.is c.in_ok-next.ensures in
    none.1
    ∙ sym (append-nil c.loop-most.map.items)
    ∙ ap (λ (l : List ℕ). c.loop-most.map.items ++ l) (sym (chain_bytes-other nodes (has_number c.loop-most.met.keys) c.loop-most.most c.loop-most.n none.0))
    ∙ c.loop-most.invariant

pub loop-most-preserved : goal.loop-most-preserved
loop-most-preserved g c =
    let nodes = nodes_of (g.B.Blocks.blocks c.args.nodes.now.blocks.now) c.args.nodes.now.mdb.now c.args.nodes.now.file.now in
    let link = MatchOption-at_some _ _ c.in-Some.next c.in-Some.is c.in_ok-next.ensures in
    let other : has_number c.loop-most.met.keys c.loop-most.n ≡ false = sym (c.contains.ensures ∙ id_there c.loop-most.met.keys c.loop-most.n) ∙ c.if-contains.false in
    let less : suc (c.loop-most.most - 1) ≡ c.loop-most.most = omega arith in
    chain_bytes-more nodes (has_number c.loop-most.met.keys) (has_number c.insert.new.self.keys) (c.loop-most.most - 1) c.loop-most.n c.in-Some.next
    c.loop-most.map.items c.read_map_node.new.map.items other (id_put c.loop-most.met.keys c.insert.new.self.keys c.loop-most.n c.in_ok-insert.ensures.updates.0) link
    ∙ ap (λ (most : ℕ). c.loop-most.map.items ++ chain_bytes nodes (has_number c.loop-most.met.keys) most c.loop-most.n) less
    ∙ c.loop-most.invariant
