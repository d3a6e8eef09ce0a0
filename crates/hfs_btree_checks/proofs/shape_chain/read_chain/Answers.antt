use Rattle.std.proofs.Common.{ℕ, ◌≡◌, ◌-◌, ◌<◌, ◌∷◌, ◌++◌, List, Bool, true, length, sym, ap, ◌∙◌, arith, append_assoc}
use Rattle.std.specs.Prelude.{◌||◌, ◌==◌}
use Rattle.std.specs.List.{flat_map, list_any}
use Rattle.std.proofs.Math.ListN.{length-set}
use Rattle.hfs_btree.specs.Header.{record_in, chain_from}
use Rattle.hfs_btree_checks.specs.Shape.{is_map_node, first_fault}
use Rattle.hfs_btree_checks.specs.ShapeSteps.{is_met}
use Rattle.hfs_btree.proofs.ChainLemmas.{chain-step}
use Rattle.hfs_btree_checks.proofs.ShapeChain.{chain-goes-on, chain-met, map-within, pushed}
use Rattle.hfs_btree_checks.proofs.shape_chain.read_chain.Goals as goal

pub loop-most-preserved : goal.loop-most-preserved
loop-most-preserved g c =
    let nodes = g.N.Nodes.nodes c.args.nodes.now in
    let n = c.loop-most.n in
    let met = c.loop-most.met.items in
    let most = c.loop-most.most in
    let rest = chain_from nodes (most - 1) c.in_ok-next.next in
    let part : ℕ → List ℕ = λ m. record_in nodes m 0 in
    let here : chain_from nodes most n ≡ n ∷ rest =
    chain-step nodes most (most - 1) n (omega arith) c.if-n-eq0.false ∙ ap (λ (m : ℕ). n ∷ chain_from nodes (most - 1) m) (sym c.in_ok-next.ensures.next) in
    let len = c.loop-most.invariant.len in
    let ok = c.loop-most.met.ok in
    let counted = c.requires.counted in
    let in_tree = map-within nodes n _ c.in_ok-next.ensures.right in
    let within : n < length met = omega arith in
    let marked = c.in_ok-next.ensures.marked in
    record {
      same =
          c.loop-most.invariant.same
          ∙ ap (λ (ns : List ℕ). first_fault (is_map_node nodes) (λ m. m) (is_met met) ns) here
          ∙ chain-goes-on nodes met n rest c.in_ok-next.ensures.right within
          ∙ ap (λ (ms : List Bool). first_fault (is_map_node nodes) (λ m. m) (is_met ms) rest) (sym marked);
      parts =
          c.loop-most.invariant.parts
          ∙ ap (λ (ns : List ℕ). c.loop-most.map.items ++ flat_map part ns) here
          ∙ sym (append_assoc c.loop-most.map.items (part n) (flat_map part rest))
          ∙ ap (λ (bytes : List ℕ). bytes ++ flat_map part rest) (sym c.in_ok-next.ensures.part);
      numbers =
          c.loop-most.invariant.numbers
          ∙ ap (λ (ns : List ℕ). c.loop-most.own.items ++ ns) here
          ∙ pushed c.loop-most.own.items rest n
          ∙ ap (λ (ns : List ℕ). ns ++ rest) (sym c.in_ok-push.ensures.items);
      marked = λ k.
          c.loop-most.invariant.marked k
          ∙ ap (λ (ns : List ℕ). list_any (λ m. k == m) ns || is_met met k) here
          ∙ chain-met nodes met n rest within k
          ∙ ap (λ (ms : List Bool). list_any (λ m. k == m) rest || is_met ms k) (sym marked);
      len = omega (arith, c.visit_map_node.new.met.ok.0, ap (λ (ms : List Bool). length ms) marked, length-set met n true);
    }
