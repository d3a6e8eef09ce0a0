-- The chain is followed as far as it is one; what was read of it tells the same whatever else is read.
use Rattle.std.proofs.Common.{◌≡◌, ℕ, suc, ◌-◌, ◌<◌, ◌≤◌, ◌++◌, false, Option, Result, length, refl, sym, ap, subst, ◌∙◌, arith, true≢false}
use Rattle.std.specs.Prelude.{◌&&◌, not}
use Rattle.std.proofs.lemmas.List.{get_or_default}
use Rattle.hfs_btree.specs.declared.fault.NodeFault.{NodeFault}
use Rattle.hfs_btree.specs.declared.node.Node.{Node}
use Rattle.hfs_btree.specs.Tree.{forward_of, node_in}
use Rattle.hfs_btree_checks.specs.Shape.{is_within, is_map_result}
use Rattle.hfs_btree_checks.specs.ShapeSteps.{is_met}
use Rattle.hfs_source.proofs.SparseLemmas.{grown-itself, grown-on, has-grown}
use Rattle.hfs_image.specs.TreeReads.{nodes_of, block_for, record_at, IsMapLink, FindsMapNode}
use Rattle.hfs_image.proofs.Gathered.{reads-runs-on}
use Rattle.hfs_image.proofs.TreeNodes.{node-stays, count-stays, goes-on, done-has, done-is, done-parts, outside-has, outside-is, wrong-has, wrong-is, out-past, out-again, no-chain-from}
use Rattle.hfs_image.proofs.tree_nodes.fetch_chain.Goals as goal
use Rattle.hfs_source.proofs.Seen.{sees_on}
use Rattle.hfs_image.proofs.tree_nodes.fetch_chain.Goals.{then-n-tree-via-then-n-tree, then-n-tree-via-else-n-tree+then-index}

pub returns-then-n-eq0-clause-has : goal.returns-then-n-eq0-clause-has
returns-then-n-eq0-clause-has g c =
    let fin = c.loop-most.read in
    done-has fin c.args.tree.now.runs.now c.args.tree.now.nodes c.args.first c.args.met.now.items c.args.map.now.items c.loop-most.most c.loop-most.n c.loop-most.met.items
    c.loop-most.map.items (c.loop-most.invariant.goes fin (grown-itself fin)) (no-chain-from fin c.args.tree.now.runs.now c.loop-most.most c.loop-most.n c.if-n-eq0.true)

pub returns-then-n-eq0-clause-whole : goal.returns-then-n-eq0-clause-whole
returns-then-n-eq0-clause-whole g c =
    let fin = c.loop-most.read in
    let go = c.loop-most.invariant.goes fin (grown-itself fin) in
    let nil = no-chain-from fin c.args.tree.now.runs.now c.loop-most.most c.loop-most.n c.if-n-eq0.true in
    record {
      is = done-is fin c.args.tree.now.runs.now c.args.tree.now.nodes c.args.first c.args.met.now.items c.args.map.now.items c.loop-most.most c.loop-most.n c.loop-most.met.items
          c.loop-most.map.items go nil;
      parts = λ e. done-parts fin c.args.tree.now.runs.now c.args.tree.now.nodes c.args.first c.args.met.now.items c.args.map.now.items c.loop-most.most c.loop-most.n c.loop-most.met.items
          c.loop-most.map.items go nil;
    }

pub returns-then-n-tree-clause-has : goal.returns-then-n-tree-clause-has
returns-then-n-tree-clause-has g c =
    let fin = c.loop-most.read in
    let n = c.loop-most.n in
    let met = c.loop-most.met.items in
    let steps : c.loop-most.most ≡ suc (c.loop-most.most - 1) = omega (arith, c.loop-most-test.true) in
    let counted = count-stays c.args.read.now fin (c.loop-most.invariant.reads 4294967296 c.requires.small).grown c.args.tree.now.runs.now c.args.tree.now.nodes c.requires.head c.requires.counted in
    let out : (is_within (nodes_of fin c.args.tree.now.runs.now) n && not (is_met met n)) ≡ false =
    elim c.then-n-tree.branch [
      | then-n-tree-via-then-n-tree w ↦
          let past : c.args.tree.now.nodes ≤ n = omega (arith, w.if-n-tree.true) in
          out-past fin c.args.tree.now.runs.now c.args.tree.now.nodes n (is_met met n) counted past
      | then-n-tree-via-else-n-tree+then-index w ↦
          let within : n < length met = omega (arith, w.if-n-tree.false, c.loop-most.met.ok.0, c.loop-most.invariant.len) in
          out-again fin c.args.tree.now.runs.now n (is_met met n) (get_or_default met n false w.index.result.now within ∙ sym w.index.ensures ∙ w.if-index.true)
    ] in
    outside-has fin c.args.tree.now.runs.now c.args.tree.now.nodes c.args.first c.args.met.now.items c.args.map.now.items c.loop-most.most n met c.loop-most.map.items
    (c.loop-most.invariant.goes fin (grown-itself fin)) (c.loop-most.most - 1) steps c.if-n-eq0.false out

pub returns-then-n-tree-clause-whole : goal.returns-then-n-tree-clause-whole
returns-then-n-tree-clause-whole g c =
    let fin = c.loop-most.read in
    let n = c.loop-most.n in
    let met = c.loop-most.met.items in
    let steps : c.loop-most.most ≡ suc (c.loop-most.most - 1) = omega (arith, c.loop-most-test.true) in
    let counted = count-stays c.args.read.now fin (c.loop-most.invariant.reads 4294967296 c.requires.small).grown c.args.tree.now.runs.now c.args.tree.now.nodes c.requires.head c.requires.counted in
    let out : (is_within (nodes_of fin c.args.tree.now.runs.now) n && not (is_met met n)) ≡ false =
    elim c.then-n-tree.branch [
      | then-n-tree-via-then-n-tree w ↦
          let past : c.args.tree.now.nodes ≤ n = omega (arith, w.if-n-tree.true) in
          out-past fin c.args.tree.now.runs.now c.args.tree.now.nodes n (is_met met n) counted past
      | then-n-tree-via-else-n-tree+then-index w ↦
          let within : n < length met = omega (arith, w.if-n-tree.false, c.loop-most.met.ok.0, c.loop-most.invariant.len) in
          out-again fin c.args.tree.now.runs.now n (is_met met n) (get_or_default met n false w.index.result.now within ∙ sym w.index.ensures ∙ w.if-index.true)
    ] in
    record {
      is = outside-is fin c.args.tree.now.runs.now c.args.tree.now.nodes c.args.first c.args.met.now.items c.args.map.now.items c.loop-most.most n met c.loop-most.map.items
          (c.loop-most.invariant.goes fin (grown-itself fin)) (c.loop-most.most - 1) steps c.if-n-eq0.false out;
      parts = λ e. absurd (true≢false (sym e));
    }

pub returns-in_err-next-clause-reads : goal.returns-in_err-next-clause-reads
returns-in_err-next-clause-reads g c =
    reads-runs-on (g.S.BlockSource.image c.args.source.now) (g.S.BlockSource.image c.loop-most.source) c.args.tree.now.runs.now c.args.read.now c.loop-most.read
    c.fetch_map_node.new.read c.loop-most.invariant.image c.loop-most.invariant.reads c.in_err-next.ensures.reads

pub returns-in_default-clause-has : goal.returns-in_default-clause-has
returns-in_default-clause-has g c =
    let fin = c.fetch_map_node.new.read in
    let grown = (c.in_ok-next.ensures.reads 4294967296 c.requires.small).grown in
    let n = c.loop-most.n in
    let steps : c.loop-most.most ≡ suc (c.loop-most.most - 1) = omega (arith, c.loop-most-test.true) in
    let wrong : is_map_result (node_in (nodes_of fin c.args.tree.now.runs.now) n) ≡ false =
    subst (λ (o : Option ℕ). FindsMapNode (nodes_of fin c.args.tree.now.runs.now) n c.loop-most.map.items c.fetch_map_node.new.map.items o) c.in_default.is c.in_ok-next.ensures.found in
    wrong-has fin c.args.tree.now.runs.now c.args.tree.now.nodes c.args.first c.args.met.now.items c.args.map.now.items c.loop-most.most n c.loop-most.met.items c.loop-most.map.items
    (c.loop-most.invariant.goes fin grown) (c.loop-most.most - 1) steps c.if-n-eq0.false c.in_ok-next.ensures.has wrong

pub returns-in_default-clause-whole : goal.returns-in_default-clause-whole
returns-in_default-clause-whole g c =
    let fin = c.fetch_map_node.new.read in
    let grown = (c.in_ok-next.ensures.reads 4294967296 c.requires.small).grown in
    let n = c.loop-most.n in
    let steps : c.loop-most.most ≡ suc (c.loop-most.most - 1) = omega (arith, c.loop-most-test.true) in
    let wrong : is_map_result (node_in (nodes_of fin c.args.tree.now.runs.now) n) ≡ false =
    subst (λ (o : Option ℕ). FindsMapNode (nodes_of fin c.args.tree.now.runs.now) n c.loop-most.map.items c.fetch_map_node.new.map.items o) c.in_default.is c.in_ok-next.ensures.found in
    record {
      is = wrong-is fin c.args.tree.now.runs.now c.args.tree.now.nodes c.args.first c.args.met.now.items c.args.map.now.items c.loop-most.most n c.loop-most.met.items c.loop-most.map.items
          (c.loop-most.invariant.goes fin grown) (c.loop-most.most - 1) steps c.if-n-eq0.false c.in_ok-next.ensures.has wrong;
      parts = λ e. absurd (true≢false (sym e));
    }

pub returns-in_default-clause-reads : goal.returns-in_default-clause-reads
returns-in_default-clause-reads g c =
    reads-runs-on (g.S.BlockSource.image c.args.source.now) (g.S.BlockSource.image c.loop-most.source) c.args.tree.now.runs.now c.args.read.now c.loop-most.read
    c.fetch_map_node.new.read c.loop-most.invariant.image c.loop-most.invariant.reads c.in_ok-next.ensures.reads

pub loop-most-preserved : goal.loop-most-preserved
loop-most-preserved g c =
    let here = c.fetch_map_node.new.read in
    let runs = c.args.tree.now.runs.now in
    let n = c.loop-most.n in
    let met = c.loop-most.met.items in
    let grown = (c.in_ok-next.ensures.reads 4294967296 c.requires.small).grown in
    let before = (c.loop-most.invariant.reads 4294967296 c.requires.small).grown in
    let steps : c.loop-most.most ≡ suc (c.loop-most.most - 1) = omega (arith, c.loop-most-test.true) in
    let low : n < c.args.tree.now.nodes = omega (arith, c.if-n-tree.false) in
    let long : length met ≡ c.args.tree.now.nodes = omega (arith, c.loop-most.met.ok.0, c.loop-most.invariant.len) in
    let within : n < length met = omega (arith, low, long) in
    let link : IsMapLink (nodes_of here runs) n c.loop-most.map.items c.fetch_map_node.new.map.items c.in-Some.next =
    subst (λ (o : Option ℕ). FindsMapNode (nodes_of here runs) n c.loop-most.map.items c.fetch_map_node.new.map.items o) c.in-Some.is c.in_ok-next.ensures.found in
    record {
      goes = λ fin more.
          let stays = node-stays here fin more runs n c.in_ok-next.ensures.has in
          let all = grown-on c.loop-most.read here fin grown more in
          goes-on fin runs c.args.tree.now.nodes c.args.first c.args.met.now.items c.args.map.now.items c.loop-most.most n met c.loop-most.map.items
          (c.loop-most.invariant.goes fin all) (c.loop-most.most - 1) c.in-Some.next _ c.fetch_map_node.new.map.items steps c.if-n-eq0.false low
          (count-stays c.args.read.now fin (grown-on c.args.read.now c.loop-most.read fin before all) runs c.args.tree.now.nodes c.requires.head c.requires.counted)
          (get_or_default met n false c.index.result.now within ∙ sym c.index.ensures ∙ c.if-index.false) long
          (has-grown here fin more (block_for runs n) c.in_ok-next.ensures.has)
          (ap is_map_result stays ∙ link.right) (link.forward ∙ sym (ap forward_of stays))
          (link.part ∙ ap (λ (r : Result Node NodeFault). c.loop-most.map.items ++ record_at r 0) (sym stays)) refl;
      reads = reads-runs-on (g.S.BlockSource.image c.args.source.now) (g.S.BlockSource.image c.loop-most.source) runs c.args.read.now c.loop-most.read here
          c.loop-most.invariant.image c.loop-most.invariant.reads c.in_ok-next.ensures.reads;
      image = c.in_ok-next.ensures.image ∙ c.loop-most.invariant.image;
      sees = sees_on c.loop-most.invariant.sees c.in_ok-next.ensures.sees;
      len = c.loop-most.invariant.len;
    }

pub returns-in_err-next-clause-sees : goal.returns-in_err-next-clause-sees
returns-in_err-next-clause-sees g c = sees_on c.loop-most.invariant.sees c.in_err-next.ensures.sees

pub returns-in_default-clause-sees : goal.returns-in_default-clause-sees
returns-in_default-clause-sees g c = sees_on c.loop-most.invariant.sees c.in_ok-next.ensures.sees
