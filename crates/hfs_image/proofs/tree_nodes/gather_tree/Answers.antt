-- Each part of a tree was found by those before it, which tell the same whatever else is read.
use Rattle.std.proofs.Common.{◌≡◌, ℕ, ◌*◌, ◌≤◌, Option, Vec, Global, false, length, List, sym, subst, ◌∙◌}
use Rattle.hfs_btree.specs.Tree.{node_in}
use Rattle.hfs_btree_checks.specs.Shape.{has_header, has_map}
use Rattle.hfs_source.proofs.SparseLemmas.{has-grown}
use Rattle.hfs_image.specs.TreeReads.{nodes_of, block_for, IsHeadOf, FindsHead, IsMapOf, FindsMap}
use Rattle.hfs_image.specs.declared.tree_header.TreeHead.{TreeHead}
use Rattle.hfs_image.proofs.Gathered.{reads-runs-on}
use Rattle.hfs_image.proofs.TreeNodes.{on-ok, count-stays, needs-head, needs-chain, needs-marked}
use Rattle.hfs_source.proofs.Seen.{sees_on}
use Rattle.hfs_image.proofs.tree_nodes.gather_tree.Goals as goal

pub returns-in_default-clause-has : goal.returns-in_default-clause-has
returns-in_default-clause-has g c =
    let read = c.fetch_head.new.read in
    let wrong : has_header g.K.Key c.args.size (nodes_of read c.args.runs.now) ≡ false =
    subst (λ (o : Option TreeHead). FindsHead g.K.Key c.args.size (node_in (nodes_of read c.args.runs.now) 0) o) c.in_default.is c.in_ok-head.ensures.found in
    needs-head g.K.Key c.args.size c.args.runs.now read c.in_ok-head.ensures.has wrong

pub returns-in_err-map-clause-reads : goal.returns-in_err-map-clause-reads
returns-in_err-map-clause-reads g c =
    reads-runs-on (g.S.BlockSource.image c.args.source.now) (g.S.BlockSource.image c.fetch_head.new.source) c.args.runs.now c.args.read.now c.fetch_head.new.read
    c.fetch_map.new.read c.in_ok-head.ensures.image c.in_ok-head.ensures.reads c.in_err-map.ensures.reads

pub returns-in_default-2-clause-has : goal.returns-in_default-2-clause-has
returns-in_default-2-clause-has g c =
    let old = c.fetch_head.new.read in
    let read = c.fetch_map.new.read in
    let grown = (c.in_ok-map.ensures.reads 4294967296 c.requires.small).grown in
    let wrong : has_map (nodes_of read c.args.runs.now) ≡ false =
    subst (λ (o : Option (Vec ℕ Global)). FindsMap (nodes_of read c.args.runs.now) c.in-Some.head.nodes o) c.in_default-2.is c.in_ok-map.ensures.found in
    needs-chain g.K.Key c.args.size c.args.runs.now read (has-grown old read grown (block_for c.args.runs.now 0) c.in_ok-head.ensures.has) c.in_ok-map.ensures.has wrong

pub returns-in_default-2-clause-reads : goal.returns-in_default-2-clause-reads
returns-in_default-2-clause-reads g c =
    reads-runs-on (g.S.BlockSource.image c.args.source.now) (g.S.BlockSource.image c.fetch_head.new.source) c.args.runs.now c.args.read.now c.fetch_head.new.read
    c.fetch_map.new.read c.in_ok-head.ensures.image c.in_ok-head.ensures.reads c.in_ok-map.ensures.reads

pub returns-clause-has : goal.returns-clause-has
returns-clause-has g c =
    let runs = c.args.runs.now in
    let first = c.fetch_head.new.read in
    let read = c.fetch_map.new.read in
    let grown = (c.in_ok-map.ensures.reads 4294967296 c.requires.small).grown in
    let later = (c.fetch_marked.ensures.reads 4294967296 c.requires.small).grown in
    let count = c.in-Some.head.nodes in
    let head : (512 * c.in-Some.head.nodes ≤ c.args.size) × IsHeadOf (node_in (nodes_of first runs) 0) c.in-Some.head =
    subst (λ (o : Option TreeHead). FindsHead g.K.Key c.args.size (node_in (nodes_of first runs) 0) o) c.in-Some.is c.in_ok-head.ensures.found in
    let is : IsMapOf (nodes_of read runs) count c.in-Some-2.map.items =
    subst (λ (o : Option (Vec ℕ Global)). FindsMap (nodes_of read runs) count o) c.in-Some-2.is c.in_ok-map.ensures.found in
    on-ok c.fetch_marked.result
    (λ marked.
    needs-marked g.K.Key c.args.size runs read c.fetch_marked.new.read later (has-grown first read grown (block_for runs 0) c.in_ok-head.ensures.has)
    c.in_ok-map.ensures.has c.deref.result.now count (record { bytes = c.deref.ensures.value ∙ is.bytes; long = subst (λ (bytes : List ℕ). count ≤ 8 * length bytes) (sym c.deref.ensures.value) is.long })
    (count-stays first read grown runs count c.in_ok-head.ensures.has head.1.nodes) marked)
    c.fetch_marked.ensures.has

pub returns-clause-reads : goal.returns-clause-reads
returns-clause-reads g c =
    reads-runs-on (g.S.BlockSource.image c.args.source.now) (g.S.BlockSource.image c.fetch_map.new.source) c.args.runs.now c.args.read.now c.fetch_map.new.read
    c.fetch_marked.new.read (c.in_ok-map.ensures.image ∙ c.in_ok-head.ensures.image)
    (reads-runs-on (g.S.BlockSource.image c.args.source.now) (g.S.BlockSource.image c.fetch_head.new.source) c.args.runs.now c.args.read.now c.fetch_head.new.read
    c.fetch_map.new.read c.in_ok-head.ensures.image c.in_ok-head.ensures.reads c.in_ok-map.ensures.reads) c.fetch_marked.ensures.reads

pub returns-in_err-map-clause-sees : goal.returns-in_err-map-clause-sees
returns-in_err-map-clause-sees g c = sees_on c.in_ok-head.ensures.sees c.in_err-map.ensures.sees

pub returns-in_default-2-clause-sees : goal.returns-in_default-2-clause-sees
returns-in_default-2-clause-sees g c = sees_on c.in_ok-head.ensures.sees c.in_ok-map.ensures.sees

pub returns-clause-sees : goal.returns-clause-sees
returns-clause-sees g c = sees_on (sees_on c.in_ok-head.ensures.sees c.in_ok-map.ensures.sees) c.fetch_marked.ensures.sees
