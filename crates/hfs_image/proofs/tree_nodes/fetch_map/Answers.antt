-- The chain that was followed carries the whole map, where it is one.
use Rattle.std.proofs.Common.{◌*◌, ◌<◌, ◌≤◌, length, sym, ◌∙◌, arith}
use Rattle.hfs_image.proofs.TreeNodes.{head-stays, has-map-chain, chain-wrong, map-short, map-is}
use Rattle.hfs_image.proofs.tree_nodes.fetch_map.Goals as goal

pub returns-then-not-branch-clause-has : goal.returns-then-not-branch-clause-has
returns-then-not-branch-clause-has g c =
    let fin = c.fetch_chain.new.read in
    let is = head-stays c.args.read.now fin (c.in_ok-fetch_chain.ensures.reads 4294967296 c.requires.small).grown c.args.runs.now c.args.head c.requires.has c.requires.head in
    has-map-chain fin c.args.runs.now c.args.head is c.in-Ok.met.items (c.in-Ok.ensures.items_if_clones_equal (λ y h. h)) c.in_ok-fetch_chain.ensures.has

pub returns-then-not-branch-clause-found : goal.returns-then-not-branch-clause-found
returns-then-not-branch-clause-found g c =
    let fin = c.fetch_chain.new.read in
    let is = head-stays c.args.read.now fin (c.in_ok-fetch_chain.ensures.reads 4294967296 c.requires.small).grown c.args.runs.now c.args.head c.requires.has c.requires.head in
    chain-wrong fin c.args.runs.now c.args.head is c.in-Ok.met.items (c.in-Ok.ensures.items_if_clones_equal (λ y h. h))
    (sym c.if-not-branch.true ∙ c.in_ok-fetch_chain.ensures.whole.is)

pub returns-then-div_ceil-len-clause-has : goal.returns-then-div_ceil-len-clause-has
returns-then-div_ceil-len-clause-has g c =
    let fin = c.fetch_chain.new.read in
    let is = head-stays c.args.read.now fin (c.in_ok-fetch_chain.ensures.reads 4294967296 c.requires.small).grown c.args.runs.now c.args.head c.requires.has c.requires.head in
    has-map-chain fin c.args.runs.now c.args.head is c.in-Ok.met.items (c.in-Ok.ensures.items_if_clones_equal (λ y h. h)) c.in_ok-fetch_chain.ensures.has

pub returns-then-div_ceil-len-clause-found : goal.returns-then-div_ceil-len-clause-found
returns-then-div_ceil-len-clause-found g c =
    let fin = c.fetch_chain.new.read in
    let is = head-stays c.args.read.now fin (c.in_ok-fetch_chain.ensures.reads 4294967296 c.requires.small).grown c.args.runs.now c.args.head c.requires.has c.requires.head in
    let short : 8 * length c.fetch_chain.new.map.items < c.args.head.nodes =
    omega (arith, c.fetch_chain.new.map.ok.0, c.len.ensures, c.div_ceil.ensures, c.if-div_ceil-len.true) in
    map-short fin c.args.runs.now c.args.head is c.in-Ok.met.items (c.in-Ok.ensures.items_if_clones_equal (λ y h. h)) c.fetch_chain.new.map.items
    (c.in_ok-fetch_chain.ensures.whole.parts c.if-not-branch.false) short

pub returns-clause-has : goal.returns-clause-has
returns-clause-has g c =
    let fin = c.fetch_chain.new.read in
    let is = head-stays c.args.read.now fin (c.in_ok-fetch_chain.ensures.reads 4294967296 c.requires.small).grown c.args.runs.now c.args.head c.requires.has c.requires.head in
    has-map-chain fin c.args.runs.now c.args.head is c.in-Ok.met.items (c.in-Ok.ensures.items_if_clones_equal (λ y h. h)) c.in_ok-fetch_chain.ensures.has

pub returns-clause-found : goal.returns-clause-found
returns-clause-found g c =
    let fin = c.fetch_chain.new.read in
    let is = head-stays c.args.read.now fin (c.in_ok-fetch_chain.ensures.reads 4294967296 c.requires.small).grown c.args.runs.now c.args.head c.requires.has c.requires.head in
    let long : c.args.head.nodes ≤ 8 * length c.fetch_chain.new.map.items =
    omega (arith, c.fetch_chain.new.map.ok.0, c.len.ensures, c.div_ceil.ensures, c.if-div_ceil-len.false) in
    record {
      bytes = map-is fin c.args.runs.now c.args.head is c.in-Ok.met.items (c.in-Ok.ensures.items_if_clones_equal (λ y h. h)) c.fetch_chain.new.map.items
          (c.in_ok-fetch_chain.ensures.whole.parts c.if-not-branch.false);
      long = long;
    }
