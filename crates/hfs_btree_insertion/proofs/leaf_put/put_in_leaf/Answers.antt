use Rattle.std.proofs.Common.{◌≤◌, ℕ, List, sym, ap, arith, length}
use Rattle.hfs_btree.specs.Tree.{records_in}
use Rattle.hfs_btree.proofs.DecodedLemmas.{records-read}
use Rattle.hfs_btree.proofs.DescentLemmas.{leaf-node}
use Rattle.hfs_btree.proofs.FoundLemmas.{found, found-entries}
use Rattle.hfs_btree_insertion.proofs.PutWhole.{put-whole, mid-long, mid-records, from-read}
use Rattle.hfs_btree_edits.proofs.DecodesLemmas.{decodes-as}
use Rattle.hfs_btree_edits.proofs.StoreLemmas.{on-ok}
use Rattle.hfs_btree_insertion.proofs.leaf_put.put_in_leaf.Goals as goal

pub place_in-place-requires : goal.place_in-place-requires
place_in-place-requires g c =
    let nodes = g.S.Nodes.nodes c.args.nodes.now in
    found-entries g.K.Key g.met.K.Key.total nodes c.args.key.now c.requires.sound c.requires.some c.args.n c.requires.found c.args.bytes.now c.requires.read

pub put_in_read-requires-clause-node : goal.put_in_read-requires-clause-node
put_in_read-requires-clause-node g c =
    let nodes = g.S.Nodes.nodes c.args.nodes.now in
    let at = found g.K.Key g.met.K.Key.total nodes c.args.key.now c.requires.sound c.requires.some c.args.n c.requires.found c.args.bytes.now c.requires.read in
    let leaf = leaf-node g.K.Key nodes c.requires.sound.structure at.before c.args.n at.behind at.split in
    decodes-as nodes c.args.n leaf.1.value leaf.1.decodes

pub put_in_read-requires-clause-place : goal.put_in_read-requires-clause-place
put_in_read-requires-clause-place g c =
    let nodes = g.S.Nodes.nodes c.args.nodes.now in
    let same = ap (λ (es : List (List ℕ)). length es) (records-read nodes c.args.n c.args.bytes.now c.requires.read) in
    let within = c.place_in-place.ensures.within in
    omega arith

pub count_record-requires-clause-long : goal.count_record-requires-clause-long
count_record-requires-clause-long g c =
    let nodes = g.S.Nodes.nodes c.args.nodes.now in
    let at = found g.K.Key g.met.K.Key.total nodes c.args.key.now c.requires.sound c.requires.some c.args.n c.requires.found c.args.bytes.now c.requires.read in
    let same = ap (λ (es : List (List ℕ)). length es) (records-read nodes c.args.n c.args.bytes.now c.requires.read) in
    let within = c.place_in-place.ensures.within in
    let from = from-read g.K.Key nodes c.args.key.now c.args.n c.place_in-place.result c.args.bytes.now c.requires.read c.place_in-place.ensures.from in
    (mid-long g.K.Key g.met.K.Key.total c.args.key.now nodes _ nodes c.args.n c.place_in-place.result c.args.entry.items c.requires.sound c.requires.some at (sym c.requires.found) c.requires.low
    c.requires.leaf c.requires.keyed c.requires.absent (omega arith) from c.in_ok-put_in_read.ensures.put).1

pub count_record-requires-clause-few : goal.count_record-requires-clause-few
count_record-requires-clause-few g c =
    let nodes = g.S.Nodes.nodes c.args.nodes.now in
    let at = found g.K.Key g.met.K.Key.total nodes c.args.key.now c.requires.sound c.requires.some c.args.n c.requires.found c.args.bytes.now c.requires.read in
    let same = ap (λ (es : List (List ℕ)). length es) (records-read nodes c.args.n c.args.bytes.now c.requires.read) in
    let within = c.place_in-place.ensures.within in
    let few = c.requires.few in
    let from = from-read g.K.Key nodes c.args.key.now c.args.n c.place_in-place.result c.args.bytes.now c.requires.read c.place_in-place.ensures.from in
    let is = mid-records g.K.Key g.met.K.Key.total c.args.key.now nodes _ nodes c.args.n c.place_in-place.result c.args.entry.items c.requires.sound c.requires.some at (sym c.requires.found) c.requires.low
    c.requires.leaf c.requires.keyed c.requires.absent (omega arith) from c.in_ok-put_in_read.ensures.put in
    omega arith

pub returns-clause-put : goal.returns-clause-put
returns-clause-put g c =
    let nodes = g.S.Nodes.nodes c.args.nodes.now in
    let at = found g.K.Key g.met.K.Key.total nodes c.args.key.now c.requires.sound c.requires.some c.args.n c.requires.found c.args.bytes.now c.requires.read in
    let same = ap (λ (es : List (List ℕ)). length es) (records-read nodes c.args.n c.args.bytes.now c.requires.read) in
    let within : c.place_in-place.result ≤ length (records_in nodes c.args.n) = (let short = c.place_in-place.ensures.within in omega arith) in
    let from = from-read g.K.Key nodes c.args.key.now c.args.n c.place_in-place.result c.args.bytes.now c.requires.read c.place_in-place.ensures.from in
    on-ok _ _ c.count_record.result
    (λ h. put-whole g.K.Key g.met.K.Key.total c.args.key.now nodes _ _ c.args.n c.place_in-place.result c.args.entry.items c.requires.sound c.requires.some at (sym c.requires.found) c.requires.low
    c.requires.leaf c.requires.keyed c.requires.absent within from c.in_ok-put_in_read.ensures.put h)
    c.count_record.ensures.counted
