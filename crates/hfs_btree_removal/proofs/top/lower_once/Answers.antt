use Rattle.std.proofs.Common.{◌≡◌, ◌<◌, ◌≤◌, ◌-◌, ℕ, List, length, sym, subst, ap, ◌∙◌, arith}
use Rattle.std.specs.Prelude.{true}
use Rattle.hfs_fields.proofs.OutcomeLemmas.{on_ok}
use Rattle.hfs_btree.specs.declared.header.Header.{Header}
use Rattle.hfs_fields.specs.Each.{Each}
use Rattle.hfs_btree.specs.Header.{header_in, depth_of}
use Rattle.hfs_btree.proofs.DecodedLemmas.{decoded-within, records-read}
use Rattle.hfs_btree.proofs.DescentLemmas.{root-way, way-within, index-entries}
use Rattle.hfs_btree_removal.proofs.HeadPut.{still-within}
use Rattle.hfs_btree_removal.proofs.HeadPut.{once-sound, once-stray, once-keeps, once-gains, once-content, once-depth, once-free}
use Rattle.hfs_btree_removal.proofs.top.lower_once.Goals as goal

pub read-requires : goal.read-requires
read-requires g c =
    let nodes = g.S.Nodes.nodes c.args.nodes.now in
    let deep = c.requires.deep in
    rw c.requires.header (way-within g.K.Key nodes _ _ (root-way g.K.Key nodes c.requires.sound.structure (omega arith)))

pub child_at-child-requires-clause-within : goal.child_at-child-requires-clause-within
child_at-child-requires-clause-within g c =
    let nodes = g.S.Nodes.nodes c.args.nodes.now in
    let same = ap (λ (rs : List (List ℕ)). length rs) (records-read nodes (header_in nodes).root c.read.new.into (c.read.ensures ∙ ap (λ (h : Header). Rattle.std.proofs.Common.get_or nodes h.root Rattle.std.proofs.Common.[]) c.requires.header)) in
    let one = c.requires.one in
    omega arith

pub child_at-child-requires-clause-whole : goal.child_at-child-requires-clause-whole
child_at-child-requires-clause-whole g c =
    let nodes = g.S.Nodes.nodes c.args.nodes.now in
    let deep = c.requires.deep in
    let P : List (List ℕ) → Type 0 = λ es. Each (λ e. g.K.Key.is_index e ≡ true) es in
    subst P (sym (records-read nodes (header_in nodes).root c.read.new.into (c.read.ensures ∙ ap (λ (h : Header). Rattle.std.proofs.Common.get_or nodes h.root Rattle.std.proofs.Common.[]) c.requires.header)))
    (index-entries g.K.Key nodes (depth_of nodes - 1) (header_in nodes).root (omega arith) (root-way g.K.Key nodes c.requires.sound.structure (omega arith)))

pub put_header-requires-clause-within : goal.put_header-requires-clause-within
put_header-requires-clause-within g c = let h = c.requires.sound.structure.header in decoded-within (g.S.Nodes.nodes c.args.nodes.now) 0 h.value h.decodes

pub put_header-requires-clause-long : goal.put_header-requires-clause-long
put_header-requires-clause-long g c = let long = c.requires.sound.structure.header.long in omega arith

pub release-requires-clause-sound : goal.release-requires-clause-sound
release-requires-clause-sound g c =
    once-sound g.K.Key (g.S.Nodes.nodes c.args.nodes.now) (g.S.Nodes.nodes c.put_header.new.nodes) c.requires.sound c.requires.deep c.requires.one c.args.header.now c.requires.header
    c.read.new.into c.read.ensures c.child_at-child.result c.child_at-child.ensures c.in_ok-put_header.ensures.put

pub release-requires-clause-stray : goal.release-requires-clause-stray
release-requires-clause-stray g c =
    once-stray g.K.Key (g.S.Nodes.nodes c.args.nodes.now) (g.S.Nodes.nodes c.put_header.new.nodes) c.requires.sound c.requires.deep c.requires.one c.args.header.now c.requires.header
    c.read.new.into c.read.ensures c.child_at-child.result c.child_at-child.ensures c.in_ok-put_header.ensures.put

pub returns-clause-keeps : goal.returns-clause-keeps
returns-clause-keeps g c =
    on_ok c.release.result _ _
    (once-keeps g.K.Key (g.S.Nodes.nodes c.args.nodes.now) (g.S.Nodes.nodes c.put_header.new.nodes) c.requires.sound c.requires.deep c.requires.one c.args.header.now c.requires.header
    c.read.new.into c.read.ensures c.child_at-child.result c.child_at-child.ensures c.in_ok-put_header.ensures.put (g.S.Nodes.nodes c.release.new.nodes))
    c.release.ensures.released

pub returns-clause-gains : goal.returns-clause-gains
returns-clause-gains g c =
    on_ok c.release.result _ _
    (once-gains g.K.Key (g.S.Nodes.nodes c.args.nodes.now) (g.S.Nodes.nodes c.put_header.new.nodes) c.requires.sound c.requires.deep c.requires.one c.args.header.now c.requires.header
    c.read.new.into c.read.ensures c.child_at-child.result c.child_at-child.ensures c.in_ok-put_header.ensures.put (g.S.Nodes.nodes c.release.new.nodes))
    c.release.ensures.released

pub returns-clause-content : goal.returns-clause-content
returns-clause-content g c =
    on_ok c.release.result _ _
    (once-content g.K.Key (g.S.Nodes.nodes c.args.nodes.now) (g.S.Nodes.nodes c.put_header.new.nodes) c.requires.sound c.requires.deep c.requires.one c.args.header.now c.requires.header
    c.read.new.into c.read.ensures c.child_at-child.result c.child_at-child.ensures c.in_ok-put_header.ensures.put (g.S.Nodes.nodes c.release.new.nodes))
    c.release.ensures.released

pub returns-clause-depth : goal.returns-clause-depth
returns-clause-depth g c =
    on_ok c.release.result _ _
    (once-depth g.K.Key (g.S.Nodes.nodes c.args.nodes.now) (g.S.Nodes.nodes c.put_header.new.nodes) c.requires.sound c.requires.deep c.requires.one c.args.header.now c.requires.header
    c.read.new.into c.read.ensures c.child_at-child.result c.child_at-child.ensures c.in_ok-put_header.ensures.put (g.S.Nodes.nodes c.release.new.nodes))
    c.release.ensures.released

pub returns-clause-free : goal.returns-clause-free
returns-clause-free g c =
    on_ok c.release.result _ _
    (once-free g.K.Key (g.S.Nodes.nodes c.args.nodes.now) (g.S.Nodes.nodes c.put_header.new.nodes) c.requires.sound c.requires.deep c.requires.one c.args.header.now c.requires.header
    c.read.new.into c.read.ensures c.child_at-child.result c.child_at-child.ensures c.in_ok-put_header.ensures.put (g.S.Nodes.nodes c.release.new.nodes))
    c.release.ensures.released

pub release-requires-clause-within : goal.release-requires-clause-within
release-requires-clause-within g c =
    let nodes = g.S.Nodes.nodes c.args.nodes.now in
    let deep = c.requires.deep in
    let within : c.args.header.now.root < length nodes = rw c.requires.header (way-within g.K.Key nodes _ _ (root-way g.K.Key nodes c.requires.sound.structure (omega arith))) in
    still-within _ nodes (g.S.Nodes.nodes c.put_header.new.nodes) c.args.header.now.root c.in_ok-put_header.ensures.put within
