use Rattle.std.proofs.Common.{ℕ, List, [], ◌∙◌, ap, sym, get_or}
use Rattle.std.specs.Prelude.{Some}
use Rattle.std.specs.List.{flat_map}
use Rattle.hfs_btree.specs.Lookups.{first_pair}
use Rattle.hfs_btree.specs.Tree.{pair_of, pairs}
use Rattle.hfs_btree.proofs.FoundLemmas.{some-levels, found, found-entries, forward-is, next-here, next-behind, none-behind, next-within, next-entries, next-first}
use Rattle.hfs_btree.proofs.search.next_after.Goals as goal

pub after_in-requires : goal.after_in-requires
after_in-requires g c =
    found-entries g.K.Key g.met.K.Key.total (g.N.Nodes.nodes c.args.nodes.now) c.args.key.now c.requires (some-levels c.read_header-header.result (g.N.Nodes.nodes c.args.nodes.now) c.read_header-header.ensures c.if-header-eq0.false)
    c.descend.result c.descend.ensures.leaf c.descend.new.bytes c.descend.ensures.bytes

pub returns-in-Some : goal.returns-in-Some
returns-in-Some g c =
    ap Some c.in_ok-pair_in.ensures
    ∙ next-here g.K.Key g.met.K.Key.total (g.N.Nodes.nodes c.args.nodes.now) c.args.key.now c.requires (some-levels c.read_header-header.result (g.N.Nodes.nodes c.args.nodes.now) c.read_header-header.ensures c.if-header-eq0.false)
    c.descend.result c.descend.ensures.leaf c.descend.new.bytes c.descend.ensures.bytes (pair_of g.K.Key c.in-Some.entry.now) c.in-Some.ensures.first

pub returns-then-right-eq0 : goal.returns-then-right-eq0
returns-then-right-eq0 g c =
    let nodes = g.N.Nodes.nodes c.args.nodes.now in
    let some = some-levels c.read_header-header.result nodes c.read_header-header.ensures c.if-header-eq0.false in
    let at = found g.K.Key g.met.K.Key.total nodes c.args.key.now c.requires some c.descend.result c.descend.ensures.leaf c.descend.new.bytes c.descend.ensures.bytes in
    let forward = forward-is g.K.Key g.met.K.Key.total nodes c.args.key.now c.requires some c.descend.result c.descend.ensures.leaf c.descend.new.bytes c.descend.ensures.bytes in
    let none = none-behind g.K.Key nodes c.requires.structure at.before c.descend.result at.behind at.split (sym forward ∙ sym c.forward_in-right.ensures ∙ c.if-right-eq0.true) in
    sym (ap (λ (ns : List ℕ). first_pair (flat_map (pairs g.K.Key nodes) ns)) none)
    ∙ next-behind g.K.Key g.met.K.Key.total nodes c.args.key.now c.requires some c.descend.result c.descend.ensures.leaf c.descend.new.bytes c.descend.ensures.bytes c.in_default.ensures.first

pub read-requires : goal.read-requires
read-requires g c =
    let nodes = g.N.Nodes.nodes c.args.nodes.now in
    let some = some-levels c.read_header-header.result nodes c.read_header-header.ensures c.if-header-eq0.false in
    let at = found g.K.Key g.met.K.Key.total nodes c.args.key.now c.requires some c.descend.result c.descend.ensures.leaf c.descend.new.bytes c.descend.ensures.bytes in
    let forward = c.forward_in-right.ensures ∙ forward-is g.K.Key g.met.K.Key.total nodes c.args.key.now c.requires some c.descend.result c.descend.ensures.leaf c.descend.new.bytes c.descend.ensures.bytes in
    rw forward (next-within g.K.Key nodes c.requires.structure at.before c.descend.result at.behind at.split (λ z. c.if-right-eq0.false (forward ∙ z)))

pub first_in-requires : goal.first_in-requires
first_in-requires g c =
    let nodes = g.N.Nodes.nodes c.args.nodes.now in
    let some = some-levels c.read_header-header.result nodes c.read_header-header.ensures c.if-header-eq0.false in
    let at = found g.K.Key g.met.K.Key.total nodes c.args.key.now c.requires some c.descend.result c.descend.ensures.leaf c.descend.new.bytes c.descend.ensures.bytes in
    let forward = c.forward_in-right.ensures ∙ forward-is g.K.Key g.met.K.Key.total nodes c.args.key.now c.requires some c.descend.result c.descend.ensures.leaf c.descend.new.bytes c.descend.ensures.bytes in
    next-entries g.K.Key nodes c.requires.structure at.before c.descend.result at.behind at.split (λ z. c.if-right-eq0.false (forward ∙ z)) c.read.new.into
    (c.read.ensures ∙ ap (λ (n : ℕ). get_or nodes n []) forward)

pub returns-in_ok-pair_in-in-Some-first_in : goal.returns-in_ok-pair_in-in-Some-first_in
returns-in_ok-pair_in-in-Some-first_in g c =
    let nodes = g.N.Nodes.nodes c.args.nodes.now in
    let some = some-levels c.read_header-header.result nodes c.read_header-header.ensures c.if-header-eq0.false in
    let at = found g.K.Key g.met.K.Key.total nodes c.args.key.now c.requires some c.descend.result c.descend.ensures.leaf c.descend.new.bytes c.descend.ensures.bytes in
    let forward = c.forward_in-right.ensures ∙ forward-is g.K.Key g.met.K.Key.total nodes c.args.key.now c.requires some c.descend.result c.descend.ensures.leaf c.descend.new.bytes c.descend.ensures.bytes in
    ap Some c.in_ok-pair_in-in-Some-first_in.ensures
    ∙ c.in-Some-first_in.ensures.first
    ∙ sym (next-first g.K.Key nodes c.requires.structure at.before c.descend.result at.behind at.split (λ z. c.if-right-eq0.false (forward ∙ z)) c.read.new.into
    (c.read.ensures ∙ ap (λ (n : ℕ). get_or nodes n []) forward))
    ∙ next-behind g.K.Key g.met.K.Key.total nodes c.args.key.now c.requires some c.descend.result c.descend.ensures.leaf c.descend.new.bytes c.descend.ensures.bytes c.in_default.ensures.first

pub returns-in-None : goal.returns-in-None
returns-in-None g c =
    let nodes = g.N.Nodes.nodes c.args.nodes.now in
    let some = some-levels c.read_header-header.result nodes c.read_header-header.ensures c.if-header-eq0.false in
    let at = found g.K.Key g.met.K.Key.total nodes c.args.key.now c.requires some c.descend.result c.descend.ensures.leaf c.descend.new.bytes c.descend.ensures.bytes in
    let forward = c.forward_in-right.ensures ∙ forward-is g.K.Key g.met.K.Key.total nodes c.args.key.now c.requires some c.descend.result c.descend.ensures.leaf c.descend.new.bytes c.descend.ensures.bytes in
    c.in-None.ensures.first
    ∙ sym (next-first g.K.Key nodes c.requires.structure at.before c.descend.result at.behind at.split (λ z. c.if-right-eq0.false (forward ∙ z)) c.read.new.into
    (c.read.ensures ∙ ap (λ (n : ℕ). get_or nodes n []) forward))
    ∙ next-behind g.K.Key g.met.K.Key.total nodes c.args.key.now c.requires some c.descend.result c.descend.ensures.leaf c.descend.new.bytes c.descend.ensures.bytes c.in_default.ensures.first
