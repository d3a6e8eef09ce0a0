use Rattle.std.proofs.Common.{◌≡◌, sym, ap, ◌∙◌, subst, Some, None, Option}
use Rattle.std.specs.Option.{option_map}
use Rattle.hfs_fields.specs.Keys.{ext_cmp}
use Rattle.hfs_btree.specs.Lookups.{first_pair}
use Rattle.hfs_btree.specs.Pairs.{pairs_from}
use Rattle.hfs_space.specs.TreeKeys.{overflow_of}
use Rattle.hfs_record_edits.proofs.FilesKeys.{least, first-there, none-past, IsPastFile}
use Rattle.hfs_record_edits.proofs.dropping_extents.first_of_file.Goals as goal

pub returns-in-Some : goal.returns-in-Some
returns-in-Some g c =
    let rs = overflow_of (g.N.Nodes.nodes c.args.nodes.now) in
    let e : first_pair (pairs_from ext_cmp (least c.args.file) rs) ≡ Some (c.in-Some.pair.key, c.in-Some.pair.body.now) = sym (c.in-Some.ensures ∙ ap first_pair c.from-walk.ensures) in
    record { own = c.if-pair-file.true; there = first-there c.args.file (c.in-Some.pair.key, c.in-Some.pair.body.now) rs e }

pub returns-in_default : goal.returns-in_default
returns-in_default g c =
    let rs = overflow_of (g.N.Nodes.nodes c.args.nodes.now) in
    let e : Some (c.in-Some.pair.key, c.in-Some.pair.body.now) ≡ first_pair (pairs_from ext_cmp (least c.args.file) rs) = c.in-Some.ensures ∙ ap first_pair c.from-walk.ensures in
    none-past c.args.file rs c.requires.ordered.rises (subst (IsPastFile c.args.file) e c.if-pair-file.false)

none-mapped : {A B : Type 0} (f : A → B) (o : Option A) (x : Option B) → o ≡ None → option_map f o ≡ x → None ≡ x
none-mapped f o x e h = sym (ap (option_map f) e) ∙ h

pub returns-in_default-2 : goal.returns-in_default-2
returns-in_default-2 g c =
    let rs = overflow_of (g.N.Nodes.nodes c.args.nodes.now) in
    let e : None ≡ first_pair (pairs_from ext_cmp (least c.args.file) rs) = none-mapped _ _ _ c.in_default.is c.pair.ensures ∙ ap first_pair c.from-walk.ensures in
    none-past c.args.file rs c.requires.ordered.rises (subst (IsPastFile c.args.file) e tt)
