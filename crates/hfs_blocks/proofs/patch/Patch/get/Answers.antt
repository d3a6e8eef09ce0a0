-- The block stands at the place of its number.
use Rattle.std.proofs.Common.{◌≡◌, ◌-◌, ◌<◌, suc, [], Some, get_or, sym, ap, ◌∙◌, subst, arith, rules}
use Rattle.std.proofs.lemmas.List.{get_or_default}
use Rattle.hfs_blocks.specs.Layers.{Numbered, changes, AreWhole}
use Rattle.hfs_blocks.specs.Places.{place_in}
use Rattle.hfs_blocks.specs.Tables.{HasPlaces}
use Rattle.hfs_blocks.proofs.TableLemmas.{look-at, whole-table, place-is, places-of-table}
use Rattle.hfs_blocks.proofs.patch.Patch.get.Goals as goal

pub returns-then-place-eq0-clause-value : goal.returns-then-place-eq0-clause-value
returns-then-place-eq0-clause-value c =
    let zero : place_in c.self.inside.places.entries c.args.n ≡ 0 = search rules in
    sym (ap (λ (l : Numbered). changes l c.args.n) (sym c.self.view_is) ∙ look-at _ _ _ c.self.invariant c.args.n 0 zero)

pub returns-then-place-eq0-clause-whole : goal.returns-then-place-eq0-clause-whole
returns-then-place-eq0-clause-whole c = subst (λ (l : Numbered). AreWhole (changes l)) c.self.view_is (whole-table _ _ _ c.self.invariant)

pub index-requires : goal.index-requires
index-requires c =
    let some : 0 < c.place_in_table-place.result = search rules in
    let at = place-is c.self.inside.numbers.items c.self.inside.blocks.items c.self.inside.places.entries c.args.n c.place_in_table-place.result c.self.invariant c.place_in_table-place.ensures some in
    omega (arith, at.1, c.self.inside.blocks.ok.0)

pub returns-clause-value : goal.returns-clause-value
returns-clause-value c =
    let some : 0 < c.place_in_table-place.result = search rules in
    let at = place-is c.self.inside.numbers.items c.self.inside.blocks.items c.self.inside.places.entries c.args.n c.place_in_table-place.result c.self.invariant c.place_in_table-place.ensures some in
    let own : get_or c.self.inside.blocks.items (c.place_in_table-place.result - 1) c.index.result.now ≡ c.index.result.now = sym c.index.ensures in
    let same = get_or_default c.self.inside.blocks.items (c.place_in_table-place.result - 1) [] c.index.result.now at.1 ∙ own in
    sym (ap (λ (l : Numbered). changes l c.args.n) (sym c.self.view_is) ∙ look-at _ _ _ c.self.invariant c.args.n (suc (c.place_in_table-place.result - 1)) at.0 ∙ ap (λ b. Some b) same)

pub returns-clause-whole : goal.returns-clause-whole
returns-clause-whole c = subst (λ (l : Numbered). AreWhole (changes l)) c.self.view_is (whole-table _ _ _ c.self.invariant)

pub place_in_table-place-requires : goal.place_in_table-place-requires
place_in_table-place-requires c = subst (λ ns. HasPlaces ns c.self.inside.places.entries) (sym c.deref.ensures.value) (places-of-table _ _ _ c.self.invariant)
