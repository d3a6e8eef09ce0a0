use Rattle.std.proofs.Common.{◌≡◌, ℕ, Bool, true, false, if◌then◌else◌, List, length, sym, ap, ◌∙◌}
use Rattle.hfs_remains_places.specs.Paths.{entry_at, is_cut, lost_at, within, path}
use Rattle.hfs_remains_places.proofs.PathLemmas.{path-inner}
use Rattle.hfs_remains_places.proofs.paths.Frame.inner_path.Goals as goal

pub returns-then-cut : goal.returns-then-cut
returns-then-cut c =
    let things = c.args.self.now.things.now in
    let i = c.args.i in
    let p = c.args.p in
    let cut : is_cut things i (length (path things p)) ≡ true = sym (c.is_cut-cut.ensures ∙ ap (λ (l : List ℕ). is_cut things i (length l)) c.requires.above) ∙ c.if-cut.true in
    c.in_ok-text.ensures
    ∙ sym (path-inner things i p c.requires.inner ∙ ap (λ (b : Bool). if b then lost_at things i else within (path things p) (entry_at things i)) cut)

pub returns : goal.returns
returns c =
    let things = c.args.self.now.things.now in
    let i = c.args.i in
    let p = c.args.p in
    let uncut : is_cut things i (length (path things p)) ≡ false = sym (c.is_cut-cut.ensures ∙ ap (λ (l : List ℕ). is_cut things i (length l)) c.requires.above) ∙ c.if-cut.false in
    c.in_ok-text-2.ensures
    ∙ (λ t. within (c.requires.above t) (c.entry.ensures t))
    ∙ sym (path-inner things i p c.requires.inner ∙ ap (λ (b : Bool). if b then lost_at things i else within (path things p) (entry_at things i)) uncut)
