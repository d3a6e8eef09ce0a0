use Rattle.std.proofs.Common.{sym, ◌∙◌, length}
use Rattle.std.proofs.lemmas.Bool.{eqb-true, eqb-false}
use Rattle.hfs_remains_places.proofs.WordLemmas.{whole-words, joined-words}
use Rattle.hfs_remains_places.proofs.words.joined.Goals as goal

pub returns-then-is_empty : goal.returns-then-is_empty
returns-then-is_empty c =
    c.in_ok-whole.ensures.ok ∙ whole-words c.args.words.now (eqb-true (length c.args.words.now) 0 (sym c.is_empty.ensures ∙ c.if-is_empty.true))

pub returns : goal.returns
returns c = c.in_ok-text.ensures.ok ∙ joined-words c.args.words.now (eqb-false (length c.args.words.now) 0 (sym c.is_empty.ensures ∙ c.if-is_empty.false))
