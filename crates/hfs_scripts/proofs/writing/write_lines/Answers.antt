-- A line that has no text, and the step of the loop.
use Rattle.std.proofs.Common.{◌∙◌, sym, ap, subst}
use Rattle.std.proofs.lemmas.List.Elements.{All-more}
use Rattle.hfs_scripts.specs.declared.lines.ScriptLine.{ScriptLine}
use Rattle.hfs_scripts.specs.Texts.{is_writable}
use Rattle.hfs_scripts.specs.Readable.{IsWritten}
use Rattle.hfs_scripts.proofs.RoundTrip.{first_unwritable-is, texts-more}
use Rattle.hfs_scripts.proofs.writing.write_lines.Goals as goal

pub returns-then-not-is_writable-clause-fault : goal.returns-then-not-is_writable-clause-fault
returns-then-not-is_writable-clause-fault c =
    first_unwritable-is c.args.now c.args.lines.now c.loop-place.place c.index-lines-place.result c.loop-place-test.true c.loop-place.invariant.written
    (ap (is_writable c.args.now) (sym c.index-lines-place.is) ∙ sym c.is_writable.ensures ∙ c.if-not-is_writable.true)

pub loop-place-preserved : goal.loop-place-preserved
loop-place-preserved c =
    let line : IsWritten c.args.now c.index-lines-place.result =
    record { writable = sym c.is_writable.ensures ∙ c.if-not-is_writable.false; readable = c.in_ok-push_line.ensures.reads } in
    record {
      text = texts-more c.args.lines.now c.loop-place.place c.index-lines-place.result c.loop-place.text.items _ c.loop-place-test.true c.index-lines-place.is c.loop-place.invariant.text c.in_ok-push_line.ensures.text;
      written = All-more (IsWritten c.args.now) c.args.lines.now c.loop-place.place c.index-lines-place.result c.loop-place-test.true c.loop-place.invariant.written
          (let P : ScriptLine → Type 0 = IsWritten c.args.now in subst P c.index-lines-place.is line);
    }
