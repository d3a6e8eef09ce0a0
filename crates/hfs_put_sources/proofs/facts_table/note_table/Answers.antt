-- Row by row.
use Rattle.std.proofs.Common.{Bor, List, ℕ, ◌∙◌, sym, refl, inl, inr, Some, None, ◌∷◌, [], ◌++◌}
use Rattle.csv.specs.Reading.{Reached, default_config, strip_bom}
use Rattle.csv.specs.Records.{fields_of}
use Rattle.csv.specs.declared.parser.State.TheVariants as st
use Rattle.csv.proofs.ReadFacts.{rows-end, rows-more}
use Rattle.hfs_put_sources.specs.Later.{last_told}
use Rattle.hfs_put_sources.specs.Told.{told_by_row, told_by_table}
use Rattle.hfs_put_sources.proofs.LaterLemmas.{last-more, tells-as, tells-none, tells-then}
use Rattle.hfs_put_sources.proofs.RecordLemmas.{all-records}
use Rattle.hfs_put_sources.proofs.facts_table.note_table.Goals as goal

pub loop-row-init : goal.loop-row-init
unfolding Reached last_told
loop-row-init c =
    let fr = c.from_reader-reader.ensures in
    let h = c.has_headers.ensures in
    let f = c.flexible.ensures in
    let start = c.into_iter-row-iterator.ensures.into_iter_gives ∙ refl in
    rw (start, c.into_byte_records-row-items.ensures.rdr) (
      rw (f, h) at fr.trim ∙ c.new.ensures.trim,
      inr (inr (rw (f, h) at fr.has_headers, fr.headers)),
      c.into_byte_records-row-items.ensures.left,
      rw (f, h) at fr.config ∙ c.new.ensures.config,
      strip_bom c.args.text.now,
      fr.source,
      [],
      (sym fr.state, refl),
      tells-none (λ path. None) c.args.facts.now (λ path. refl),
    )

pub loop-row-preserved : goal.loop-row-preserved
loop-row-preserved c =
    let inv = c.loop-row.invariant in
    let s = rw (c.in-Some.is, c.in-Ok.is) at ((c.next.ensures.steps inv.2 inv.0).0 inv.1) in
    let front = c.args.front.now in
    let row = fields_of c.in-Ok.row in
    let rows = inv.6 in
    let more = rows-more (λ (s : Bor (List ℕ)). Some s.now) c.loop-row.row-iterator.rdr c.next.new.self.rdr row default_config st.StartRecord (strip_bom c.args.text.now)
    inv.4 rows inv.3 inv.5 inv.7 s.0 in (
      s.0.3 ∙ inv.0,
      inl s.1,
      s.2,
      s.0.2 ∙ inv.3,
      more.0,
      more.1,
      rows ++ row ∷ [],
      more.2,
      tells-as _ _ _ _ (λ path. sym (last-more (told_by_row front path) rows row))
          (tells-then (λ path. last_told (told_by_row front path) rows) (λ path. told_by_row front path row) _ _ _ inv.8 c.in_ok-note_row.ensures),
    )

pub returns : goal.returns
returns c =
    let inv = c.loop-row.invariant in
    let s = rw c.in-None.is at ((c.next.ensures.steps inv.2 inv.0).0 inv.1) in
    let text = strip_bom c.args.text.now in
    let front = c.args.front.now in
    let end = rows-end (λ (s : Bor (List ℕ)). Some s.now) c.loop-row.row-iterator.rdr c.next.new.self.rdr [] default_config inv.4 inv.3 inv.5 s in
    let all = all-records inv.6 c.loop-row.row-iterator.rdr.state text inv.4 inv.7 end in
    tells-as _ (told_by_table front c.args.text.now) _ _ (λ path t. last_told (told_by_row front path) (sym all t)) inv.8
