-- What is written of a page while its rows come.
use Rattle.std.proofs.Common.{◌≡◌, ◌∙◌, refl, sym, ap, subst, arith, ℕ, ◌+◌, ◌≤◌, ◌<◌, Some, None, List, [], ◌∷◌, ◌++◌, length, take, min, Option, append_assoc, append-nil, Result, Ok, Err, OnErr}
use Rattle.std.specs.Borrow.{Bor}
use Rattle.std.specs.Io.KnownBytes.{Appends}
use Rattle.std.proofs.KnownBytes.{Appends-nil, Appends-trans}
use Rattle.std.proofs.lemmas.List.{take-append-le, take_min, drop_at, take_at}
use Rattle.std.proofs.Math.Seq.{take-add}
use Rattle.hfs_catalog.specs.Records.{Catalog}
use Rattle.hfs_check.specs.Parts.{Blocks, catalog_in, mdb_in}
use Rattle.hfs_items.specs.Levels.{catalog_rows}
use Rattle.hfs_items.specs.ToldRows.{ToldRow}
use Rattle.hfs_texts.specs.Writing.{AppendsFront}
use Rattle.hfs_fields.specs.declared.mdb.Mdb.{Mdb}
use Rattle.hfs_page.specs.declared.page_texts.PageTexts.{PageTexts}
use Rattle.hfs_page.specs.Disk.{cells_in, holdings_in, page_in}
use Rattle.hfs_page.specs.Document.{back_text, front_text}
use Rattle.hfs_page.specs.Items.{closings, rows_text}
use Rattle.hfs_page.specs.Rows.{MovesRow}

-- ---- parts that go out one behind the other

-- the first part, and a beginning of what is behind it, is a beginning of all
beginning : (n : ℕ) (out text rest : List ℕ) → out ++ take n text ≡ take (length out + min n (length text)) (out ++ (text ++ rest))
beginning n out text rest =
    (λ i. sym (take_at out (text ++ rest) (length out) refl) i ++ ((sym (take_min n text) ∙ sym (take-append-le (min n (length text)) text rest (omega arith))) ∙ ap (take (min n (length text))) (sym (drop_at out (text ++ rest) (length out) refl))) i)
    ∙ sym (take-add (length out) (min n (length text)) (out ++ (text ++ rest)))

-- behind what went out a part of the next text did
pub part-out : (start now later : Option (List ℕ)) (out text rest whole : List ℕ) → Appends start now out → whole ≡ out ++ (text ++ rest)
    → AppendsFront now later text → AppendsFront start later whole
part-out start now later out text rest whole written is (n, front) = (
  length out + min n (length text),
  subst (Appends start later) (beginning n out text rest ∙ ap (take (length out + min n (length text))) (sym is)) (Appends-trans start now later out (take n text) written front),
)

-- ---- rows

-- these bytes went out; the text that is gathered and the rows that are to come make the rest
pub record IsBegun (base : Option (Bor (List ℕ))) (start now : Option (List ℕ)) (text : List ℕ) (opened : ℕ) (left : List ToldRow) (whole : List ℕ) : Type 0 where
  pub out : List ℕ
  pub written : Appends start now out
  pub rest : whole ≡ out ++ (text ++ rows_text base opened left)

pub begins : (base : Option (Bor (List ℕ))) (start : Option (List ℕ)) (text : List ℕ) (left : List ToldRow) → text ≡ [] → IsBegun base start start text 0 left (rows_text base 0 left)
begins base start text left none = record { out = []; written = Appends-nil start; rest = ap (λ (l : List ℕ). l ++ rows_text base 0 left) (sym none) }

module _ (base : Option (Bor (List ℕ))) (start : Option (List ℕ)) (whole : List ℕ) where
  -- one row more is gathered
  pub gathered : (now : Option (List ℕ)) (text new : List ℕ) (opened behind : ℕ) (rows left : List ToldRow) (moved : Option ℕ) → IsBegun base start now text opened rows whole
      → MovesRow base opened text new rows left moved → moved ≡ Some behind → IsBegun base start now new behind left whole
  gathered now text new opened behind rows left moved begun moves is =
      record {
        out = begun.out;
        written = begun.written;
        rest = begun.rest ∙ ap (λ (l : List ℕ). begun.out ++ l) (subst (MovesRow base opened text new rows left) is moves).0;
      }

  -- the text goes out
  pub put-out : (now later : Option (List ℕ)) (text : List ℕ) (opened : ℕ) (left : List ToldRow) → IsBegun base start now text opened left whole
      → Appends now later text → (new : List ℕ) → new ≡ [] → IsBegun base start later new opened left whole
  put-out now later text opened left begun written new none = record {
    out = begun.out ++ text;
    written = Appends-trans start now later begun.out text begun.written written;
    rest = begun.rest ∙ sym (append_assoc begun.out text (rows_text base opened left)) ∙ ap (λ (l : List ℕ). (begun.out ++ text) ++ (l ++ rows_text base opened left)) (sym none);
  }

  -- a part of the text goes out
  pub front : {T E : Type 0} (r : Result T E) (now later : Option (List ℕ)) (text : List ℕ) (opened : ℕ) (left : List ToldRow)
      → IsBegun base start now text opened left whole → AppendsFront now later text → OnErr r (AppendsFront start later whole)
  front (Ok x) now later text opened left begun part = tt
  front (Err e) now later text opened left begun part =
      part-out start now later begun.out text (rows_text base opened left) whole begun.written begun.rest part

  -- nothing more goes out
  pub stopped : {T E : Type 0} (r : Result T E) (now : Option (List ℕ)) (text : List ℕ) (opened : ℕ) (left : List ToldRow)
      → IsBegun base start now text opened left whole → OnErr r (AppendsFront start now whole)
  stopped r now text opened left begun = front r now now text opened left begun (0, Appends-nil now)

  -- no row is left, and the ends of folders are gathered: what went out and this text are all
  ended : (now : Option (List ℕ)) (text new last : List ℕ) (opened : ℕ) (rows left : List ToldRow) (moved : Option ℕ) (begun : IsBegun base start now text opened rows whole)
      → MovesRow base opened text new rows left moved → ((behind : ℕ) → moved ≡ Some behind → ⊥) → last ≡ new ++ closings opened → whole ≡ begun.out ++ last
  ended now text new last opened rows left None begun moves none is =
      begun.rest ∙ ap (λ (r : List ToldRow). begun.out ++ (text ++ rows_text base opened r)) moves.0
      ∙ ap (λ (l : List ℕ). begun.out ++ l) (ap (λ (l : List ℕ). l ++ closings opened) (sym moves.1) ∙ sym is)
  ended now text new last opened rows left (Some behind) begun moves none is = absurd (none behind refl)

  pub last-part : {T E : Type 0} (r : Result T E) (now later : Option (List ℕ)) (text new last : List ℕ) (opened : ℕ) (rows left : List ToldRow) (moved : Option ℕ)
      → IsBegun base start now text opened rows whole → MovesRow base opened text new rows left moved → ((behind : ℕ) → moved ≡ Some behind → ⊥)
      → last ≡ new ++ closings opened → AppendsFront now later last → OnErr r (AppendsFront start later whole)
  last-part (Ok x) now later text new last opened rows left moved begun moves none is part = tt
  last-part (Err e) now later text new last opened rows left moved begun moves none is part =
      part-out start now later begun.out last [] whole begun.written
      (ended now text new last opened rows left moved begun moves none is ∙ ap (λ (l : List ℕ). begun.out ++ l) (sym (append-nil last))) part

-- ---- a page of three parts

pub page-is : (texts : PageTexts) (total : ℕ) (blocks : Blocks) (one three : List ℕ) (count : ℕ) (mdb : Mdb) (records : Catalog) (rows : List ToldRow)
    → count ≡ total → mdb ≡ mdb_in blocks → one ≡ front_text texts count mdb → records ≡ catalog_in blocks → rows ≡ catalog_rows records
    → three ≡ back_text texts (catalog_in blocks) (holdings_in blocks) (cells_in blocks)
    → page_in texts total blocks ≡ (one ++ rows_text texts.image.base 0 rows) ++ three
unfolding page_in
page-is texts total blocks one three count mdb records rows all same is of by after =
    λ i. (sym (is ∙ (λ j. front_text texts (all j) (same j))) i ++ rows_text texts.image.base 0 (sym (by ∙ ap catalog_rows of) i)) ++ sym after i

pub page-none : {T E : Type 0} (r : Result T E) (start : Option (List ℕ)) (whole : List ℕ) → OnErr r (AppendsFront start start whole)
page-none (Ok x) start whole = tt
page-none (Err e) start whole = (0, Appends-nil start)

-- the first part goes out, then the second, then the third
module _ (start : Option (List ℕ)) (one two three whole : List ℕ) (is : whole ≡ (one ++ two) ++ three) where
  pub page-first : {T E : Type 0} (r : Result T E) (now : Option (List ℕ)) → AppendsFront start now one → OnErr r (AppendsFront start now whole)
  page-first (Ok x) now part = tt
  page-first (Err e) now part = part-out start start now [] one (two ++ three) whole (Appends-nil start) (is ∙ append_assoc one two three) part

  pub page-second : {T E : Type 0} (r : Result T E) (now later : Option (List ℕ)) → Appends start now one → AppendsFront now later two → OnErr r (AppendsFront start later whole)
  page-second (Ok x) now later first part = tt
  page-second (Err e) now later first part = part-out start now later one two three whole first (is ∙ append_assoc one two three) part

  pub page-third : {T E : Type 0} (r : Result T E) (now later last : Option (List ℕ)) → Appends start now one → Appends now later two → AppendsFront later last three
      → OnErr r (AppendsFront start last whole)
  page-third (Ok x) now later last first second part = tt
  page-third (Err e) now later last first second part =
      part-out start later last (one ++ two) three [] whole (Appends-trans start now later one two first second)
      (is ∙ ap (λ (l : List ℕ). (one ++ two) ++ l) (sym (append-nil three))) part

  pub page-all : (now later last : Option (List ℕ)) → Appends start now one → Appends now later two → Appends later last three → Appends start last whole
  page-all now later last first second third =
      subst (Appends start last) (sym is) (Appends-trans start later last (one ++ two) three (Appends-trans start now later one two first second) third)
