-- What is written of a table while its rows come.
use Rattle.std.proofs.Common.{◌≡◌, ◌∙◌, sym, ap, subst, ℕ, Bool, true, false, List, [], ◌++◌, Option, Result, Ok, Err, OnOk, OnErr, append_assoc}
use Rattle.std.specs.Io.KnownBytes.{Appends}
use Rattle.std.proofs.KnownBytes.{Appends-nil}
use Rattle.hfs_texts.proofs.FrontLemmas.{front_first, front_next}
use Rattle.hfs_items.specs.ToldRows.{ToldRow, told_rows}
use Rattle.hfs_table.specs.Lines.{head_text}
use Rattle.hfs_table.specs.declared.format.Format.{Format}
use Rattle.hfs_texts.specs.Writing.{AppendsFront}
use Rattle.hfs_items.specs.Levels.{Going}
use Rattle.hfs_source.specs.Images.{OfEach}
use Rattle.hfs_commands.specs.Entries.{entries_in}
use Rattle.hfs_commands.specs.Items.{MovesRow, WritesItems, WritesItemsFront, items_text, rows_text, table_text}
use Rattle.hfs_commands.proofs.Rows.{whole_next}

-- these bytes went out; the text that is gathered and the lines of the rows that are to come make the rest
pub record IsBegun (format : Format) (start now : Option (List ℕ)) (text : List ℕ) (left : List ToldRow) (whole : List ℕ) : Type 0 where
  pub out : List ℕ
  pub written : Appends start now out
  pub rest : whole ≡ out ++ (text ++ rows_text format left)

false_true : false ≡ true → ⊥
false_true e = cc

module _ (format : Format) (start : Option (List ℕ)) (whole : List ℕ) where
  -- one row more is gathered, or there is none
  pub gathered : (more : Bool) (now : Option (List ℕ)) (text new : List ℕ) (rows left : List ToldRow) → IsBegun format start now text rows whole
      → MovesRow format more text new rows left → more ≡ true → IsBegun format start now new left whole
  gathered true now text new rows left begun moved is = record { out = begun.out; written = begun.written; rest = begun.rest ∙ ap (λ (l : List ℕ). begun.out ++ l) moved.0 }
  gathered false now text new rows left begun moved is = absurd (false_true is)

  pub none-gathered : (more : Bool) (now : Option (List ℕ)) (text new : List ℕ) (rows left : List ToldRow) → IsBegun format start now text rows whole
      → MovesRow format more text new rows left → more ≡ false → IsBegun format start now new rows whole
  none-gathered true now text new rows left begun moved is = absurd (false_true (sym is))
  none-gathered false now text new rows left begun moved is = subst (λ (t : List ℕ). IsBegun format start now t rows whole) (sym moved.0) begun

  -- the text goes out
  pub put-out : (now later : Option (List ℕ)) (text : List ℕ) (left : List ToldRow) → IsBegun format start now text left whole
      → Appends now later text → (new : List ℕ) → new ≡ [] → IsBegun format start later new left whole
  put-out now later text left begun written new none = record {
    out = begun.out ++ text;
    written = whole_next start now later begun.out text begun.written written;
    rest = begun.rest ∙ sym (append_assoc begun.out text (rows_text format left)) ∙ ap (λ (l : List ℕ). (begun.out ++ text) ++ (l ++ rows_text format left)) (sym none);
  }

  -- a part of the text goes out
  pub front : (now later : Option (List ℕ)) (text : List ℕ) (left : List ToldRow) → IsBegun format start now text left whole → AppendsFront now later text → AppendsFront start later whole
  front now later text left begun part =
      subst (AppendsFront start later) (sym begun.rest)
      (front_next start now later begun.out (text ++ rows_text format left) begun.written (front_first now later text (rows_text format left) part))

  -- nothing more goes out
  pub stopped : (now : Option (List ℕ)) (text : List ℕ) (left : List ToldRow) → IsBegun format start now text left whole → AppendsFront start now whole
  stopped now text left begun = front now now text left begun (0, Appends-nil now)

-- at first
pub begins : (format : Format) (start : Option (List ℕ)) (text : List ℕ) (left : List ToldRow) → text ≡ head_text format → IsBegun format start start text left (table_text format left)
unfolding table_text
begins format start text left head = record { out = []; written = Appends-nil start; rest = ap (λ (l : List ℕ). l ++ rows_text format left) (sym head) }

-- the table of the rows to come is that of each image whose rows they are
module _ (format : Format) (Holds : List ℕ → Type 0) (inventory : Going) (rows : OfEach Holds (λ image. inventory.left ≡ told_rows (entries_in image))) where
  table-each : (P : List ℕ → Type 0) → P (table_text format inventory.left) → OfEach Holds (λ image. P (items_text format image))
  table-each P p = λ image h. subst P (ap (table_text format) (rows image h)) p

  pub written-each : {T E : Type 0} (r : Result T E) (old new : Option (List ℕ)) → OnOk r (Appends old new (table_text format inventory.left))
      → OnOk r (OfEach Holds (WritesItems format old new))
  written-each (Ok x) old new h = table-each (λ (bytes : List ℕ). Appends old new bytes) h
  written-each (Err e) old new h = tt

  pub part-each : {T E : Type 0} (r : Result T E) (old new : Option (List ℕ)) → OnErr r (AppendsFront old new (table_text format inventory.left))
      → OnErr r (OfEach Holds (WritesItemsFront format old new))
  part-each (Ok x) old new h = tt
  part-each (Err e) old new h = table-each (λ (bytes : List ℕ). AppendsFront old new bytes) h
