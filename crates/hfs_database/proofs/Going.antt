-- Rows on their way to a writer.
use Rattle.std.proofs.Common.{◌≡◌, ◌∙◌, refl, sym, ap, subst, ℕ, Bool, true, false, List, [], ◌∷◌, ◌++◌, append_assoc, append-nil, length, take, drop, take-append-drop, true≢false}
use lib.Seq.{take-append_seam}
use mathlib.Core.HLevel.{⊥_prop}
use denote.Struct.Props.{≡_prop}
use Rattle.std.specs.Coded.{coded_list, coded_ℕ}
use Rattle.std.specs.Prelude.{Option, None, Some}
use Rattle.std.specs.Io.KnownBytes.{Appends}
use Rattle.std.proofs.KnownBytes.{Appends-nil, Appends-trans}
use Rattle.hfs_database.specs.Taken.{TakenRow}
use Rattle.hfs_texts.specs.Writing.{AppendsFront}
use Rattle.hfs_database.specs.declared.form.Form.{Form}
use Rattle.hfs_database.specs.declared.keys.Keys.{Keys}
use Rattle.hfs_database.specs.Keys.{keys_after, keys_behind, no_keys}
use Rattle.hfs_database.specs.RowTexts.{end_text, image_text, row_text, rows_text}
use Rattle.hfs_database.specs.UnderWay.{IsUnderWay, Moves, PutsLine}

-- that known bytes grow so is a proposition
pub Appends_prop : (a b : Option (List ℕ)) (bytes : List ℕ) → IsProp (Appends a b bytes)
Appends_prop None b bytes = λ _ _. refl
Appends_prop (Some x) None bytes = ⊥_prop
Appends_prop (Some x) (Some y) bytes = ≡_prop (coded_list coded_ℕ) y (x ++ bytes)

-- ---- one row more

pub rows_text_more : (form : Form) (keys : Keys) (rows : List TakenRow) (row : TakenRow)
    → rows_text form keys (rows ++ row ∷ []) ≡ rows_text form keys rows ++ row_text form (keys_behind keys rows) row.table row.values
rows_text_more form keys [] row = append-nil (row_text form keys row.table row.values)
rows_text_more form keys (first ∷ rest) row =
    ap (λ l. row_text form keys first.table first.values ++ l) (rows_text_more form (keys_after keys first.table first.values) rest row)
    ∙ sym (append_assoc (row_text form keys first.table first.values) (rows_text form (keys_after keys first.table first.values) rest)
    (row_text form (keys_behind (keys_after keys first.table first.values) rest) row.table row.values))

pub keys_more : (keys : Keys) (rows : List TakenRow) (row : TakenRow) → keys_behind keys (rows ++ row ∷ []) ≡ keys_after (keys_behind keys rows) row.table row.values
keys_more keys [] row = refl
keys_more keys (first ∷ rest) row = keys_more (keys_after keys first.table first.values) rest row

-- ---- what went out

pub has_not : {X : Type 0} → true ≡ false → X
has_not is = absurd (true≢false is)

-- a beginning that went out
pub front_of : (old new : Option (List ℕ)) (front rest all : List ℕ) → Appends old new front → front ++ rest ≡ all → AppendsFront old new all
front_of old new front rest all out is = (length front, subst (Appends old new) (sym (ap (take (length front)) (sym is) ∙ take-append_seam front rest)) out)

pub moves_front : (old new : Option (List ℕ)) (text left : List ℕ) → Moves old new text left → AppendsFront old new text
moves_front old new text left moves = front_of old new moves.piece left text moves.written (sym moves.text_is)

pub moves_none : (known : Option (List ℕ)) (text : List ℕ) → Moves known known text text
moves_none known text = record { piece = []; text_is = refl; written = Appends-nil known }

pub moves_all : (old new : Option (List ℕ)) (text left : List ℕ) → Appends old new text → left ≡ [] → Moves old new text left
moves_all old new text left out none = record { piece = text; text_is = sym (append-nil text) ∙ ap (λ l. text ++ l) (sym none); written = out }

pub puts_line : (old new : Option (List ℕ)) (text kept left line : List ℕ) → Moves old new text kept → left ≡ kept ++ line → PutsLine old new text left line
puts_line old new text kept left line moves is =
    record { piece = moves.piece; kept = kept; text_is = moves.text_is; written = moves.written; left_is = is }

-- ---- under way

pub begun : (start now : Option (List ℕ)) (text : List ℕ) (form : Form) (keys : Keys) (rows : List TakenRow) (failed : Bool)
    → start ≡ now → rows ≡ [] → (failed ≡ false → text ≡ []) → (failed ≡ false → keys ≡ no_keys) → IsUnderWay start now text form keys rows failed
begun start now text form keys rows failed same none empty unkeyed =
    record {
      front = [];
      rest = [];
      all_is = ap (rows_text form no_keys) (sym none);
      written = subst (λ (it : Option (List ℕ)). Appends start it []) same (Appends-nil start);
      waits = λ fine. sym (empty fine);
      known = λ fine. unkeyed fine ∙ ap (keys_behind no_keys) (sym none);
    }

split : (front piece kept line : List ℕ) → (front ++ piece) ++ (kept ++ line) ≡ (front ++ (piece ++ kept)) ++ line
split front piece kept line = simp append_assoc

-- a row more
pub took : (start old new : Option (List ℕ)) (text left : List ℕ) (form : Form) (before after : Keys) (rows : List TakenRow) (row : TakenRow)
    → IsUnderWay start old text form before rows false → PutsLine old new text left (row_text form before row.table row.values)
    → after ≡ keys_after before row.table row.values → IsUnderWay start new left form after (rows ++ row ∷ []) false
took start old new text left form before after rows row was puts keyed =
    let known = was.known refl in
    let waits = was.waits refl in
    let line = row_text form before row.table row.values in
    record {
      front = was.front ++ puts.piece;
      rest = left;
      all_is = ap (λ l. (was.front ++ puts.piece) ++ l) puts.left_is ∙ split was.front puts.piece puts.kept line
          ∙ ap (λ l. (was.front ++ l) ++ line) (sym puts.text_is) ∙ ap (λ l. (was.front ++ l) ++ line) (sym waits) ∙ ap (λ l. l ++ line) was.all_is
          ∙ ap (λ (keys : Keys). rows_text form no_keys rows ++ row_text form keys row.table row.values) known
          ∙ sym (rows_text_more form no_keys rows row);
      written = Appends-trans start old new was.front puts.piece was.written puts.written;
      waits = λ _. refl;
      known = λ _. keyed ∙ ap (λ (keys : Keys). keys_after keys row.table row.values) known ∙ sym (keys_more no_keys rows row);
    }

-- a fault, at which a beginning of the text may have gone out
pub failed : (start old new : Option (List ℕ)) (text left : List ℕ) (form : Form) (before after : Keys) (rows : List TakenRow)
    → IsUnderWay start old text form before rows false → AppendsFront old new text → IsUnderWay start new left form after rows true
failed start old new text left form before after rows was part =
    record {
      front = was.front ++ take part.0 text;
      rest = drop part.0 text;
      all_is = append_assoc was.front (take part.0 text) (drop part.0 text) ∙ ap (λ l. was.front ++ l) (take-append-drop part.0 text)
          ∙ ap (λ l. was.front ++ l) (sym (was.waits refl)) ∙ was.all_is;
      written = Appends-trans start old new was.front (take part.0 text) was.written part.1;
      waits = λ wrong. has_not wrong;
      known = λ wrong. has_not wrong;
    }

-- ---- the end of an image

whole_text : (start now : Option (List ℕ)) (text : List ℕ) (form : Form) (keys : Keys) (rows : List TakenRow) (is_whole : Bool)
    → (was : IsUnderWay start now text form keys rows false) → was.front ++ (text ++ end_text form keys is_whole) ≡ image_text form rows is_whole
whole_text start now text form keys rows is_whole was =
    sym (append_assoc was.front text (end_text form keys is_whole))
    ∙ ap (λ l. (was.front ++ l) ++ end_text form keys is_whole) (sym (was.waits refl)) ∙ ap (λ l. l ++ end_text form keys is_whole) was.all_is
    ∙ ap (λ (it : Keys). rows_text form no_keys rows ++ end_text form it is_whole) (was.known refl)

pub ended : (start old new : Option (List ℕ)) (text : List ℕ) (form : Form) (keys : Keys) (rows : List TakenRow) (is_whole : Bool)
    → IsUnderWay start old text form keys rows false → Appends old new (text ++ end_text form keys is_whole) → Appends start new (image_text form rows is_whole)
ended start old new text form keys rows is_whole was out =
    subst (Appends start new) (whole_text start old text form keys rows is_whole was)
    (Appends-trans start old new was.front (text ++ end_text form keys is_whole) was.written out)

pub ended_part : (start old new : Option (List ℕ)) (text : List ℕ) (form : Form) (keys : Keys) (rows : List TakenRow) (is_whole : Bool)
    → IsUnderWay start old text form keys rows false → AppendsFront old new (text ++ end_text form keys is_whole) → AppendsFront start new (image_text form rows is_whole)
ended_part start old new text form keys rows is_whole was part =
    let all = text ++ end_text form keys is_whole in
    front_of start new (was.front ++ take part.0 all) (drop part.0 all) (image_text form rows is_whole)
    (Appends-trans start old new was.front (take part.0 all) was.written part.1)
    (append_assoc was.front (take part.0 all) (drop part.0 all) ∙ ap (λ l. was.front ++ l) (take-append-drop part.0 all)
    ∙ whole_text start old text form keys rows is_whole was)

-- of an image whose rows met a fault before
pub ended_before : (start now : Option (List ℕ)) (text : List ℕ) (form : Form) (keys : Keys) (rows : List TakenRow) (failed is_whole : Bool)
    → IsUnderWay start now text form keys rows failed → AppendsFront start now (image_text form rows is_whole)
ended_before start now text form keys rows failed is_whole was =
    front_of start now was.front (was.rest ++ end_text form (keys_behind no_keys rows) is_whole) (image_text form rows is_whole) was.written
    (sym (append_assoc was.front was.rest (end_text form (keys_behind no_keys rows) is_whole))
    ∙ ap (λ l. l ++ end_text form (keys_behind no_keys rows) is_whole) was.all_is)
