-- What is written of rows while they come.
use Rattle.std.proofs.Common.{◌≡◌, ◌∙◌, ℕ, suc, ◌+◌, ◌<◌, ◌≤◌, List, [], ◌∷◌, ◌++◌, length, drop, get_or, Option, Result, Ok, Err, OnOk, OnErr, append_assoc, append-nil, refl, sym, ap, subst, arith}
use Rattle.std.proofs.lemmas.List.{drop_all, drop_more}
use Rattle.std.proofs.KnownBytes.{Appends-nil, Appends-trans}
use Rattle.std.specs.Io.KnownBytes.{Appends}
use Rattle.hfs_texts.proofs.FrontLemmas.{front_first, front_next}
use Rattle.hfs_remains.specs.declared.catalog.FoundRecord.{FoundRecord}
use Rattle.hfs_rescue_items.specs.Lines.{lines_of}
use Rattle.hfs_texts.specs.Writing.{AppendsFront}
use Rattle.hfs_rescue_items.specs.Gathers.{Gathers}

-- ---- a row is gathered

pub row_kept : (row old new : List ℕ) (now : Option (List ℕ)) → new ≡ old ++ row → Gathers row old new now now
row_kept row old new now is = record { out = []; written = Appends-nil now; rest = is }

pub row_out : (row old text new : List ℕ) (now later : Option (List ℕ)) → text ≡ old ++ row → Appends now later text → new ≡ [] → Gathers row old new now later
row_out row old text new now later is written none =
    record { out = text; written = written; rest = ap (λ (rest : List ℕ). text ++ rest) none ∙ append-nil text ∙ is }

-- nothing went out
pub nothing_out : (now : Option (List ℕ)) (text : List ℕ) → AppendsFront now now text
nothing_out now text = (0, Appends-nil now)

-- ---- all rows

-- these bytes went out; the text that is gathered and what is still to come make the rest
pub record IsBegun (start now : Option (List ℕ)) (text left whole : List ℕ) : Type 0 where
  pub out : List ℕ
  pub written : Appends start now out
  pub rest : whole ≡ out ++ (text ++ left)

pub begins : (start : Option (List ℕ)) (text left : List ℕ) → IsBegun start start text left (text ++ left)
begins start text left = record { out = []; written = Appends-nil start; rest = refl }

module _ (row : ℕ → FoundRecord → List ℕ) (items : List FoundRecord) (start : Option (List ℕ)) (whole : List ℕ) where
  -- the rows of item i and those behind it
  next-left : (i : ℕ) (item d : FoundRecord) → i < length items → item ≡ get_or items i d → lines_of row i (drop i items) ≡ row i item ++ lines_of row (i + 1) (drop (i + 1) items)
  next-left i item d within is =
      let next : suc i ≡ i + 1 = omega arith in
      ap (lines_of row i) (drop_more items i d within ∙ ap (λ (first : FoundRecord). first ∷ drop (i + 1) items) (sym is))
      ∙ ap (λ (n : ℕ). row i item ++ lines_of row n (drop (i + 1) items)) next

  pub row_more : (i : ℕ) (item d : FoundRecord) (now later : Option (List ℕ)) (text new : List ℕ) → i < length items → item ≡ get_or items i d
      → IsBegun start now text (lines_of row i (drop i items)) whole → Gathers (row i item) text new now later → IsBegun start later new (lines_of row (i + 1) (drop (i + 1) items)) whole
  row_more i item d now later text new within is begun more =
      let left = lines_of row (i + 1) (drop (i + 1) items) in
      record {
        out = begun.out ++ more.out;
        written = Appends-trans start now later begun.out more.out begun.written more.written;
        rest = begun.rest ∙ ap (λ (l : List ℕ). begun.out ++ (text ++ l)) (next-left i item d within is)
            ∙ ap (λ (l : List ℕ). begun.out ++ l) (sym (append_assoc text (row i item) left) ∙ ap (λ (l : List ℕ). l ++ left) (sym more.rest) ∙ append_assoc more.out new left)
            ∙ sym (append_assoc begun.out more.out (new ++ left));
      }

  -- writing ended in the text and the row that comes
  pub row_front : (i : ℕ) (item d : FoundRecord) (now later : Option (List ℕ)) (text : List ℕ) → i < length items → item ≡ get_or items i d
      → IsBegun start now text (lines_of row i (drop i items)) whole → AppendsFront now later (text ++ row i item) → AppendsFront start later whole
  row_front i item d now later text within is begun part =
      let left = lines_of row (i + 1) (drop (i + 1) items) in
      let is_rest = begun.rest ∙ ap (λ (l : List ℕ). begun.out ++ (text ++ l)) (next-left i item d within is) ∙ ap (λ (l : List ℕ). begun.out ++ l) (sym (append_assoc text (row i item) left)) in
      subst (AppendsFront start later) (sym is_rest)
      (front_next start now later begun.out ((text ++ row i item) ++ left) begun.written (front_first now later (text ++ row i item) left part))

  none-left : (i : ℕ) → length items ≤ i → lines_of row i (drop i items) ≡ []
  none-left i end = ap (lines_of row i) (drop_all i items end)

  all-rest : (i : ℕ) (now : Option (List ℕ)) (text : List ℕ) → length items ≤ i → (begun : IsBegun start now text (lines_of row i (drop i items)) whole) → whole ≡ begun.out ++ text
  all-rest i now text end begun =
      begun.rest ∙ ap (λ (l : List ℕ). begun.out ++ (text ++ l)) (none-left i end) ∙ ap (λ (l : List ℕ). begun.out ++ l) (append-nil text)

  -- the last text goes out, or a part of it
  pub all_out : (i : ℕ) (now later : Option (List ℕ)) (text : List ℕ) → length items ≤ i → IsBegun start now text (lines_of row i (drop i items)) whole → Appends now later text
      → Appends start later whole
  all_out i now later text end begun written =
      subst (Appends start later) (sym (all-rest i now text end begun)) (Appends-trans start now later begun.out text begun.written written)

  pub last_front : (i : ℕ) (now later : Option (List ℕ)) (text : List ℕ) → length items ≤ i → IsBegun start now text (lines_of row i (drop i items)) whole → AppendsFront now later text
      → AppendsFront start later whole
  last_front i now later text end begun part =
      subst (AppendsFront start later) (sym (all-rest i now text end begun)) (front_next start now later begun.out text begun.written part)

-- ---- what holds of a result
