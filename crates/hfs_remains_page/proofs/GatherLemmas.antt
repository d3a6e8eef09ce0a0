-- What is written of rows while they come.
use Rattle.std.proofs.Common.{◌≡◌, ◌∙◌, ℕ, suc, ◌+◌, ◌<◌, ◌≤◌, List, [], ◌∷◌, ◌++◌, length, drop, get_or, Option, append_assoc, append-nil, sym, ap, subst, arith, Result, Ok, Err}
use Rattle.std.specs.Prelude.{OnErr}
use Rattle.std.proofs.lemmas.List.{drop_all, drop_more}
use Rattle.std.proofs.KnownBytes.{Appends-nil, Appends-trans}
use Rattle.std.specs.Borrow.{Bor}
use Rattle.std.specs.Io.KnownBytes.{Appends}
use Rattle.hfs_texts.proofs.FrontLemmas.{front_first, front_next}
use Rattle.hfs_page.specs.Items.{closings}
use Rattle.hfs_rescue_items.specs.declared.found.Found.{Found}
use Rattle.hfs_texts.specs.Writing.{AppendsFront}
use Rattle.hfs_remains_page.specs.declared.steps.Step.{Step}
use Rattle.hfs_remains_page.specs.Gathers.{Gathers}
use Rattle.hfs_remains_page.specs.Rows.{open_behind, row_text, rows_text}
use Rattle.hfs_rescue_items.proofs.GatherLemmas.{IsBegun}

-- ---- a row is gathered

pub row_kept : (row old new : List ℕ) (now : Option (List ℕ)) → new ≡ old ++ row → Gathers row old new now now
row_kept row old new now is = record { out = []; written = Appends-nil now; rest = is }

pub row_out : (row old text new : List ℕ) (now later : Option (List ℕ)) → text ≡ old ++ row → Appends now later text → new ≡ [] → Gathers row old new now later
row_out row old text new now later is written none =
    record { out = text; written = written; rest = ap (λ (rest : List ℕ). text ++ rest) none ∙ append-nil text ∙ is }

-- ---- all rows

pub begins : (start : Option (List ℕ)) (text left : List ℕ) → text ≡ [] → IsBegun start start text left left
begins start text left none = record { out = []; written = Appends-nil start; rest = ap (λ (l : List ℕ). l ++ left) (sym none) }

module _ (base : Option (Bor (List ℕ))) (found : Found) (steps : List Step) (start : Option (List ℕ)) (whole : List ℕ) where
  -- the rows from step i on, where so many folders stand open
  abbrev pub left_from : ℕ → ℕ → List ℕ
  left_from opened i = rows_text base found opened (drop i steps)

  next-left : (i opened : ℕ) (step d : Step) → i < length steps → step ≡ get_or steps i d
      → left_from opened i ≡ row_text base found opened step ++ left_from (open_behind found opened step) (i + 1)
  next-left i opened step d within is =
      let next : suc i ≡ i + 1 = omega arith in
      ap (rows_text base found opened) (drop_more steps i d within ∙ ap (λ (first : Step). first ∷ drop (i + 1) steps) (sym is))

  pub row_more : (i opened behind : ℕ) (step d : Step) (now later : Option (List ℕ)) (text new : List ℕ) → i < length steps → step ≡ get_or steps i d
      → IsBegun start now text (left_from opened i) whole → Gathers (row_text base found opened step) text new now later → behind ≡ open_behind found opened step
      → IsBegun start later new (left_from behind (i + 1)) whole
  row_more i opened behind step d now later text new within is begun more at =
      let left = left_from (open_behind found opened step) (i + 1) in
      let row = row_text base found opened step in
      subst (λ (n : ℕ). IsBegun start later new (left_from n (i + 1)) whole) (sym at)
      (record {
        out = begun.out ++ more.out;
        written = Appends-trans start now later begun.out more.out begun.written more.written;
        rest = begun.rest ∙ ap (λ (l : List ℕ). begun.out ++ (text ++ l)) (next-left i opened step d within is)
            ∙ ap (λ (l : List ℕ). begun.out ++ l) (sym (append_assoc text row left) ∙ ap (λ (l : List ℕ). l ++ left) (sym more.rest) ∙ append_assoc more.out new left)
            ∙ sym (append_assoc begun.out more.out (new ++ left));
      })

  -- writing ended in the text and the row that comes
  pub row_front : (i opened : ℕ) (step d : Step) (now later : Option (List ℕ)) (text : List ℕ) → i < length steps → step ≡ get_or steps i d
      → IsBegun start now text (left_from opened i) whole → AppendsFront now later (text ++ row_text base found opened step) → AppendsFront start later whole
  row_front i opened step d now later text within is begun part =
      let left = left_from (open_behind found opened step) (i + 1) in
      let row = row_text base found opened step in
      let is_rest = begun.rest ∙ ap (λ (l : List ℕ). begun.out ++ (text ++ l)) (next-left i opened step d within is) ∙ ap (λ (l : List ℕ). begun.out ++ l) (sym (append_assoc text row left)) in
      subst (AppendsFront start later) (sym is_rest)
      (front_next start now later begun.out ((text ++ row) ++ left) begun.written (front_first now later (text ++ row) left part))

  none-left : (i opened : ℕ) → length steps ≤ i → left_from opened i ≡ closings opened
  none-left i opened end = ap (rows_text base found opened) (drop_all i steps end)

  all-rest : (i opened : ℕ) (now : Option (List ℕ)) (text : List ℕ) → length steps ≤ i → (begun : IsBegun start now text (left_from opened i) whole)
      → whole ≡ begun.out ++ (text ++ closings opened)
  all-rest i opened now text end begun = begun.rest ∙ ap (λ (l : List ℕ). begun.out ++ (text ++ l)) (none-left i opened end)

  -- the last text goes out with the ends of the folders, or a part of it
  pub all_out : (i opened : ℕ) (now later : Option (List ℕ)) (text : List ℕ) → length steps ≤ i → IsBegun start now text (left_from opened i) whole
      → Appends now later (text ++ closings opened) → Appends start later whole
  all_out i opened now later text end begun written =
      subst (Appends start later) (sym (all-rest i opened now text end begun)) (Appends-trans start now later begun.out (text ++ closings opened) begun.written written)

  pub last_front : (i opened : ℕ) (now later : Option (List ℕ)) (text : List ℕ) → length steps ≤ i → IsBegun start now text (left_from opened i) whole
      → AppendsFront now later (text ++ closings opened) → AppendsFront start later whole
  last_front i opened now later text end begun part =
      subst (AppendsFront start later) (sym (all-rest i opened now text end begun)) (front_next start now later begun.out (text ++ closings opened) begun.written part)

-- ---- what holds of a result
