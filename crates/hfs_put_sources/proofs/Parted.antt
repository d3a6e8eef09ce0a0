-- How a reader of CSV parts the line of an item.
use Rattle.std.proofs.Common.{◌≡◌, ◌∙◌, sym, ap, refl, ℕ, Bool, true, false, ◌||◌, List, [], ◌∷◌, ◌++◌, drop, map, Some, codes, append_assoc, inl, inr}
use Rattle.std.specs.Prelude.{◌==◌, if◌then◌else◌, flat_map}
use Rattle.std.specs.List.{list_any, join_by}
use Rattle.std.proofs.lemmas.Bool.{cases_Bool, and_parts, eqb-true, not-true}
use Rattle.csv.specs.Machine.{next_record}
use Rattle.csv.specs.Reading.{default_config}
use Rattle.csv.specs.Writing.{default_writer, escaped, field_text, needs_byte}
use Rattle.csv.specs.declared.parser.State.TheVariants as st
use Rattle.csv.proofs.RoundTrip.{field-run, record-same}
use Rattle.hfs_table.specs.Lines.{csv_field, doubled, is_quoted_for}
use Rattle.hfs_put_sources.proofs.Clean.{are_clean, is_clean}

-- ---- a field as the kit's writer has it

no-more : (a : Bool) → ((((a || (false || false)) || false) || false)) ≡ a
no-more true = refl
no-more false = refl

quoted-same : (b : ℕ) → is_clean b ≡ true → is_quoted_for b ≡ needs_byte default_writer b
unfolding is_clean is_quoted_for
quoted-same b h =
    let two = and_parts _ _ h in
    sym (ap (λ x. ((((b == 44) || (b == 34)) || ((b == 13) || x)) || false) || false) (not-true _ two.0)
    ∙ ap (λ x. ((((b == 44) || (b == 34)) || (x || false)) || false) || false) (not-true _ two.1)
    ∙ no-more ((b == 44) || (b == 34)))

any-same : (xs : List ℕ) → are_clean xs ≡ true → list_any is_quoted_for xs ≡ list_any (needs_byte default_writer) xs
any-same [] h = refl
any-same (b ∷ xs) h =
    let two = and_parts _ _ h in
    λ i. quoted-same b two.0 i || any-same xs two.1 i

doubled-same : (xs : List ℕ) → flat_map doubled xs ≡ escaped default_writer xs
unfolding doubled escaped
doubled-same [] = refl
doubled-same (b ∷ xs) = elim (cases_Bool (b == 34)) [
  | inl is ↦
      ap (λ t. (if t then 34 ∷ 34 ∷ [] else b ∷ []) ++ flat_map doubled xs) is
      ∙ (λ i. 34 ∷ sym (eqb-true b 34 is) i ∷ doubled-same xs i)
      ∙ sym (ap (λ t. if t then 34 ∷ b ∷ escaped default_writer xs else b ∷ escaped default_writer xs) is)
  | inr other ↦
      ap (λ t. (if t then 34 ∷ 34 ∷ [] else b ∷ []) ++ flat_map doubled xs) other
      ∙ (λ i. b ∷ doubled-same xs i)
      ∙ sym (ap (λ t. if t then 34 ∷ b ∷ escaped default_writer xs else b ∷ escaped default_writer xs) other)
]

field-same : (xs : List ℕ) → are_clean xs ≡ true → csv_field xs ≡ field_text default_writer xs
unfolding csv_field
field-same xs h = λ i. if any-same xs h i then 34 ∷ (doubled-same xs i ++ (34 ∷ [])) else xs

-- ---- a record

end-field : (fields : List (List ℕ)) (x u : List ℕ)
    → next_record default_config st.InField fields x (44 ∷ u) ≡ next_record default_config st.StartField (fields ++ (x ∷ [])) [] u
unfolding next_record
end-field fields x u = refl

end-record : (fields : List (List ℕ)) (x u : List ℕ) → next_record default_config st.InField fields x (13 ∷ u) ≡ Some (fields ++ (x ∷ []), st.AfterCr, u)
unfolding next_record
end-record fields x u = refl

pub next-line : (rest : List ℕ) → next_record default_config st.AfterCr [] [] (10 ∷ rest) ≡ next_record default_config st.StartRecord [] [] rest
unfolding next_record
next-line rest = refl

first-same : (xs tail : List ℕ) → are_clean xs ≡ true
    → next_record default_config st.StartRecord [] [] (field_text default_writer xs ++ (44 ∷ tail))
    ≡ next_record default_config st.StartField [] [] (field_text default_writer xs ++ (44 ∷ tail))
unfolding is_clean
first-same [] tail h = record-same [] [] 44 tail refl refl
first-same (b ∷ rest) tail h =
    let clean = and_parts _ _ (and_parts _ _ h).0 in
    elim (cases_Bool (list_any (needs_byte default_writer) (b ∷ rest))) [
      | inl needs ↦ rw needs (record-same [] [] 34 _ refl refl)
      | inr plain ↦ rw plain (record-same [] [] b (rest ++ (44 ∷ tail)) (not-true _ clean.1) (not-true _ clean.0))
    ]

module _ {X : Type 0} (g : X → List ℕ) (clean : (c : X) → are_clean (g c) ≡ true) where
  f : X → List ℕ
  f c = codes "," ++ csv_field (g c)

  starts : (cs : List X) (u : List ℕ) → flat_map f cs ++ (44 ∷ u) ≡ 44 ∷ drop 1 (flat_map f cs ++ (44 ∷ u))
  unfolding f
  starts [] u = refl
  starts (c ∷ cs) u = refl

  more-run : (fields : List (List ℕ)) (x : List ℕ) (cs : List X) (y rest : List ℕ) → are_clean y ≡ true
      → next_record default_config st.InField fields x (flat_map f cs ++ (44 ∷ (csv_field y ++ (13 ∷ 10 ∷ rest))))
      ≡ Some (fields ++ (x ∷ (map g cs ++ (y ∷ []))), st.AfterCr, 10 ∷ rest)
  unfolding f
  more-run fields x [] y rest k =
      end-field fields x (csv_field y ++ (13 ∷ 10 ∷ rest))
      ∙ ap (λ (t : List ℕ). next_record default_config st.StartField (fields ++ (x ∷ [])) [] (t ++ (13 ∷ 10 ∷ rest))) (field-same y k)
      ∙ field-run (fields ++ (x ∷ [])) y 13 (10 ∷ rest) refl
      ∙ end-record (fields ++ (x ∷ [])) y (10 ∷ rest)
      ∙ ap (λ (l : List (List ℕ)). Some (l, st.AfterCr, 10 ∷ rest)) (append_assoc fields (x ∷ []) (y ∷ []))
  more-run fields x (c ∷ cs) y rest k =
      let u : List ℕ = csv_field y ++ (13 ∷ 10 ∷ rest) in
      let tail : List ℕ = flat_map f cs ++ (44 ∷ (csv_field y ++ (13 ∷ 10 ∷ rest))) in
      end-field fields x ((csv_field (g c) ++ flat_map f cs) ++ (44 ∷ (csv_field y ++ (13 ∷ 10 ∷ rest))))
      ∙ ap (λ (t : List ℕ). next_record default_config st.StartField (fields ++ (x ∷ [])) [] t) (append_assoc (csv_field (g c)) (flat_map f cs) (44 ∷ (csv_field y ++ (13 ∷ 10 ∷ rest))))
      ∙ (λ i. next_record default_config st.StartField (fields ++ (x ∷ [])) [] (field-same (g c) (clean c) i ++ starts cs (csv_field y ++ (13 ∷ 10 ∷ rest)) i))
      ∙ field-run (fields ++ (x ∷ [])) (g c) 44 (drop 1 (flat_map f cs ++ (44 ∷ (csv_field y ++ (13 ∷ 10 ∷ rest))))) refl
      ∙ ap (λ (t : List ℕ). next_record default_config st.InField (fields ++ (x ∷ [])) (g c) t) (sym (starts cs (csv_field y ++ (13 ∷ 10 ∷ rest))))
      ∙ more-run (fields ++ (x ∷ [])) (g c) cs y rest k
      ∙ ap (λ (l : List (List ℕ)). Some (l, st.AfterCr, 10 ∷ rest)) (append_assoc fields (x ∷ []) (g c ∷ (map g cs ++ (y ∷ []))))

  -- fields of which there are two and more
  pub line-run : (c : X) (cs : List X) (y rest : List ℕ) → are_clean y ≡ true
      → next_record default_config st.StartRecord [] [] ((join_by (λ c. csv_field (g c)) (codes ",") (c ∷ cs) ++ (codes "," ++ csv_field y ++ codes "\r\n")) ++ rest)
      ≡ Some (map g (c ∷ cs) ++ (y ∷ []), st.AfterCr, 10 ∷ rest)
  unfolding f
  line-run c cs y rest k =
      let u : List ℕ = 44 ∷ (csv_field y ++ (13 ∷ 10 ∷ rest)) in
      let whole : (join_by (λ c. csv_field (g c)) (codes ",") (c ∷ cs) ++ (codes "," ++ csv_field y ++ codes "\r\n")) ++ rest
      ≡ csv_field (g c) ++ (flat_map f cs ++ (44 ∷ (csv_field y ++ (13 ∷ 10 ∷ rest)))) =
      append_assoc (csv_field (g c) ++ flat_map f cs) (44 ∷ (csv_field y ++ (13 ∷ 10 ∷ []))) rest
      ∙ ap (λ (t : List ℕ). (csv_field (g c) ++ flat_map f cs) ++ (44 ∷ t)) (append_assoc (csv_field y) (13 ∷ 10 ∷ []) rest)
      ∙ append_assoc (csv_field (g c)) (flat_map f cs) (44 ∷ (csv_field y ++ (13 ∷ 10 ∷ rest))) in
      ap (λ (t : List ℕ). next_record default_config st.StartRecord [] [] t) whole
      ∙ (λ i. next_record default_config st.StartRecord [] [] (field-same (g c) (clean c) i ++ starts cs (csv_field y ++ (13 ∷ 10 ∷ rest)) i))
      ∙ first-same (g c) (drop 1 (flat_map f cs ++ (44 ∷ (csv_field y ++ (13 ∷ 10 ∷ rest))))) (clean c)
      ∙ field-run [] (g c) 44 (drop 1 (flat_map f cs ++ (44 ∷ (csv_field y ++ (13 ∷ 10 ∷ rest))))) refl
      ∙ ap (λ (t : List ℕ). next_record default_config st.InField [] (g c) t) (sym (starts cs (csv_field y ++ (13 ∷ 10 ∷ rest))))
      ∙ more-run [] (g c) cs y rest k
