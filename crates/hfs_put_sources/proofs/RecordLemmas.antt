-- All records of a text, one after the other.
use Rattle.std.proofs.Common.{◌≡◌, ◌∙◌, sym, ap, refl, ℕ, zero, suc, ◌+◌, ◌<◌, ◌⊎◌, inl, inr, Bool, true, false, cond, List, [], ◌∷◌, ◌++◌, length, Some, None, arith}
use Rattle.csv.specs.Machine.{Read, ends_at_end, field_after, fields_after, is_end, next_record, step}
use Rattle.csv.specs.Reading.{Reached, default_config, records, records_from}
use Rattle.csv.specs.declared.parser.Config.{Config}
use Rattle.csv.specs.declared.parser.State.{State}
use Rattle.csv.specs.declared.parser.State.TheVariants as st

some≢none : {A : Type 0} {a : A} → Some a ≡ None → ⊥
some≢none e = cc e

some-inj : (a b : Read) → Some a ≡ Some b → a ≡ b
some-inj a b e = cc e

-- a record takes some of the bytes, or there were none
abbrev pub Takes : List ℕ → Read → Type 0
Takes xs p = (length p.2 < length xs) ⊎ ((p.2 ≡ []) × (p.1 ≡ st.StartRecord))

takes : (cfg : Config) (s : State) (fields : List (List ℕ)) (field xs : List ℕ) (p : Read) → next_record cfg s fields field xs ≡ Some p → Takes xs p
unfolding next_record
takes cfg s fields field [] p is = by (ends_at_end s) is
  where
    by : (b : Bool) → cond b (Some (fields ++ (field ∷ []), st.StartRecord, [])) None ≡ Some p → Takes [] p
    by true e = inr (ap (λ (q : Read). q.2) (sym (some-inj _ p e)), ap (λ (q : Read). q.1) (sym (some-inj _ p e)))
    by false e = absurd (some≢none (sym e))
takes cfg s fields field (c ∷ rest) p is =
    by (is_end (step cfg s c).1) (takes cfg (step cfg s c).0 (fields_after (step cfg s c).1 fields field) (field_after (step cfg s c).1 c field) rest p) is
  where
    by : (b : Bool)
        → (next_record cfg (step cfg s c).0 (fields_after (step cfg s c).1 fields field) (field_after (step cfg s c).1 c field) rest ≡ Some p → Takes rest p)
        → cond b (Some (fields_after (step cfg s c).1 fields field, (step cfg s c).0, rest))
        (next_record cfg (step cfg s c).0 (fields_after (step cfg s c).1 fields field) (field_after (step cfg s c).1 c field) rest) ≡ Some p
        → Takes (c ∷ rest) p
    by true behind_it e =
        let behind : p.2 ≡ rest = ap (λ (q : Read). q.2) (sym (some-inj _ p e)) in
        inl (omega (arith, ap length behind))
    by false behind_it e = elim (behind_it e) [
      | inl fewer ↦ inl (omega (arith, fewer))
      | inr none ↦ inl (omega (arith, ap length none.0))
    ]

-- behind the end of a text there is none
ended : (cfg : Config) (n : ℕ) → records_from cfg n st.StartRecord [] ≡ []
unfolding next_record records_from
ended cfg zero = refl
ended cfg (suc n) = refl

none-behind : (cfg : Config) (rows : List (List (List ℕ))) (s : State) (ys : List ℕ) → Reached cfg st.StartRecord [] rows s ys → rows ≡ []
unfolding Reached next_record
none-behind cfg [] s ys reached = refl
none-behind cfg (row ∷ rows) s ys reached = absurd (some≢none (sym reached.1))

records-reached : (cfg : Config) (rows : List (List (List ℕ))) (n : ℕ) (s s2 : State) (xs ys : List ℕ) → length xs < n → Reached cfg s xs rows s2 ys
    → next_record cfg s2 [] [] ys ≡ None → records_from cfg n s xs ≡ rows
unfolding records_from Reached
records-reached cfg rows zero s s2 xs ys fits reached end = absurd (omega (arith, fits))
records-reached cfg [] (suc n) s s2 xs ys fits reached end =
    let none : next_record cfg s [] [] xs ≡ None = (λ t. next_record cfg (reached.0 t) [] [] (reached.1 t)) ∙ end in
    rw none refl
records-reached cfg (row ∷ rows) (suc n) s s2 xs ys fits reached end =
    let p = reached.0 in
    rw (reached.1, reached.2) (ap (λ (l : List (List (List ℕ))). p.0 ∷ l) (elim (takes cfg s [] [] xs p reached.1) [
      | inl fewer ↦ records-reached cfg rows n p.1 s2 p.2 ys (omega (arith, fits, fewer)) reached.3 end
      | inr none ↦
          let at : Reached cfg st.StartRecord [] rows s2 ys = rw (none.0, none.1) at reached.3 in
          (λ t. records_from cfg n (none.1 t) (none.0 t)) ∙ ended cfg n ∙ sym (none-behind cfg rows s2 ys at)
    ]))

-- what was read up to the end are the records
pub all-records : (rows : List (List (List ℕ))) (s : State) (text ys : List ℕ) → Reached default_config st.StartRecord text rows s ys
    → next_record default_config s [] [] ys ≡ None → records default_config text ≡ rows
all-records rows s text ys reached end = records-reached default_config rows (length text + 1) st.StartRecord s text ys (omega arith) reached end
