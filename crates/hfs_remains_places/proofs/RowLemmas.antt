-- Rows of folders whose paths are not known, and paths that are made.
use Rattle.std.proofs.Common.{◌≡◌, ◌≢◌, ℕ, zero, suc, ◌+◌, ◌-◌, ◌<◌, ◌≤◌, Bool, true, false, List, [], ◌∷◌, ◌++◌, length, set, drop, Option, Some, None, slice_index_or, String, Global, refl, sym, ap, subst, ◌∙◌, arith, inl, inr}
use Rattle.std.specs.Prelude.{string_bytes, IfSome}
use Rattle.std.specs.Option.{is_some}
use Rattle.std.proofs.lemmas.Bool.{cases_lt, cases_eq}
use Rattle.std.proofs.lemmas.List.{get_or_past, get_or_push, get_or_append_left, get_or-set_same, get_or-set_other, length-set, length_push, drop_all, append-nil}
use Rattle.hfs_remains_places.specs.declared.things.Thing.{Thing}
use Rattle.hfs_remains_places.specs.Chains.{place_at, ups_of, steps}
use Rattle.hfs_remains_places.specs.Paths.{path, AreRight, Keeps, IsKnown, IsReady, IsChain, AreWithin, BeginsAt, EndsReady, IsRow}

-- ---- a path that is put down

pub right-set : (things : List Thing) (paths : List (Option (String Global))) (i : ℕ) (text : String Global) → i < length paths → string_bytes text ≡ path things i
    → AreRight things paths → AreRight things (set paths i (Some text))
right-set things paths i text lt is right k =
    elim (cases_eq k i) [
      | inl same ↦
          subst (λ (o : Option (String Global)). IfSome o (λ t. string_bytes t ≡ path things k))
          (sym (ap (λ (n : ℕ). slice_index_or (set paths i (Some text)) n None) same ∙ get_or-set_same paths i (Some text) None lt))
          (is ∙ ap (path things) (sym same))
      | inr other ↦ subst (λ (o : Option (String Global)). IfSome o (λ t. string_bytes t ≡ path things k)) (sym (get_or-set_other paths i k (Some text) None other)) (right k)
    ]

pub known-set : (paths : List (Option (String Global))) (i : ℕ) (text : String Global) → i < length paths → IsKnown (set paths i (Some text)) i
known-set paths i text lt = ap is_some (get_or-set_same paths i (Some text) None lt)

pub keeps-set : (paths : List (Option (String Global))) (i : ℕ) (text : String Global) → i < length paths → Keeps paths (set paths i (Some text))
keeps-set paths i text lt k known =
    elim (cases_eq k i) [
      | inl same ↦ ap (λ (n : ℕ). is_some (slice_index_or (set paths i (Some text)) n None)) same ∙ known-set paths i text lt
      | inr other ↦ ap is_some (get_or-set_other paths i k (Some text) None other) ∙ known
    ]

pub keeps-through : (old mid new : List (Option (String Global))) → Keeps old mid → Keeps mid new → Keeps old new
keeps-through old mid new first second k known = second k (first k known)

pub keeps-same : (paths : List (Option (String Global))) → Keeps paths paths
keeps-same paths k known = known

ready-by : (old new : List (Option (String Global))) → Keeps old new → (o : Option ℕ) → IfSome o (IsKnown old) → IfSome o (IsKnown new)
ready-by old new keeps None ready = tt
ready-by old new keeps (Some p) ready = keeps p ready

pub ready-kept : (things : List Thing) (old new : List (Option (String Global))) (i : ℕ) → Keeps old new → IsReady things old i → IsReady things new i
ready-kept things old new i keeps ready = ready-by old new keeps (place_at (ups_of things) i) ready

-- ---- a row from its last place down

module _ (things : List Thing) (paths : List (Option (String Global))) (row : List ℕ) (x i : ℕ) (is : IsRow things paths (row ++ x ∷ []) i) where
  long : length (row ++ x ∷ []) ≡ length row + 1
  long = length_push row x

  pub last-within : x < length things
  last-within = subst (λ (n : ℕ). n < length things) (get_or_push row x 0 (length row) refl) (is.within (length row) (omega (arith, long)))

  pub last-ready : IsReady things paths x
  last-ready =
      let at : slice_index_or (row ++ x ∷ []) (length (row ++ x ∷ []) - 1) 0 ≡ x = get_or_push row x 0 (length (row ++ x ∷ []) - 1) (omega (arith, long)) in
      subst (IsReady things paths) at (is.ends (omega (arith, long)))

  above-last : 0 < length row → place_at (ups_of things) (slice_index_or row (length row - 1) 0) ≡ Some x
  above-last some =
      let step : length row - 1 + 1 ≡ length row = omega (arith, some) in
      ap (λ (n : ℕ). place_at (ups_of things) n) (sym (get_or_append_left row (x ∷ []) 0 (length row - 1) (omega (arith, some))))
      ∙ is.chain (length row - 1) (omega (arith, long, some))
      ∙ ap (λ (n : ℕ). Some (slice_index_or (row ++ x ∷ []) n 0)) step
      ∙ ap Some (get_or_push row x 0 (length row) refl)

  pub row-left : (new : List (Option (String Global))) → IsKnown new x → IsRow things new row i
  row-left new known = record {
    chain = λ k lt.
        ap (λ (n : ℕ). place_at (ups_of things) n) (sym (get_or_append_left row (x ∷ []) 0 k (omega (arith, lt))))
        ∙ is.chain k (omega (arith, long, lt))
        ∙ ap Some (get_or_append_left row (x ∷ []) 0 (k + 1) lt);
    within = λ k lt. subst (λ (n : ℕ). n < length things) (get_or_append_left row (x ∷ []) 0 k lt) (is.within k (omega (arith, long, lt)));
    begins = (
      (λ none.
          let first : slice_index_or (row ++ x ∷ []) 0 0 ≡ x = get_or_push row x 0 0 none in
          subst (IsKnown new) (sym first ∙ is.begins.1 (omega (arith, long))) known),
      (λ some. sym (get_or_append_left row (x ∷ []) 0 0 some) ∙ is.begins.1 (omega (arith, long))),
    );
    ends = λ some. subst (λ (o : Option ℕ). IfSome o (IsKnown new)) (sym (above-last some)) known;
  }

-- ---- a row that is made

-- the places from one up to this one
pub record LeadsTo (things : List Thing) (row : List ℕ) (i at : ℕ) : Type 0 where
  pub chain : IsChain things row
  pub within : AreWithin (length things) row
  pub first : (length row ≡ 0 → at ≡ i) × (0 < length row → slice_index_or row 0 0 ≡ i)
  pub up : 0 < length row → place_at (ups_of things) (slice_index_or row (length row - 1) 0) ≡ Some at
  pub inside : at < length things

pub leads-none : (things : List Thing) (i : ℕ) → i < length things → LeadsTo things [] i i
leads-none things i lt = record {
  chain = λ k none. absurd (omega (arith, none));
  within = λ k none. absurd (omega (arith, none));
  first = ((λ e. refl), (λ none. absurd (omega (arith, none))));
  up = λ none. absurd (omega (arith, none));
  inside = lt;
}

module _ (things : List Thing) (row : List ℕ) (i at : ℕ) (leads : LeadsTo things row i at) where
  longer : length (row ++ at ∷ []) ≡ length row + 1
  longer = length_push row at

  pub chain-pushed : IsChain things (row ++ at ∷ [])
  chain-pushed k lt =
      elim (cases_lt (k + 1) (length row)) [
        | inl inner ↦
            ap (λ (n : ℕ). place_at (ups_of things) n) (get_or_append_left row (at ∷ []) 0 k (omega (arith, inner)))
            ∙ leads.chain k inner
            ∙ ap Some (sym (get_or_append_left row (at ∷ []) 0 (k + 1) inner))
        | inr last ↦
            let some : 0 < length row = omega (arith, lt, longer, last) in
            let place : k ≡ length row - 1 = omega (arith, lt, longer, last) in
            ap (λ (n : ℕ). place_at (ups_of things) n) (get_or_append_left row (at ∷ []) 0 k (omega (arith, lt, longer)))
            ∙ ap (λ (n : ℕ). place_at (ups_of things) (slice_index_or row n 0)) place
            ∙ leads.up some
            ∙ ap Some (sym (get_or_push row at 0 (k + 1) (omega (arith, lt, longer, last))))
      ]

  pub within-pushed : AreWithin (length things) (row ++ at ∷ [])
  within-pushed k lt =
      elim (cases_lt k (length row)) [
        | inl inner ↦ subst (λ (n : ℕ). n < length things) (sym (get_or_append_left row (at ∷ []) 0 k inner)) (leads.within k inner)
        | inr last ↦ subst (λ (n : ℕ). n < length things) (sym (get_or_push row at 0 k (omega (arith, lt, longer, last)))) leads.inside
      ]

  pub first-pushed : slice_index_or (row ++ at ∷ []) 0 0 ≡ i
  first-pushed =
      elim (cases_lt 0 (length row)) [
        | inl some ↦ get_or_append_left row (at ∷ []) 0 0 some ∙ leads.first.1 some
        | inr none ↦ get_or_push row at 0 0 (omega (arith, none)) ∙ leads.first.0 (omega (arith, none))
      ]

  last-pushed : slice_index_or (row ++ at ∷ []) (length (row ++ at ∷ []) - 1) 0 ≡ at
  last-pushed = get_or_push row at 0 (length (row ++ at ∷ []) - 1) (omega (arith, longer))

  pub leads-on : (p : ℕ) → place_at (ups_of things) at ≡ Some p → p < length things → LeadsTo things (row ++ at ∷ []) i p
  leads-on p up below = record {
    chain = chain-pushed;
    within = within-pushed;
    first = ((λ none. absurd (omega (arith, none, longer))), (λ some. first-pushed));
    up = λ some. ap (λ (n : ℕ). place_at (ups_of things) n) last-pushed ∙ up;
    inside = below;
  }

  pub row-at-known : (paths : List (Option (String Global))) → IsKnown paths at → IsRow things paths row i
  row-at-known paths known = record {
    chain = leads.chain;
    within = leads.within;
    begins = ((λ none. subst (IsKnown paths) (leads.first.0 none) known), leads.first.1);
    ends = λ some. subst (λ (o : Option ℕ). IfSome o (IsKnown paths)) (sym (leads.up some)) known;
  }

  pub row-at-top : (paths : List (Option (String Global))) → place_at (ups_of things) at ≡ None → IsRow things paths (row ++ at ∷ []) i
  row-at-top paths up = record {
    chain = chain-pushed;
    within = within-pushed;
    begins = ((λ none. absurd (omega (arith, none, longer))), (λ some. first-pushed));
    ends = λ some. subst (λ (o : Option ℕ). IfSome o (IsKnown paths)) (sym (ap (λ (n : ℕ). place_at (ups_of things) n) last-pushed ∙ up)) tt;
  }

-- ---- paths that are none

pub right-none : (things : List Thing) (paths : List (Option (String Global))) → ((i : ℕ) → slice_index_or paths i None ≡ None) → AreRight things paths
right-none things paths none i = subst (λ (o : Option (String Global)). IfSome o (λ t. string_bytes t ≡ path things i)) (sym (none i)) tt

no-path-pushed : (paths : List (Option (String Global))) → ((i : ℕ) → slice_index_or paths i None ≡ None) → (i : ℕ) → slice_index_or (paths ++ None ∷ []) i None ≡ None
no-path-pushed [] none zero = refl
no-path-pushed [] none (suc i) = refl
no-path-pushed (p ∷ ps) none zero = none zero
no-path-pushed (p ∷ ps) none (suc i) = no-path-pushed ps (λ k. none (suc k)) i

pub no-path-push : (paths new : List (Option (String Global))) → new ≡ paths ++ None ∷ [] → ((i : ℕ) → slice_index_or paths i None ≡ None) → (i : ℕ) → slice_index_or new i None ≡ None
no-path-push paths new is none i = ap (λ (l : List (Option (String Global))). slice_index_or l i None) is ∙ no-path-pushed paths none i

-- what is written over all of a list
pub whole-is : (new old : List (Option (String Global))) → length new ≡ length old → new ++ drop (length new) old ≡ new
whole-is new old same = ap (λ (l : List (Option (String Global))). new ++ l) (drop_all (length new) old (omega (arith, same))) ∙ append-nil new
