-- Steps up a chain of parents.
use Rattle.std.proofs.Common.{◌≡◌, ℕ, zero, suc, ◌+◌, ◌*◌, ◌^◌, ◌<◌, ◌≤◌, Bool, true, false, List, [], length, map, Option, Some, None, slice_index_or, refl, sym, ap, ◌∙◌, arith, inl, inr}
use Rattle.std.specs.List.{range_with_len}
use Rattle.std.specs.Option.{option_and_then, is_some}
use Rattle.std.proofs.lemmas.Bool.{cases_lt, true≢false}
use Rattle.std.proofs.lemmas.List.{get_or_past, get_or-map, length-map}
use Rattle.std.proofs.lemmas.List.FromFn.{get_or-map-range_with_len, length-map-range_with_len}
use Rattle.std.proofs.lemmas.Nat.{pow-add}
use Rattle.hfs_remains_places.specs.declared.things.Thing.{Thing}
use Rattle.hfs_remains_places.specs.Things.{folder_of}
use Rattle.hfs_remains_places.specs.Folders.{thing_at, nothing}
use Rattle.hfs_remains_places.specs.Chains.{place_at, ups_of, steps, is_endless, endless_of, twice, LeadBy}

pub steps-zero : (ups : List (Option ℕ)) (i : ℕ) → steps ups zero i ≡ Some i
unfolding steps
steps-zero ups i = refl

pub steps-suc : (ups : List (Option ℕ)) (k i : ℕ) → steps ups (suc k) i ≡ option_and_then (steps ups k) (place_at ups i)
unfolding steps
steps-suc ups k i = refl

pub steps-one : (ups : List (Option ℕ)) (i : ℕ) → steps ups 1 i ≡ place_at ups i
steps-one ups i = steps-suc ups 0 i ∙ by (place_at ups i)
  where
    by : (o : Option ℕ) → option_and_then (steps ups 0) o ≡ o
    by None = refl
    by (Some j) = steps-zero ups j

pub steps-add : (ups : List (Option ℕ)) (a b i : ℕ) → steps ups (a + b) i ≡ option_and_then (steps ups b) (steps ups a i)
steps-add ups zero b i =
    let same : zero + b ≡ b = omega arith in
    ap (λ (n : ℕ). steps ups n i) same ∙ ap (option_and_then (steps ups b)) (sym (steps-zero ups i))
steps-add ups (suc a) b i =
    let more : suc a + b ≡ suc (a + b) = omega arith in
    ap (λ (n : ℕ). steps ups n i) more ∙ steps-suc ups (a + b) i ∙ by (λ j. steps-add ups a b j) (place_at ups i) ∙ ap (option_and_then (steps ups b)) (sym (steps-suc ups a i))
  where
    by : ((j : ℕ) → steps ups (a + b) j ≡ option_and_then (steps ups b) (steps ups a j))
        → (o : Option ℕ) → option_and_then (steps ups (a + b)) o ≡ option_and_then (steps ups b) (option_and_then (steps ups a) o)
    by fewer None = refl
    by fewer (Some j) = fewer j

-- no steps lead to where one is
pub steps-left-none : (ups : List (Option ℕ)) (n i : ℕ) → n ≤ 0 → steps ups n i ≡ None → ⊥
steps-left-none ups zero i none ended = let here : Some i ≡ None = sym (steps-zero ups i) ∙ ended in cc
steps-left-none ups (suc n) i none ended = absurd (omega (arith, none))

-- one step fewer from the place above
pub steps-left : (ups : List (Option ℕ)) (k i p : ℕ) → place_at ups i ≡ Some p → steps ups (suc k) i ≡ None → steps ups k p ≡ None
steps-left ups k i p up ended = sym (steps-suc ups k i ∙ ap (option_and_then (steps ups k)) up) ∙ ended

pub steps-none : (ups : List (Option ℕ)) (n i : ℕ) → 0 < n → place_at ups i ≡ None → steps ups n i ≡ None
steps-none ups zero i some up = absurd (omega arith)
steps-none ups (suc k) i some up = steps-suc ups k i ∙ ap (option_and_then (steps ups k)) up

-- ---- twice as many

twice-past : (jumps : List (Option ℕ)) (i : ℕ) → length jumps ≤ i → twice jumps i ≡ None
twice-past jumps i past = ap (option_and_then (place_at jumps)) (get_or_past jumps i None past)

made-at : (jumps made : List (Option ℕ)) → made ≡ map (twice jumps) (range_with_len 0 (length jumps)) → (i : ℕ) → place_at made i ≡ twice jumps i
made-at jumps made is i =
    elim (cases_lt i (length jumps)) [
      | inl lt ↦ ap (λ (l : List (Option ℕ)). place_at l i) is ∙ get_or-map-range_with_len (twice jumps) 0 (length jumps) i i None lt (omega arith)
      | inr ge ↦
          ap (λ (l : List (Option ℕ)). place_at l i) is
          ∙ get_or_past (map (twice jumps) (range_with_len 0 (length jumps))) i None (omega (arith, length-map-range_with_len (twice jumps) 0 (length jumps)))
          ∙ sym (twice-past jumps i ge)
    ]

pub lead-twice : (ups jumps made : List (Option ℕ)) (k : ℕ) → made ≡ map (twice jumps) (range_with_len 0 (length jumps)) → LeadBy k ups jumps → LeadBy (k + k) ups made
lead-twice ups jumps made k is lead i =
    made-at jumps made is i
    ∙ (λ t. option_and_then (λ j. lead j t) (lead i t))
    ∙ sym (steps-add ups k k i)

pub lead-more : (ups jumps made : List (Option ℕ)) (bits : ℕ) → made ≡ map (twice jumps) (range_with_len 0 (length jumps)) → LeadBy (2 ^ bits) ups jumps → LeadBy (2 ^ (bits + 1)) ups made
lead-more ups jumps made bits is lead i =
    let power : 2 ^ (bits + 1) ≡ 2 ^ bits * 2 = pow-add 2 bits 1 in
    let double : 2 ^ bits + 2 ^ bits ≡ 2 ^ (bits + 1) = omega (arith, power) in
    lead-twice ups jumps made (2 ^ bits) is lead i ∙ ap (λ (n : ℕ). steps ups n i) double

pub lead-first : (ups jumps : List (Option ℕ)) → jumps ≡ ups → LeadBy 1 ups jumps
lead-first ups jumps is i = ap (λ (l : List (Option ℕ)). place_at l i) is ∙ sym (steps-one ups i)

-- ---- no end

pub endless-is : (ups jumps : List (Option ℕ)) → LeadBy (2 ^ 32) ups jumps → (i : ℕ) → is_some (place_at jumps i) ≡ is_endless ups i
unfolding is_endless
endless-is ups jumps lead i = ap is_some (lead i)

pub none-where : (o : Option ℕ) → is_some o ≡ false → o ≡ None
none-where None e = refl
none-where (Some n) e = cc

pub ended-is : (ups : List (Option ℕ)) (i : ℕ) → is_endless ups i ≡ false → steps ups (2 ^ 32) i ≡ None
unfolding is_endless
ended-is ups i e = none-where (steps ups (2 ^ 32) i) e

pub endless-up : (ups : List (Option ℕ)) (i : ℕ) → is_endless ups i ≡ true → place_at ups i ≡ None → ⊥
unfolding is_endless
endless-up ups i e up =
    let none : steps ups (2 ^ 32) i ≡ None = steps-none ups (2 ^ 32) i (omega arith) up in
    true≢false (sym e ∙ ap is_some none)

-- ---- the place above a thing

pub length-ups : (things : List Thing) → length (ups_of things) ≡ length things
unfolding ups_of
length-ups things = length-map things (λ thing. folder_of things thing.parent)

pub up-of : (things : List Thing) (i : ℕ) → i < length things → place_at (ups_of things) i ≡ folder_of things (thing_at things i).parent
unfolding ups_of
up-of things i within = get_or-map (λ (thing : Thing). folder_of things thing.parent) things i nothing None within

pub endless-at : (ups : List (Option ℕ)) (marks : List Bool) (i : ℕ) (d : Bool) → marks ≡ endless_of ups → i < length ups → slice_index_or marks i d ≡ is_endless ups i
endless-at ups marks i d is within = ap (λ (l : List Bool). slice_index_or l i d) is ∙ get_or-map-range_with_len (is_endless ups) 0 (length ups) i i d within (omega arith)

pub length-endless : (ups : List (Option ℕ)) → length (endless_of ups) ≡ length ups
length-endless ups = length-map-range_with_len (is_endless ups) 0 (length ups)
