-- The places that a removal goes to, each of which was found on the way.
use Rattle.std.proofs.Common.{◌≡◌, ◌≢◌, ℕ, ◌<◌, List, [], ◌∷◌, ◌++◌, Some, ◌⊎◌, refl, sym, ap, ◌∙◌, subst, append_assoc, inl, inr, length, arith}
use Rattle.std.specs.Prelude.{⊤, String, string_bytes}
use Rattle.hfs_bag.specs.Laws.{AreParts}
use Rattle.hfs_bag.specs.ShelfPaths.{path_within}
use Rattle.hfs_bag.specs.SystemSteps.{SystemStep, done, found_folder, removed_folder}
use Rattle.hfs_bag.specs.Removals.{AreSteps, FailsAt, HasSince, IsFolderOrBelow, IsFolderOrFound, IsFoundBy, IsTakenAway, RemovesIn}
use Rattle.hfs_bag.specs.Tries.{HasFoundNext, HasNextPlace, HasRemoved, IsAround, path_below, place_at}
use Rattle.hfs_bag.proofs.PlaceLemmas.{inner_of, longer, place_below_folder, place_is, place_of}
use Rattle.hfs_bag.proofs.RemovalLemmas.{Empties, both, emptied_only, emptied_since, emptied_to_part, emptied_to_since, since_trans, since_within, steps_within}

-- each folder on the way was found by these steps, and is not removed
abbrev pub AreFound : List ℕ → List SystemStep → List (List ℕ) → Type 0
AreFound folder since [] = ⊤
AreFound folder since (name ∷ above) = IsFoundBy since (place_of folder (name ∷ above)) × AreFound folder since above

-- the way to what is at a path in a folder
pub record IsReached (folder inner : List ℕ) (old new : List SystemStep) : Type 0 where
  pub names : List (List ℕ)
  pub parts : AreParts names
  pub inner_is : inner ≡ inner_of names
  pub since : List SystemStep
  pub whole : new ≡ since ++ old
  pub removes : AreSteps (RemovesIn folder) since
  pub found : AreFound folder since names

-- the way to the folder itself
pub reached_first : (folder : List ℕ) (old : List SystemStep) → IsReached folder [] old old
reached_first folder old = record { names = []; parts = tt; inner_is = refl; since = []; whole = refl; removes = tt; found = tt }

found_still : (folder path : List ℕ) (more since : List SystemStep) → AreSteps (Empties folder) more → IsFoundBy since path → IsFoundBy (more ++ since) path
found_still folder path [] since each there = there
found_still folder path (step ∷ more) since each there = inr (each.0.1 path, found_still folder path more since each.1 there)

are_still : (folder place : List ℕ) (more since : List SystemStep) (names : List (List ℕ)) → AreSteps (Empties place) more → AreFound folder since names → AreFound folder (more ++ since) names
are_still folder place more since [] each found = tt
are_still folder place more since (name ∷ above) each found =
    (found_still place (place_of folder (name ∷ above)) more since each found.0, are_still folder place more since above each found.1)

are_next : (folder : List ℕ) (step : SystemStep) (since : List SystemStep) (names : List (List ℕ)) → ((path : List ℕ) → step ≢ done (removed_folder path)) → AreFound folder since names
    → AreFound folder (step ∷ since) names
are_next folder step since [] other found = tt
are_next folder step since (name ∷ above) other found = (inr (other (place_of folder (name ∷ above)), found.0), are_next folder step since above other found.1)

-- a folder further down was removed
are_above : (folder place : List ℕ) (since : List SystemStep) (names : List (List ℕ)) → length (place_of folder names) < length place → AreFound folder since names
    → AreFound folder (done (removed_folder place) ∷ since) names
are_above folder place since [] shorter found = tt
are_above folder place since (name ∷ above) shorter found =
    (inr (other, found.0), are_above folder place since above (omega (arith, longer (place_of folder above) name, shorter)) found.1)
  where
    other : done (removed_folder place) ≢ done (removed_folder (place_of folder (name ∷ above)))
    other e = let same : place ≡ place_of folder (name ∷ above) = cc e in absurd (omega (arith, shorter, ap (length {A = ℕ}) same))

module _ (folder inner : List ℕ) (old mid : List SystemStep) (way : IsReached folder inner old mid) where
  pub reached_since : HasSince (RemovesIn folder) old mid
  reached_since = record { since = way.since; whole = way.whole; each = way.removes }

  at_place : place_at folder inner ≡ place_of folder way.names
  at_place = ap (place_at folder) way.inner_is ∙ place_is folder way.names way.parts

  pub reached_below : IsFolderOrBelow folder (place_at folder inner)
  reached_below = subst (IsFolderOrBelow folder) (sym at_place) (place_below_folder folder way.names way.parts)

  -- memory was refused there
  pub reached_refused : (new : List SystemStep) → HasSince (RemovesIn (place_at folder inner)) mid new → HasSince (RemovesIn folder) old new
  reached_refused new more = since_trans (RemovesIn folder) old mid new reached_since (since_within folder (place_at folder inner) mid new reached_below more)

  found_there : (names : List (List ℕ)) → AreParts names → AreFound folder way.since names → IsFolderOrFound folder (place_of folder names) old mid
  found_there [] parts found = inl refl
  found_there (name ∷ above) parts found = by_place (place_below_folder folder (name ∷ above) parts)
    where
      by_place : IsFolderOrBelow folder (place_of folder (name ∷ above)) → IsFolderOrFound folder (place_of folder (name ∷ above)) old mid
      by_place (inl same) = inl same
      by_place (inr below) = inr (below.0, below.1, below.2, record { since = way.since; whole = way.whole; found = found.0 })

  -- it ends there
  pub reached_end : (new : List SystemStep) → ((inner ≡ []) × HasRemoved folder mid new) ⊎ FailsAt (place_at folder inner) mid new → IsTakenAway folder old new
  reached_end new (inl gone) = record {
    before = gone.1.0;
    removes = since_trans (RemovesIn folder) old mid gone.1.0 reached_since (emptied_only folder mid gone.1.0 (emptied_since folder mid gone.1.0 gone.1.1));
    ends = inl gone.1.2;
  }
  reached_end new (inr fails) = record {
    before = mid;
    removes = reached_since;
    ends = inr (place_at folder inner, subst (λ (p : List ℕ). IsFolderOrFound folder p old mid) (sym at_place) (found_there way.names way.parts way.found), fails);
  }

  -- it goes on
  reached_down : (new : List SystemStep) (next : List ℕ) → HasFoundNext folder inner next mid new → IsReached folder next old new
  reached_down new next (name, next_is, emptied, h, is) =
      let place = place_at folder inner in
      let more = emptied_to_since place name mid emptied h in
      let below = steps_within folder place more.since reached_below more.each in
      let same : path_within place name ≡ path_within (place_of folder way.names) name = ap (λ (p : List ℕ). path_within p name) at_place in
      record {
        names = name ∷ way.names;
        parts = (emptied_to_part place name mid emptied h, way.parts);
        inner_is = next_is ∙ ap (λ (p : List ℕ). path_below p name) way.inner_is;
        since = done (found_folder (path_within place name)) ∷ more.since ++ way.since;
        whole = is ∙ ap (λ (steps : List SystemStep). done (found_folder (path_within place name)) ∷ steps)
            (more.whole ∙ ap (λ (steps : List SystemStep). more.since ++ steps) way.whole ∙ sym (append_assoc more.since way.since old));
        removes = (tt, both (RemovesIn folder) more.since way.since below way.removes);
        found = (
          inl (ap (λ (p : List ℕ). done (found_folder p)) same),
          are_next folder (done (found_folder (path_within place name))) (more.since ++ way.since) way.names (λ path e. absurd (cc e))
              (are_still folder place more.since way.since way.names more.each way.found),
        );
      }

  reached_up : (new : List SystemStep) (next : List ℕ) → HasRemoved (place_at folder inner) mid new → IsAround inner next → IsReached folder next old new
  reached_up new next (emptied, h, is) around =
      let place = place_at folder inner in
      let more = emptied_since place mid emptied h in
      let below = steps_within folder place more.since reached_below more.each in
      let found = are_still folder place more.since way.since way.names more.each way.found in
      let up = upper way.names way.parts way.inner_is (more.since ++ way.since) at_place found in
      record {
        names = up.0;
        parts = up.1;
        inner_is = up.2;
        since = done (removed_folder place) ∷ more.since ++ way.since;
        whole = is ∙ ap (λ (steps : List SystemStep). done (removed_folder place) ∷ steps)
            (more.whole ∙ ap (λ (steps : List SystemStep). more.since ++ steps) way.whole ∙ sym (append_assoc more.since way.since old));
        removes = (reached_below, both (RemovesIn folder) more.since way.since below way.removes);
        found = up.3;
      }
    where
      upper : (names : List (List ℕ)) → AreParts names → inner ≡ inner_of names → (since : List SystemStep) → place_at folder inner ≡ place_of folder names → AreFound folder since names
          → (up : List (List ℕ)) × AreParts up × (next ≡ inner_of up) × AreFound folder (done (removed_folder (place_at folder inner)) ∷ since) up
      upper [] parts inner_is since at found = ([], tt, around [] [] tt inner_is, tt)
      upper (name ∷ above) parts inner_is since at found = (
        above,
        parts.1,
        around (inner_of above) name parts.0.no_slash inner_is,
        are_above folder (place_at folder inner) since above (subst (λ (p : List ℕ). length (place_of folder above) < length p) (sym at) (longer (place_of folder above) name)) found.1,
      )

  pub reached_next : {Z : Type 0} (new : List SystemStep) (next : String Z) → HasNextPlace folder inner mid new (Some next) → IsReached folder (string_bytes next) old new
  reached_next new next (inl down) = reached_down new (string_bytes next) down
  reached_next new next (inr up) = reached_up new (string_bytes next) up.0 up.1
