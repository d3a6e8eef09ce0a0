-- One call more keeps the headline.
use Rattle.std.proofs.Common.{◌≡◌, ◌≢◌, ◌⊎◌, ℕ, ◌+◌, ◌-◌, ◌<◌, ◌≤◌, ◌==◌, ◌&&◌, Bool, true, false, cond, pos, List, [], ◌∷◌, ◌++◌, length, refl, sym, ap, ◌∙◌, subst, inl, inr, ⊎_elim, arith}
use Rattle.std.specs.Prelude.{leb, slice_index, slice_set}
use Rattle.std.proofs.lemmas.List.{length-set, get_or-set_same, get_or-set_other}
use Rattle.std.proofs.lemmas.List.Sums.{sum_by-append}
use Rattle.std.proofs.lemmas.Bool.Decides.{nat_tests}
use Rattle.hfs_model.specs.declared.call.Call.{Call}
use Rattle.hfs_model.specs.declared.reply.Reply.{Reply}
use Rattle.hfs_model.specs.declared.journal.Entry.{Entry}
use Rattle.hfs_model.specs.Volume.{Volume}
use Rattle.hfs_model.specs.Runs.{after, after_entry}
use Rattle.hfs_model.specs.Laws.{StepIsNeverFull}
use Rattle.hfs_check.specs.Agree.{AgreesBut}
use Rattle.hfs_check.specs.Sound.{IsSound}
use Rattle.hfs_check.specs.VolumeOf.{volume_of}
use Rattle.hfs_volume.specs.Image.{ImageValue}
use Rattle.hfs_volume.specs.Serving.{IsOutcomeIn}
use Rattle.hfs_volume.specs.Steps.{HasWrittenBlocks}
use Rattle.hfs_shared.specs.Journals.{made_by, IsAnswered, IsLegalAt, IsLegal}
use Rattle.hfs_shared.specs.Desks.{IsHeadline, IsCounted, PassState, entry_of, wanted}
use Rattle.hfs_shared.specs.Stages.{stage, stage_of, HasMade}
use Rattle.hfs_shared.proofs.Entries.{tells}
use Rattle.hfs_shared.proofs.Stages.{stages_more}

-- where an entry stands in a list with one entry more
pub snoc_split : {A : Type 0} (p xs : List A) (x e : A) (rest : List A) → xs ++ x ∷ [] ≡ p ++ e ∷ rest → ((p ≡ xs) × (e ≡ x)) ⊎ ((more : List A) × (xs ≡ p ++ e ∷ more))
snoc_split [] [] x e rest is = inl (refl, cc (is))
snoc_split [] (y ∷ ys) x e rest is = inr (ys, cc (is))
snoc_split (z ∷ []) [] x e rest is = absurd (cc (is))
snoc_split (z ∷ u ∷ zs) [] x e rest is = absurd (cc (is))
snoc_split (z ∷ zs) (y ∷ ys) x e rest is =
    let tails : ys ++ x ∷ [] ≡ zs ++ e ∷ rest = cc (is) in
    let heads : y ≡ z = cc (is) in
    ⊎_elim
    (λ (t : (zs ≡ ys) × (e ≡ x)). inl ((λ i. sym heads i ∷ t.0 i), t.1))
    (λ t. inr (t.0, λ i. heads i ∷ t.1 i))
    (snoc_split zs ys x e rest tails)

pub legal_more : (v : Volume) (journal : List Entry) (e : Entry) → IsLegal v journal → IsLegalAt v journal e → IsLegal v (journal ++ e ∷ [])
legal_more v journal e h at p f rest is =
    ⊎_elim
    (λ (t : (p ≡ journal) × (f ≡ e)). subst (λ (y : List Entry × Entry). IsLegalAt v y.0 y.1) (λ i. (sym t.0 i, sym t.1 i)) at)
    (λ t. h p f t.0 t.1)
    (snoc_split p journal e f rest is)

pub after_more : (v : Volume) (journal : List Entry) (e : Entry) → after v (journal ++ e ∷ []) ≡ after_entry (after v journal) e
after_more v [] e = refl
after_more v (x ∷ xs) e = after_more (after_entry v x) xs e

module _ (never : StepIsNeverFull) where
  -- the image that a call's entry made
  pub entry_makes : (old new : ImageValue) (p : PassState) (c : Call) (r : Reply) → IsSound old.current → IsOutcomeIn old.current c (volume_of new.current, r) → HasWrittenBlocks c old new → (r.code ≢ pos 0 → new ≡ old)
      → HasMade (entry_of p c r) (stage old.current old.written) (stage new.current new.written)
  entry_makes old new p c r sound outcome wrote refused = record {
    before = old;
    afterwards = new;
    begins = refl;
    ends = refl;
    follows = (tells never old.current sound p r (volume_of new.current) c outcome).1;
    wrote = wrote;
    refused = λ other. ap stage_of (refused other);
  }

  pub headline_more : (base : List ℕ) (old new : ImageValue) (journal : List Entry) (p : PassState) (c : Call) (r : Reply)
      → IsHeadline base old.current old.written journal → IsOutcomeIn old.current c (volume_of new.current, r)
      → HasMade (entry_of p c r) (stage old.current old.written) (stage new.current new.written) → p.number ≡ made_by p.worker journal + 1 → AgreesBut new.written base new.current
      → IsHeadline base new.current new.written (journal ++ entry_of p c r ∷ [])
  headline_more base old new journal p c r h outcome made number agrees =
      let e = entry_of p c r in
      let t = tells never old.current h.agrees.sound p r (volume_of new.current) c outcome in
      record {
        agrees = agrees;
        made = stages_more journal e (stage base []) (stage old.current old.written) (stage new.current new.written) h.made made;
        legal = legal_more (volume_of base) journal e h.legal record {
          stamped = number;
          answered = subst (λ (v : Volume). IsAnswered v e e.want) h.follows t.0;
        };
        follows = t.1 ∙ ap (λ (v : Volume). after_entry v e) h.follows ∙ sym (after_more (volume_of base) journal e);
      }

pub made_more : (w : ℕ) (journal : List Entry) (e : Entry) → made_by w (journal ++ e ∷ []) ≡ made_by w journal + cond (e.worker == w) 1 0
made_more w journal e = omega (arith, sum_by-append (λ (f : Entry). cond (f.worker == w) 1 0) journal (e ∷ []))

pub made_same : (w : ℕ) (journal : List Entry) (e : Entry) → e.worker ≢ w → made_by w (journal ++ e ∷ []) ≡ made_by w journal
made_same w journal e apart = by_test (e.worker == w) refl
  where
    by_test : (b : Bool) → (e.worker == w) ≡ b → made_by w (journal ++ e ∷ []) ≡ made_by w journal
    by_test true is = absurd (grind (arith, nat_tests))
    by_test false is = made_more w journal e ∙ rw is (omega arith)

pub made_own : (w : ℕ) (journal : List Entry) (e : Entry) → e.worker ≡ w → made_by w (journal ++ e ∷ []) ≡ made_by w journal + 1
made_own w journal e same = by_test (e.worker == w) refl
  where
    by_test : (b : Bool) → (e.worker == w) ≡ b → made_by w (journal ++ e ∷ []) ≡ made_by w journal + 1
    by_test true is = made_more w journal e ∙ rw is refl
    by_test false is = absurd (grind (arith, nat_tests))

pub wanted_known : (workers : ℕ) (journal : List Entry) (w : ℕ) → 0 < wanted workers journal w → (1 ≤ w) × (w ≤ workers) × (wanted workers journal w ≡ made_by w journal + 1)
wanted_known workers journal w some = by_tests (leb 1 w) (leb w workers) refl refl some
  where
    by_tests : (a b : Bool) → leb 1 w ≡ a → leb w workers ≡ b → 0 < cond (a && b) (made_by w journal + 1) 0 → (1 ≤ w) × (w ≤ workers) × (wanted workers journal w ≡ made_by w journal + 1)
    by_tests true true p q h = (grind (arith, nat_tests), grind (arith, nat_tests), rw (p, q) refl)
    by_tests true false p q h = absurd (omega arith)
    by_tests false b p q h = absurd (omega arith)

pub slice_index-next : (next : List ℕ) (journal : List Entry) (w : ℕ) → IsCounted next journal → w ≢ 0 → w ≤ length next → slice_index next (w - 1) ≡ wanted (length next) journal w
slice_index-next next journal w h some low = by_tests (leb 1 w) (leb w (length next)) refl refl
  where
    by_tests : (a b : Bool) → leb 1 w ≡ a → leb w (length next) ≡ b → slice_index next (w - 1) ≡ cond (a && b) (made_by w journal + 1) 0
    by_tests true true p q = h.counts (w - 1) (omega (arith, some, low)) ∙ ap (λ (i : ℕ). made_by i journal + 1) (omega (arith, some))
    by_tests true false p q = absurd (grind (arith, nat_tests))
    by_tests false b p q = absurd (grind (arith, nat_tests))

pub counted_more : (next : List ℕ) (journal : List Entry) (e : Entry) → IsCounted next journal → 1 ≤ e.worker → e.worker ≤ length next → e.stamp ≡ made_by e.worker journal + 1
    → IsCounted (slice_set next (e.worker - 1) (e.stamp + 1)) (journal ++ e ∷ [])
counted_more next journal e h low high stamp =
    let k = e.worker - 1 in
    let after = slice_set next k (e.stamp + 1) in
    let long : length after ≡ length next = length-set next k (e.stamp + 1) in
    record {
      counts = λ w below. by_test w (subst (λ (n : ℕ). w < n) long below) (w == k) refl;
      none = λ w above. made_same w journal e (λ same. absurd (omega arith)) ∙ h.none w (omega arith);
      nobody = made_same 0 journal e (λ same. absurd (omega arith)) ∙ h.nobody;
      few = subst (λ (n : ℕ). n ≤ 8) (sym long) h.few;
    }
  where
    by_test : (w : ℕ) → w < length next → (b : Bool) → (w == (e.worker - 1)) ≡ b → slice_index (slice_set next (e.worker - 1) (e.stamp + 1)) w ≡ made_by (w + 1) (journal ++ e ∷ []) + 1
    by_test w below true is =
        let same : w ≡ e.worker - 1 = grind (arith, nat_tests) in
        let own : e.worker ≡ w + 1 = omega arith in
        let m = made_own (w + 1) journal e own in
        subst (λ (i : ℕ). slice_index (slice_set next (e.worker - 1) (e.stamp + 1)) i ≡ made_by (w + 1) (journal ++ e ∷ []) + 1) (sym same)
        (get_or-set_same next (e.worker - 1) (e.stamp + 1) 0 (omega arith) ∙ omega (arith, m, stamp, ap (λ (i : ℕ). made_by i journal) own))
    by_test w below false is =
        let apart : w ≢ e.worker - 1 = λ same. absurd (grind (arith, nat_tests)) in
        get_or-set_other next (e.worker - 1) w (e.stamp + 1) 0 apart ∙ h.counts w below ∙ ap (λ (n : ℕ). n + 1) (sym (made_same (w + 1) journal e (λ same. absurd (apart (omega arith)))))
