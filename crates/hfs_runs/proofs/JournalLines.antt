-- The calls of a run's journal are those of the script's lines, each worker's in their order, and their codes those of the replies.
use Rattle.std.proofs.Common.{◌≡◌, ◌∙◌, ℕ, suc, ◌+◌, ◌-◌, ◌<◌, Bool, true, false, cond, List, [], ◌∷◌, ◌++◌, map, filter, length, take, get_or, slice_get, Some, refl, sym, ap, subst, arith, length-append, take_all}
use Rattle.std.specs.Prelude.{◌==◌}
use Rattle.std.specs.List.{All}
use Rattle.std.proofs.lemmas.List.{append-nil, append_assoc, length-map, map-append}
use Rattle.std.proofs.lemmas.List.Elements.{filter-append}
use Rattle.std.proofs.lemmas.Bool.{eqb-false, eqb-true}
use Rattle.std.proofs.lemmas.Option.{get_or_from_slice_get, slice_get_within}
use Rattle.std.proofs.Math.Seq.{get_or-append_seam, take-suc}
use Rattle.hfs_model.specs.declared.reply.Reply.{Reply}
use Rattle.hfs_model.specs.declared.journal.Entry.{Entry}
use Rattle.hfs_model.specs.Volume.{Volume}
use Rattle.hfs_check.specs.VolumeOf.{volume_of}
use Rattle.hfs_scripts.specs.declared.lines.Caller.TheVariants.{Worker}
use Rattle.hfs_scripts.specs.Callers.{calls_of}
use Rattle.hfs_shared.specs.Journals.{made_by, IsLegal, IsLegalAt}
use Rattle.hfs_shared.proofs.Headline.{made_own, made_same}
use Rattle.hfs_runs.specs.Codes.{reply_codes}
use Rattle.hfs_runs.specs.JournalLines.{JournalsHaveTheCodes, JournalsHaveTheLines}

-- a part of each entry, which a list of its worker has under the entry's number
module _ {X : Type 0} (part : Entry → X) (of : ℕ → List X) (opening : Volume) (worker : ℕ) where
  abbrev HasOwn : Entry → Type 0
  HasOwn e = slice_get (of e.worker) (e.stamp - 1) ≡ Some (part e)

  abbrev is_own : Entry → Bool
  is_own e = e.worker == worker

  abbrev parts : List Entry → List X
  parts es = map part (filter is_own es)

  -- the worker's parts of these entries are the first of its list
  abbrev HasFirst : List Entry → Type 0
  HasFirst es = parts es ≡ take (made_by worker es) (of worker)

  one-more : (before : List Entry) (e : Entry) → parts (before ++ e ∷ []) ≡ parts before ++ map part (cond (is_own e) (e ∷ []) [])
  one-more before e = ap (map part) (filter-append is_own before (e ∷ [])) ∙ map-append part (filter is_own before) (cond (is_own e) (e ∷ []) [])

  first-more : (before : List Entry) (e : Entry) → HasFirst before → IsLegalAt opening before e → HasOwn e → HasFirst (before ++ e ∷ [])
  first-more before e first legal own = by (is_own e) refl
    where
      by : (b : Bool) → is_own e ≡ b → HasFirst (before ++ e ∷ [])
      by true is =
          let same : e.worker ≡ worker = eqb-true e.worker worker is in
          let n = made_by worker before in
          let number : e.stamp - 1 ≡ n = omega (arith, legal.stamped, ap (λ (w : ℕ). made_by w before) same) in
          let at : slice_get (of worker) n ≡ Some (part e) = subst (λ (y : ℕ × ℕ). slice_get (of y.0) y.1 ≡ Some (part e)) (λ i. (same i, number i)) own in
          let below : n < length (of worker) = slice_get_within (of worker) n (part e) at in
          let next : suc n ≡ made_by worker (before ++ e ∷ []) = omega (arith, made_own worker before e same) in
          one-more before e ∙ (λ i. first i ++ map part (cond (is i) (e ∷ []) []))
          ∙ ap (λ (x : X). take n (of worker) ++ x ∷ []) (sym (get_or_from_slice_get (of worker) n (part e) (part e) at)) ∙ sym (take-suc (of worker) n (part e) below)
          ∙ ap (λ (k : ℕ). take k (of worker)) next
      by false is =
          one-more before e ∙ (λ i. first i ++ map part (cond (is i) (e ∷ []) [])) ∙ append-nil (take (made_by worker before) (of worker))
          ∙ ap (λ (k : ℕ). take k (of worker)) (sym (made_same worker before e (eqb-false e.worker worker is)))

  first-all : (before behind : List Entry) → IsLegal opening (before ++ behind) → All HasOwn (before ++ behind) → HasFirst before → HasFirst (before ++ behind)
  first-all before [] legal own first = subst HasFirst (sym (append-nil before)) first
  first-all before (e ∷ behind) legal own first =
      let moved : (before ++ e ∷ []) ++ behind ≡ before ++ e ∷ behind = append_assoc before (e ∷ []) behind in
      let here : HasOwn e = subst HasOwn (get_or-append_seam before e behind e) (own (length before) e (omega (arith, length-append before (e ∷ behind)))) in
      subst HasFirst moved
      (first-all (before ++ e ∷ []) behind (subst (λ (es : List Entry). IsLegal opening es) (sym moved) legal) (subst (λ (es : List Entry). All HasOwn es) (sym moved) own)
      (first-more before e first (legal before e behind refl) here))

pub journals_have_the_lines : JournalsHaveTheLines
journals_have_the_lines image lines volume text whole shown told ran place below =
    first-all (λ (e : Entry). e.call) (λ worker. calls_of (Worker worker) lines) (volume_of image) (place + 1) [] ran.journal ran.legal ran.planned refl
    ∙ ap (λ (k : ℕ). take k (calls_of (Worker (place + 1)) lines)) (ran.made place below)

pub journals_have_the_codes : JournalsHaveTheCodes
journals_have_the_codes image lines volume text whole shown told ran place below =
    let replies = ran.replies (Worker (place + 1)) in
    first-all (λ (e : Entry). e.code) (λ worker. reply_codes (ran.replies (Worker worker))) (volume_of image) (place + 1) [] ran.journal ran.legal ran.coded refl
    ∙ take_all (made_by (place + 1) ran.journal) (reply_codes replies) (omega (arith, ran.made place below, length-map replies (λ (r : Reply). r.code)))
