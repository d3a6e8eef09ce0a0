-- Items and threads belong together after one of them has changed.
use Rattle.std.proofs.Common.{◌≡◌, ℕ, Bool, true, false, cond, eqb, refl, sym, ◌∙◌, ap, subst, Option, Some, None}
use Rattle.std.specs.Prelude.{IsTrue}
use Rattle.std.proofs.lemmas.Bool.{eqb-true, true≢false}
use Rattle.hfs_fields.specs.declared.key.CatKey.{CatKey}
use Rattle.hfs_fields.specs.Order.{same_name}
use Rattle.hfs_fields.specs.Records.{is_dir, thread_record_of}
use Rattle.hfs_catalog.specs.Records.{Record}
use Rattle.hfs_catalog.specs.Sound.{LeadsTo}
use Rattle.hfs_record_edits.proofs.StepLemmas.{with_one}
use Rattle.hfs_record_edits.proofs.LinkLemmas.{AreLinked}
use Rattle.hfs_catalog.proofs.Held.{none_some}
use Rattle.hfs_model.proofs.Facts.{same_some}

-- what stands under an ID afterwards, by whether it is this one
pub by_id : (records : ℕ → Option Record) (i : ℕ) (one : Option Record) (k : ℕ) (r : Record) (C : Type 0) → with_one records i one k ≡ Some r
    → (i ≡ k → eqb i k ≡ true → one ≡ Some r → C) → (eqb i k ≡ false → records k ≡ Some r → C) → C
by_id records i one k r C is here there = elim (eqb i k) as (λ (b : Bool). eqb i k ≡ b → cond b one (records k) ≡ Some r → C) [
  | true ↦ λ e h. here (eqb-true i k e) e h
  | false ↦ λ e h. there e h
] refl is

pub at_id : (records : ℕ → Option Record) (i : ℕ) (one : Option Record) (k : ℕ) → eqb i k ≡ true → with_one records i one k ≡ one
at_id records i one k e = ap (λ b. cond b one (records k)) e

pub past_id : (records : ℕ → Option Record) (i : ℕ) (one : Option Record) (k : ℕ) → eqb i k ≡ false → with_one records i one k ≡ records k
past_id records i one k e = ap (λ b. cond b one (records k)) e

pub leads_alike : (r s t : Record) → s.0 ≡ r.0 → is_dir s.1 ≡ is_dir r.1 → LeadsTo r t → LeadsTo s t
leads_alike r s t key dir l = record {
  kind = l.kind ∙ sym dir;
  parent = l.parent ∙ ap (λ (k : CatKey). k.parent) (sym key);
  name = subst (λ (k : CatKey). IsTrue (same_name k.name (thread_record_of t.1).name)) (sym key) l.name;
}

module _ (items threads : ℕ → Option Record) (h : AreLinked items threads) (i : ℕ) where
  abbrev Led : (ℕ → Option Record) → ℕ → Record → Type 0
  Led records k t = (q : Record) × (records k ≡ Some q) × LeadsTo q t

  abbrev Threaded : (ℕ → Option Record) → ℕ → Type 0
  Threaded records k = (t : Record) × (records k ≡ Some t)

  -- an item's record in place of one that is alike
  pub linked_edit : (r s : Record) → items i ≡ Some r → s.0 ≡ r.0 → is_dir s.1 ≡ is_dir r.1 → AreLinked (with_one items i (Some s)) threads
  linked_edit r s was key dir = record {
    threaded = λ k q is folder. by_id items i (Some s) k q (Threaded threads k) is
        (λ same e here. h.threaded k r (ap items (sym same) ∙ was) (sym dir ∙ ap (λ (x : Record). is_dir x.1) (same_some s q here) ∙ folder))
        (λ e there. h.threaded k q there folder);
    led = λ k t is.
        let old = h.led k t is in
        elim (eqb i k) as (λ (b : Bool). eqb i k ≡ b → Led (with_one items i (Some s)) k t) [
          | true ↦ λ e.
              let same : old.0 ≡ r = same_some old.0 r (sym old.1 ∙ ap items (sym (eqb-true i k e)) ∙ was) in
              let led : Led (with_one items i (Some s)) k t = (s, at_id items i (Some s) k e, leads_alike r s t key dir (subst (λ (x : Record). LeadsTo x t) same old.2)) in led
          | false ↦ λ e. let led : Led (with_one items i (Some s)) k t = (old.0, past_id items i (Some s) k e ∙ old.1, old.2) in led
        ] refl;
  }

  -- an item's record, and a thread's that leads to it
  pub linked_both : (s t : Record) → LeadsTo s t → AreLinked (with_one items i (Some s)) (with_one threads i (Some t))
  linked_both s t l = record {
    threaded = λ k q is folder. by_id items i (Some s) k q (Threaded (with_one threads i (Some t)) k) is
        (λ same e here. let there : Threaded (with_one threads i (Some t)) k = (t, at_id threads i (Some t) k e) in there)
        (λ e there. let old = h.threaded k q there folder in let still : Threaded (with_one threads i (Some t)) k = (old.0, past_id threads i (Some t) k e ∙ old.1) in still);
    led = λ k u is. by_id threads i (Some t) k u (Led (with_one items i (Some s)) k u) is
        (λ same e here. let led : Led (with_one items i (Some s)) k u = (s, at_id items i (Some s) k e, subst (λ (x : Record). LeadsTo s x) (same_some t u here) l) in led)
        (λ e there. let old = h.led k u there in let led : Led (with_one items i (Some s)) k u = (old.0, past_id items i (Some s) k e ∙ old.1, old.2) in led);
  }

  -- a file's record, and no thread of it
  pub linked_unthreaded : (s : Record) → is_dir s.1 ≡ false → AreLinked (with_one items i (Some s)) (with_one threads i None)
  linked_unthreaded s file = record {
    threaded = λ k q is folder. by_id items i (Some s) k q (Threaded (with_one threads i None) k) is
        (λ same e here. absurd (true≢false (sym folder ∙ ap (λ (x : Record). is_dir x.1) (sym (same_some s q here)) ∙ file)))
        (λ e there. let old = h.threaded k q there folder in let still : Threaded (with_one threads i None) k = (old.0, past_id threads i None k e ∙ old.1) in still);
    led = λ k u is. by_id threads i None k u (Led (with_one items i (Some s)) k u) is
        (λ same e here. absurd (none_some u here))
        (λ e there. let old = h.led k u there in let led : Led (with_one items i (Some s)) k u = (old.0, past_id items i (Some s) k e ∙ old.1, old.2) in led);
  }

  -- a file's record where there is no thread
  pub linked_file : (s : Record) → threads i ≡ None → is_dir s.1 ≡ false → AreLinked (with_one items i (Some s)) threads
  linked_file s none file = record {
    threaded = λ k q is folder. by_id items i (Some s) k q (Threaded threads k) is
        (λ same e here. absurd (true≢false (sym folder ∙ ap (λ (x : Record). is_dir x.1) (sym (same_some s q here)) ∙ file)))
        (λ e there. h.threaded k q there folder);
    led = λ k t is.
        let old = h.led k t is in
        elim (eqb i k) as (λ (b : Bool). eqb i k ≡ b → Led (with_one items i (Some s)) k t) [
          | true ↦ λ e. absurd (none_some t (sym none ∙ ap threads (eqb-true i k e) ∙ is))
          | false ↦ λ e. let led : Led (with_one items i (Some s)) k t = (old.0, past_id items i (Some s) k e ∙ old.1, old.2) in led
        ] refl;
  }

  -- neither an item nor a thread
  pub linked_none : AreLinked (with_one items i None) (with_one threads i None)
  linked_none = record {
    threaded = λ k q is folder. by_id items i None k q (Threaded (with_one threads i None) k) is
        (λ same e here. absurd (none_some q here))
        (λ e there. let old = h.threaded k q there folder in let still : Threaded (with_one threads i None) k = (old.0, past_id threads i None k e ∙ old.1) in still);
    led = λ k u is. by_id threads i None k u (Led (with_one items i None) k u) is
        (λ same e here. absurd (none_some u here))
        (λ e there. let old = h.led k u there in let led : Led (with_one items i None) k u = (old.0, past_id items i None k e ∙ old.1, old.2) in led);
  }
