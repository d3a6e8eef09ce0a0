-- Adding to the pair, and publishing it.
use Rattle.std.proofs.Common.{◌≡◌, ℕ, Bool, true, false, List, [], ◌∷◌, ◌++◌, Option, None, refl, sym, ap, ◌∙◌, subst}
use Rattle.std.specs.Prelude.{fold, Result, Ok, Err, MatchResult, MatchBool}
use Rattle.std.proofs.lemmas.List.{append-nil}
use Rattle.std.proofs.lemmas.List.Sums.{fold-append}
use mathlib.Core.List.{IsPrefix}
use Rattle.logbook.specs.Pages.{Book}
use Rattle.left_right.specs.Register.{TurnsAt}
use Rattle.hfs_model.specs.declared.call.Call.{Call}
use Rattle.hfs_model.specs.Volume.{Volume}
use Rattle.hfs_model.specs.Step.{step, new_volume}
use Rattle.hfs_shared.specs.declared.item.Item.{Item}
use Rattle.hfs_shared.specs.declared.item.Item.TheVariants.{Change}
use Rattle.hfs_shared.specs.declared.published.Published.{Published}
use Rattle.hfs_shared.specs.declared.published.Change as op
use Rattle.hfs_shared.specs.Answers.{IsAllOrNothing}
use Rattle.hfs_shared.specs.Histories.{Known, known, with_change}
use Rattle.hfs_shared.specs.Lists.{entered, shown, absorb, IsGood, Keeps, Shown}
use Rattle.hfs_shared.specs.Pairs.{whole, owed_list, pair, with_call, IsPair, IsUnread}
use Rattle.hfs_shared.proofs.Prefixes.{prefix_self, prefix_trans}
use Rattle.hfs_shared.proofs.Seeing.{turns}

pub shown-snoc : (l : List Item) (c : Call) → shown (l ++ Change c ∷ []) ≡ (step (shown l) c).0
shown-snoc l c = fold-append entered (new_volume [] 0) l (Change c ∷ [])

owed_none : (o : Option op.Change) → o ≡ None → owed_list o ≡ []
owed_none o none = ap owed_list none

-- what is pending, where nothing is owed
pub makes_ready : (f : Known) (x : Published) (pending : List op.Change) (o : Option op.Change) → o ≡ None → fold absorb x (pending ++ owed_list o) ≡ whole f → fold absorb x pending ≡ whole f
makes_ready f x pending o r m = subst (λ (l : List op.Change). fold absorb x l ≡ whole f) (ap (λ (l : List op.Change). pending ++ l) (owed_none o r) ∙ append-nil pending) m

-- what was owed is pending, or is still owed
pub pair_settled : (f : Known) (head : Book) (x y : Published) (pending after : List op.Change) (o p : Option op.Change) → IsPair f head x pending o → y ≡ x
    → after ++ owed_list p ≡ pending ++ owed_list o → IsPair f head y after p
pair_settled f head x y pending after o p i same grown = subst (λ (z : Published). IsPair f head z after p) (sym same) record {
  head_is = i.head_is;
  book_is = i.book_is;
  good = i.good;
  begins = i.begins;
  makes = ap (λ (l : List op.Change). fold absorb x l) grown ∙ i.makes;
}

module _ (f g : Known) (head : Book) (x : Published) (c : Call) where
  -- the whole, with one change more
  pub makes_more : (pending : List op.Change) → fold absorb x pending ≡ whole f → g ≡ known f.book (f.list ++ Change c ∷ [])
      → fold absorb x (pending ++ record { call = c; front = g } ∷ []) ≡ whole g
  makes_more pending m is =
      fold-append absorb x pending (record { call = c; front = g } ∷ [])
      ∙ ap (λ (y : Published). absorb y record { call = c; front = g }) m
      ∙ ap (λ (v : Volume). let w : Published = record { rows = v; front = g } in w) (sym (shown-snoc f.list c) ∙ ap (λ (k : Known). shown k.list) (sym is))

  pub pair_more : (y : Published) → y ≡ x → (pending after : List op.Change) (o p : Option op.Change) → IsPair f head x pending o → o ≡ None → g ≡ known f.book (f.list ++ Change c ∷ [])
      → (h : Known) → h ≡ g → after ++ owed_list p ≡ pending ++ record { call = c; front = h } ∷ [] → IsPair g head y after p
  pair_more y same pending after o p i r is h copy grown = subst (λ (z : Published). IsPair g head z after p) (sym same) record {
    head_is = i.head_is ∙ sym (ap (λ (k : Known). k.book) is);
    book_is = i.book_is ∙ sym (ap (λ (k : Known). k.book) is);
    good = i.good;
    begins = subst (λ (l : List Item). IsPrefix x.front.list l) (sym (ap (λ (k : Known). k.list) is)) (prefix_trans _ f.list _ i.begins (Change c ∷ [], refl));
    makes = ap (λ (l : List op.Change). fold absorb x l) (grown ∙ ap (λ (k : Known). let q : op.Change = record { call = c; front = k } in pending ++ q ∷ []) copy) ∙ makes_more pending (makes_ready f x pending o r i.makes) is;
  }

-- the step of a publish
pub publishes : (seat : ℕ) (v : Option Known) (f : Known) (head : Book) (x next : Published) (pending : List op.Change) (o : Option op.Change) → IsPair f head x pending o → o ≡ None
    → next ≡ fold absorb x pending → TurnsAt Keeps seat v x next Shown
publishes seat v f head x next pending o i r is =
    let all : next ≡ whole f = is ∙ makes_ready f x pending o r i.makes in
    subst (λ (y : Published). TurnsAt Keeps seat v x y Shown) (sym all) (turns seat v x (whole f) (λ _. refl) i.book_is i.begins)

-- the pair after a publish
pub pair_shown : (f : Known) (head : Book) (x next : Published) (pending after : List op.Change) (o : Option op.Change) → IsPair f head x pending o → o ≡ None
    → next ≡ fold absorb x pending → after ≡ [] → IsPair f head next after o
pair_shown f head x next pending after o i r is none =
    let all : next ≡ whole f = is ∙ makes_ready f x pending o r i.makes in record {
      head_is = i.head_is;
      book_is = ap (λ (y : Published). y.front.book) all;
      good = subst IsGood (sym all) refl;
      begins = subst (λ (y : Published). IsPrefix y.front.list f.list) (sym all) (prefix_self f.list);
      makes = subst (λ (l : List op.Change). fold absorb next (l ++ owed_list o) ≡ whole f) (sym none) (ap (λ (l : List op.Change). fold absorb next l) (owed_none o r) ∙ all);
    }

pub pair_same : (f : Known) (head : Book) (x next : Published) (pending after : List op.Change) (o : Option op.Change) → IsPair f head x pending o
    → next ≡ x → after ≡ pending → IsPair f head next after o
pair_same f head x next pending after o i is same = subst (λ (y : Published). IsPair f head y after o) (sym is) (subst (λ (l : List op.Change). IsPair f head x l o) (sym same) i)

pub pair_new : (f : Known) (x : Published) (pending : List op.Change) → x ≡ whole f → pending ≡ [] → IsPair f f.book x pending None
pair_new f x pending is none = record {
  head_is = refl;
  book_is = ap (λ (y : Published). y.front.book) is;
  good = subst IsGood (sym is) refl;
  begins = subst (λ (y : Published). IsPrefix y.front.list f.list) (sym is) (prefix_self f.list);
  makes = ap (λ (l : List op.Change). fold absorb x (l ++ [])) none ∙ is;
}

pub opening_shown : (f : Known) (x next : Published) (pending : List op.Change) → x ≡ whole f → pending ≡ [] → next ≡ fold absorb x pending → next ≡ whole f
opening_shown f x next pending is none e = e ∙ ap (λ (l : List op.Change). fold absorb x l) none ∙ is

pub opening_publishes : (seat : ℕ) (v : Option Known) (f : Known) (x next : Published) (pending : List op.Change) → x ≡ whole f → pending ≡ [] → next ≡ fold absorb x pending → TurnsAt Keeps seat v x next Shown
opening_publishes seat v f x next pending is none e = publishes seat v f f.book x next pending None (pair_new f x pending is none) refl e

pub pair_begun : (f : Known) (head : Book) (x : Published) (pending : List op.Change) → head ≡ f.book → x ≡ whole f → pending ≡ [] → IsPair f head x pending None
pair_begun f head x pending same is none = subst (λ (b : Book). IsPair f b x pending None) (sym same) (pair_new f x pending is none)

-- the pair after a publish that did or did not succeed
pub pair_after : {A E : Type 0} (f : Known) (head : Book) (x next : Published) (pending after : List op.Change) (o : Option op.Change) (r : Result A E) → IsPair f head x pending o → o ≡ None
    → MatchResult r (λ _. (next ≡ fold absorb x pending) × (after ≡ [])) (λ _. (next ≡ x) × (after ≡ pending)) → IsPair f head next after o
pair_after f head x next pending after o (Ok u) i ready h = pair_shown f head x next pending after o i ready h.0 h.1
pair_after f head x next pending after o (Err e) i ready h = pair_same f head x next pending after o i h.0 h.1

-- ---- a list that nobody reads

-- one change more, or none
pub unread_more : (f g : Known) (head : Book) (s : Known) (c : Call) (b : Bool) → IsUnread f head s → MatchBool b (g ≡ with_change f c) (g ≡ f) → IsUnread g head s
unread_more f g head s c true i is = subst (λ (k : Known). IsUnread k head s) (sym is) record {
  head_is = i.head_is;
  book_is = i.book_is;
  begins = prefix_trans s.list f.list (f.list ++ Change c ∷ []) i.begins (Change c ∷ [], refl);
}
unread_more f g head s c false i is = subst (λ (k : Known). IsUnread k head s) (sym is) i

pub unread_added : (f g s : Known) (c : Call) (b : Bool) → MatchBool b (g ≡ with_change f c) (g ≡ f)
    → IsAllOrNothing b (with_call (pair f.book f.list s.list) c) (pair f.book f.list s.list) (pair g.book g.list s.list)
unread_added f g s c true is = ap (λ (k : Known). pair k.book k.list s.list) is
unread_added f g s c false is = ap (λ (k : Known). pair k.book k.list s.list) is

-- all of it is published
pub unread_shown : (f : Known) (head : Book) (s t : Known) → IsUnread f head s → t ≡ f → IsUnread f head t
unread_shown f head s t i is = subst (λ (k : Known). IsUnread f head k) (sym is) record { head_is = i.head_is; book_is = refl; begins = prefix_self f.list }
