-- What is published of a journal that grows, and where nothing waits.
use Rattle.std.proofs.Common.{◌≡◌, ℕ, suc, ◌+◌, ◌-◌, ◌≤◌, length-append, Bool, false, List, [], ◌∷◌, ◌++◌, length, take, drop, refl, sym, ap, ◌∙◌, subst, arith}
use Rattle.std.specs.Prelude.{Result, Ok, Err, IfOk, OnErr}
use Rattle.std.proofs.lemmas.List.{append-nil, drop-drop}
use Rattle.std.proofs.lemmas.List.Elements.{All-append, All-cons, All-drop, All-nil, All-take}
use Rattle.hfs_model.specs.declared.journal.Entry.{Entry}
use Rattle.hfs_model.specs.Volume.{Volume}
use Rattle.hfs_shared.specs.declared.item.Item.{Item}
use Rattle.hfs_shared.specs.Journals.{is_accepted, changes, published, NoneAccepted}
use Rattle.hfs_shared.proofs.LawTypes.{PublishedGrows, PublishedStays}
use Rattle.hfs_shared.specs.Pairs.{PairState, pair}
use Rattle.hfs_model.specs.declared.call.Call.{Call}
use Rattle.hfs_model.specs.declared.reply.Reply.{Reply}
use Rattle.hfs_shared.specs.declared.desk.CallFault.{CallFault}
use Rattle.hfs_shared.specs.Histories.{known}
use Rattle.hfs_shared.specs.Tolds.{told}
use Rattle.logbook.specs.Pages.{Book}
use Rattle.hfs_check.specs.VolumeOf.{volume_of}
use Rattle.hfs_shared.specs.Desks.{DeskState, PassState, entry_of, IsApplied, IsHeadline}
use Rattle.hfs_shared.specs.Plans.{Plan, IsPlanned, ArePlanned}
use Rattle.hfs_shared.specs.Lockeds.{locked_state, IsLocked, IsUnderLock, GathersOf, ShowsOf}
use Rattle.hfs_shared.proofs.Following.{changes_of}

-- before any call
pub none_planned : (plan : Plan) (journal : List Entry) → journal ≡ [] → ArePlanned plan journal
none_planned plan journal empty = subst (λ (es : List Entry). ArePlanned plan es) (sym empty) (All-nil (λ (e : Entry). IsPlanned plan e.worker e.stamp e.call))

-- one entry alone
one_planned : (plan : Plan) (e : Entry) → IsPlanned plan e.worker e.stamp e.call → ArePlanned plan (e ∷ [])
one_planned plan e planned = All-cons (λ (x : Entry). IsPlanned plan x.worker x.stamp x.call) e [] planned (All-nil (λ (x : Entry). IsPlanned plan x.worker x.stamp x.call))

-- what the type says of what lies under the lock
pub under_lock : (book : Book) (base : List ℕ) (plan : Plan) (d : DeskState) (p : PairState) (added shown : ℕ) → IsLocked book base plan d p added shown → IsUnderLock base plan (locked_state d shown)
under_lock book base plan d p added shown i = record { base_is = i.base_is; headline = i.headline; planned = i.planned; within = omega (arith, i.order.0, i.order.1) }

-- the pair's lists stay those of the journal while it grows
pub locked_more : PublishedStays → (book : Book) (base : List ℕ) (plan : Plan) (d e : DeskState) (p : PairState) (added shown : ℕ) (more : List Entry)
    → IsLocked book base plan d p added shown → e.base ≡ d.base → e.journal ≡ d.journal ++ more → IsHeadline e.base e.current e.written e.journal → ArePlanned plan more → IsLocked book base plan e p added shown
locked_more stays book base plan d e p added shown more i same grown headline planned =
    let length_is : length e.journal ≡ length (d.journal ++ more) = ap length grown in
    record {
      base_is = same ∙ i.base_is;
      headline = headline;
      planned = subst (λ (l : List Entry). ArePlanned plan l) (sym grown) (All-append (λ (x : Entry). IsPlanned plan x.worker x.stamp x.call) d.journal more i.planned planned);
      book_is = i.book_is;
      all_is = i.all_is ∙ sym (stays (volume_of d.base) d.journal more added i.order.1) ∙ (λ k. published (volume_of (sym same k)) (sym grown k) added);
      shown_is = i.shown_is ∙ sym (stays (volume_of d.base) d.journal more shown (omega (arith, i.order.0, i.order.1))) ∙ (λ k. published (volume_of (sym same k)) (sym grown k) shown);
      order = (i.order.0, omega (arith, i.order.1, length_is, length-append d.journal more));
    }

changes_none : (es : List Entry) → NoneAccepted es → changes es ≡ []
changes_none [] none = refl
changes_none (e ∷ es) none =
    ap (λ (b : Bool). changes_of b e es) (none 0 e (omega arith))
    ∙ changes_none es (λ k d lt. none (suc k) d (omega (arith, lt)))

-- where none waits, what is published of more entries is the same
pub published_idle : PublishedGrows → (v : Volume) (journal : List Entry) (n m : ℕ) → n ≤ m → NoneAccepted (drop n journal) → published v journal m ≡ published v journal n
published_idle grows v journal n m le none =
    let same : n + (m - n) ≡ m = omega (arith, le) in
    ap (λ (k : ℕ). published v journal k) (sym same)
    ∙ sym (grows v journal n (m - n))
    ∙ ap (λ (l : List Item). published v journal n ++ l) (changes_none (take (m - n) (drop n journal)) (All-take (λ (e : Entry). is_accepted e ≡ false) (m - n) (drop n journal) none))
    ∙ append-nil (published v journal n)

-- nor does any wait later
pub none_later : (journal : List Entry) (n m : ℕ) → n ≤ m → NoneAccepted (drop n journal) → NoneAccepted (drop m journal)
none_later journal n m le none =
    let same : n + (m - n) ≡ m = omega (arith, le) in
    subst (λ (l : List Entry). NoneAccepted l) (drop-drop (m - n) n journal ∙ ap (λ (k : ℕ). drop k journal) same) (All-drop (λ (e : Entry). is_accepted e ≡ false) (m - n) (drop n journal) none)

-- after a call that was made or refused
pub locked_after : PublishedStays → (book : Book) (base : List ℕ) (plan : Plan) (d e : DeskState) (p : PairState) (added shown : ℕ) (a b : PassState) (c : Call) (r : Result Reply CallFault)
    → IsPlanned plan a.worker a.number c → IfOk r (λ (x : Reply). IsApplied d a c x e b) → OnErr r ((e ≡ d) × (b ≡ a)) → IsLocked book base plan d p added shown → IsLocked book base plan e p added shown
locked_after stays book base plan d e p added shown a b c (Ok x) planned ok err i =
    locked_more stays book base plan d e p added shown (entry_of a c x ∷ []) i ok.base ok.journal ok.headline_after (one_planned plan (entry_of a c x) planned)
locked_after stays book base plan d e p added shown a b c (Err f) planned ok err i = subst (λ (s : DeskState). IsLocked book base plan s p added shown) (sym err.0) i

-- what is gathered of the entries from a place on
pub gathers : PublishedGrows → (old new : PairState) (journal rest : List Entry) (added more : ℕ) → rest ≡ drop added journal
    → new ≡ pair old.book (old.all ++ changes (take more rest)) old.shown → GathersOf old journal added new (added + more)
gathers grows old new journal rest added more is made = record {
  all = λ v was.
      ap (λ (p : PairState). p.all) made
      ∙ ap (λ (l : List Entry). old.all ++ changes (take more l)) is
      ∙ ap (λ (l : List Item). l ++ changes (take more (drop added journal))) was
      ∙ grows v journal added more;
  shown = ap (λ (p : PairState). p.shown) made;
  book = ap (λ (p : PairState). p.book) made;
}

-- where none waits, nothing is gathered
pub idle_gathers : PublishedGrows → (book : Book) (base : List ℕ) (plan : Plan) (d : DeskState) (p q : PairState) (journal : List Entry) (added shown gathered : ℕ)
    → journal ≡ d.journal → IsLocked book base plan d p added shown → GathersOf p journal added q gathered → added ≤ gathered → NoneAccepted (drop shown d.journal) → q.all ≡ q.shown
idle_gathers grows book base plan d p q journal added shown gathered same i gather low none =
    gather.all (volume_of d.base) (i.all_is ∙ ap (λ (l : List Entry). published (volume_of d.base) l added) (sym same))
    ∙ ap (λ (l : List Entry). published (volume_of d.base) l gathered) same
    ∙ published_idle grows (volume_of d.base) d.journal shown gathered (omega (arith, i.order.0, low)) none
    ∙ sym i.shown_is
    ∙ sym gather.shown

-- the pair after both steps
pub locked_published : (book : Book) (base : List ℕ) (plan : Plan) (d : DeskState) (p q r : PairState) (journal : List Entry) (added shown gathered result : ℕ)
    → journal ≡ d.journal → IsLocked book base plan d p added shown → GathersOf p journal added q gathered → ShowsOf q gathered shown r result
    → gathered ≤ length journal → result ≤ gathered → IsLocked book base plan d r gathered result
locked_published book base plan d p q r journal added shown gathered result same i gather show low below =
    let all : q.all ≡ published (volume_of d.base) d.journal gathered =
    gather.all (volume_of d.base) (i.all_is ∙ ap (λ (l : List Entry). published (volume_of d.base) l added) (sym same)) ∙ ap (λ (l : List Entry). published (volume_of d.base) l gathered) same in
    record {
      base_is = i.base_is;
      headline = i.headline;
      planned = i.planned;
      book_is = show.book ∙ gather.book ∙ i.book_is;
      all_is = show.all ∙ all;
      shown_is = show.shows (volume_of d.base) d.journal all (gather.shown ∙ i.shown_is);
      order = (below, subst (λ (l : List Entry). gathered ≤ length l) same low);
    }

-- what is told of the pair then
pub told_published : (book : Book) (base : List ℕ) (plan : Plan) (d : DeskState) (p : PairState) (entries : List Entry) (added shown : ℕ)
    → entries ≡ d.journal → IsLocked book base plan d p added shown
    → told (known p.book p.shown) shown (length entries) ≡ told (known book (published (volume_of base) d.journal shown)) shown (length d.journal)
told_published book base plan d p entries added shown same i =
    let list : p.shown ≡ published (volume_of base) d.journal shown = i.shown_is ∙ ap (λ (b : List ℕ). published (volume_of b) d.journal shown) i.base_is in
    λ k. told (known (i.book_is k) (list k)) shown (length (same k))
