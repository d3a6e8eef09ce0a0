-- Each file of a laid list has its own bytes among those that came.
use Rattle.std.proofs.Common.{◌≡◌, ℕ, ◌+◌, ◌<◌, ◌≤◌, Bool, true, false, cond, List, [], ◌∷◌, map, Option, Some, None, refl, sym, ◌∙◌, ap, subst, Result, Ok, Err, arith}
use Rattle.std.specs.Prelude.{⊤, IfSome}
use Rattle.std.specs.List.{cons_option}
use Rattle.hfs_model.specs.declared.call.Call.{Call}
use Rattle.hfs_model.specs.declared.reply.ItemKind.{ItemKind}
use Rattle.hfs_model.specs.declared.reply.ItemKind.TheVariants.{Folder, File}
use Rattle.hfs_model.specs.declared.reply.Reply.{Reply}
use Rattle.hfs_model.specs.Volume.{Volume}
use Rattle.hfs_put_plan.specs.Accepted.{next, all_accepted}
use Rattle.hfs_put_plan.specs.Calls.{somes, making_of, ending_of}
use Rattle.hfs_put_plan.specs.Laws.{AreTheirs, ForksAreTheirs}
use Rattle.hfs_put_plan.specs.Put.{Arrival, Open, Refused, Put, Placed, at_place, is_at, left, folder_id, id_named, placed, put_from, without_bytes, file_forks, came}
use Rattle.hfs_put_plan.specs.WithForks.{FileForks, forks_of}
use Rattle.hfs_put_plan.proofs.AcceptedCalls.{same_ok, split, all-next}
use Rattle.hfs_put_plan.proofs.ForkMaps.{forks-here, forks-there}
use Rattle.hfs_put_plan.proofs.PutFiles.{id-made}
use Rattle.hfs_put_plan.proofs.PutLists.{told, placed_by, forks_with, finished, ended}
use Rattle.hfs_put_plan.proofs.ReadyFiles.{ready}

-- ---- the next ID, which only rises

left-next : (parent : Option ℕ) (folders : List Open) (v : Volume) (s : Volume × List Open) → left parent v folders ≡ Ok s → v.next_id ≤ s.0.next_id
left-next parent [] v s is =
    subst (λ (t : Volume × List Open). v.next_id ≤ t.0.next_id) (same_ok {A = Volume × List Open} {E = Refused} (v, []) s is) (omega arith)
left-next parent (o ∷ os) v s is = at (is_at parent o.place) (λ w done. left-next parent os w s done) is
  where
    at : (b : Bool) → ((w : Volume) → left parent w os ≡ Ok s → w.next_id ≤ s.0.next_id)
        → cond b (Ok (v, o ∷ os)) (next (at_place o.place (all_accepted v o.ending)) (λ w. left parent w os)) ≡ Ok s → v.next_id ≤ s.0.next_id
    at true rest is =
        subst (λ (t : Volume × List Open). v.next_id ≤ t.0.next_id) (same_ok {A = Volume × List Open} {E = Refused} (v, o ∷ os) s is) (omega arith)
    at false rest is =
        let parts = split (at_place o.place (all_accepted v o.ending)) (λ w. left parent w os) s is in
        omega (arith, all-next v parts.0 o.ending (told o.place (all_accepted v o.ending) parts.0 parts.1), rest parts.0 parts.2)

-- a new file has an ID that was not given before
record HasNewId (v : Volume) (p : Placed) : Type 0 where
  from : v.next_id ≤ p.id
  below : p.id < p.volume.next_id

abbrev NewByKind : ItemKind → Volume → Placed → Type 0
NewByKind Folder v p = ⊤
NewByKind File v p = HasNewId v p

record GoesOn (kind : ItemKind) (v : Volume) (p : Placed) : Type 0 where
  next_id : v.next_id ≤ p.volume.next_id
  own : NewByKind kind v p

module _ (now place dir : ℕ) (a : Arrival) (folders : List Open) (v : Volume) where
  abbrev name : List ℕ
  name = a.item.name

  abbrev opened_as : Volume → ℕ → Placed
  opened_as w id = record {
    volume = w;
    id = id;
    folders = (record {
      place = place;
      id = id;
      ending = somes
          (ending_of Folder dir a.item now);
    }) ∷ folders;
  }

  folder-goes : (p : Placed) → placed_by Folder now place dir (without_bytes a) v folders ≡ Ok p → GoesOn Folder v p
  folder-goes p is =
      let making = somes (making_of Folder dir a.item now) in
      let parts = split (all_accepted v making) (λ w. Ok (opened_as w (id_named w dir name))) p
      (told place (next (all_accepted v making) (λ w. Ok (opened_as w (id_named w dir name)))) p is) in
      subst (λ (q : Placed). GoesOn Folder v q) (same_ok {E = Reply} (opened_as parts.0 (id_named parts.0 dir name)) p parts.2)
      (record { next_id = all-next v parts.0 making parts.1; own = tt })

  abbrev as_file : Volume → ℕ → Placed
  as_file w id = record { volume = w; id = id; folders = folders }

  abbrev file_end : List Call
  file_end = somes (ending_of File dir a.item now)

  file-goes : (p : Placed) → placed_by File now place dir (without_bytes a) v folders ≡ Ok p → GoesOn File v p
  file-goes p is =
      let making = somes (making_of File dir a.item now) in
      let parts = split (all_accepted v making) (λ w. next (all_accepted w file_end) (λ done. Ok (as_file done (id_named w dir name)))) p
      (told place (next (all_accepted v making) (λ w. next (all_accepted w file_end) (λ done. Ok (as_file done (id_named w dir name))))) p is) in
      let last = split (all_accepted parts.0 file_end) (λ done. Ok (as_file done (id_named parts.0 dir name))) p parts.2 in
      let file = ready dir name a.item.placing now a.item.data_len a.item.resource_len v parts.0 parts.1 in
      let id : id_named parts.0 dir name ≡ file.n = id-made parts.0 dir name now file.n file.item _ file.made in
      let more : parts.0.next_id ≤ last.0.next_id = all-next parts.0 last.0 file_end last.1 in
      subst (λ (q : Placed). GoesOn File v q) (same_ok {E = Reply} (as_file last.0 (id_named parts.0 dir name)) p last.2)
      (record {
        next_id = omega (arith, all-next v parts.0 making parts.1, more);
        own = record { from = omega (arith, id, file.from); below = omega (arith, id, file.below, more) };
      })

  goes-on : (kind : ItemKind) (p : Placed) → placed_by kind now place dir (without_bytes a) v folders ≡ Ok p → GoesOn kind v p
  goes-on Folder p is = folder-goes p is
  goes-on File p is = file-goes p is

-- ---- bytes under IDs

-- those of another file
other-forks : (kind : ItemKind) (a : Arrival) (v : Volume) (p : Placed) (forks : List FileForks) (q : ℕ) → NewByKind kind v p → q < v.next_id
    → forks_of (forks_with kind a p.id forks) q ≡ forks_of forks q
other-forks Folder a v p forks q own low = refl
other-forks File a v p forks q own low =
    forks-there (record { id = p.id; data_fork = a.data_fork; resource_fork = a.resource_fork }) forks q (λ (same : q ≡ p.id). omega (arith, same, low, own.from))

own-forks : (kind : ItemKind) (a : Arrival) (v : Volume) (p : Placed) (forks all : List FileForks) → NewByKind kind v p
    → ((q : ℕ) → q < p.volume.next_id → forks_of all q ≡ forks_of (forks_with kind a p.id forks) q)
    → IfSome (file_forks kind a p.id) (λ (own : FileForks). forks_of all p.id ≡ Some own)
own-forks Folder a v p forks all own same = tt
own-forks File a v p forks all own same =
    same p.id own.below ∙ forks-here (record { id = p.id; data_fork = a.data_fork; resource_fork = a.resource_fork }) forks

-- ---- the list

module _ (target now : ℕ) where
  abbrev behind : ℕ → List Arrival → Placed → Result Put Refused
  behind place more p = next (put_from target now (place + 1) p.volume p.folders more) (λ (rest : Put). Ok (ended target now p rest))

  abbrev placing : ℕ → Arrival → List Arrival → Volume × List Open → Result Put Refused
  placing place a more s = next (placed now place (folder_id target s.1) a s.0 s.1) (λ (p : Placed). behind place more p)

  -- an item, and what comes behind it
  record IsSplit (a : Arrival) (more : List Arrival) (place : ℕ) (v : Volume) (put : Put) : Type 0 where
    from : Volume
    p : Placed
    rest : Put
    low : v.next_id ≤ from.next_id
    goes : GoesOn a.item.kind from p
    done : put_from target now (place + 1) p.volume p.folders (map without_bytes more) ≡ Ok rest
    is : ended target now p rest ≡ put

  is-split : (a : Arrival) (more : List Arrival) (place : ℕ) (v : Volume) (folders : List Open) (put : Put)
      → put_from target now place v folders (map without_bytes (a ∷ more)) ≡ Ok put → IsSplit a more place v put
  is-split a more place v folders put is =
      let first = split (left a.item.parent v folders) (λ (s : Volume × List Open). placing place (without_bytes a) (map without_bytes more) s) put is in
      let s = first.0 in
      let dir = folder_id target s.1 in
      let second = split (placed now place dir (without_bytes a) s.0 s.1) (λ (p : Placed). behind place (map without_bytes more) p) put first.2 in
      let p = second.0 in
      let third = split (put_from target now (place + 1) p.volume p.folders (map without_bytes more)) (λ (rest : Put). Ok (ended target now p rest)) put second.2 in
      record {
        from = s.0;
        p = p;
        rest = third.0;
        low = left-next a.item.parent folders v s first.1;
        goes = goes-on now place dir a s.1 s.0 a.item.kind p second.1;
        done = third.1;
        is = same_ok {E = Refused} (ended target now p third.0) put third.2;
      }

  -- what comes later is of other files
  later-forks : (more : List Arrival) (place : ℕ) (v : Volume) (folders : List Open) (put : Put) → put_from target now place v folders (map without_bytes more) ≡ Ok put
      → (forks : List FileForks) (q : ℕ) → q < v.next_id → forks_of (came more put.ids forks) q ≡ forks_of forks q
  later-forks [] place v folders put is forks q low = refl
  later-forks (a ∷ more) place v folders put is forks q low =
      let parts = is-split a more place v folders put is in
      let kept : q < parts.p.volume.next_id = omega (arith, low, parts.low, parts.goes.next_id) in
      let before : q < parts.from.next_id = omega (arith, low, parts.low) in
      subst (λ (u : Put). forks_of (came (a ∷ more) u.ids forks) q ≡ forks_of forks q) parts.is
      (later-forks more (place + 1) parts.p.volume parts.p.folders parts.rest parts.done (forks_with a.item.kind a parts.p.id forks) q kept
      ∙ other-forks a.item.kind a parts.from parts.p forks q parts.goes.own before)

  theirs : (more : List Arrival) (place : ℕ) (v : Volume) (folders : List Open) (put : Put) → put_from target now place v folders (map without_bytes more) ≡ Ok put
      → (forks : List FileForks) → AreTheirs (came more put.ids forks) more put.ids
  theirs [] place v folders put is forks = tt
  theirs (a ∷ more) place v folders put is forks =
      let parts = is-split a more place v folders put is in
      let with_own = forks_with a.item.kind a parts.p.id forks in
      subst (λ (u : Put). AreTheirs (came (a ∷ more) u.ids forks) (a ∷ more) u.ids) parts.is (
        own-forks a.item.kind a parts.from parts.p forks (came more parts.rest.ids with_own) parts.goes.own
            (λ q low. later-forks more (place + 1) parts.p.volume parts.p.folders parts.rest parts.done with_own q low),
        theirs more (place + 1) parts.p.volume parts.p.folders parts.rest parts.done with_own,
      )

pub forks_are_theirs : ForksAreTheirs
forks_are_theirs v target now arrivals put is = theirs target now arrivals 0 v [] put is []
