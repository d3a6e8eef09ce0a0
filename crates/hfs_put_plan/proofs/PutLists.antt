-- All calls of a list make what those make that write no fork, with the bytes of the forks that came.
use Rattle.std.proofs.Common.{◌≡◌, ℕ, ◌+◌, ◌≤◌, Bool, true, false, cond, List, [], ◌∷◌, length, map, Option, None, refl, sym, ◌∙◌, ap, subst, Result, Ok, Err, arith}
use Rattle.std.specs.List.{cons_option}
use Rattle.hfs_fields.specs.Each.{Each}
use Rattle.hfs_model.specs.declared.call.Call.{Call}
use Rattle.hfs_model.specs.declared.reply.ItemKind.{ItemKind}
use Rattle.hfs_model.specs.declared.reply.ItemKind.TheVariants.{Folder, File}
use Rattle.hfs_model.specs.declared.reply.Reply.{Reply}
use Rattle.hfs_model.specs.Volume.{Items, Volume}
use Rattle.hfs_put_plan.specs.Accepted.{next, all_accepted}
use Rattle.hfs_put_plan.specs.Calls.{somes, making_of, ending_of}
use Rattle.hfs_put_plan.specs.Laws.{IsWhole, with_bytes, PutIsLaid}
use Rattle.hfs_put_plan.specs.Put.{Arrival, Open, Refused, Put, Placed, at_place, is_at, left, folder_id, id_named, filling, opened, placed, put_from, laid_volume, without_bytes, file_forks, came}
use Rattle.hfs_put_plan.specs.WithForks.{FileForks, with_forks}
use Rattle.hfs_put_plan.proofs.AcceptedCalls.{same_ok, never_ok, split, over, all-next}
use Rattle.hfs_put_plan.proofs.ForkMaps.{by_forks, forks-there, mapped-none}
use Rattle.hfs_put_plan.proofs.PutFiles.{id-same, id-made, bytes-written}
use Rattle.hfs_put_plan.proofs.QuietCalls.{IsQuiet, quiet-folder, quiet-folder_ending, quiet-file_ending, quiet-over}
use Rattle.hfs_put_plan.proofs.ReadyFiles.{IsReady, IsBelow, below-next, making-over, ready}

-- ---- results

pub told : {A : Type 0} (place : ℕ) (r : Result A Reply) (x : A) → at_place place r ≡ Ok x → r ≡ Ok x
told {A} place (Ok y) x is = ap (λ (z : A). Ok z) (same_ok {E = Refused} y x is)
told place (Err reply) x is = absurd (never_ok (record { place = place; reply = reply }) x is)

-- ---- folders that are left

-- what comes behind all that lies in the folder does the same whatever bytes the forks have
abbrev pub IsQuietOpen : Open → Type 0
IsQuietOpen o = Each IsQuiet o.ending

-- these folders stay open
abbrev stay : Volume → List Open → Result (Volume × List Open) Refused
stay v os = Ok (v, os)

abbrev pub over_left : List FileForks → Result (Volume × List Open) Refused → Result (Volume × List Open) Refused
over_left forks (Ok s) = Ok (with_forks forks s.0, s.1)
over_left forks (Err refused) = Err refused

pub left-over : (forks : List FileForks) (parent : Option ℕ) (folders : List Open) → Each IsQuietOpen folders → (v : Volume)
    → left parent (with_forks forks v) folders ≡ over_left forks (left parent v folders)
left-over forks parent [] quiet v = refl
left-over forks parent (o ∷ os) quiet v = at (is_at parent o.place) (λ w. left-over forks parent os quiet.1 w)
  where
    behind : (r : Result Volume Reply) → ((w : Volume) → left parent (with_forks forks w) os ≡ over_left forks (left parent w os))
        → next (at_place o.place (over (by_forks forks) r)) (λ w. left parent w os)
        ≡ over_left forks (next (at_place o.place r) (λ w. left parent w os))
    behind (Ok w) rest = rest w
    behind (Err reply) rest = refl

    at : (b : Bool) → ((w : Volume) → left parent (with_forks forks w) os ≡ over_left forks (left parent w os))
        → cond b (stay (with_forks forks v) (o ∷ os)) (next (at_place o.place (all_accepted (with_forks forks v) o.ending)) (λ w. left parent w os))
        ≡ over_left forks (cond b (stay v (o ∷ os)) (next (at_place o.place (all_accepted v o.ending)) (λ w. left parent w os)))
    at true rest = refl
    at false rest =
        ap (λ (r : Result Volume Reply). next (at_place o.place r) (λ w. left parent w os)) (quiet-over forks o.ending quiet.0 v)
        ∙ behind (all_accepted v o.ending) rest

-- the others stay open, and no ID is given again
pub record IsLeft (v : Volume) (s : Volume × List Open) : Type 0 where
  pub next_id : v.next_id ≤ s.0.next_id
  pub quiet : Each IsQuietOpen s.1

pub left-is : (parent : Option ℕ) (folders : List Open) → Each IsQuietOpen folders → (v : Volume) (s : Volume × List Open)
    → left parent v folders ≡ Ok s → IsLeft v s
left-is parent [] quiet v s is = subst (λ (t : Volume × List Open). IsLeft v t) (same_ok {A = Volume × List Open} {E = Refused} (v, []) s is)
    (record { next_id = omega arith; quiet = tt })
left-is parent (o ∷ os) quiet v s is = at (is_at parent o.place) (λ w done. left-is parent os quiet.1 w s done) is
  where
    at : (b : Bool) → ((w : Volume) → left parent w os ≡ Ok s → IsLeft w s)
        → cond b (stay v (o ∷ os)) (next (at_place o.place (all_accepted v o.ending)) (λ w. left parent w os)) ≡ Ok s → IsLeft v s
    at true rest is = subst (λ (t : Volume × List Open). IsLeft v t) (same_ok {A = Volume × List Open} {E = Refused} (v, o ∷ os) s is)
        (record { next_id = omega arith; quiet = quiet })
    at false rest is =
        let parts = split (at_place o.place (all_accepted v o.ending)) (λ w. left parent w os) s is in
        let behind = rest parts.0 parts.2 in
        record {
          next_id = omega (arith, all-next v parts.0 o.ending (told o.place (all_accepted v o.ending) parts.0 parts.1), behind.next_id);
          quiet = behind.quiet;
        }

-- ---- an item that is placed

-- by its kind
abbrev pub placed_by : ItemKind → ℕ → ℕ → ℕ → Arrival → Volume → List Open → Result Placed Refused
placed_by kind now place dir a v folders =
    at_place place
    (next (all_accepted v (somes (making_of kind dir a.item now))) (λ made.
    next (all_accepted made (filling kind dir a now)) (λ done.
    let id = id_named made dir a.item.name in
    Ok (record {
      volume = done;
      id = id;
      folders = opened kind (record {
        place = place;
        id = id;
        ending = somes
            (ending_of kind dir a.item now);
      }) folders;
    }))))

abbrev pub forks_with : ItemKind → Arrival → ℕ → List FileForks → List FileForks
forks_with kind a id forks = cons_option (file_forks kind a id) forks

abbrev over_placed : ItemKind → Arrival → List FileForks → Result Placed Refused → Result Placed Refused
over_placed kind a forks (Ok p) = Ok (record p { volume = with_forks (forks_with kind a p.id forks) p.volume })
over_placed kind a forks (Err refused) = Err refused

module _ (now place dir : ℕ) (a : Arrival) (folders : List Open) (forks : List FileForks) (v : Volume) where
  abbrev name : List ℕ
  name = a.item.name

  abbrev folder_here : Volume → ℕ → Placed
  folder_here w id = record {
    volume = w;
    id = id;
    folders = (record {
      place = place;
      id = id;
      ending = somes
          (ending_of Folder dir a.item now);
    }) ∷ folders;
  }

  folder-over : placed_by Folder now place dir a (with_forks forks v) folders ≡ over_placed Folder a forks (placed_by Folder now place dir
      (without_bytes a) v folders)
  folder-over =
      ap (λ (r : Result Volume Reply). at_place place (next r (λ w. Ok (folder_here w (id_named w dir name)))))
      (quiet-over forks (somes (making_of Folder dir a.item now)) (quiet-folder dir name a.item.placing now) v)
      ∙ at (all_accepted v (somes (making_of Folder dir a.item now)))
    where
      at : (r : Result Volume Reply) → at_place place (next (over (by_forks forks) r) (λ w. Ok (folder_here w (id_named w dir name))))
          ≡ over_placed Folder a forks (at_place place (next r (λ w. Ok (folder_here w (id_named w dir name)))))
      at (Ok w) = ap (λ (id : ℕ). Ok (folder_here (with_forks forks w) id)) (id-same forks w dir name)
      at (Err reply) = refl

  abbrev file_here : Volume → ℕ → Placed
  file_here w id = record { volume = w; id = id; folders = folders }

  abbrev file_end : List Call
  file_end = somes (ending_of File dir a.item now)

  -- with the lengths of its bytes
  pub is-ready : IsWhole a → (w : Volume) → all_accepted v (somes (making_of File dir a.item now)) ≡ Ok w
      → IsReady v w dir name now (length a.data_fork) (length a.resource_fork)
  is-ready whole w is =
      subst (λ (n : ℕ). IsReady v w dir name now (length a.data_fork) n) (sym whole.1)
      (subst (λ (n : ℕ). IsReady v w dir name now n a.item.resource_len) (sym whole.0)
      (ready dir name a.item.placing now a.item.data_len a.item.resource_len v w is))

  file-over : IsWhole a → IsBelow forks v
      → placed_by File now place dir a (with_forks forks v) folders ≡ over_placed File a forks (placed_by File now place dir
      (without_bytes a) v folders)
  file-over whole below =
      ap (λ (r : Result Volume Reply). at_place place (next r (λ w. next (all_accepted w (filling File dir a now)) (λ done. Ok (file_here done
      (id_named w dir name))))))
      (making-over dir name a.item.placing now a.item.data_len a.item.resource_len forks v below)
      ∙ at (all_accepted v (somes (making_of File dir a.item now))) refl
    where
      at : (r : Result Volume Reply) → all_accepted v (somes (making_of File dir a.item now)) ≡ r
          → at_place place (next (over (by_forks forks) r) (λ w. next (all_accepted w (filling File dir a now)) (λ done. Ok (file_here done
          (id_named w dir name)))))
          ≡ over_placed File a forks (at_place place (next r (λ w. next (all_accepted w file_end) (λ done. Ok (file_here done
          (id_named w dir name))))))
      at (Ok w) is =
          let file = is-ready whole w is in
          let own : FileForks = record { id = file.n; data_fork = a.data_fork; resource_fork = a.resource_fork } in
          ap (λ (r : Result Volume Reply). at_place place (next r (λ done. Ok (file_here done (id_named (with_forks forks w) dir name)))))
          (bytes-written v w dir name now a.data_fork a.resource_fork file forks below file_end
          ∙ quiet-over (own ∷ forks) file_end (quiet-file_ending dir a.item now) w)
          ∙ behind w file.n (id-made w dir name now file.n file.item _ file.made) (all_accepted w file_end)
        where
          behind : (w : Volume) (n : ℕ) → id_named w dir name ≡ n → (r : Result Volume Reply)
              → at_place place (next (over (by_forks (record { id = n; data_fork = a.data_fork; resource_fork = a.resource_fork } ∷ forks)) r)
              (λ done. Ok (file_here done (id_named (with_forks forks w) dir name))))
              ≡ over_placed File a forks (at_place place (next r (λ done. Ok (file_here done (id_named w dir name)))))
          behind w n id (Ok done) =
              λ i. Ok (file_here (with_forks (record { id = sym id i; data_fork = a.data_fork; resource_fork = a.resource_fork } ∷ forks) done)
              (id-same forks w dir name i))
          behind w n id (Err reply) = refl
      at (Err reply) is = refl

  -- ---- and behind it

  pub record IsPlaced (kind : ItemKind) (p : Placed) : Type 0 where
    pub below : IsBelow (forks_with kind a p.id forks) p.volume
    pub quiet : Each IsQuietOpen p.folders

  folder-is : IsBelow forks v → Each IsQuietOpen folders → (p : Placed) → placed_by Folder now place dir (without_bytes a) v folders ≡ Ok p
      → IsPlaced Folder p
  folder-is below quiet p is =
      let making = somes (making_of Folder dir a.item now) in
      let parts = split (all_accepted v making) (λ w. Ok (folder_here w (id_named w dir name))) p
      (told place (next (all_accepted v making) (λ w. Ok (folder_here w (id_named w dir name)))) p is) in
      subst (λ (q : Placed). IsPlaced Folder q) (same_ok {E = Reply} (folder_here parts.0 (id_named parts.0 dir name)) p parts.2)
      (record {
        below = below-next forks v parts.0 below (all-next v parts.0 making parts.1);
        quiet = (quiet-folder_ending dir a.item a.item.placing now, quiet);
      })

  file-is : IsWhole a → IsBelow forks v → Each IsQuietOpen folders → (p : Placed)
      → placed_by File now place dir (without_bytes a) v folders ≡ Ok p → IsPlaced File p
  file-is whole below quiet p is =
      let making = somes (making_of File dir a.item now) in
      let parts = split (all_accepted v making) (λ w. next (all_accepted w file_end) (λ done. Ok (file_here done (id_named w dir name)))) p
      (told place (next (all_accepted v making) (λ w. next (all_accepted w file_end) (λ done. Ok (file_here done (id_named w dir name))))) p is) in
      let last = split (all_accepted parts.0 file_end) (λ done. Ok (file_here done (id_named parts.0 dir name))) p parts.2 in
      let file = is-ready whole parts.0 parts.1 in
      let id : id_named parts.0 dir name ≡ file.n = id-made parts.0 dir name now file.n file.item _ file.made in
      let more : parts.0.next_id ≤ last.0.next_id = all-next parts.0 last.0 file_end last.1 in
      subst (λ (q : Placed). IsPlaced File q) (same_ok {E = Reply} (file_here last.0 (id_named parts.0 dir name)) p last.2)
      (record {
        below = λ q from.
            forks-there (record { id = id_named parts.0 dir name; data_fork = a.data_fork; resource_fork = a.resource_fork }) forks q
            (λ (same : q ≡ id_named parts.0 dir name). omega (arith, same, id, more, from, file.below))
            ∙ below q (omega (arith, more, from, file.below, file.from));
        quiet = quiet;
      })

  -- ---- of either kind

  placed-over-by : (kind : ItemKind) → IsWhole a → IsBelow forks v
      → placed_by kind now place dir a (with_forks forks v) folders ≡ over_placed kind a forks (placed_by kind now place dir
      (without_bytes a) v folders)
  placed-over-by Folder whole below = folder-over
  placed-over-by File whole below = file-over whole below

  pub placed-is-by : (kind : ItemKind) → IsWhole a → IsBelow forks v → Each IsQuietOpen folders → (p : Placed)
      → placed_by kind now place dir (without_bytes a) v folders ≡ Ok p → IsPlaced kind p
  placed-is-by Folder whole below quiet p is = folder-is below quiet p is
  placed-is-by File whole below quiet p is = file-is whole below quiet p is

-- ---- the list

abbrev over_put : List FileForks → List Arrival → Result Put Refused → Result Put Refused
over_put forks more (Ok put) = Ok (record put { volume = with_forks (came more put.ids forks) put.volume })
over_put forks more (Err refused) = Err refused

module _ (target now : ℕ) where
  -- no item is left
  abbrev pub finished : Volume × List Open → Result Put Refused
  finished s = Ok (record { volume = s.0; ids = [] })

  abbrev pub ended : Placed → Put → Put
  ended p rest = record { volume = rest.volume; ids = p.id ∷ rest.ids }

  -- what comes behind an item
  abbrev behind : ℕ → List Arrival → Placed → Result Put Refused
  behind place more p = next (put_from target now (place + 1) p.volume p.folders more) (λ (rest : Put). Ok (ended p rest))

  -- what comes behind the folders that are left
  abbrev placing : ℕ → Arrival → List Arrival → Volume × List Open → Result Put Refused
  placing place a more s = next (placed now place (folder_id target s.1) a s.0 s.1) (λ (p : Placed). behind place more p)

  -- it is so of the rest
  abbrev IsSoBehind : ℕ → List Arrival → Type 0
  IsSoBehind place more = (forks : List FileForks) (v : Volume) (folders : List Open) → IsBelow forks v → Each IsQuietOpen folders
      → put_from target now place (with_forks forks v) folders more ≡ over_put forks more (put_from target now place v folders
      (map without_bytes more))

  none-behind : (forks : List FileForks) (r : Result (Volume × List Open) Refused) → next (over_left forks r) finished ≡ over_put forks [] (next r finished)
  none-behind forks (Ok s) = refl
  none-behind forks (Err refused) = refl

  module _ (a : Arrival) (more : List Arrival) (forks : List FileForks) (place : ℕ) (whole : IsWhole a) (rest : IsSoBehind (place + 1) more) where
    last : (p : Placed) (r : Result Put Refused)
        → next (over_put (forks_with a.item.kind a p.id forks) more r) (λ (rest : Put). Ok (ended p rest))
        ≡ over_put forks (a ∷ more) (next r (λ (rest : Put). Ok (ended p rest)))
    last p (Ok put) = refl
    last p (Err refused) = refl

    one : (s : Volume × List Open) (r : Result Placed Refused) → ((p : Placed) → r ≡ Ok p
        → IsPlaced now place (folder_id target s.1) a s.1 forks s.0 a.item.kind p)
        → next (over_placed a.item.kind a forks r) (λ (p : Placed). behind place more p)
        ≡ over_put forks (a ∷ more) (next r (λ (p : Placed). behind place (map without_bytes more) p))
    one s (Err refused) is = refl
    one s (Ok p) is =
        let facts = is p refl in
        ap (λ (r : Result Put Refused). next r (λ (rest : Put). Ok (ended p rest))) (rest
        (forks_with a.item.kind a p.id forks) p.volume p.folders facts.below facts.quiet)
        ∙ last p (put_from target now (place + 1) p.volume p.folders (map without_bytes more))

    first : (v : Volume) (folders : List Open) → IsBelow forks v → Each IsQuietOpen folders → (r : Result (Volume × List Open) Refused)
        → left a.item.parent v folders ≡ r
        → next (over_left forks r) (λ (s : Volume × List Open). placing place a more s)
        ≡ over_put forks (a ∷ more) (next r (λ (s : Volume × List Open). placing place (without_bytes a) (map without_bytes more) s))
    first v folders below quiet (Err refused) is = refl
    first v folders below quiet (Ok s) is =
        let here = left-is a.item.parent folders quiet v s is in
        let under = below-next forks v s.0 below here.next_id in
        let dir = folder_id target s.1 in
        ap (λ (r : Result Placed Refused). next r (λ (p : Placed). behind place more p))
        (placed-over-by now place dir a s.1 forks s.0 a.item.kind whole under)
        ∙ one s (placed now place dir (without_bytes a) s.0 s.1) (λ p done. placed-is-by now place dir a s.1 forks s.0 a.item.kind whole under
        here.quiet p done)

  put-over : (more : List Arrival) (place : ℕ) → Each IsWhole more → IsSoBehind place more
  put-over [] place whole forks v folders below quiet =
      ap (λ (r : Result (Volume × List Open) Refused). next r finished) (left-over forks None folders quiet v)
      ∙ none-behind forks (left None v folders)
  put-over (a ∷ more) place whole forks v folders below quiet =
      ap (λ (r : Result (Volume × List Open) Refused). next r (λ (s : Volume × List Open). placing place a more s))
      (left-over forks a.item.parent folders quiet v)
      ∙ first a more forks place whole.0 (put-over more (place + 1) whole.1) v folders below quiet (left a.item.parent v folders) refl

-- without forks that came
pub none-came : (v : Volume) → with_forks [] v ≡ v
none-came v = ap (λ (items : Items). record v { items = items }) (mapped-none v.items)

pub put_is_laid : PutIsLaid
put_is_laid v target now arrivals whole =
    ap (λ (u : Volume). put_from target now 0 u [] arrivals) (sym (none-came v))
    ∙ put-over target now arrivals 0 whole [] v [] (λ q from. refl) tt
    ∙ at (laid_volume v target now arrivals)
  where
    at : (r : Result Put Refused) → over_put [] arrivals r ≡ with_bytes arrivals r
    at (Ok put) = refl
    at (Err refused) = refl
