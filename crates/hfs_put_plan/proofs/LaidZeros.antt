-- Without the calls that write forks, the files of a list have zeros in their forks.
use Rattle.std.proofs.Common.{◌≡◌, ℕ, ◌+◌, List, [], ◌∷◌, length, map, replicate, Option, None, refl, sym, ◌∙◌, ap, subst, Result, Ok, Err}
use Rattle.std.proofs.lemmas.List.{length-replicate}
use Rattle.hfs_fields.specs.Each.{Each}
use Rattle.hfs_model.specs.declared.call.Call.{Call}
use Rattle.hfs_model.specs.declared.reply.ItemKind.{ItemKind}
use Rattle.hfs_model.specs.declared.reply.ItemKind.TheVariants.{Folder, File}
use Rattle.hfs_model.specs.declared.reply.Reply.{Reply}
use Rattle.hfs_model.specs.Volume.{Volume}
use Rattle.hfs_put_plan.specs.Accepted.{next, all_accepted}
use Rattle.hfs_put_plan.specs.Calls.{somes, making_of, ending_of}
use Rattle.hfs_put_plan.specs.Laws.{IsWhole, with_zeros, LaidForksAreZeros}
use Rattle.hfs_put_plan.specs.Put.{Arrival, Open, Refused, Put, Placed, left, folder_id, id_named, placed, put_from, without_bytes, came}
use Rattle.hfs_put_plan.specs.WithForks.{FileForks, with_forks}
use Rattle.hfs_put_plan.proofs.AcceptedCalls.{same_ok, split, over}
use Rattle.hfs_put_plan.proofs.ForkMaps.{by_forks}
use Rattle.hfs_put_plan.proofs.PutFiles.{id-made, zeros-there}
use Rattle.hfs_put_plan.proofs.PutLists.{IsQuietOpen, over_left, left-over, left-is, told, placed_by, forks_with, is-ready, placed-is-by, finished, ended, none-came}
use Rattle.hfs_put_plan.proofs.QuietCalls.{IsQuiet, quiet-folder, quiet-file_ending, quiet-over}
use Rattle.hfs_put_plan.proofs.ReadyFiles.{IsBelow, below-next, making-over}

-- the volume's files have these bytes in their forks
abbrev Holds : List FileForks → Volume → Type 0
Holds forks v = with_forks forks v ≡ v

-- what does the same whatever bytes the forks have leaves them
all-have : (forks : List FileForks) (cs : List Call) (v w : Volume) → Holds forks v → all_accepted (with_forks forks v) cs ≡ over (by_forks forks) (all_accepted v cs)
    → all_accepted v cs ≡ Ok w → Holds forks w
all-have forks cs v w has same is =
    sym (same_ok {E = Reply} w (with_forks forks w) (sym is ∙ ap (λ (u : Volume). all_accepted u cs) (sym has) ∙ same ∙ ap (over (by_forks forks)) is))

left-has : (forks : List FileForks) (parent : Option ℕ) (folders : List Open) → Each IsQuietOpen folders → (v : Volume) (s : Volume × List Open) → Holds forks v
    → left parent v folders ≡ Ok s → Holds forks s.0
left-has forks parent folders quiet v s has is =
    sym (ap (λ (t : Volume × List Open). t.0)
    (same_ok {A = Volume × List Open} {E = Refused} s (with_forks forks s.0, s.1)
    (sym is ∙ ap (λ (u : Volume). left parent u folders) (sym has) ∙ left-over forks parent folders quiet v ∙ ap (over_left forks) is)))

-- ---- an item

whole-zeros : (a : Arrival) → IsWhole a → IsWhole (with_zeros a)
whole-zeros a whole = (length-replicate {A = ℕ} (length a.data_fork) 0 ∙ whole.0, length-replicate {A = ℕ} (length a.resource_fork) 0 ∙ whole.1)

module _ (now place dir : ℕ) (a : Arrival) (folders : List Open) (forks : List FileForks) (v : Volume) where
  abbrev name : List ℕ
  name = a.item.name

  abbrev opened_as : Volume → ℕ → Placed
  opened_as w id = record {
    volume = w;
    id = id;
    folders = (record {
      place = place;
      id = id;
      ending = somes
          (ending_of Folder dir a.item now);
    }) ∷ folders;
  }

  folder-has : Holds forks v → (p : Placed) → placed_by Folder now place dir (without_bytes a) v folders ≡ Ok p → Holds forks p.volume
  folder-has has p is =
      let making = somes (making_of Folder dir a.item now) in
      let parts = split (all_accepted v making) (λ w. Ok (opened_as w (id_named w dir name))) p
      (told place (next (all_accepted v making) (λ w. Ok (opened_as w (id_named w dir name)))) p is) in
      subst (λ (q : Placed). Holds forks q.volume) (same_ok {E = Reply} (opened_as parts.0 (id_named parts.0 dir name)) p parts.2)
      (all-have forks making v parts.0 has (quiet-over forks making (quiet-folder dir name a.item.placing now) v) parts.1)

  abbrev as_file : Volume → ℕ → Placed
  as_file w id = record { volume = w; id = id; folders = folders }

  abbrev file_end : List Call
  file_end = somes (ending_of File dir a.item now)

  abbrev first_at : ℕ → List FileForks
  first_at n = record { id = n; data_fork = replicate (length a.data_fork) 0; resource_fork = replicate (length a.resource_fork) 0 } ∷ forks

  file-has : IsWhole a → IsBelow forks v → Holds forks v → (p : Placed) → placed_by File now place dir (without_bytes a) v folders ≡ Ok p
      → Holds (forks_with File (with_zeros a) p.id forks) p.volume
  file-has whole below has p is =
      let making = somes (making_of File dir a.item now) in
      let parts = split (all_accepted v making) (λ w. next (all_accepted w file_end) (λ done. Ok (as_file done (id_named w dir name)))) p
      (told place (next (all_accepted v making) (λ w. next (all_accepted w file_end) (λ done. Ok (as_file done (id_named w dir name))))) p is) in
      let last = split (all_accepted parts.0 file_end) (λ done. Ok (as_file done (id_named parts.0 dir name))) p parts.2 in
      let file = is-ready now place dir a folders forks v whole parts.0 parts.1 in
      let id : id_named parts.0 dir name ≡ file.n = id-made parts.0 dir name now file.n file.item _ file.made in
      let made : Holds forks parts.0 =
      all-have forks making v parts.0 has (making-over dir name a.item.placing now a.item.data_len a.item.resource_len forks v below) parts.1 in
      let zeros : Holds (first_at file.n) parts.0 =
      sym (zeros-there v parts.0 dir name now a.data_fork a.resource_fork file forks below) ∙ made in
      let named : Holds (first_at (id_named parts.0 dir name)) parts.0 = subst (λ (n : ℕ). Holds (first_at n) parts.0) (sym id) zeros in
      subst (λ (q : Placed). Holds (first_at q.id) q.volume) (same_ok {E = Reply} (as_file last.0 (id_named parts.0 dir name)) p last.2)
      (all-have (first_at (id_named parts.0 dir name)) file_end parts.0 last.0 named
      (quiet-over (first_at (id_named parts.0 dir name)) file_end (quiet-file_ending dir a.item now) parts.0) last.1)

  placed-has : (kind : ItemKind) → IsWhole a → IsBelow forks v → Holds forks v → (p : Placed) → placed_by kind now place dir (without_bytes a) v folders ≡ Ok p
      → Holds (forks_with kind (with_zeros a) p.id forks) p.volume
  placed-has Folder whole below has p is = folder-has has p is
  placed-has File whole below has p is = file-has whole below has p is

-- ---- the list

module _ (target now : ℕ) where
  abbrev behind : ℕ → List Arrival → Placed → Result Put Refused
  behind place more p = next (put_from target now (place + 1) p.volume p.folders more) (λ (rest : Put). Ok (ended target now p rest))

  abbrev placing : ℕ → Arrival → List Arrival → Volume × List Open → Result Put Refused
  placing place a more s = next (placed now place (folder_id target s.1) a s.0 s.1) (λ (p : Placed). behind place more p)

  put-has : (more : List Arrival) (place : ℕ) → Each IsWhole more → (forks : List FileForks) (v : Volume) (folders : List Open) → IsBelow forks v
      → Each IsQuietOpen folders → Holds forks v → (put : Put) → put_from target now place v folders (map without_bytes more) ≡ Ok put
      → Holds (came (map with_zeros more) put.ids forks) put.volume
  put-has [] place whole forks v folders below quiet has put is =
      let last = split (left None v folders) (finished target now) put is in
      subst (λ (q : Put). Holds (came [] q.ids forks) q.volume) (same_ok {E = Refused} (record { volume = last.0.0; ids = [] }) put last.2)
      (left-has forks None folders quiet v last.0 has last.1)
  put-has (a ∷ more) place whole forks v folders below quiet has put is =
      let first = split (left a.item.parent v folders) (λ (s : Volume × List Open). placing place (without_bytes a) (map without_bytes more) s) put is in
      let s = first.0 in
      let here = left-is a.item.parent folders quiet v s first.1 in
      let under = below-next forks v s.0 below here.next_id in
      let dir = folder_id target s.1 in
      let held = left-has forks a.item.parent folders quiet v s has first.1 in
      let second = split (placed now place dir (without_bytes a) s.0 s.1) (λ (p : Placed). behind place (map without_bytes more) p) put first.2 in
      let p = second.0 in
      let facts = placed-is-by now place dir (with_zeros a) s.1 forks s.0 a.item.kind (whole-zeros a whole.0) under here.quiet p second.1 in
      let third = split (put_from target now (place + 1) p.volume p.folders (map without_bytes more)) (λ (rest : Put). Ok (ended target now p rest)) put second.2 in
      subst (λ (q : Put). Holds (came (map with_zeros (a ∷ more)) q.ids forks) q.volume) (same_ok {E = Refused} (ended target now p third.0) put third.2)
      (put-has more (place + 1) whole.1 (forks_with a.item.kind (with_zeros a) p.id forks) p.volume p.folders facts.below facts.quiet
      (placed-has now place dir a s.1 forks s.0 a.item.kind whole.0 under held p second.1) third.0 third.1)

pub laid_forks_are_zeros : LaidForksAreZeros
laid_forks_are_zeros v target now arrivals put whole is = put-has target now arrivals 0 whole [] v [] (λ q from. refl) tt (none-came v) put is
