-- Lists put on volumes that are the same but for the bytes of forks.
use Rattle.std.proofs.Common.{◌≡◌, ℕ, ◌+◌, Bool, true, false, cond, List, [], ◌∷◌, map, length, Option, Some, None, refl, sym, ap, subst, ◌∙◌, Result, Ok, Err}
use Rattle.std.specs.Prelude.{◌==◌}
use Rattle.std.specs.List.{cons_option}
use Rattle.std.specs.Option.{option_map, option_map_or}
use Rattle.hfs_fields.specs.Each.{Each}
use Rattle.hfs_fields.proofs.ElementLemmas.{each-append}
use Rattle.hfs_model.specs.declared.call.Call.{Call}
use Rattle.hfs_model.specs.declared.call.Call.TheVariants as call
use Rattle.hfs_model.specs.declared.call.Fork.{Fork}
use Rattle.hfs_model.specs.declared.call.Fork.TheVariants.{DataFork, ResFork}
use Rattle.hfs_model.specs.declared.reply.ItemKind.{ItemKind}
use Rattle.hfs_model.specs.declared.reply.ItemKind.TheVariants.{Folder, File}
use Rattle.hfs_model.specs.declared.reply.Reply.{Reply}
use Rattle.hfs_model.specs.Changes.{Outcome}
use Rattle.hfs_model.specs.Children.{child_named, entries_of}
use Rattle.hfs_model.specs.Replies.{is_accepted}
use Rattle.hfs_model.specs.Step.{step}
use Rattle.hfs_model.specs.Volume.{Entry, Volume}
use Rattle.hfs_model.specs.Alike.{AreAlike, bare, reads_fork, EndAlike as StepsAlike}
use Rattle.hfs_model.proofs.BareEntries.{child_named-bare}
use Rattle.hfs_model.proofs.BareChoices.{are}
use Rattle.hfs_model.proofs.AlikeLawsProved.{alike_volumes_answer_alike}
use Rattle.hfs_put_plan.specs.declared.over.Placing.{Placing}
use Rattle.hfs_put_plan.specs.declared.over.Placing.TheVariants.{New, Kept, Replaced, Taken}
use Rattle.hfs_put_plan.specs.declared.steps.ForkPiece.{ForkPiece}
use Rattle.hfs_put_plan.specs.declared.items.PutItem.{PutItem}
use Rattle.hfs_put_plan.specs.Accepted.{next, accepted, all_accepted}
use Rattle.hfs_put_plan.specs.Calls.{somes, unlock_call, delete_call, end_call, folder_call, making_of, making, write_call, write_calls, fork_pieces, lock_call, folder_ending, ending_of, ending}
use Rattle.hfs_put_plan.specs.Put.{Arrival, Open, Placed, Put, Refused, at_place, is_at, left, folder_id, id_named, writing, filling, opened, placed, put_from, put_volume}
use Rattle.hfs_put.proofs.Results.{Related, next-related, at-related}

-- ---- no call of a list reads a fork

abbrev pub ReadsNone : Call → Type 0
ReadsNone c = reads_fork c ≡ false

abbrev NoneReads : List (Option Call) → Type 0
NoneReads calls = Each ReadsNone (somes calls)

one-more : (o : Option Call) (calls : List (Option Call)) → Each ReadsNone (cons_option o []) → NoneReads calls → NoneReads (o ∷ calls)
one-more None calls here rest = rest
one-more (Some c) calls here rest = (here.0, rest)

if-none : (b : Bool) (c : Call) → ReadsNone c → Each ReadsNone (cons_option (cond b None (Some c)) [])
if-none true c reads = tt
if-none false c reads = (reads, tt)

if-some : (b : Bool) (c : Call) → ReadsNone c → Each ReadsNone (cons_option (cond b (Some c) None) [])
if-some true c reads = (reads, tt)
if-some false c reads = tt

module _ (dir : ℕ) (item : PutItem) (now : ℕ) where
  unlock-reads : (placing : Placing) → Each ReadsNone (cons_option (unlock_call dir item.name placing now) [])
  unlock-reads (Replaced locked) = if-some locked (call.RstFLock dir item.name now) refl
  unlock-reads New = tt
  unlock-reads Kept = tt
  unlock-reads Taken = tt

  delete-reads : (placing : Placing) → Each ReadsNone (cons_option (delete_call dir item.name placing now) [])
  delete-reads (Replaced locked) = (refl, tt)
  delete-reads New = tt
  delete-reads Kept = tt
  delete-reads Taken = tt

  folder-reads : (placing : Placing) → Each ReadsNone (cons_option (folder_call dir item.name placing now) [])
  folder-reads (Replaced locked) = (refl, tt)
  folder-reads New = (refl, tt)
  folder-reads Kept = tt
  folder-reads Taken = (refl, tt)

  making-reads : (kind : ItemKind) → NoneReads (making_of kind dir item now)
  making-reads Folder = one-more (folder_call dir item.name item.placing now) [] (folder-reads item.placing) tt
  making-reads File =
      let end_data = end_call dir item.name DataFork item.data_len now in
      let end_resource = end_call dir item.name ResFork item.resource_len now in
      let last : NoneReads (end_resource ∷ []) =
      one-more end_resource [] (if-none (item.resource_len == 0) (call.SetEof dir item.name ResFork item.resource_len now) refl) tt in
      let ends : NoneReads (end_data ∷ end_resource ∷ []) =
      one-more end_data (end_resource ∷ []) (if-none (item.data_len == 0) (call.SetEof dir item.name DataFork item.data_len now) refl) last in
      let created : NoneReads (Some (call.Create dir item.name now) ∷ end_data ∷ end_resource ∷ []) = (refl, ends) in
      one-more (unlock_call dir item.name item.placing now) (delete_call dir item.name item.placing now ∷ Some (call.Create dir item.name now) ∷ end_data ∷ end_resource ∷ [])
      (unlock-reads item.placing)
      (one-more (delete_call dir item.name item.placing now) (Some (call.Create dir item.name now) ∷ end_data ∷ end_resource ∷ []) (delete-reads item.placing) created)

  folder_ending-reads : (placing : Placing) → NoneReads (folder_ending dir item placing now)
  folder_ending-reads (Replaced locked) = (refl, tt)
  folder_ending-reads New = (refl, tt)
  folder_ending-reads Kept = tt
  folder_ending-reads Taken = (refl, tt)

  ending-reads : (kind : ItemKind) → NoneReads (ending_of kind dir item now)
  ending-reads Folder = folder_ending-reads item.placing
  ending-reads File = (refl, one-more (lock_call dir item now) [] (if-some item.facts.locked (call.SetFLock dir item.name now) refl) tt)

writes-read : (dir : ℕ) (name : List ℕ) (fork : Fork) (bytes : List ℕ) (now : ℕ) (pieces : List ForkPiece)
    → Each ReadsNone (map (write_call dir name fork bytes now) pieces)
writes-read dir name fork bytes now [] = tt
writes-read dir name fork bytes now (piece ∷ pieces) = (refl, writes-read dir name fork bytes now pieces)

filling-reads : (kind : ItemKind) (dir : ℕ) (a : Arrival) (now : ℕ) → Each ReadsNone (filling kind dir a now)
filling-reads Folder dir a now = tt
filling-reads File dir a now =
    each-append ReadsNone (writing dir a now) (somes (ending_of File dir a.item now))
    (each-append ReadsNone (write_calls dir a.item.name DataFork a.data_fork now) (write_calls dir a.item.name ResFork a.resource_fork now)
    (writes-read dir a.item.name DataFork a.data_fork now (fork_pieces (length a.data_fork)))
    (writes-read dir a.item.name ResFork a.resource_fork now (fork_pieces (length a.resource_fork))))
    (ending-reads dir a.item now File)

-- what comes behind all that lies in the folder reads none
abbrev EndsUnread : Open → Type 0
EndsUnread o = Each ReadsNone o.ending

-- ---- calls on both volumes

module _ (keep : ℕ → Bool) where
  abbrev Alike : Volume → Volume → Type 0
  Alike v w = AreAlike keep v w

  abbrev answered : Bool → Outcome → Result Volume Reply
  answered b o = cond b (Ok o.0) (Err o.1)

  accepted-alike : (v w : Volume) (c : Call) → ReadsNone c → Alike v w → Related Alike (accepted v c) (accepted w c)
  accepted-alike v w c reads alike =
      subst (λ (b : Bool). Related Alike (answered (is_accepted (step v c).1) (step v c)) (answered b (step w c)))
      (sym (ap is_accepted (ends.reply reads))) (at (is_accepted (step v c).1))
    where
      ends : StepsAlike keep c (step v c) (step w c)
      ends = alike_volumes_answer_alike keep v w c alike

      at : (b : Bool) → Related Alike (answered b (step v c)) (answered b (step w c))
      at true = ends.volumes
      at false = ends.reply reads

  all-alike : (cs : List Call) → Each ReadsNone cs → (v w : Volume) → Alike v w → Related Alike (all_accepted v cs) (all_accepted w cs)
  all-alike [] reads v w alike = alike
  all-alike (c ∷ cs) reads v w alike =
      next-related Alike Alike (accepted v c) (accepted w c) (λ u. all_accepted u cs) (λ u. all_accepted u cs) (accepted-alike v w c reads.0 alike)
      (λ a b h. all-alike cs reads.1 a b h)

  -- ---- folders

  -- the same folders are open
  record SameOpen (s t : Volume × List Open) : Type 0 where
    volumes : Alike s.0 t.0
    folders : t.1 ≡ s.1
    unread : Each EndsUnread s.1

  left-alike : (parent : Option ℕ) (folders : List Open) → Each EndsUnread folders → (v w : Volume) → Alike v w
      → Related SameOpen (left parent v folders) (left parent w folders)
  left-alike parent [] unread v w alike = record { volumes = alike; folders = refl; unread = tt }
  left-alike parent (o ∷ os) unread v w alike = at (is_at parent o.place) (λ a b h. left-alike parent os unread.1 a b h)
    where
      at : (b : Bool) → ((x y : Volume) → Alike x y → Related SameOpen (left parent x os) (left parent y os))
          → Related SameOpen (cond b (Ok (v, o ∷ os)) (next (at_place o.place (all_accepted v o.ending)) (λ u. left parent u os)))
          (cond b (Ok (w, o ∷ os)) (next (at_place o.place (all_accepted w o.ending)) (λ u. left parent u os)))
      at true behind = record { volumes = alike; folders = refl; unread = unread }
      at false behind =
          next-related Alike SameOpen (at_place o.place (all_accepted v o.ending)) (at_place o.place (all_accepted w o.ending)) (λ u. left parent u os)
          (λ u. left parent u os)
          (at-related Alike o.place (all_accepted v o.ending) (all_accepted w o.ending) (all-alike o.ending unread.0 v w alike))
          behind

  -- ---- an item

  entries-same : (v w : Volume) → Alike v w → map (bare keep) (entries_of w) ≡ map (bare keep) (entries_of v)
  entries-same v w alike = sym (are keep w) ∙ ap (λ (u : Volume). entries_of u) (sym alike) ∙ are keep v

  id-of : (o : Option Entry) → option_map_or (λ (e : Entry). e.0) (option_map (bare keep) o) 0 ≡ option_map_or (λ (e : Entry). e.0) o 0
  id-of None = refl
  id-of (Some e) = refl

  named-bare : (es : List Entry) (dir : ℕ) (name : List ℕ)
      → option_map_or (λ (e : Entry). e.0) (child_named (map (bare keep) es) dir name) 0 ≡ option_map_or (λ (e : Entry). e.0) (child_named es dir name) 0
  named-bare es dir name =
      ap (λ (o : Option Entry). option_map_or (λ (e : Entry). e.0) o 0) (child_named-bare keep es dir name) ∙ id-of (child_named es dir name)

  id-alike : (v w : Volume) (dir : ℕ) (name : List ℕ) → Alike v w → id_named w dir name ≡ id_named v dir name
  id-alike v w dir name alike =
      sym (named-bare (entries_of w) dir name)
      ∙ ap (λ (es : List Entry). option_map_or (λ (e : Entry). e.0) (child_named es dir name) 0) (entries-same v w alike)
      ∙ named-bare (entries_of v) dir name

  record SamePlaced (p q : Placed) : Type 0 where
    volumes : Alike p.volume q.volume
    ids : q.id ≡ p.id
    folders : q.folders ≡ p.folders
    unread : Each EndsUnread p.folders

  opened-unread : (kind : ItemKind) (o : Open) (folders : List Open) → EndsUnread o → Each EndsUnread folders → Each EndsUnread (opened kind o folders)
  opened-unread Folder o folders here rest = (here, rest)
  opened-unread File o folders here rest = rest

  module _ (now place dir : ℕ) (a : Arrival) (folders : List Open) (unread : Each EndsUnread folders) where
    abbrev open_as : ℕ → Open
    open_as id = record {
      place = place;
      id = id;
      ending = somes
          (ending dir a.item now);
    }

    abbrev placed_as : Volume → ℕ → Placed
    placed_as done id = record { volume = done; id = id; folders = opened a.item.kind (open_as id) folders }

    abbrev finish : Volume → Result Placed Reply
    finish made = next (all_accepted made (filling a.item.kind dir a now)) (λ done. Ok (placed_as done (id_named made dir a.item.name)))

    finish-alike : (v w : Volume) → Alike v w → Related SamePlaced (finish v) (finish w)
    finish-alike v w alike =
        next-related Alike SamePlaced (all_accepted v (filling a.item.kind dir a now)) (all_accepted w (filling a.item.kind dir a now))
        (λ done. Ok (placed_as done (id_named v dir a.item.name))) (λ done. Ok (placed_as done (id_named w dir a.item.name)))
        (all-alike (filling a.item.kind dir a now) (filling-reads a.item.kind dir a now) v w alike)
        (λ x y h. record {
          volumes = h;
          ids = id-alike v w dir a.item.name alike;
          folders = ap (λ (id : ℕ). opened a.item.kind (open_as id) folders) (id-alike v w dir a.item.name alike);
          unread = opened-unread a.item.kind (open_as (id_named v dir a.item.name)) folders (ending-reads dir a.item now a.item.kind) unread;
        })

    placed-alike : (v w : Volume) → Alike v w → Related SamePlaced (placed now place dir a v folders) (placed now place dir a w folders)
    placed-alike v w alike =
        at-related SamePlaced place (next (all_accepted v (somes (making dir a.item now))) finish) (next (all_accepted w (somes (making dir a.item now))) finish)
        (next-related Alike SamePlaced (all_accepted v (somes (making dir a.item now))) (all_accepted w (somes (making dir a.item now))) finish finish
        (all-alike (somes (making dir a.item now)) (making-reads dir a.item now a.item.kind) v w alike) finish-alike)

  -- ---- the list

  pub record SamePut (a b : Put) : Type 0 where
    pub ids : b.ids ≡ a.ids
    pub volumes : Alike a.volume b.volume

  module _ (target now : ℕ) where
    abbrev finished : Volume × List Open → Result Put Refused
    finished s = Ok (record { volume = s.0; ids = [] })

    abbrev behind : ℕ → List Arrival → Placed → Result Put Refused
    behind place more p =
        next (put_from target now (place + 1) p.volume p.folders more) (λ (rest : Put). Ok (record { volume = rest.volume; ids = p.id ∷ rest.ids }))

    abbrev placing : ℕ → Arrival → List Arrival → Volume × List Open → Result Put Refused
    placing place a more s = next (placed now place (folder_id target s.1) a s.0 s.1) (λ (p : Placed). behind place more p)

    put_from-alike : (arrivals : List Arrival) (place : ℕ) (folders : List Open) → Each EndsUnread folders → (v w : Volume) → Alike v w
        → Related SamePut (put_from target now place v folders arrivals) (put_from target now place w folders arrivals)
    put_from-alike [] place folders unread v w alike =
        next-related SameOpen SamePut (left None v folders) (left None w folders) finished finished (left-alike None folders unread v w alike)
        (λ s t h. record { ids = refl; volumes = h.volumes })
    put_from-alike (a ∷ more) place folders unread v w alike =
        next-related SameOpen SamePut (left a.item.parent v folders) (left a.item.parent w folders) (placing place a more) (placing place a more)
        (left-alike a.item.parent folders unread v w alike)
        (λ s t h. subst (λ (os : List Open). Related SamePut (placing place a more s) (placing place a more (t.0, os))) (sym h.folders)
        (next-related SamePlaced SamePut (placed now place (folder_id target s.1) a s.0 s.1) (placed now place (folder_id target s.1) a t.0 s.1)
        (λ (p : Placed). behind place more p) (λ (p : Placed). behind place more p)
        (placed-alike now place (folder_id target s.1) a s.1 h.unread s.0 t.0 h.volumes)
        (λ p q same. subst (λ (os : List Open). Related SamePut (behind place more p)
        (next (put_from target now (place + 1) q.volume os more) (λ (rest : Put). Ok (record { volume = rest.volume; ids = q.id ∷ rest.ids })))) (sym same.folders)
        (next-related SamePut SamePut (put_from target now (place + 1) p.volume p.folders more) (put_from target now (place + 1) q.volume p.folders more)
        (λ (rest : Put). Ok (record { volume = rest.volume; ids = p.id ∷ rest.ids })) (λ (rest : Put). Ok (record { volume = rest.volume; ids = q.id ∷ rest.ids }))
        (put_from-alike more (place + 1) p.folders same.unread p.volume q.volume same.volumes)
        (λ x y rest. record { ids = λ i. same.ids i ∷ rest.ids i; volumes = rest.volumes })))))

    pub put-alike : (arrivals : List Arrival) (v w : Volume) → Alike v w → Related SamePut (put_volume v target now arrivals) (put_volume w target now arrivals)
    put-alike arrivals v w alike = put_from-alike arrivals 0 [] tt v w alike
