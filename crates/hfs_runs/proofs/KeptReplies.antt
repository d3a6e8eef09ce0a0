-- What callers were answered, as it is kept behind a run.
use Rattle.std.proofs.Common.{◌≡◌, ◌∙◌, ℕ, ◌-◌, ◌<◌, List, [], ◌∷◌, map, length, get_or, Vec, Global, sym, ap, subst, arith}
use mathlib.Core.List.{map-map}
use Rattle.hfs_model.specs.declared.reply.Reply.{Reply}
use Rattle.hfs_scripts.specs.declared.lines.Caller.{Caller}
use Rattle.hfs_scripts.specs.declared.lines.Caller.TheVariants.{Worker, Viewer}
use Rattle.hfs_shared.specs.Histories.{Known}
use Rattle.hfs_shared.specs.Tolds.{ToldState}
use Rattle.hfs_shared.specs.declared.done.Done.{Done}
use Rattle.hfs_runs.specs.declared.replies.Replies.{Replies}
use Rattle.hfs_runs.specs.declared.viewing.Viewing.{Viewing}
use Rattle.hfs_runs.specs.Answers.{kept_replies, replies_of, told_replies, worker_replies}

-- what workers were told is what was done of their jobs
pub same-told : (told : List (Vec (Reply × ToldState) Global)) (dones : List Done) → told ≡ map (λ (done : Done). done.replies) dones → told_replies told ≡ worker_replies dones
same-told told dones is i number =
    (ap (λ (lists : List (List Reply)). get_or lists (number - 1) [])
    (ap (map (λ (got : Vec (Reply × ToldState) Global). map (λ reply. reply.0) got.items)) is
    ∙ map-map (λ (got : Vec (Reply × ToldState) Global). map (λ reply. reply.0) got.items) (λ (done : Done). done.replies) dones)) i

pub same-kept : (kept : Replies) (dones : List Done) (viewings : List Viewing) → kept.workers.items ≡ map (λ (done : Done). done.replies) dones
    → kept.viewers.items ≡ map (λ (one : Viewing). one.replies) viewings → (caller : Caller) → kept_replies kept caller ≡ replies_of dones viewings caller
same-kept kept dones viewings workers viewers (Worker number) = ap (λ (replies : ℕ → List Reply). replies number) (same-told kept.workers.items dones workers)
same-kept kept dones viewings workers viewers (Viewer number) =
    ap (λ (lists : List (List Reply)). get_or lists (number - 1) [])
    (ap (map (λ (got : Vec Reply Global). got.items)) viewers ∙ map-map (λ (got : Vec Reply Global). got.items) (λ (one : Viewing). one.replies) viewings)

-- the first viewer of viewings that were parted
pub first-viewer : (P : Known → Type 0) (viewings : List Viewing) (readers : List Known) (d : Known) → readers ≡ map (λ (one : Viewing). one.viewer) viewings → 0 < length viewings
    → ((v : Viewing) → P (get_or viewings 0 v).viewer) → P (get_or readers 0 d)
first-viewer P [] readers d is some h = absurd (omega (arith, some))
first-viewer P (v ∷ vs) readers d is some h = subst (λ (l : List Known). P (get_or l 0 d)) (sym is) (h v)
