-- A fork whose bytes are written piece by piece, where SetEof made it as long before.
use Rattle.std.proofs.Common.{◌≡◌, ℕ, zero, suc, ◌+◌, ◌-◌, ◌*◌, ◌≤◌, ◌<◌, Bool, true, false, cond, leb, ltb, List, ◌∷◌, length, map, take, drop, replicate, Some, None, refl, sym, ◌∙◌, ap, Result, Ok, arith, length-take, length-drop}
use Rattle.std.specs.Prelude.{filter_map}
use Rattle.std.specs.List.{cons_option, range_with_len}
use Rattle.std.proofs.lemmas.Bool.{ltb-true}
use Rattle.hfs_model.specs.declared.call.Call.{Call}
use Rattle.hfs_model.specs.declared.call.Call.TheVariants as call
use Rattle.hfs_model.specs.declared.call.Fork.{Fork}
use Rattle.hfs_model.specs.declared.call.Fork.TheVariants.{DataFork, ResFork}
use Rattle.hfs_model.specs.declared.item.File.{File as FileRecord}
use Rattle.hfs_model.specs.declared.item.Kind.TheVariants.{File}
use Rattle.hfs_model.specs.declared.reply.Reply.{Reply}
use Rattle.hfs_model.specs.declared.reply.Value.TheVariants as value
use Rattle.hfs_model.specs.Forks.{fork_bytes, laid_over}
use Rattle.hfs_model.specs.Replies.{success}
use Rattle.hfs_model.specs.Volume.{Entry, Volume}
use Rattle.hfs_put_plan.specs.Steps.{fork_piece}
use Rattle.hfs_put_plan.specs.Accepted.{next, accepted, all_accepted}
use Rattle.hfs_put_plan.specs.Calls.{write_call, write_calls}
use Rattle.hfs_put_plan.specs.WithForks.{FileForks, with_forks}
use Rattle.hfs_put_plan.proofs.AcceptedCalls.{accepted-is}
use Rattle.hfs_put_plan.proofs.PartialBytes.{partial, partial-none, partial-all, partial-more, length-partial, at-most, is-within, is-past}
use Rattle.hfs_put_plan.proofs.WrittenPieces.{IsWritable, HasLength, fork_of, data_with, resource_with, piece-written}

-- ---- one of two forks

own-again : (fork : Fork) (l d r : List ℕ) → fork_of fork (data_with fork l d) (resource_with fork l r) ≡ l
own-again DataFork l d r = refl
own-again ResFork l d r = refl

data-again : (fork : Fork) (k l d : List ℕ) → data_with fork k (data_with fork l d) ≡ data_with fork k d
data-again DataFork k l d = refl
data-again ResFork k l d = refl

resource-again : (fork : Fork) (k l r : List ℕ) → resource_with fork k (resource_with fork l r) ≡ resource_with fork k r
resource-again DataFork k l r = refl
resource-again ResFork k l r = refl

pub data-same : (fork : Fork) (l d r : List ℕ) → fork_of fork d r ≡ l → data_with fork l d ≡ d
data-same DataFork l d r is = sym is
data-same ResFork l d r is = refl

pub resource-same : (fork : Fork) (l d r : List ℕ) → fork_of fork d r ≡ l → resource_with fork l r ≡ r
resource-same DataFork l d r is = refl
resource-same ResFork l d r is = sym is

module _ (v : Volume) (dir : ℕ) (name : List ℕ) (now : ℕ) (e : Entry) (file : FileRecord) (is : IsWritable v dir name now e file)
    (forks : List FileForks) (d r : List ℕ)
    (fork : Fork) (bytes : List ℕ) (same : length bytes ≡ length (fork_bytes fork (File file))) (has : HasLength v.block_size fork file)
    (short : length bytes ≤ 2147483647) where
  -- the volume where the fork has these bytes
  abbrev pub with_own : List ℕ → Volume
  with_own l = with_forks (record { id = e.0; data_fork = data_with fork l d; resource_fork = resource_with fork l r } ∷ forks) v

  abbrev wrote : ℕ → List ℕ → Call
  wrote n new = call.WriteFork dir name fork n new now

  one-piece : (n m : ℕ) → n + m ≤ length bytes → m ≤ 65536 → accepted (with_own (partial n bytes)) (wrote n (take m (drop n bytes)))
      ≡ Ok (with_own (partial (n + m) bytes))
  one-piece n m within few =
      let l : List ℕ = partial n bytes in
      let new : List ℕ = take m (drop n bytes) in
      let fd : List ℕ = data_with fork l d in
      let fr : List ℕ = resource_with fork l r in
      let own : fork_of fork fd fr ≡ l = own-again fork l d r in
      let long : length (fork_of fork fd fr) ≡ length bytes = ap (λ (k : List ℕ). length k) own ∙ length-partial n bytes in
      let size : length new ≡ m = omega (arith, within, length-take m (drop n bytes), length-drop n bytes) in
      let laid : laid_over n new (fork_of fork fd fr) ≡ partial (n + m) bytes = ap (laid_over n new) own ∙ partial-more n m bytes within in
      accepted-is (with_own l) (with_own (partial (n + m) bytes)) (wrote n new) (success value.Nothing)
      (piece-written v dir name now e file is forks fd fr fork n new (omega (arith, few, size)) (omega (arith, within, long, size)) (omega
      (arith, long, short))
      (long ∙ same) has
      ∙ (λ i. (
        with_forks (record {
          id = e.0;
          data_fork = (data-again fork (laid_over n new (fork_of fork fd fr)) l d ∙ ap (λ (k : List ℕ). data_with fork k d) laid) i;
          resource_fork = (resource-again fork (laid_over n new (fork_of fork fd fr)) l r ∙ ap (λ (k : List ℕ). resource_with fork k r) laid) i;
        } ∷ forks) v,
        success value.Nothing,
      )))
      refl

  -- behind as many bytes as the fork has, it has them all
  past-end : (n m : ℕ) → length bytes ≤ n → length bytes ≤ m → with_own (partial n bytes) ≡ with_own (partial m bytes)
  past-end n m a b = ap with_own (partial-all n bytes a ∙ sym (partial-all m bytes b))

  -- the pieces from one on
  pieces-from : (count k : ℕ) → length bytes ≤ (k + count) * 65536
      → all_accepted (with_own (partial (k * 65536) bytes)) (map (write_call dir name fork bytes now) (filter_map (fork_piece (length bytes))
      (range_with_len k count)))
      ≡ Ok (with_own bytes)
  unfolding fork_piece
  pieces-from zero k enough = let all : length bytes ≤ k * 65536 = omega (arith, enough) in ap (λ (l : List ℕ). Ok (with_own l)) (partial-all
      (k * 65536) bytes all)
  pieces-from (suc count) k enough =
      let n : ℕ = k * 65536 in
      let rest : List Call = map (write_call dir name fork bytes now) (filter_map (fork_piece (length bytes)) (range_with_len (k + 1) count)) in
      let enough_behind : length bytes ≤ ((k + 1) + count) * 65536 = omega (arith, enough) in
      let behind : all_accepted (with_own (partial ((k + 1) * 65536) bytes)) rest ≡ Ok (with_own bytes) = pieces-from count (k + 1) enough_behind in
      elim (leb (length bytes) n)
      as (λ (b : Bool). leb (length bytes) n ≡ b → all_accepted (with_own (partial n bytes)) (map (write_call dir name fork bytes now)
      (cons_option (cond b None (Some (record {
        offset = n;
        len = cond (ltb (length bytes - n) 65536) (length bytes - n) 65536;
      }))) (filter_map (fork_piece (length bytes)) (range_with_len (k + 1) count)))) ≡ Ok (with_own bytes)) [
        | true ↦ λ t.
            let all : length bytes ≤ k * 65536 = is-within (length bytes) n t in
            ap (λ (w : Volume). all_accepted w rest) (past-end n ((k + 1) * 65536) all (omega (arith, all))) ∙ behind
        | false ↦ λ t.
            let some : k * 65536 < length bytes = is-past (length bytes) n t in
            elim (ltb (length bytes - n) 65536)
            as (λ (b : Bool). ltb (length bytes - n) 65536 ≡ b → next (accepted (with_own (partial n bytes)) (wrote n (take (cond b
            (length bytes - n) 65536) (drop n bytes)))) (λ w. all_accepted w rest)
            ≡ Ok (with_own bytes)) [
              | true ↦ λ s.
                  let few : length bytes - k * 65536 < 65536 = ltb-true (length bytes - n) 65536 s in
                  let end : k * 65536 + (length bytes - k * 65536) ≤ length bytes = omega (arith, some) in
                  ap (λ (o : Result Volume Reply). next o (λ w. all_accepted w rest)) (one-piece n (length bytes - n) end (omega (arith, few)))
                  ∙ ap (λ (w : Volume). all_accepted w rest) (past-end (n + (length bytes - n)) ((k + 1) * 65536) (omega (arith, some)) (omega
                  (arith, few)))
                  ∙ behind
              | false ↦ λ s.
                  let more : 65536 ≤ length bytes - k * 65536 = at-most 65536 (length bytes - n) s in
                  let next_one : k * 65536 + 65536 ≡ (k + 1) * 65536 = omega arith in
                  ap (λ (o : Result Volume Reply). next o (λ w. all_accepted w rest)) (one-piece n 65536 (omega (arith, more, some)) (omega arith))
                  ∙ ap (λ (m : ℕ). all_accepted (with_own (partial m bytes)) rest) next_one
                  ∙ behind
            ] refl
      ] refl

  -- all of them, into a fork of zeros
  pub fork-written : fork_of fork d r ≡ replicate (length bytes) 0
      → all_accepted (with_forks (record { id = e.0; data_fork = d; resource_fork = r } ∷ forks) v) (write_calls dir name fork bytes now)
      ≡ Ok (with_own bytes)
  fork-written zeros =
      let none : fork_of fork d r ≡ partial 0 bytes = zeros ∙ sym (partial-none bytes) in
      let enough : length bytes ≤ (0 + length bytes) * 65536 = omega arith in
      (λ i. all_accepted (with_forks (record {
        id = e.0;
        data_fork = sym (data-same fork (partial 0 bytes) d r none) i;
        resource_fork = sym (resource-same fork (partial 0 bytes) d r none) i;
      } ∷ forks) v) (write_calls dir name fork bytes now))
      ∙ pieces-from (length bytes) 0 enough
