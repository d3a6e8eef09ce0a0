-- Calls that are made one after the other.
use Rattle.std.proofs.Common.{◌≡◌, ℕ, ◌+◌, ◌<◌, ◌≤◌, List, [], ◌∷◌, ◌++◌, length, get_or, take, refl, sym, subst, arith}
use Rattle.std.specs.Prelude.{Result, Ok, Err, OnErr}
use Rattle.std.proofs.lemmas.List.{take_all, take_more}
use Rattle.hfs_model.specs.declared.call.Call.{Call}
use Rattle.hfs_model.specs.declared.reply.Reply.{Reply}
use Rattle.hfs_volume.specs.Image.{ImageValue}
use Rattle.hfs_volume.specs.Steps.{AreFirstMade, AreFirstServed, AreMade, AreServed, HasWrittenBlocks, IsMade}

-- one call more
more_made : (first : List ℕ) (calls : List Call) (replies : List Reply) (image : List ℕ) (c : Call) (reply : Reply) (next : List ℕ) → AreMade first calls replies image → IsMade image c reply next
    → AreMade first (calls ++ c ∷ []) (replies ++ reply ∷ []) next
more_made first [] [] image c reply next made is = (next, subst (λ (i : List ℕ). IsMade i c reply next) (sym made) is, refl)
more_made first [] (r ∷ replies) image c reply next made is = absurd made
more_made first (d ∷ calls) [] image c reply next made is = absurd made
more_made first (d ∷ calls) (r ∷ replies) image c reply next made is = (made.0, made.1, more_made made.0 calls replies image c reply next made.2 is)

pub next_made : (first : List ℕ) (calls : List Call) (replies : List Reply) (image : List ℕ) (n : ℕ) (c : Call) (reply : Reply) (next : List ℕ) → n < length calls → get_or calls n c ≡ c
    → AreMade first (take n calls) replies image → IsMade image c reply next → AreMade first (take (n + 1) calls) (replies ++ reply ∷ []) next
next_made first calls replies image n c reply next lt at made is =
    subst (λ (cs : List Call). AreMade first cs (replies ++ reply ∷ []) next) (sym (take_more calls n c lt))
    (subst (λ (d : Call). AreMade first (take n calls ++ d ∷ []) (replies ++ reply ∷ []) next) (sym at) (more_made first (take n calls) replies image c reply next made is))

-- where no calls are left, all were made
pub none_more : (first : List ℕ) (calls : List Call) (replies : List Reply) (image : List ℕ) (n : ℕ) → length calls ≤ n → AreMade first (take n calls) replies image → AreMade first calls replies image
none_more first calls replies image n past made = subst (λ (cs : List Call). AreMade first cs replies image) (take_all n calls past) made

-- memory was wanting behind one call more
pub first_made : {T E : Type 0} (result : Result T E) (first : List ℕ) (calls : List Call) (replies : List Reply) (next : List ℕ) (n : ℕ) → n < length calls → AreMade first (take (n + 1) calls) replies next
    → OnErr result (AreFirstMade calls first next)
first_made (Ok x) first calls replies next n lt made = tt
first_made (Err e) first calls replies next n lt made = record { count = n + 1; within = omega (arith, lt); replies = replies; made = made }

-- ---- the same, with the blocks that they wrote

more_served : (first : ImageValue) (calls : List Call) (replies : List Reply) (image : ImageValue) (c : Call) (reply : Reply) (next : ImageValue) → AreServed first calls replies image → IsMade image.current c reply next.current
    → HasWrittenBlocks c image next → AreServed first (calls ++ c ∷ []) (replies ++ reply ∷ []) next
more_served first [] [] image c reply next served is wrote =
    (next, subst (λ (i : ImageValue). IsMade i.current c reply next.current) (sym served) is, subst (λ (i : ImageValue). HasWrittenBlocks c i next) (sym served) wrote, refl)
more_served first [] (r ∷ replies) image c reply next served is wrote = absurd served
more_served first (d ∷ calls) [] image c reply next served is wrote = absurd served
more_served first (d ∷ calls) (r ∷ replies) image c reply next served is wrote = (served.0, served.1, served.2, more_served served.0 calls replies image c reply next served.3 is wrote)

pub next_served : (first : ImageValue) (calls : List Call) (replies : List Reply) (image : ImageValue) (n : ℕ) (c : Call) (reply : Reply) (next : ImageValue) → n < length calls → get_or calls n c ≡ c
    → AreServed first (take n calls) replies image → IsMade image.current c reply next.current → HasWrittenBlocks c image next → AreServed first (take (n + 1) calls) (replies ++ reply ∷ []) next
next_served first calls replies image n c reply next lt at served is wrote =
    subst (λ (cs : List Call). AreServed first cs (replies ++ reply ∷ []) next) (sym (take_more calls n c lt))
    (subst (λ (d : Call). AreServed first (take n calls ++ d ∷ []) (replies ++ reply ∷ []) next) (sym at) (more_served first (take n calls) replies image c reply next served is wrote))

-- where no calls are left, all were made
pub none_unserved : (first : ImageValue) (calls : List Call) (replies : List Reply) (image : ImageValue) (n : ℕ) → length calls ≤ n → AreServed first (take n calls) replies image → AreServed first calls replies image
none_unserved first calls replies image n past served = subst (λ (cs : List Call). AreServed first cs replies image) (take_all n calls past) served

-- memory was wanting behind so many calls
pub first_served : {T E : Type 0} (result : Result T E) (first : ImageValue) (calls : List Call) (replies : List Reply) (last new : ImageValue) (n : ℕ) → n ≤ length calls → AreServed first (take n calls) replies last
    → new.current ≡ last.current → new.written ≡ last.written → OnErr result (AreFirstServed calls first new)
first_served (Ok x) first calls replies last new n le served current written = tt
first_served (Err e) first calls replies last new n le served current written =
    record { count = n; within = le; replies = replies; last = last; served = served; current = current; written = written }
