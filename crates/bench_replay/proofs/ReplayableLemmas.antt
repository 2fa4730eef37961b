-- The script's log can be replayed.
use Rattle.std.proofs.Common.{◌≡◌, ◌≤◌, ◌+◌, ◌*◌, ℕ, zero, suc, List, [], ◌∷◌, ◌++◌, All, refl, arith, length, length-append, replicate}
use Rattle.std.proofs.lemmas.List.{length-replicate}
use Rattle.srr_entry.specs.declared.entry.Entry.{Entry}
use Rattle.srr_entry.specs.declared.entry.Entry.TheVariants.{Ended, Posted, Sent}
use Rattle.srr_replay.specs.Rounds.{IsReplayable}
use Rattle.bench_replay.specs.Logs.{log_of, receives, took}

length-receives : (messages : ℕ) → length (receives messages) ≡ 2 * messages
length-receives zero = refl
length-receives (suc messages) =
    let before = length-receives messages in
    let more = length-append (receives messages) (Posted ∷ took messages ∷ []) in
    omega (arith, before, more)

two_lists : (xs ys : List Entry) → length xs ≤ 999064 → length ys ≤ 999064 → All (λ entries. length entries ≤ 999064) (xs ∷ ys ∷ [])
two_lists xs ys first second zero d within = first
two_lists xs ys first second (suc zero) d within = second
two_lists xs ys first second (suc (suc k)) d within = absurd (omega (arith, within))

pub log_is_replayable : (messages : ℕ) → messages ≤ 400000 → IsReplayable (log_of messages)
log_is_replayable messages few =
    let sent = length-append (replicate messages Sent) (Ended ∷ []) in
    let sends = length-replicate messages Sent in
    let received = length-append (receives messages) (Ended ∷ []) in
    let both = length-receives messages in
    let first : length (replicate messages Sent ++ Ended ∷ []) ≤ 999064 = omega (arith, few, sent, sends) in
    let second : length (receives messages ++ Ended ∷ []) ≤ 999064 = omega (arith, few, received, both) in
    record {
      few = omega arith;
      some = omega arith;
      below = refl;
      distinct = refl;
      as_many = refl;
      short = two_lists (replicate messages Sent ++ Ended ∷ []) (receives messages ++ Ended ∷ []) first second;
    }
