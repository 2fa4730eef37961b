-- Lists of players, from fresh seats to the seats that are given back.
use Rattle.std.proofs.Common.{◌≡◌, ℕ, ◌<◌, false, List, [], ◌∷◌, ◌++◌, length, map, take, All, slice_index_or, Result, Ok, Err, IfOk, sym, refl, ap, ◌∙◌, subst, arith}
use Rattle.std.proofs.lemmas.List.{get_or-map, length-map}
use Rattle.std.proofs.lemmas.Option.{get_or_from_slice_get}
use Rattle.turn_lock.specs.Entries.{entries_of}
use Rattle.turn_lock.specs.Seat.{LockView, SeatView, new_seat, AreFresh}
use Rattle.turn_lock.specs.Seats.{IsIdleSeat, AllIdle}
use Rattle.bench_lock.specs.Players.{turns_of, player_at, IsReady, HasPlayed}
use Rattle.bench_lock.specs.declared.players.Player.{Player}

-- what a Vec holds after its slice was lent and written
pub written : {X : Type 0} (new rest : List X) (n : ℕ) → length new ≡ n → take n (new ++ rest) ≡ new
written new rest n e = subst (λ (m : ℕ). take m (new ++ rest) ≡ new) e (go new)
  where
    go : (xs : List _) → take (length xs) (xs ++ rest) ≡ xs
    go [] = refl
    go (x ∷ xs) = λ i. x ∷ go xs i

module _ (lock : LockView (Unit {0})) where
  -- the player of each seat is idle and has added its turns unless memory was short
  abbrev pub AllPlayed : ℕ → List Player → Type 0
  AllPlayed turns ps = (length ps ≡ lock.seats) × ((k : ℕ) (d : Player) → k < lock.seats → HasPlayed lock turns (player_at (new_seat lock k)) (slice_index_or ps k d))

  any_player : Player
  any_player = player_at (new_seat lock 0)

  player_is : (ss : List (SeatView ℕ (Unit {0}))) → AreFresh lock ss → (k : ℕ) (d : Player) → k < lock.seats → slice_index_or (map player_at ss) k d ≡ player_at (new_seat lock k)
  player_is ss new k d lt = get_or-map player_at ss k (new_seat lock 0) d (let n = new.0 in omega arith) ∙ ap player_at (get_or_from_slice_get ss k (new_seat lock k) (new_seat lock 0) (new.1 k lt))

  pub all_ready : (ss : List (SeatView ℕ (Unit {0}))) → AreFresh lock ss → All (λ p. IsReady lock p) (map player_at ss)
  all_ready ss new k d lt =
      let inside : k < lock.seats = (let n = new.0 in omega (arith, length-map ss player_at)) in
      subst (IsReady lock) (sym (player_is ss new k d inside)) (refl, refl, refl, refl)

  pub some_players : (ss : List (SeatView ℕ (Unit {0}))) → AreFresh lock ss → length (map player_at ss) ≡ lock.seats
  some_players ss new = length-map ss player_at ∙ new.0

  pub all_played : (turns : ℕ) (ss : List (SeatView ℕ (Unit {0}))) (before after : List Player) → AreFresh lock ss → before ≡ map player_at ss → length after ≡ length before
      → ((k : ℕ) (d : Player) → k < length before → HasPlayed lock turns (slice_index_or before k d) (slice_index_or after k d)) → AllPlayed turns after
  all_played turns ss before after new is count each =
      let all : length before ≡ lock.seats = ap (λ (l : List Player). length l) is ∙ some_players ss new in (
        count ∙ all,
        λ k d lt.
            let first : slice_index_or before k d ≡ player_at (new_seat lock k) = ap (λ (l : List Player). slice_index_or l k d) is ∙ player_is ss new k d lt in
            subst (λ (p : Player). HasPlayed lock turns p (slice_index_or after k d)) first (each k d (omega arith)),
      )

  pub seats_idle : (turns : ℕ) (ps : List Player) → AllPlayed turns ps → AllIdle lock (map (λ (p : Player). p.seat) ps)
  seats_idle turns ps all = (
    length-map ps (λ (p : Player). p.seat) ∙ all.0,
    λ k d lt.
        subst (IsIdleSeat lock k) (sym (get_or-map (λ (p : Player). p.seat) ps k any_player d (let n = all.0 in omega arith))) (all.1 k any_player lt).0,
  )

  -- with enough memory, a seat's own entries are those of its turns
  pub seats_own : (turns : ℕ) (ps : List Player) → AllPlayed turns ps → All (λ (p : Player). p.is_short ≡ false) ps
      → All (λ (s : SeatView ℕ (Unit {0})). s.own ≡ turns_of s.number turns) (map (λ (p : Player). p.seat) ps)
  seats_own turns ps all ample k d lt =
      let inside : k < length ps = omega (arith, length-map ps (λ (p : Player). p.seat)) in
      let p : Player = slice_index_or ps k any_player in
      let played : HasPlayed lock turns (player_at (new_seat lock k)) p = all.1 k any_player (let n = all.0 in omega arith) in
      let own : p.seat.own ≡ turns_of p.seat.number turns = played.1 (ample k any_player inside) ∙ ap (λ (n : ℕ). turns_of n turns) (sym played.0.2) in
      subst (λ (s : SeatView ℕ (Unit {0})). s.own ≡ turns_of s.number turns) (sym (get_or-map (λ (p : Player). p.seat) ps k any_player d inside)) own

  -- what the lock says of each seat's own entries, said of each number
  pub turns_stand : (turns : ℕ) (ss : List (SeatView ℕ (Unit {0}))) (es : List (ℕ × ℕ)) → AllIdle lock ss → All (λ (s : SeatView ℕ (Unit {0})). s.own ≡ turns_of s.number turns) ss
      → All (λ (s : SeatView ℕ (Unit {0})). entries_of s.number es ≡ s.own) ss → (k : ℕ) → k < lock.seats → entries_of k es ≡ turns_of k turns
  turns_stand turns ss es all added own k lt =
      let d : SeatView ℕ (Unit {0}) = new_seat lock k in
      let inside : k < length ss = (let n = all.0 in omega arith) in
      let number : (slice_index_or ss k d).number ≡ k = (all.1 k d lt).2 in
      ap (λ (n : ℕ). entries_of n es) (sym number) ∙ (own k d inside ∙ (added k d inside ∙ ap (λ (n : ℕ). turns_of n turns) number))

-- what follows from two facts of an `Ok`
pub if_ok_both : {A E : Type 0} (r : Result A E) (P P' Q : A → Type 0) → ((v : A) → P v → P' v → Q v) → IfOk r P → IfOk r P' → IfOk r Q
if_ok_both (Ok v) P P' Q f h h' = f v h h'
if_ok_both (Err e) P P' Q f h h' = tt
