-- The first message of a sender that nobody has received.
use Rattle.std.proofs.Common.{◌≡◌, ◌<◌, ◌≤◌, ◌-◌, ◌+◌, ◌∙◌, ◌++◌, ◌∷◌, [], ℕ, zero, suc, List, Option, Some, None, true, false, ap, append-nil, append_assoc, arith, drop, get_or, is_some, length, refl, slice_get, sym, take}
use Rattle.mpi_call.specs.declared.call.Call.{Call}
use Rattle.run_model.specs.declared.event.Event.{Event}
use Rattle.run_model.specs.Pairs.{pairs_of, partner_of}
use Rattle.wait_graph.specs.declared.message.Open.{Open}
use Rattle.wait_graph.specs.Opens.{first_open_send, listed_open, open_send, open_send_from, opens_of, or_open}

drop-at : (calls : List Call) (k : ℕ) (call : Call) → slice_get calls k ≡ Some call → drop k calls ≡ call ∷ drop (suc k) calls
drop-at [] k call h = absurd (cc)
drop-at (c ∷ calls) zero call h = (let same : c ≡ call = cc in ap (λ x. x ∷ calls) same)
drop-at (c ∷ calls) (suc k) call h = drop-at calls k call h

drop-past : (calls : List Call) (k : ℕ) → slice_get calls k ≡ None → drop k calls ≡ []
drop-past [] zero h = refl
drop-past [] (suc k) h = refl
drop-past (c ∷ calls) zero h = absurd (cc)
drop-past (c ∷ calls) (suc k) h = drop-past calls k h

take-none : (k : ℕ) (calls : List Call) → calls ≡ [] → take k calls ≡ []
take-none zero calls h = refl
take-none (suc k) [] h = refl
take-none (suc k) (c ∷ calls) h = absurd (cc)

module _ (G : List Event) (sender receiver : ℕ) (calls : List Call) where
  -- what is open among the starts from one number up to another
  abbrev pub left : ℕ → ℕ → Option Open
  left start below = open_send_from G sender receiver start (take (below - start) (drop start calls))

  -- one start
  abbrev pub here : ℕ → Call → Option Open
  here start call = open_send (is_some (partner_of (pairs_of G) (sender, start))) receiver (record { rank = sender; start = start }) call

  pub left_here : (start below : ℕ) (call : Call) → start < below → slice_get calls start ≡ Some call → left start below ≡ or_open (here start call) (left (start + 1) below)
  left_here start below call low there =
      let few : below - start ≡ suc (below - (start + 1)) = omega (arith, low) in
      let next : suc start ≡ start + 1 = omega arith in
      ap (λ l. open_send_from G sender receiver start (take (below - start) l)) (drop-at calls start call there)
      ∙ ap (λ k. open_send_from G sender receiver start (take k (call ∷ drop (suc start) calls))) few
      ∙ ap (λ k. or_open (here start call) (open_send_from G sender receiver k (take (below - (start + 1)) (drop k calls)))) next

  pub left_past : (start below : ℕ) → slice_get calls start ≡ None → left start below ≡ None
  left_past start below none =
      ap (open_send_from G sender receiver start) (take-none (below - start) (drop start calls) (drop-past calls start none))

  pub left_none : (start below : ℕ) → below ≤ start → left start below ≡ None
  left_none start below high = (let none : below - start ≡ 0 = omega (arith, high) in ap (λ k. open_send_from G sender receiver start (take k (drop start calls))) none)

or_some : (found other : Option Open) → is_some found ≡ true → or_open found other ≡ found
or_some None other h = absurd (cc)
or_some (Some x) other h = refl

or_none : (found other : Option Open) → is_some found ≡ false → or_open found other ≡ other
or_none None other h = refl
or_none (Some x) other h = absurd (cc)

-- a start that is open is the first
pub found_here : (G : List Event) (sender receiver : ℕ) (calls : List Call) (start below : ℕ) (call : Call) (found all : Option Open) → start < below
    → slice_get calls start ≡ Some call → found ≡ here G sender receiver calls start call → is_some found ≡ true → left G sender receiver calls start below ≡ all → found ≡ all
found_here G sender receiver calls start below call found all low there is some so_far =
    let rest : Option Open = left G sender receiver calls (start + 1) below in
    sym (or_some found rest some) ∙ ap (λ f. or_open f rest) is ∙ sym (left_here G sender receiver calls start below call low there) ∙ so_far

-- one that is not is passed
pub none_here : (G : List Event) (sender receiver : ℕ) (calls : List Call) (start below : ℕ) (call : Call) (found all : Option Open) → start < below
    → slice_get calls start ≡ Some call → found ≡ here G sender receiver calls start call → is_some found ≡ false → left G sender receiver calls start below ≡ all
    → left G sender receiver calls (start + 1) below ≡ all
none_here G sender receiver calls start below call found all low there is none so_far =
    let rest : Option Open = left G sender receiver calls (start + 1) below in
    sym (or_none found rest none) ∙ ap (λ f. or_open f rest) is ∙ sym (left_here G sender receiver calls start below call low there) ∙ so_far

-- one sender more
pub opens_step : (G : List Event) (receiver : ℕ) (rest : List ℕ) (d : ℕ) (opens new all : List Open) → 1 ≤ length rest
    → new ≡ opens ++ listed_open (first_open_send G (get_or rest 0 d) receiver) → opens ++ opens_of G rest receiver ≡ all
    → new ++ opens_of G (take (length rest - 1) (drop 1 rest)) receiver ≡ all
opens_step G receiver [] d opens new all some made so_far = absurd (omega (arith, some))
opens_step G receiver (x ∷ xs) d opens new all some made so_far =
    let tail : take (length (x ∷ xs) - 1) xs ≡ xs = take-ranks xs (length (x ∷ xs) - 1) (omega arith) in
    ap (λ l. new ++ opens_of G l receiver) tail ∙ ap (λ l. l ++ opens_of G xs receiver) made
    ∙ append_assoc opens (listed_open (first_open_send G x receiver)) (opens_of G xs receiver) ∙ so_far
  where
    take-ranks : (ys : List ℕ) (k : ℕ) → length ys ≤ k → take k ys ≡ ys
    take-ranks [] zero h = refl
    take-ranks [] (suc k) h = refl
    take-ranks (y ∷ ys) zero h = absurd (omega (arith, h))
    take-ranks (y ∷ ys) (suc k) h = ap (λ l. y ∷ l) (take-ranks ys k (omega (arith, h)))

pub opens_end : (G : List Event) (receiver : ℕ) (rest : List ℕ) (opens all : List Open) → length rest < 1 → opens ++ opens_of G rest receiver ≡ all → opens ≡ all
opens_end G receiver [] opens all none so_far = sym (append-nil opens) ∙ so_far
opens_end G receiver (x ∷ xs) opens all none so_far = absurd (omega (arith, none))
