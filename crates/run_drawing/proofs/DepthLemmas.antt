-- The depth of one more event.
use Rattle.std.proofs.Common.{◌≡◌, ◌≤◌, ◌<◌, ◌⊎◌, ◌-◌, ◌++◌, ◌∷◌, [], ℕ, zero, suc, List, Option, Some, None, inl, inr, refl, ap, sym, ◌∙◌, arith, get_or, length, length-take-le, slice_get, subst, take}
use Rattle.std.specs.Option.{option_to_list}
use Rattle.mpi_call.specs.Lists.{IsIn}
use Rattle.run_model.specs.declared.event.Event.{Event}
use Rattle.run_model.proofs.StartLemmas.{slice_get-below}
use Rattle.causes.specs.Before.{IsDirectlyBefore, IsEventOfRank, PrecedesDirectly}
use Rattle.causes.specs.Positions.{is_event_of, positions}
use Rattle.causes.specs.Steps.{rests_on}
use Rattle.causes.proofs.NewClocks.{in_first, in_second, listed_there, own_step, previous, source_direct}
use Rattle.causes.proofs.Paths.{step-less}
use Rattle.causes.proofs.PositionLemmas.{placed-in}
use Rattle.run_drawing.specs.Depths.{IsChain, IsDepth}
use Rattle.run_drawing.specs.Depths.IsChain.{alone, longer}
use Rattle.run_drawing.specs.Links.{deeper, deepest, depth_after, last_position}
use Rattle.run_drawing.proofs.Deepest.{IsDeeper, deepest_among, deepest_front, deepest_low}

-- a chain is no longer than the events before it
pub chain_low : (n : ℕ) (events : List Event) (steps u : ℕ) → IsChain n events steps u → steps ≤ u
chain_low n events _ _ (alone u) = omega arith
chain_low n events _ _ (longer steps t u chain step) =
    let low = chain_low n events steps t chain in
    let less = step-less n events t u step in
    omega (arith, low, less)

pub get_taken : {A : Type 0} (xs : List A) (k t : ℕ) (x : A) → slice_get (take k xs) t ≡ Some x → slice_get xs t ≡ Some x
get_taken xs zero t x h = absurd (cc)
get_taken [] (suc k) t x h = absurd (cc)
get_taken (y ∷ xs) (suc k) zero x h = h
get_taken (y ∷ xs) (suc k) (suc t) x h = get_taken xs k t x h

own_taken : (events : List Event) (k rank t : ℕ) → IsEventOfRank (take k events) rank t → IsEventOfRank events rank t
own_taken events k rank t own = record { earlier = own.earlier; at = get_taken events k t own.earlier own.at; own = own.own }

pub equal_or_less : (a b : ℕ) → a ≤ b → (a ≡ b) ⊎ (a < b)
equal_or_less zero zero h = inl refl
equal_or_less zero (suc b) h = inr (omega arith)
equal_or_less (suc a) zero h = absurd (omega (arith, h))
equal_or_less (suc a) (suc b) h = elim (equal_or_less a b (omega (arith, h))) [ inl e ↦ inl (ap suc e) | inr l ↦ inr (omega (arith, l)) ]

-- of events whose depths are known the next one, at position k
pub record IsNext (n : ℕ) (events : List Event) (k : ℕ) (event : Event) (depths : List ℕ) : Type 0 where
  pub there : slice_get events k ≡ Some event
  pub as_many : length depths ≡ k
  pub each : (u : ℕ) → u < k → IsDepth n events u (get_or depths u 0)

-- the positions that it is directly after, but for its rank's earlier ones
abbrev behind : ℕ → List Event → ℕ → Event → List ℕ
behind n events k event =
    option_to_list (last_position (take k events) event.rank) ++ rests_on n (take k events) event.rank event.call event.reply

long_taken : (n : ℕ) (events : List Event) (k : ℕ) (event : Event) (depths : List ℕ) → IsNext n events k event depths → length (take k events) ≡ k
long_taken n events k event depths next =
    let low = slice_get-below events k event next.there in
    length-take-le k events (omega (arith, low))

-- each position that it is directly after is not as deep as the deepest of those
deep_enough : (n : ℕ) (events : List Event) (k : ℕ) (event : Event) (depths : List ℕ) (t : ℕ) → IsNext n events k event depths
    → IsDirectlyBefore n (take k events) event t → IsDeeper depths t (deepest depths (behind n events k event))
deep_enough n events k event depths t next direct =
    let before : List Event = take k events in
    let rank : ℕ = event.rank in
    let last : Option ℕ = last_position before rank in
    let rests : List ℕ = rests_on n before rank event.call event.reply in
    let long = long_taken n events k event depths next in
    let many = next.as_many in
    let less = direct.less in
    elim direct.why [
      | inl own ↦ (
          let found = previous before rank t last refl own in
          let within = slice_get-below before found.at found.own.earlier found.own.at in
          let there = in_first (option_to_list last) rests found.at (listed_there last found.at found.is) in
          let deep = deepest_low depths (option_to_list last ++ rests) found.at there (omega (arith, within, long, many)) in
          let low : get_or depths t 0 ≤ get_or depths found.at 0 = elim (equal_or_less t found.at found.low) [
            | inl e ↦ (let same = ap (λ k. get_or depths k 0) e in omega (arith, same))
            | inr early ↦ (
                let step = own_step n events rank t found.at (own_taken events k rank t own) (own_taken events k rank found.at found.own) early in
                let chain = longer (get_or depths t 0) t found.at (next.each t (omega (arith, less, long))).chain step in
                let longest = (next.each found.at (omega (arith, within, long))).longest (suc (get_or depths t 0)) chain in
                omega (arith, longest))
          ] in
          let more = deep.deep in
          record { at = deep.at; is = deep.is; deep = omega (arith, low, more) })
      | inr rest ↦ deepest_low depths (option_to_list last ++ rests) t (in_second (option_to_list last) rests t rest) (omega (arith, less, long, many))
    ]

step_there : (n : ℕ) (events : List Event) (k : ℕ) (event : Event) (t : ℕ) → slice_get events k ≡ Some event → IsDirectlyBefore n (take k events) event t → PrecedesDirectly n events t k
step_there n events k event t there direct = record { event = event; at = there; direct = direct }

step_direct : (n : ℕ) (events : List Event) (k : ℕ) (event : Event) (t : ℕ) → slice_get events k ≡ Some event → PrecedesDirectly n events t k → IsDirectlyBefore n (take k events) event t
step_direct n events k event t there step =
    let some : Some step.event ≡ Some event = sym step.at ∙ there in
    let same : step.event ≡ event = cc in
    let P : Event → Type 0 = λ e. IsDirectlyBefore n (take k events) e t in
    subst P same step.direct

-- the last event of its rank has a depth
last_known : (n : ℕ) (events : List Event) (k : ℕ) (event : Event) (depths : List ℕ) (p : ℕ) → IsNext n events k event depths → last_position (take k events) event.rank ≡ Some p → p < length depths
last_known n events k event depths p next is =
    let before : List Event = take k events in
    let among = get_in (positions (is_event_of event.rank) 0 before) (length (positions (is_event_of event.rank) 0 before) - 1) p is in
    let placed = placed-in (is_event_of event.rank) before p among in
    let low = slice_get-below before p placed.event placed.there in
    let long = long_taken n events k event depths next in
    let many = next.as_many in
    omega (arith, low, long, many)
  where
    get_in : (xs : List ℕ) (k x : ℕ) → slice_get xs k ≡ Some x → IsIn x xs
    get_in [] k x h = absurd (cc)
    get_in (y ∷ xs) zero x h = (let e : y ≡ x = cc in inl e)
    get_in (y ∷ xs) (suc k) x h = inr (get_in xs k x h)

-- no chain that ends there is longer than the deepest of those allows
no_longer : (n : ℕ) (events : List Event) (k : ℕ) (event : Event) (depths : List ℕ) → IsNext n events k event depths
    → (steps u : ℕ) → IsChain n events steps u → u ≡ k → steps ≤ depth_after depths (deepest depths (behind n events k event))
no_longer n events k event depths next _ _ (alone u) is = omega arith
no_longer n events k event depths next _ _ (longer steps t u chain step) is =
    let P : ℕ → Type 0 = λ v. PrecedesDirectly n events t v in
    let here : PrecedesDirectly n events t k = subst P is step in
    let direct = step_direct n events k event t next.there here in
    let deep = deep_enough n events k event depths t next direct in
    let less = step-less n events t k here in
    let longest = (next.each t less).longest steps chain in
    let more = deep.deep in
    let value : depth_after depths (deepest depths (behind n events k event)) ≡ suc (get_or depths deep.at 0) = ap (depth_after depths) deep.is in
    omega (arith, longest, more, value)

-- and there is one as long
one_as_long : (n : ℕ) (events : List Event) (k : ℕ) (event : Event) (depths : List ℕ) (found : Option ℕ) → IsNext n events k event depths
    → deepest depths (behind n events k event) ≡ found → IsChain n events (depth_after depths found) k
one_as_long n events k event depths None next is = alone k
one_as_long n events k event depths (Some p) next is =
    let among = deepest_among depths (behind n events k event) p is in
    let low = among.1 in
    let many = next.as_many in
    let long = long_taken n events k event depths next in
    let direct = source_direct n (take k events) event (last_position (take k events) event.rank) p refl (omega (arith, low, many, long)) among.0 in
    longer (get_or depths p 0) p k (next.each p (omega (arith, low, many))).chain (step_there n events k event p next.there direct)

pub next_depth : (n : ℕ) (events : List Event) (k : ℕ) (event : Event) (depths : List ℕ) (cause : Option ℕ) → IsNext n events k event depths
    → cause ≡ deepest depths (rests_on n (take k events) event.rank event.call event.reply)
    → IsDepth n events k (depth_after depths (deeper depths (last_position (take k events) event.rank) cause))
next_depth n events k event depths cause next is =
    let last : Option ℕ = last_position (take k events) event.rank in
    let all : deeper depths last cause ≡ deepest depths (behind n events k event) =
    ap (deeper depths last) is
    ∙ deepest_front depths last (rests_on n (take k events) event.rank event.call event.reply) (λ p e. last_known n events k event depths p next e) in
    let P : Option ℕ → Type 0 = λ o. IsDepth n events k (depth_after depths o) in
    subst P (sym all) (record {
      chain = one_as_long n events k event depths (deepest depths (behind n events k event)) next refl;
      longest = λ steps chain. no_longer n events k event depths next steps k chain refl;
    })

-- a depth is below the number of events
pub depth_low : (n : ℕ) (events : List Event) (u depth : ℕ) → IsDepth n events u depth → depth ≤ u
depth_low n events u depth is = chain_low n events depth u is.chain
