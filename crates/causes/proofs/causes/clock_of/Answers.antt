use Rattle.std.proofs.Common.{◌≡◌, ◌+◌, ◌-◌, ◌++◌, ◌∷◌, [], ℕ, List, ap, arith, length, replicate, set, slice_get, subst, sym, ◌∙◌}
use Rattle.std.specs.Option.{option_to_list}
use Rattle.causes.specs.Clocks.{IsClock}
use Rattle.causes.specs.inside.Joins.{IsJoinOfAll}
use Rattle.causes.specs.Positions.{is_event_of, positions}
use Rattle.causes.specs.Steps.{rests_on}
use Rattle.causes.specs.Tables.{positions_of_key}
use Rattle.causes.proofs.NewClocks.{IsMade, new_clock}
use Rattle.causes.proofs.PositionLemmas.{few-positions}
use Rattle.causes.proofs.causes.clock_of.Goals as goal

pub overflow_add-number_of : goal.overflow_add-number_of
overflow_add-number_of c =
    let few = few-positions (is_event_of c.args.event.now.rank) 0 c.args.before.now in
    omega (arith, few)

pub returns : goal.returns
returns c =
    let n : ℕ = c.args.tables.now.ranks in
    let rests : List ℕ = rests_on n c.args.before.now c.args.event.now.rank c.args.event.now.call c.args.event.now.reply in
    let own : c.get.result.now ≡ positions (is_event_of c.args.event.now.rank) 0 c.args.before.now = c.get.ensures ∙ ap (λ key. positions_of_key c.args.tables.now.places key) c.events_key.ensures ∙ c.requires.tables.places.own c.args.event.now.rank in
    let last = ap (λ (l : List ℕ). slice_get l (length l - 1)) own in
    let places : c.as_slice.result.now ≡ option_to_list c.copied.result ++ rests =
    c.as_slice.ensures ∙ c.in_ok-push_rests.ensures ∙ ap (λ (l : List ℕ). l ++ rests) (c.in_ok-push_some.ensures ∙ ap (λ (l : List ℕ). l ++ option_to_list c.copied.result) c.new-places.ensures) in
    let J : List ℕ → Type 0 = λ l. IsJoinOfAll (replicate n 0) c.args.clocks.now l c.join_all.new.clock in
    let K : List ℕ → Type 0 = λ l. IsJoinOfAll l c.args.clocks.now c.as_slice.result.now c.join_all.new.clock in
    let join : J (option_to_list c.copied.result ++ rests) = subst J places (subst K c.in_ok-clock.ensures c.join_all.ensures) in
    let made : IsMade n c.args.before.now c.args.event.now c.args.clocks.now c.copied.result c.join_all.new.clock =
    record { clocks_are = c.requires.clocks; below = c.requires.rank; last_is = (let value = c.last.ensures.value in cc); join = join } in
    let P : List ℕ → Type 0 = λ l. IsClock n (c.args.before.now ++ c.args.event.now ∷ []) (length c.args.before.now) l in
    subst P (sym (c.set.ensures ∙ ap (λ k. set c.join_all.new.clock c.args.event.now.rank (k + 1)) c.number_of.ensures))
    (new_clock n c.args.before.now c.args.event.now c.args.clocks.now c.copied.result c.join_all.new.clock made)
