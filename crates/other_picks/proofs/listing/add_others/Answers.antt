use Rattle.std.proofs.Common.{◌≡◌, ◌<◌, ◌∙◌, ◌++◌, [], ℕ, List, ap, ap₂, append-nil, arith, filter, length, map, slice_get, sym, take}
use Rattle.run_model.specs.Lists.{world}
use Rattle.run_model.specs.Views.{starts_of, view_of, rank_of_event}
use Rattle.other_picks.specs.declared.listing.PairedReceive.{PairedReceive}
use Rattle.other_picks.specs.declared.other.OtherPick.{OtherPick}
use Rattle.other_picks.specs.declared.other.TheConstants.{MOST_OTHER_PICKS}
use Rattle.other_picks.specs.inside.Known.{could_take, with_sender}
use Rattle.other_picks.specs.Others.{others_at}
use Rattle.other_picks.proofs.Reading.{alone_none, named_none, receive_found}
use Rattle.other_picks.proofs.listing.add_others.Goals as goal

-- where an event has no other picks, none are added
nothing : (old : List OtherPick) (more : List OtherPick) → take MOST_OTHER_PICKS old ≡ old → more ≡ [] → old ≡ take MOST_OTHER_PICKS (old ++ more)
nothing old more few none = sym (ap (λ l. take MOST_OTHER_PICKS (old ++ l)) none ∙ (ap (take MOST_OTHER_PICKS) (append-nil old) ∙ few))

pub returns-in_ok-add_senders-in-Some-mate : goal.returns-in_ok-add_senders-in-Some-mate
returns-in_ok-add_senders-in-Some-mate c =
    let before = c.args.before.now in
    let event = c.args.event.now in
    let wildcard = c.in-Some.wildcard in
    let mate : ℕ = c.in-Some-mate.mate in
    let below : c.args.event.now.rank < 256 = omega arith in
    let receive : ℕ → ℕ → PairedReceive = λ start took. record { at = length before; rank = event.rank; start = start; wildcard = wildcard; took = took } in
    let listed : PairedReceive → List OtherPick = λ r. map (with_sender r) (filter (could_take before r) (world c.args.n 0)) in
    let start : c.get.result ≡ length (starts_of (view_of before event.rank)) = c.get.ensures.count ∙ c.requires.known.starts.each event.rank below in
    let took : c.rank_at.result ≡ rank_of_event (slice_get before mate) = c.rank_at.ensures in
    c.in_ok-add_senders-in-Some-mate.ensures before c.requires.known.matcher
    ∙ ap (λ l. take MOST_OTHER_PICKS (c.args.others.now ++ l))
    (ap₂ (λ s t. listed (receive s t)) start took
    ∙ receive_found c.args.n before event wildcard mate c.requires.event (sym c.any_in.ensures ∙ c.in-Some.is) c.in-Some-mate.is)

pub returns-in-None-mate : goal.returns-in-None-mate
returns-in-None-mate c =
    nothing c.args.others.now (others_at c.args.n c.args.before.now c.args.event.now) c.few.ensures (alone_none c.args.n c.args.before.now c.args.event.now c.in-None-mate.is)

pub returns-in-None : goal.returns-in-None
returns-in-None c =
    nothing c.args.others.now (others_at c.args.n c.args.before.now c.args.event.now) c.few.ensures
    (named_none c.args.n c.args.before.now c.args.event.now (sym c.any_in.ensures ∙ c.in-None.is))
