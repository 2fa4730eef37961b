-- The message that a probe of a run finds is its sender's earliest, and such a message may be found.
use Rattle.std.proofs.Common.{◌≡◌, ◌≤◌, ◌<◌, ◌∙◌, ℕ, List, Some, None, Bool, true, false, inl, inr, is_some, refl, ap, sym, subst, arith}
use Rattle.std.proofs.lemmas.Bool.{cases_lt}
use Rattle.mpi_call.specs.declared.call.Call.{Call}
use Rattle.mpi_call.specs.declared.call.Call.TheVariants.{Peek, Send}
use Rattle.mpi_call.specs.declared.call.Source.{Source}
use Rattle.mpi_call.specs.declared.call.Tag.{Tag}
use Rattle.mpi_call.specs.declared.reply.Reply.{Reply}
use Rattle.mpi_call.specs.Acceptance.{accepts}
use Rattle.run_model.specs.declared.event.Event.{Event}
use Rattle.run_model.specs.Allowed.{IsPeeked, has_open, probe_of}
use Rattle.run_model.specs.Choice.{choice}
use Rattle.run_model.specs.Chosen.{peeked_at, peeked_in}
use Rattle.run_model.specs.Pairs.{name_at, named, pairs_of, partner_of}
use Rattle.run_model.proofs.Choosing.{IsOpenAt, choice_is, choice_none, choice_some}
use Rattle.run_model.proofs.ChosenGots.{accepted_send}
use Rattle.run_model.proofs.ChosenProbes.{peek_there}
use Rattle.run_model.proofs.Origins.{AllBelow}
use Rattle.run_model.proofs.Positions.{name_at-lower, name_at-rises, name_position}
use Rattle.run_model.proofs.Views.{option_cases}
use Rattle.picked_runs.specs.Picks.{call_from}
use Rattle.picked_runs.proofs.Mates.{narrow_open, widen_open}

-- where the found message stands
pub record IsFoundAt (before : List Event) (me : ℕ) (call : Call) (sender : ℕ) (reply : Reply) (at : ℕ) : Type 0 where
  pub is_choice : choice before me (call_from sender call) ≡ Some at
  pub reply_is : reply ≡ peeked_at before (name_at before at)

pub peeked_choice : (before : List Event) (me comm : ℕ) (source : Source) (tag : Tag) (wait : Bool) (reply : Reply) (p : IsPeeked before (probe_of me comm source tag) reply)
    → (at : ℕ) × IsFoundAt before me (Peek comm source tag wait) p.send.0 reply at
peeked_choice before me comm source tag wait reply p =
    let call : Call = Peek comm source tag wait in
    let send : Call = Send p.c p.dest p.t p.ints p.sync in
    let place = name_position before p.send send p.sent in
    let at : ℕ = place.0 in
    let found : IsOpenAt before me call at = record { name = p.send; start = send; there = place.1; made = p.sent; free = p.unpaired; suited = p.accepted } in (
      at,
      record {
        is_choice = choice_is before me (call_from p.send.0 call) at (record {
          chosen = narrow_open before me p.send.0 call at found refl;
          first = λ other o. elim (cases_lt other at) [
            | inl less ↦
                let wide = widen_open before me p.send.0 call other refl o in
                let w = wide.0 in
                let number : w.name.1 < p.send.1 = name_at-rises before other at w.name p.send w.there place.1 wide.1 less in
                let F : ℕ → Type 0 = λ x. named before (x, w.name.1) ≡ Some w.start in
                let G : ℕ → Type 0 = λ x. accepts me comm source tag x w.start ≡ true in
                let H : ℕ → Type 0 = λ x. partner_of (pairs_of before) (x, w.name.1) ≡ None in
                let some : is_some (partner_of (pairs_of before) (p.send.0, w.name.1)) ≡ true = p.first w.name.1 w.start number (subst F wide.1 w.made) (subst G wide.1 w.suited) in
                let no : false ≡ true = rw (subst H wide.1 w.free) at some in
                absurd (cc)
            | inr above ↦ above
          ];
        });
        reply_is = p.reply_is ∙ sym (ap (peeked_at before) place.1 ∙ ap (peeked_in p.send) p.sent);
      },
    )

-- of a picked sender a probe finds the earliest message
pub picked_found : (before : List Event) (me comm : ℕ) (source : Source) (tag : Tag) (wait : Bool) (sender at : ℕ)
    → choice before me (call_from sender (Peek comm source tag wait)) ≡ Some at → IsPeeked before (probe_of me comm source tag) (peeked_at before (name_at before at))
picked_found before me comm source tag wait sender at h =
    let call : Call = Peek comm source tag wait in
    let c = choice_some before me (call_from sender call) at h in
    let wide = widen_open before me sender call at refl c.chosen in
    let o = wide.0 in
    let s = accepted_send me comm source tag o.name.0 o.start o.suited in
    let sent : named before o.name ≡ Some (Send s.comm s.dest s.tag s.ints s.sync) = o.made ∙ ap (λ (c : Call). Some c) s.is in
    let F : Call → Type 0 = λ c. accepts me comm source tag o.name.0 c ≡ true in
    record {
      send = o.name;
      c = s.comm;
      dest = s.dest;
      t = s.tag;
      ints = s.ints;
      sync = s.sync;
      sent = sent;
      accepted = subst F s.is o.suited;
      unpaired = o.free;
      first = λ start call' less there accepted. elim (option_cases (partner_of (pairs_of before) (o.name.0, start))) [
        | inl some ↦ rw some.1
        | inr none ↦
            let p = name_position before (o.name.0, start) call' there in
            let other : IsOpenAt before me call p.0 = record { name = (o.name.0, start); start = call'; there = p.1; made = there; free = none; suited = accepted } in
            let low : at ≤ p.0 = c.first p.0 (narrow_open before me sender call p.0 other wide.1) in
            let below : p.0 < at = name_at-lower before p.0 at (o.name.0, start) o.name p.1 o.there refl less in
            absurd (omega arith)
      ];
      reply_is = ap (peeked_at before) o.there ∙ ap (peeked_in o.name) sent;
    }

pub picked_there : (n : ℕ) (before : List Event) (me comm : ℕ) (source : Source) (tag : Tag) (wait : Bool) (sender at : ℕ) → AllBelow n before
    → choice before me (call_from sender (Peek comm source tag wait)) ≡ Some at → has_open n before me comm source tag ≡ true
picked_there n before me comm source tag wait sender at all h =
    let call : Call = Peek comm source tag wait in
    let c = choice_some before me (call_from sender call) at h in
    let wide = widen_open before me sender call at refl c.chosen in
    elim (option_cases (choice before me call)) [
      | inl some ↦ peek_there n before me comm source tag wait some.0 all some.1
      | inr none ↦ absurd (choice_none before me call none at wide.0)
    ]

-- where no message is there the earliest is none
pub none_open : (n : ℕ) (before : List Event) (me comm : ℕ) (source : Source) (tag : Tag) (wait : Bool) → AllBelow n before
    → has_open n before me comm source tag ≡ false → choice before me (Peek comm source tag wait) ≡ None
none_open n before me comm source tag wait all h =
    elim (option_cases (choice before me (Peek comm source tag wait))) [
      | inl some ↦ (let no : true ≡ false = sym (peek_there n before me comm source tag wait some.0 all some.1) ∙ h in absurd (cc))
      | inr none ↦ none
    ]
