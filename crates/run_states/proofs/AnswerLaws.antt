-- Runs that leave the same answer and go on alike.
use Rattle.std.proofs.Common.{◌∙◌, ℕ, ap}
use Rattle.run_model.specs.Allowed.{can_go}
use Rattle.run_model.specs.Chosen.{got_of}
use Rattle.run_model.specs.Views.{Next, View, moment_of, view_of}
use Rattle.picked_runs.specs.Picks.{picked_event}
use Rattle.run_states.specs.StateLaws.{FuturesAnswerAlike, FuturesGoOnAlike}
use Rattle.run_states.proofs.HaltsSeen.{halts_same}
use Rattle.run_states.proofs.Alike.{Alike, alike, got_same, goes_same}
use Rattle.run_states.proofs.Offers.{offered_same, own_due, own_flags}
use Rattle.run_states.proofs.Events.{events_same}
use Rattle.run_states.proofs.Growing.{futures_grow}

pub futures_answer_alike : (next : Next) (n : ℕ) → FuturesAnswerAlike next n
futures_answer_alike next n one other first second same =
    let a : Alike n one other = alike n one other same (halts_same next n one other first second same.views) in
    record {
      due = own_due n one other a;
      flags = own_flags n one other a;
      gots = λ me k start. got_same n one other a me (view_of one me) k start ∙ ap (λ (v : ℕ → View). got_of (moment_of n other me (v me)) k start) a.views;
      goes = λ me call. goes_same n one other a me (view_of one me) call ∙ ap (λ (v : ℕ → View). can_go n other me (v me) call) a.views;
      offered = offered_same n one other same a;
    }

pub futures_go_on_alike : (next : Next) (n : ℕ) → FuturesGoOnAlike next n
futures_go_on_alike next n one other me call pick first second same offered settled =
    let a : Alike n one other = alike n one other same (halts_same next n one other first second same.views) in
    let event = events_same n one other same a me call pick offered settled in
    record { event = event; future = futures_grow n one other (picked_event n one me call pick) (picked_event n other me call pick) same event }
