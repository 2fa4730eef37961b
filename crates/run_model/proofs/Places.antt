-- Where a call and its reply stand in a history.
use Rattle.std.proofs.Common.{◌++◌, ◌==◌, ◌∙◌, ◌∷◌, ◌≡◌, List, [], ap, append-nil, append_assoc, inl, inr, refl, subst, sym, true, ℕ}
use Rattle.std.proofs.lemmas.Bool.{eq-eqb, eqb-true}
use Rattle.mpi_call.specs.declared.call.Call.{Call}
use Rattle.mpi_call.specs.declared.reply.Reply.{Reply}
use Rattle.run_model.specs.declared.event.Event.{Event}
use Rattle.run_model.specs.Views.{View, view_of}
use Rattle.run_model.proofs.Views.{test_cases, view_of-append}

-- where a call and its reply stand in a rank's view
pub record Place (events : List Event) (rank : ℕ) (view : View) (call : Call) (reply : Reply) : Type 0 where
  pub before : List Event
  pub event : Event
  pub after : List Event
  pub whole : events ≡ before ++ event ∷ after
  pub rank_is : event.rank ≡ rank
  pub view_is : view_of before rank ≡ view
  pub call_is : event.call ≡ call
  pub reply_is : event.reply ≡ reply

pub place : (events : List Event) (rank : ℕ) (view : View) (call : Call) (reply : Reply) (rest : View)
    → view_of events rank ≡ view ++ (call, reply) ∷ rest → Place events rank view call reply
place [] rank [] call reply rest e = absurd (cc)
place [] rank (x ∷ view) call reply rest e = absurd (cc)
place (event ∷ events) rank [] call reply rest e =
    elim (test_cases (event.rank == rank)) [
      | inl h ↦
          let same : (event.call, event.reply) ∷ view_of events rank ≡ (call, reply) ∷ rest = rw h at e in
          let p : Call × Reply = (event.call, event.reply) in
          let q : Call × Reply = (call, reply) in
          let pair : p ≡ q = cc in
          record { before = []; event = event; after = events; whole = refl; rank_is = eqb-true event.rank rank h; view_is = refl; call_is = ap (λ p. p.0) pair; reply_is = ap (λ p. p.1) pair }
      | inr h ↦
          let found = place events rank [] call reply rest (rw h at e) in
          record { before = event ∷ found.before; event = found.event; after = found.after; whole = ap (λ l. event ∷ l) found.whole; rank_is = found.rank_is; view_is = rw h found.view_is; call_is = found.call_is; reply_is = found.reply_is }
    ]
place (event ∷ events) rank (x ∷ view) call reply rest e =
    elim (test_cases (event.rank == rank)) [
      | inl h ↦
          let same : (event.call, event.reply) ∷ view_of events rank ≡ x ∷ (view ++ (call, reply) ∷ rest) = rw h at e in
          let p : Call × Reply = (event.call, event.reply) in
          let first : p ≡ x = cc in
          let later : view_of events rank ≡ view ++ (call, reply) ∷ rest = cc in
          let found = place events rank view call reply rest later in
          record { before = event ∷ found.before; event = found.event; after = found.after; whole = ap (λ l. event ∷ l) found.whole; rank_is = found.rank_is; view_is = rw (h, found.view_is) (ap (λ y. y ∷ view) first); call_is = found.call_is; reply_is = found.reply_is }
      | inr h ↦
          let found = place events rank (x ∷ view) call reply rest (rw h at e) in
          record { before = event ∷ found.before; event = found.event; after = found.after; whole = ap (λ l. event ∷ l) found.whole; rank_is = found.rank_is; view_is = rw h found.view_is; call_is = found.call_is; reply_is = found.reply_is }
    ]

pub view_at : (run before after : List Event) (event : Event) → run ≡ before ++ event ∷ after
    → view_of run event.rank ≡ view_of before event.rank ++ (event.call, event.reply) ∷ view_of after event.rank
view_at run before after event e =
    let t : (event.rank == event.rank) ≡ true = eq-eqb event.rank event.rank refl in
    ap (λ l. view_of l event.rank) e ∙ (view_of-append before (event ∷ after) event.rank ∙ rw t)

-- what each position keeps holds at the end
pub walk : (run : List Event) (P : List Event → Type 0)
    → ((before after : List Event) (event : Event) → run ≡ before ++ event ∷ after → P before → P (before ++ event ∷ []))
    → (before rest : List Event) → run ≡ before ++ rest → P before → P run
walk run P keeps before [] e holds = subst P (sym (e ∙ append-nil before)) holds
walk run P keeps before (event ∷ rest) e holds =
    walk run P keeps (before ++ event ∷ []) rest (rw append_assoc e) (keeps before rest event e holds)
