-- Whether an event keeps what the probe before it found.
use Rattle.std.proofs.Common.{◌≡◌, ◌∙◌, ◌++◌, ◌∷◌, Bool, true, false, MatchBool, ℕ, List, [], Option, Some, None, refl, ap, sym, subst}
use Rattle.mpi_call.specs.declared.call.Call.{Call}
use Rattle.mpi_call.specs.declared.call.Call.TheVariants.{Peek}
use Rattle.mpi_call.specs.declared.call.Source.{Source}
use Rattle.mpi_call.specs.declared.call.Tag.{Tag}
use Rattle.mpi_call.specs.declared.reply.Reply.{Reply}
use Rattle.mpi_call.specs.declared.reply.Reply.TheVariants.{Done, Peeked}
use Rattle.run_model.specs.declared.event.Event.{Event}
use Rattle.run_model.specs.Pairs.{Name}
use Rattle.run_model.specs.Views.{View, view_of}
use Rattle.run_states.specs.Futures.{mate_name}
use Rattle.run_states.specs.Outcomes.{IsProbeKept}
use Rattle.explore.specs.inside.Probes.{AsksSame, last_or}

abbrev Found : Call → Reply → Call × Reply
Found call reply = (call, reply)

-- 1. what was seen last

last_snoc : (last : Option (Call × Reply)) (earlier : View) (seen : Call × Reply) → last_or last (earlier ++ seen ∷ []) ≡ Some seen
last_snoc last [] seen = refl
last_snoc last (x ∷ earlier) seen = last_snoc (Some x) earlier seen

record HasLast (view : View) (last : Option (Call × Reply)) : Type 0 where
  earlier : View
  seen : Call × Reply
  whole : view ≡ earlier ++ seen ∷ []
  is : last ≡ Some seen

last_of : (last : Option (Call × Reply)) (view : View) (x : Call × Reply) → HasLast (x ∷ view) (last_or last (x ∷ view))
last_of last [] x = record { earlier = []; seen = x; whole = refl; is = refl }
last_of last (y ∷ view) x =
    let rest = last_of (Some x) view y in
    record { earlier = x ∷ rest.earlier; seen = rest.seen; whole = ap (λ l. x ∷ l) rest.whole; is = rest.is }

found_last : (view : View) (seen : Call × Reply) → last_or None view ≡ Some seen → (earlier : View) × (view ≡ earlier ++ seen ∷ [])
found_last [] seen h = (let no : None ≡ Some seen = h in absurd (cc))
found_last (x ∷ view) seen h =
    let l = last_of None view x in
    let both : Some l.seen ≡ Some seen = sym l.is ∙ h in
    let same : l.seen ≡ seen = cc in
    (l.earlier, l.whole ∙ ap (λ s. l.earlier ++ s ∷ []) same)

same_some : (one other : Call × Reply) → Some one ≡ Some other → one ≡ other
same_some one other h = cc

-- 2. kept

pub kept_unless_done : (before : List Event) (event : Event) → (event.reply ≡ Done → ⊥) → IsProbeKept before event
kept_unless_done before event not_done earlier comm source tag wait room sender start sent count view call done = absurd (not_done done)

pub kept_first : (before : List Event) (event : Event) → None ≡ last_or None (view_of before event.rank) → IsProbeKept before event
kept_first before event none earlier comm source tag wait room sender start sent count view call done =
    let probe : Call × Reply = Found (Peek comm source tag wait) (Peeked sender start sent count) in
    let last : last_or None (view_of before event.rank) ≡ Some probe = ap (last_or None) view ∙ last_snoc None earlier probe in
    let no : None ≡ Some probe = none ∙ last in
    absurd (cc)

-- the last call and its reply are those of the probe
record IsProbe (call : Call) (reply : Reply) (comm : ℕ) (source : Source) (tag : Tag) (wait : Bool) (sender start sent count : ℕ) : Type 0 where
  call_is : call ≡ Peek comm source tag wait
  reply_is : reply ≡ Peeked sender start sent count

probe_seen : (before : List Event) (event : Event) (call : Call) (reply : Reply) (earlier : View) (comm : ℕ) (source : Source) (tag : Tag) (wait : Bool) (sender start sent count : ℕ)
    → Some (call, reply) ≡ last_or None (view_of before event.rank) → view_of before event.rank ≡ earlier ++ (Peek comm source tag wait, Peeked sender start sent count) ∷ []
    → IsProbe call reply comm source tag wait sender start sent count
probe_seen before event call reply earlier comm source tag wait sender start sent count seen view =
    let probe : Call × Reply = Found (Peek comm source tag wait) (Peeked sender start sent count) in
    let pair : Found call reply ≡ probe = same_some (Found call reply) probe (seen ∙ (ap (last_or None) view ∙ last_snoc None earlier probe)) in
    record { call_is = ap (λ (p : Call × Reply). p.0) pair; reply_is = ap (λ (p : Call × Reply). p.1) pair }

pub kept_apart : (before : List Event) (event : Event) (call : Call) (reply : Reply) → Some (call, reply) ≡ last_or None (view_of before event.rank)
    → (AsksSame event.call call → ⊥) → IsProbeKept before event
kept_apart before event call reply seen apart earlier comm source tag wait room sender start sent count view receives done =
    let p = probe_seen before event call reply earlier comm source tag wait sender start sent count seen view in
    absurd (apart (record { comm = comm; source = source; tag = tag; room = room; wait = wait; receives = receives; probes = p.call_is }))

pub kept_other : (before : List Event) (event : Event) (call : Call) (reply : Reply) → Some (call, reply) ≡ last_or None (view_of before event.rank)
    → ((sender start sent count : ℕ) → reply ≡ Peeked sender start sent count → ⊥) → IsProbeKept before event
kept_other before event call reply seen other earlier comm source tag wait room sender start sent count view receives done =
    let p = probe_seen before event call reply earlier comm source tag wait sender start sent count seen view in
    absurd (other sender start sent count p.reply_is)

pub kept_by : (before : List Event) (event : Event) (call : Call) (sender start sent count : ℕ) → Some (call, Peeked sender start sent count) ≡ last_or None (view_of before event.rank)
    → mate_name before event.mate ≡ Some (sender, start) → IsProbeKept before event
kept_by before event call rank number sent count seen mate earlier comm source tag wait room sender start sent' count' view receives done =
    let p = probe_seen before event call (Peeked rank number sent count) earlier comm source tag wait sender start sent' count' seen view in
    let e : Peeked rank number sent count ≡ Peeked sender start sent' count' = p.reply_is in
    let r : rank ≡ sender = cc in
    let k : number ≡ start = cc in
    let F : ℕ → ℕ → Option Name = λ a b. Some (a, b) in
    mate ∙ (ap (λ a. F a number) r ∙ ap (F sender) k)

pub not_kept : (before : List Event) (event : Event) (call : Call) (sender start sent count : ℕ) → Some (call, Peeked sender start sent count) ≡ last_or None (view_of before event.rank)
    → AsksSame event.call call → event.reply ≡ Done → (mate_name before event.mate ≡ Some (sender, start) → ⊥) → IsProbeKept before event → ⊥
not_kept before event call sender start sent count seen asks done other kept =
    let l = found_last (view_of before event.rank) (call, Peeked sender start sent count) (sym seen) in
    let C : Call → Type 0 = λ c. view_of before event.rank ≡ l.0 ++ (c, Peeked sender start sent count) ∷ [] in
    other (kept l.0 asks.comm asks.source asks.tag asks.wait asks.room sender start sent count (subst C asks.probes l.1) asks.receives done)

pub by_bool : (b : Bool) (A B C D : Type 0) → (A → C) → (B → D) → MatchBool b A B → MatchBool b C D
by_bool true A B C D f g h = f h
by_bool false A B C D f g h = g h
