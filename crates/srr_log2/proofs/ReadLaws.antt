-- What reading all says.
use Rattle.std.proofs.Common.{◌≡◌, ℕ, ◌-◌, ◌≤◌, ◌⊎◌, inl, inr, List, [], ◌∷◌, length, take, refl, sym, ap, ◌∙◌, arith}
use Rattle.std.specs.Prelude.{Err}
use Rattle.srr_entry.specs.declared.log.Log.{Log}
use Rattle.srr_log.specs.declared.fault.LogFault.{LogFault}
use Rattle.srr_log.specs.declared.fault.LogWhy.{LogWhy}
use Rattle.srr_log.specs.Faults.{no_memory}
use Rattle.srr_log.specs.declared.read_error.ReadError.{ReadError}
use Rattle.srr_log.specs.declared.read_error.ReadError.TheVariants.{NoMemory, Fault}
use Rattle.srr_log2.specs.Fields.{Outcome, reads, stops, GivesFields}
use Rattle.srr_log2.specs.Reading.{coded_body, coded_close, coded_digest, coded_end, coded_log, IsFirstFieldFault}
use Rattle.srr_log.specs.Refused.{IsPlaced}
use Rattle.srr_log2.proofs.FieldLaws.{onward_reads}
use Rattle.srr_log2.proofs.PlaceLaws.{stop_within}

abbrev reading : Log → List ℕ → Outcome Log
reading log rest = reads log rest

abbrev stopping : LogWhy → ℕ → Outcome Log
stopping why left = stops why left

abbrev placed_at : ℕ → LogWhy → LogFault
placed_at at why = record { at = at; why = why }

-- all but the digest, then the digest and the end
pub body_stop : (text rest rest' : List ℕ) (stop : ReadError) → GivesFields (coded_body text) (Err stop) rest → GivesFields (coded_log text) (Err stop) rest'
unfolding coded_log
body_stop text rest rest' NoMemory is = tt
body_stop text rest rest' (Fault why left) is = rw is refl

pub close_stop : (text middle before rest rest' : List ℕ) (log : Log) (stop : ReadError) → coded_body text ≡ reads log middle → before ≡ take (length text - length middle) text → GivesFields (coded_close before middle) (Err stop) rest → GivesFields (coded_log text) (Err stop) rest'
unfolding coded_log
close_stop text middle before rest rest' log NoMemory body is closed = tt
close_stop text middle before rest rest' log (Fault why left) body is closed = rw (body, ← is, closed) refl

end_none : (text rest : List ℕ) (u : Unit {0}) → coded_end text ≡ reads u rest → rest ≡ []
end_none [] rest u e = cc
end_none (byte ∷ text) rest u e = absurd cc

close_none : (before text rest : List ℕ) (u : Unit {0}) → coded_close before text ≡ reads u rest → rest ≡ []
unfolding coded_close
close_none before text rest u e = let a = onward_reads (coded_digest before text) (λ _. coded_end) u rest e in end_none a.1 rest u a.3

pub log_closed : (text middle before rest : List ℕ) (log : Log) (u : Unit {0}) → coded_body text ≡ reads log middle → before ≡ take (length text - length middle) text → coded_close before middle ≡ reads u rest → coded_log text ≡ reads log []
unfolding coded_log
log_closed text middle before rest log u body is closed =
    let none = close_none before middle rest u closed in
    rw (body, ← is, closed, none) refl

-- a stop, once it has its place, is the text's first fault
pub stop_fault : (text : List ℕ) (stop : ReadError) (fault : LogFault) → GivesFields (coded_log text) (Err stop) [] → IsPlaced stop (length text) fault → (fault ≡ no_memory) ⊎ IsFirstFieldFault text fault
stop_fault text NoMemory fault is placed = inl placed
stop_fault text (Fault why left) fault is (why_is, at_is) = inr (left, is ∙ ap (λ w. stopping w left) (sym why_is), at_is)

-- a text says one thing: a log or a fault
pub log_or_fault : (text : List ℕ) → ((log : Log) × (rest : List ℕ) × (coded_log text ≡ reads log rest)) ⊎ ((fault : LogFault) × IsFirstFieldFault text fault)
log_or_fault text = says (coded_log text) refl
  where
    says : (said : Outcome Log) → coded_log text ≡ said → ((log : Log) × (rest : List ℕ) × (coded_log text ≡ reads log rest)) ⊎ ((fault : LogFault) × IsFirstFieldFault text fault)
    says (reads log rest) e = inl (log, rest, e)
    says (stops why left) e =
        let within : left ≤ length text = stop_within text [] (Fault why left) e in
        inr (placed_at (length text - left) why, (left, e, omega arith))

pub one_fault : (text : List ℕ) (fault other : LogFault) → IsFirstFieldFault text fault → IsFirstFieldFault text other → fault ≡ other
one_fault text fault other (left, is, at) (left', is', at') =
    let both : stopping fault.why left ≡ stopping other.why left' = sym is ∙ is' in
    let why : fault.why ≡ other.why = cc in
    let many : left ≡ left' = cc in
    let place : fault.at ≡ other.at = omega (arith, at, at', many) in
    ap (λ w. placed_at fault.at w) why ∙ ap (λ k. placed_at k other.why) place

pub one_log : (text : List ℕ) (log other : Log) → coded_log text ≡ reads log [] → coded_log text ≡ reads other [] → log ≡ other
one_log text log other is is' = let both : reading log [] ≡ reading other [] = sym is ∙ is' in cc

pub never_both : (text : List ℕ) (log : Log) (fault : LogFault) → coded_log text ≡ reads log [] → IsFirstFieldFault text fault → ⊥
never_both text log fault is (left, stopped, at) = let both : reading log [] ≡ stopping fault.why left = sym is ∙ stopped in cc
