use Rattle.std.proofs.Common.{◌≡◌, ◌≢◌, ℕ, ℤ, zero, suc, ◌<◌, ◌≤◌, true, false, List, Option, Some, None, Ok, Err, refl, ◌∙◌, ap, arith}
use Rattle.mpi_call.specs.declared.call.Fault.{Fault}
use Rattle.mpi_call.specs.declared.reply.Reply.{Reply}
use Rattle.c_program.specs.Courses.{after_replies, trapped}
use Rattle.c_program.specs.Meaning.{Exits, Meaning, Passing, loop, step, test, turn_exits, loop_turns}
use Rattle.c_program.specs.Performing.{Onward}
use Rattle.c_program.specs.State.{State}
use Rattle.c_program.specs.Tree.{TypedExpr}
use Rattle.c_eval.specs.declared.flow.Flow.{Flow}
use Rattle.c_eval.specs.declared.flow.Flow.TheVariants.{Next, Broke, Back}
use Rattle.c_eval.specs.declared.outcome.Stop.{Stop}
use Rattle.c_eval.specs.Evaluated.{LeadsOn, StopsAt}
use Rattle.c_eval.specs.inside.Leaving.{exit}
use Rattle.c_eval.specs.inside.Parts.{Ways, turn, way}
use Rattle.c_eval.proofs.Evaluations.{stops-from}
use Rattle.c_eval.proofs.Exits.{exit-turn}

-- a turn whose step is taken
module _ (update : Passing) (body : Meaning) (s t : State) (r : List Reply) (stepped : LeadsOn {K = Onward} {A = Unit {0}} (λ go done. go) step s r (tt {0}) t r) where
  begins : (ways : Ways) → after_replies (turn update body s ways) r ≡ after_replies (body t (turn_exits update ways.on ways.out)) r
  begins ways = stepped.at (λ s. body s (turn_exits update ways.on ways.out))

  pub turn-stops : (stop : Stop) (u : State) (r' : List Reply) → ((k : Exits) → StopsAt (after_replies (body t k) r) stop u r') → (ways : Ways) → StopsAt (after_replies (turn update body s ways) r) stop u r'
  turn-stops stop u r' h ways = stops-from _ _ stop u r' (begins ways) (h (turn_exits update ways.on ways.out))

  module _ (flow : Flow) (u : State) (r' : List Reply) (g : LeadsOn exit body t r flow u r') where
    pub turn-leaves : (out : Flow) → ((ways : Ways) → exit (turn_exits update ways.on ways.out) flow u ≡ exit ways.out out u) → LeadsOn way (turn update body) s r (Some out) u r'
    turn-leaves out is = let fewer : t.left ≤ s.left = stepped.left in let few : u.left ≤ t.left = g.left in record {
      at = λ ways. begins ways ∙ g.at (turn_exits update ways.on ways.out) ∙ ap (λ course. after_replies course r') (is ways);
      left = omega arith;
    }

    module _ (b : flow ≢ Broke) (v : (v : ℤ) → flow ≢ Back v) where
      updates : (ways : Ways) → after_replies (turn update body s ways) r ≡ after_replies (update u ways.on) r'
      updates ways = begins ways ∙ g.at (turn_exits update ways.on ways.out) ∙ ap (λ course. after_replies course r') (exit-turn update ways.on ways.out flow u b v)

      pub update-stops : (stop : Stop) (w : State) (r'' : List Reply) → ((k : Onward) → StopsAt (after_replies (update u k) r') stop w r'') → (ways : Ways) → StopsAt (after_replies (turn update body s ways) r) stop w r''
      update-stops stop w r'' h ways = stops-from _ _ stop w r'' (updates ways) (h ways.on)

      pub turn-goes_on : (w : State) (r'' : List Reply) → LeadsOn {K = Onward} {A = Unit {0}} (λ go done. go) update u r' (tt {0}) w r'' → LeadsOn way (turn update body) s r None w r''
      turn-goes_on w r'' h = let fewer : t.left ≤ s.left = stepped.left in let few : u.left ≤ t.left = g.left in let less : w.left ≤ u.left = h.left in record {
        at = λ ways. updates ways ∙ h.at ways.on;
        left = omega arith;
      }

-- a loop that began at `s0` has come to `s`; more turns are left than steps
pub record Turning (e : Option TypedExpr) (update : Passing) (body : Meaning) (s0 s : State) (r0 r : List Reply) : Type 0 where
  pub n : ℕ
  pub enough : s.left < n
  pub comes : (k : Exits) → after_replies (loop e update body s0 k) r0 ≡ after_replies (loop_turns n e update body s k) r
  pub left : s.left ≤ s0.left

-- what goes on from a turn
abbrev pub ways_from : ℕ → Option TypedExpr → Passing → Meaning → Exits → Ways
ways_from n e update body k = record { on = λ s. loop_turns n e update body s k; out = k }

ends : (n : ℕ) (e : Option TypedExpr) (update : Passing) (body : Meaning) (s : State) (r : List Reply) (k : Exits) → s.left < n → test e s ≡ Ok false → after_replies (loop_turns n e update body s k) r ≡ after_replies (k.next s) r
ends zero e update body s r k lt is = absurd (omega arith)
ends (suc n) e update body s r k lt is = rw is refl

fails : (n : ℕ) (e : Option TypedExpr) (update : Passing) (body : Meaning) (s : State) (r : List Reply) (k : Exits) (fault : Fault) → s.left < n → test e s ≡ Err fault
    → after_replies (loop_turns n e update body s k) r ≡ after_replies (trapped fault s) r
fails zero e update body s r k fault lt is = absurd (omega arith)
fails (suc n) e update body s r k fault lt is = rw is refl

enters : (n m : ℕ) (e : Option TypedExpr) (update : Passing) (body : Meaning) (s : State) (r : List Reply) (k : Exits) → n ≡ suc m → test e s ≡ Ok true
    → after_replies (loop_turns n e update body s k) r ≡ after_replies (turn update body s (ways_from m e update body k)) r
enters n m e update body s r k e' is = rw (e', is) refl

one_less : (n left : ℕ) → left < n → (m : ℕ) × (n ≡ suc m)
one_less zero left lt = absurd (omega arith)
one_less (suc n) left lt = (n, refl)

module _ (e : Option TypedExpr) (update : Passing) (body : Meaning) (s0 s : State) (r0 r : List Reply) (h : Turning e update body s0 s r0 r) where
  pub turning-ends : test e s ≡ Ok false → LeadsOn exit (loop e update body) s0 r0 Next s r
  turning-ends is = record { at = λ k. h.comes k ∙ ends h.n e update body s r k h.enough is; left = h.left }

  pub turning-fails : (fault : Fault) → test e s ≡ Err fault → (k : Exits) → after_replies (loop e update body s0 k) r0 ≡ after_replies (trapped fault s) r
  turning-fails fault is k = h.comes k ∙ fails h.n e update body s r k fault h.enough is

  module _ (t : State) (r' : List Reply) (is : test e s ≡ Ok true) where
    m : (m : ℕ) × (h.n ≡ suc m)
    m = one_less h.n s.left h.enough

    pub turning-on : t.left < s.left → LeadsOn way (turn update body) s r None t r' → Turning e update body s0 t r0 r'
    turning-on lt g = let same : h.n ≡ suc m.0 = m.1 in let more : s.left < h.n = h.enough in let few : s.left ≤ s0.left = h.left in record {
      n = m.0;
      enough = omega arith;
      comes = λ k. h.comes k ∙ enters h.n m.0 e update body s r k m.1 is ∙ g.at (ways_from m.0 e update body k);
      left = omega arith;
    }

    pub turning-leaves : (flow : Flow) → LeadsOn way (turn update body) s r (Some flow) t r' → LeadsOn exit (loop e update body) s0 r0 flow t r'
    turning-leaves flow g = let fewer : t.left ≤ s.left = g.left in let few : s.left ≤ s0.left = h.left in record {
      at = λ k. h.comes k ∙ enters h.n m.0 e update body s r k m.1 is ∙ g.at (ways_from m.0 e update body k);
      left = omega arith;
    }

    pub turning-stops : (stop : Stop) → ((ways : Ways) → StopsAt (after_replies (turn update body s ways) r) stop t r') → (k : Exits) → StopsAt (after_replies (loop e update body s0 k) r0) stop t r'
    turning-stops stop g k = stops-from _ _ stop t r' (h.comes k ∙ enters h.n m.0 e update body s r k m.1 is) (g (ways_from m.0 e update body k))
