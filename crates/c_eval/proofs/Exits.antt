use Rattle.std.proofs.Common.{◌≡◌, ◌≢◌, ℤ, ◌≤◌, List, refl, sym, ◌∙◌, ap, arith}
use Rattle.mpi_call.specs.declared.reply.Reply.{Reply}
use Rattle.c_program.specs.declared.state.StackMark.{StackMark}
use Rattle.c_program.specs.Courses.{Course, after_replies}
use Rattle.c_program.specs.Meaning.{Exits, Meaning, Passing, exits_to, leaving, turn_exits}
use Rattle.c_program.specs.Performing.{Onward}
use Rattle.c_program.specs.State.{State, leave}
use Rattle.c_eval.specs.Evaluated.{LeadsOn}
use Rattle.c_eval.specs.declared.flow.Flow.{Flow}
use Rattle.c_eval.specs.declared.flow.Flow.TheVariants.{Next, Broke, Again, Back}
use Rattle.c_eval.specs.inside.Leaving.{exit}
use Rattle.c_eval.specs.inside.Parts.{returned_value}

-- out of a block
pub exit-leaving : (mark : StackMark) (k : Exits) (flow : Flow) (s : State) → exit (leaving mark k) flow s ≡ exit k flow (leave mark s)
exit-leaving mark k Next s = refl
exit-leaving mark k Broke s = refl
exit-leaving mark k Again s = refl
exit-leaving mark k (Back v) s = refl

-- out of a function
pub exit-call : (mark : StackMark) (go : ℤ → Onward) (flow : Flow) (s : State) → exit (exits_to mark go) flow s ≡ go (returned_value flow) (leave mark s)
exit-call mark go Next s = refl
exit-call mark go Broke s = refl
exit-call mark go Again s = refl
exit-call mark go (Back v) s = refl

-- out of a turn that goes on
pub exit-turn : (update : Passing) (on : Onward) (k : Exits) (flow : Flow) (s : State) → flow ≢ Broke → ((v : ℤ) → flow ≢ Back v) → exit (turn_exits update on k) flow s ≡ update s on
exit-turn update on k Next s b v = refl
exit-turn update on k Broke s b v = absurd (b refl)
exit-turn update on k Again s b v = refl
exit-turn update on k (Back w) s b v = absurd (v w refl)

-- another way to go on
pub exit-other : (k : Exits) (next : Onward) (flow : Flow) (s : State) → flow ≢ Next → exit (record k { next = next }) flow s ≡ exit k flow s
exit-other k next Next s n = absurd (n refl)
exit-other k next Broke s n = refl
exit-other k next Again s n = refl
exit-other k next (Back v) s n = refl

-- what a block left
left-block : (mark : StackMark) (k : Exits) (flow : Flow) (s t : State) (rest : List Reply) → t ≡ leave mark s → after_replies (exit (leaving mark k) flow s) rest ≡ after_replies (exit k flow t) rest
left-block mark k flow s t rest is = ap (λ c. after_replies c rest) (exit-leaving mark k flow s ∙ ap (exit k flow) (sym is))

left-call : (mark : StackMark) (go : ℤ → Onward) (flow : Flow) (s t : State) (rest : List Reply) → t ≡ leave mark s → after_replies (exit (exits_to mark go) flow s) rest ≡ after_replies (go (returned_value flow) t) rest
left-call mark go flow s t rest is = ap (λ c. after_replies c rest) (exit-call mark go flow s ∙ ap (go (returned_value flow)) (sym is))

-- ---- ends

-- a block that comes to its end
pub block-closes : (m body : Meaning) (mark : StackMark) (flow : Flow) (s u v t : State) (r r' r'' : List Reply) → ((k : Exits) → after_replies (m s k) r ≡ after_replies (body u (leaving mark k)) r') → u.left ≤ s.left
    → LeadsOn exit body u r' flow v r'' → t ≡ leave mark v → LeadsOn exit m s r flow t r''
block-closes m body mark flow s u v t r r' r'' comes le g is =
    let ran : v.left ≤ u.left = g.left in let same : t.left ≡ v.left = ap (λ (x : State). x.left) is in record {
      at = λ k. comes k ∙ g.at (leaving mark k) ∙ left-block mark k flow v t r'' is;
      left = omega arith;
    }

-- a function that comes to its end
pub call-closes : (m : State → (ℤ → Onward) → Course) (body : Meaning) (mark : StackMark) (flow : Flow) (s u v t : State) (r r' r'' : List Reply) → ((go : ℤ → Onward) → after_replies (m s go) r ≡ after_replies (body u (exits_to mark go)) r') → u.left ≤ s.left
    → LeadsOn exit body u r' flow v r'' → t ≡ leave mark v → LeadsOn {K = ℤ → Onward} {A = ℤ} (λ go x. go x) m s r (returned_value flow) t r''
call-closes m body mark flow s u v t r r' r'' comes le g is =
    let ran : v.left ≤ u.left = g.left in let same : t.left ≡ v.left = ap (λ (x : State). x.left) is in record {
      at = λ go. comes go ∙ g.at (exits_to mark go) ∙ left-call mark go flow v t r'' is;
      left = omega arith;
    }
