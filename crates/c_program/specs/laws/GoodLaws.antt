-- States that stay good, and courses that end.
use Rattle.std.proofs.Common.{◌≡◌, ◌∙◌, ◌+◌, ℕ, ℤ, true, List, [], ◌∷◌, Option, Some, None, length, refl, subst}
use Rattle.mpi_call.specs.declared.call.Call.{Call}
use Rattle.mpi_call.specs.declared.call.Call.TheVariants.{Abort, Trap, End}
use Rattle.mpi_call.specs.declared.call.Fault.{Fault}
use Rattle.mpi_call.specs.declared.reply.Reply.{Reply}
use Rattle.mpi_call.specs.declared.reply.Reply.TheVariants.{Done, Took, NotYet, Peeked, Stopped}
use Rattle.run_model.specs.Lists.{IsPrefixOf}
use Rattle.run_model.specs.Program.{IsCallInBounds, IsInForm, ends}
use Rattle.run_model.specs.Shape.{has_shape}
use Rattle.run_model.specs.Views.{View}
use Rattle.run_model.proofs.Prefixes.{prefix_refl, prefix_trans}
use Rattle.c_program.specs.Courses.{Course, Asks, Over, asks_last, ended, trapped}
use Rattle.c_program.specs.laws.Keeping.{IsGoodState, KeepsLaws}
use Rattle.c_program.specs.State.{State, members_known, put, put_all, put_some}

-- ---- courses that end

pub keeps_prefix : (n me : ℕ) (own : View) (short long : List ℕ) (c : Course) → IsPrefixOf short long → KeepsLaws n me own long c → KeepsLaws n me own short c
keeps_prefix n me own short long (Over s) prefix keeps = absurd keeps
keeps_prefix n me own short long (Asks s call go) prefix keeps = (prefix_trans short long s.printed prefix keeps.0, keeps.1, keeps.2, keeps.3)

pub keeps_last : (n me : ℕ) (own : View) (call : Call) (s : State) → IsCallInBounds n (length own) call → IsInForm n me own call → ((reply : Reply) → has_shape n me own call reply ≡ true → ends (call, reply) ≡ true) → KeepsLaws n me own s.printed (asks_last call s)
keeps_last n me own call s bounds form ending = (prefix_refl s.printed, bounds, form, λ reply shape. rw (ending reply shape) tt)

trap_ends : (n me : ℕ) (own : View) (fault : Fault) (reply : Reply) → has_shape n me own (Trap fault) reply ≡ true → ends (Trap fault, reply) ≡ true
trap_ends n me own fault Done shape = absurd (cc)
trap_ends n me own fault (Took items) shape = absurd (cc)
trap_ends n me own fault NotYet shape = absurd (cc)
trap_ends n me own fault (Peeked source start tag count) shape = absurd (cc)
trap_ends n me own fault (Stopped halt) shape = refl

end_ends : (n me : ℕ) (own : View) (reply : Reply) → has_shape n me own End reply ≡ true → ends (End, reply) ≡ true
end_ends n me own Done shape = refl
end_ends n me own (Took items) shape = absurd (cc)
end_ends n me own NotYet shape = absurd (cc)
end_ends n me own (Peeked source start tag count) shape = absurd (cc)
end_ends n me own (Stopped halt) shape = refl

abort_ends : (n me : ℕ) (own : View) (code : ℤ) (reply : Reply) → has_shape n me own (Abort code) reply ≡ true → ends (Abort code, reply) ≡ true
abort_ends n me own code Done shape = absurd (cc)
abort_ends n me own code (Took items) shape = absurd (cc)
abort_ends n me own code NotYet shape = absurd (cc)
abort_ends n me own code (Peeked source start tag count) shape = absurd (cc)
abort_ends n me own code (Stopped halt) shape = refl

-- a trap is in bounds, and only Stopped has its shape: nothing follows
pub keeps_trapped : (n me : ℕ) (own : View) (fault : Fault) (s : State) → KeepsLaws n me own s.printed (trapped fault s)
keeps_trapped n me own fault s = keeps_last n me own (Trap fault) s tt tt (trap_ends n me own fault)

pub keeps_ended : (n me : ℕ) (own : View) (s : State) → KeepsLaws n me own s.printed (ended s)
keeps_ended n me own s = keeps_last n me own End s tt tt (end_ends n me own)

pub keeps_aborted : (n me : ℕ) (own : View) (code : ℤ) (s : State) → KeepsLaws n me own s.printed (asks_last (Abort code) s)
keeps_aborted n me own code s = keeps_last n me own (Abort code) s tt tt (abort_ends n me own code)

-- ---- good states

-- starts, communicators, variables and output are the same
pub record AreAlikeStates (s t : State) : Type 0 where
  pub starts : t.starts ≡ s.starts
  pub made : t.made ≡ s.made
  pub slots : t.slots ≡ s.slots
  pub printed : t.printed ≡ s.printed

pub alike_same : (s : State) → AreAlikeStates s s
alike_same s = record { starts = refl; made = refl; slots = refl; printed = refl }

pub alike_trans : (s t u : State) → AreAlikeStates s t → AreAlikeStates t u → AreAlikeStates s u
alike_trans s t u one two = record { starts = two.starts ∙ one.starts; made = two.made ∙ one.made; slots = two.slots ∙ one.slots; printed = two.printed ∙ one.printed }

pub alike_put : (cell : ℕ) (value : ℤ) (s : State) → AreAlikeStates s (put cell value s)
alike_put cell value s = record { starts = refl; made = refl; slots = refl; printed = refl }

pub alike_put_all : (cell : ℕ) (values : List ℤ) (s : State) → AreAlikeStates s (put_all cell values s)
alike_put_all cell [] s = alike_same s
alike_put_all cell (value ∷ values) s = alike_trans s (put cell value s) _ (alike_put cell value s) (alike_put_all (cell + 1) values (put cell value s))

pub alike_put_some : (cell : Option ℕ) (value : ℤ) (s : State) → AreAlikeStates s (put_some cell value s)
alike_put_some None value s = alike_same s
alike_put_some (Some cell) value s = alike_put cell value s

-- of the communicators only those that were made count
pub members_of-same : (n : ℕ) (s t : State) (comm : ℕ) → t.made ≡ s.made → members_known n t comm ≡ members_known n s comm
members_of-same n s t comm same = rw same refl

pub good_alike : (n me : ℕ) (own : View) (s t : State) → AreAlikeStates s t → IsGoodState n me own s → IsGoodState n me own t
good_alike n me own s t alike good = record {
  order = good.order;
  starts = rw alike.starts good.starts;
  known = λ comm. members_of-same n s t comm alike.made ∙ good.known comm;
  slots = rw alike.slots good.slots;
}

pub keeps_alike : (n me : ℕ) (own : View) (s t : State) (c : Course) → AreAlikeStates s t → KeepsLaws n me own t.printed c → KeepsLaws n me own s.printed c
keeps_alike n me own s t c alike keeps = subst (λ printed. KeepsLaws n me own printed c) alike.printed keeps

pub good_put : (n me : ℕ) (own : View) (cell : ℕ) (value : ℤ) (s : State) → IsGoodState n me own s → IsGoodState n me own (put cell value s)
good_put n me own cell value s good = good_alike n me own s (put cell value s) (alike_put cell value s) good
