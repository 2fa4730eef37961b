-- The first of several faults, by place and then by reason.
use Rattle.std.specs.Prelude.{◌≡◌, ◌&&◌, ◌||◌, ◌==◌, Bool, ℕ, List, [], ◌∷◌, Option, Some, None, if◌then◌else◌, nat_lt, false}
use Rattle.c_grammar.specs.declared.terminal.Span.{Span}
use Rattle.c_lex.specs.declared.fault.Why.{Why}
use Rattle.c_lex.specs.declared.fault.Why.TheVariants as w
use Rattle.c_scope.specs.declared.fault.TypingFault.{TypingFault}
use Rattle.mpi_call.specs.Lists.{IsIn}

-- the place of a reason in the list of reasons
abbrev pub reason_order : Why → ℕ
reason_order w.BadByte = 1
reason_order w.OpenComment = 2
reason_order w.OpenText = 3
reason_order w.BadLiteral = 4
reason_order w.Unexpected = 5
reason_order w.TooDeep = 6
reason_order w.Unknown = 7
reason_order w.Twice = 8
reason_order w.WrongType = 9
reason_order w.WrongCount = 10
reason_order w.NoMain = 11
reason_order w.BadFormat = 12
reason_order w.LeftOut = 13
reason_order w.NoMemory = 14

-- before another: at an earlier place, or at the same one by a reason that is listed earlier
abbrev pub is_less : TypingFault → TypingFault → Bool
is_less a b = nat_lt a.at b.at || ((a.at == b.at) && nat_lt (reason_order a.why) (reason_order b.why))

-- the first of a fault that may be there and another
abbrev pub take_less : Option TypingFault → TypingFault → Option TypingFault
take_less None f = Some f
take_less (Some g) f = if is_less f g then Some f else Some g

-- the first of a fault that may be there and others
abbrev pub least_fault_from : Option TypingFault → List TypingFault → Option TypingFault
least_fault_from b [] = b
least_fault_from b (f ∷ fs) = least_fault_from (take_less b f) fs

-- one of them, and none of them is less
pub record IsLeastFault (fs : List TypingFault) (f : TypingFault) : Type 0 where
  pub one : IsIn f fs
  pub first : (g : TypingFault) → IsIn g fs → is_less g f ≡ false

-- one fault, at a token
abbrev pub fault : Span → Why → List TypingFault
fault span why = record { at = span.start; why = why } ∷ []

-- one fault, unless all is well
abbrev pub fault_unless : Bool → Span → Why → List TypingFault
fault_unless well span why = if well then [] else fault span why
