-- Reading input files, and what is required of them.
use Rattle.std.proofs.Common.{◌≡◌, ◌<◌, ◌≤◌, ◌++◌, ℕ, List, [], ◌∷◌, Some, None, IfSome, arith, inl, inr, length}
use Rattle.wiz_io.specs.Files.{ObservedFiles}
use Rattle.wiz_tool.specs.declared.failure.Failure.{Failure}
use Rattle.wiz_tool.specs.declared.failure.Failure.TheVariants.{Refused as IsRefused, OutOfMemory}
use Rattle.wiz_tool.specs.declared.refusal.Refusal.{Refusal}
use Rattle.wiz_tool.specs.declared.refusal.Refusal.TheVariants.{Words, Missing, ReadFault, Program as BadProgram, Plan as BadPlan, Order as BadOrder, Log as BadLog, TooLong, Refine as BadRefine, Join as BadJoin, Compare as BadCompare}
use Rattle.wiz_task.specs.Tasks.{IsRefusedBy}
use Rattle.wiz_tool.specs.Inputs.{AreHeld, Input, IsFirstUnread, IsThere, IsUnread, IsUnreadInput, Refused}
use Rattle.wiz_task.specs.Requirements.{AreMet, IsFirstUnmet, IsUnmetBy, Requirement}
use Rattle.wiz_task.specs.inside.Refusals.{IsUnmetIn}
use Rattle.wiz_tool.specs.inside.Told.{IsFailureBy}

-- what follows from what a failure is
pub weaken : (P Q : Refused → Type 0) → ((refused : Refused) → P refused → Q refused) → (failure : Failure) → IsFailureBy P failure → IsFailureBy Q failure
weaken P Q weaker (IsRefused refusal name) is = weaker (record { refusal = refusal; name = name.now }) is
weaken P Q weaker OutOfMemory is = tt

-- ---- files

-- a count that rose later rose
unread_earlier : (before mid after : ObservedFiles) (input : Input) (refusal : Refusal) → mid.files ≡ before.files → before.reads ≤ mid.reads
    → IsUnread mid after input refusal → IsUnread before after input refusal
unread_earlier before mid after input Words same later unread = unread
unread_earlier before mid after input Missing same later unread =
    let missing : IfSome mid.files (λ told. told input.name ≡ None) = unread in rw same at missing
unread_earlier before mid after input ReadFault same later unread = omega (arith, later, unread)
unread_earlier before mid after input (BadProgram fault) same later unread = unread
unread_earlier before mid after input (BadPlan fault) same later unread = unread
unread_earlier before mid after input (BadOrder fault) same later unread = unread
unread_earlier before mid after input (BadLog fault) same later unread = unread
unread_earlier before mid after input TooLong same later unread =
    let long : IfSome mid.files (λ told. (bytes : List ℕ) × (told input.name ≡ Some bytes) × (input.limit < length bytes)) = unread in rw same at long
unread_earlier before mid after input (BadRefine fault) same later unread = unread
unread_earlier before mid after input (BadJoin fault) same later unread = unread
unread_earlier before mid after input (BadCompare fault) same later unread = unread

first_earlier : (before mid after : ObservedFiles) (inputs : List Input) (refused : Refused) → mid.files ≡ before.files → before.reads ≤ mid.reads
    → IsFirstUnread mid after inputs refused → IsFirstUnread before after inputs refused
first_earlier before mid after [] refused same later unread = unread
first_earlier before mid after (input ∷ inputs) refused same later (inl here) =
    inl (here.0, unread_earlier before mid after input refused.refusal same later here.1)
first_earlier before mid after (input ∷ inputs) refused same later (inr behind) =
    inr (rw same at behind.0, first_earlier before mid after inputs refused same later behind.1)

-- one of those after it is not read
pub later_unread : (before mid after : ObservedFiles) (input : Input) (inputs : List Input) (requirements : List (List ℕ) → List Requirement) (failure : Failure)
    → IsThere before.files input → mid.files ≡ before.files → before.reads ≤ mid.reads → IsFailureBy (IsFirstUnread mid after inputs) failure
    → IsFailureBy (IsRefusedBy before after (input ∷ inputs) requirements) failure
later_unread before mid after input inputs requirements failure there same later is =
    weaken (IsFirstUnread mid after inputs) (IsRefusedBy before after (input ∷ inputs) requirements)
    (λ refused unread. inl (inr (there, first_earlier before mid after inputs refused same later unread))) failure is

pub second_unread : (before mid after : ObservedFiles) (input second : Input) (inputs : List Input) (requirements : List (List ℕ) → List Requirement) (failure : Failure)
    → IsThere before.files input → mid.files ≡ before.files → before.reads ≤ mid.reads → IsFailureBy (IsUnreadInput mid after second) failure
    → IsFailureBy (IsRefusedBy before after (input ∷ second ∷ inputs) requirements) failure
second_unread before mid after input second inputs requirements failure there same later is =
    later_unread before mid after input (second ∷ inputs) requirements failure there same later
    (weaken (IsUnreadInput mid after second) (IsFirstUnread mid after (second ∷ inputs)) (λ refused unread. inl unread) failure is)

pub third_unread : (before mid after : ObservedFiles) (input second : Input) (inputs : List Input) (requirements : List (List ℕ) → List Requirement) (failure : Failure)
    → IsThere before.files input → IsThere mid.files second → mid.files ≡ before.files → before.reads ≤ mid.reads
    → IsFailureBy (IsFirstUnread mid after inputs) failure → IsFailureBy (IsRefusedBy before after (input ∷ second ∷ inputs) requirements) failure
third_unread before mid after input second inputs requirements failure there then same later is =
    later_unread before mid after input (second ∷ inputs) requirements failure there same later
    (weaken (IsFirstUnread mid after inputs) (IsFirstUnread mid after (second ∷ inputs)) (λ refused unread. inr (then, unread)) failure is)

-- all are read, and a requirement is not met
pub unmet : (before after : ObservedFiles) (inputs : List Input) (requirements : List (List ℕ) → List Requirement) (texts : List (List ℕ)) (failure : Failure)
    → AreHeld before.files inputs texts → IsFailureBy (IsUnmetIn (requirements texts)) failure → IsFailureBy (IsRefusedBy before after inputs requirements) failure
unmet before after inputs requirements texts failure held is =
    weaken (IsUnmetIn (requirements texts)) (IsRefusedBy before after inputs requirements) (λ refused first. inr (texts, held, first.0, first.1)) failure is

-- ---- requirements, one after the other

-- a requirement is not met, after others that are
first_after : (met : List Requirement) (requirement : Requirement) (rest : List Requirement) (refusal : Refusal) → AreMet met → IsUnmetBy requirement refusal
    → IsFirstUnmet (met ++ requirement ∷ rest) refusal
first_after [] requirement rest refusal are is = inl is
first_after (one ∷ met) requirement rest refusal are is = inr (are.0, first_after met requirement rest refusal are.1 is)

pub alone_unmet : (requirement : Requirement) (refusal : Refusal) → IsFirstUnmet (requirement ∷ []) refusal → IsUnmetBy requirement refusal
alone_unmet requirement refusal (inl here) = here
alone_unmet requirement refusal (inr later) = absurd later.1

pub unmet_after : (met : List Requirement) (requirement : Requirement) (rest : List Requirement) (failure : Failure) → AreMet met
    → IsFailureBy (IsUnmetIn (requirement ∷ [])) failure → IsFailureBy (IsUnmetIn (met ++ requirement ∷ rest)) failure
unmet_after met requirement rest failure are is =
    weaken (IsUnmetIn (requirement ∷ [])) (IsUnmetIn (met ++ requirement ∷ rest))
    (λ refused of. (first_after met requirement rest refused.refusal are (alone_unmet requirement refused.refusal of.0), of.1)) failure is
