-- The input files of a command, read in order.
use Rattle.std.specs.Prelude.{◌≡◌, ◌<◌, ◌≤◌, ◌⊎◌, ℕ, List, [], ◌∷◌, Option, Some, None, IfSome, length}
use Rattle.wiz_io.specs.Files.{Files, ObservedFiles, HasRisen}
use Rattle.wiz_tool.specs.declared.inputs.TheConstants.{ORDER_LIMIT, TEXT_LIMIT}
use Rattle.wiz_tool.specs.declared.refusal.Refusal.{Refusal}
use Rattle.wiz_tool.specs.declared.refusal.Refusal.TheVariants.{Missing, ReadFault, TooLong}

-- an input file, and the most bytes that it may have
pub record Input : Type 0 where
  pub name : List ℕ
  pub limit : ℕ

-- the most bytes of a program, and of a plan; that of a log is `MOST_LOG_BYTES`
abbrev pub text_limit : ℕ
text_limit = TEXT_LIMIT

-- the most bytes of an order
abbrev pub order_limit : ℕ
order_limit = ORDER_LIMIT

-- an input file and how many bytes it may have
abbrev pub input : ℕ → List ℕ → Input
input limit name = record { name = name; limit = limit }

-- one that may be left out
abbrev pub option_input : ℕ → Option (List ℕ) → List Input
option_input limit None = []
option_input limit (Some name) = input limit name ∷ []

-- where files are told, this one has these bytes; they are not more than its limit
abbrev pub FileHolds : Option Files → Input → List ℕ → Type 0
FileHolds files input bytes = IfSome files (λ told. told input.name ≡ Some bytes) × (length bytes ≤ input.limit)

-- the file is there and within its limit
abbrev pub IsThere : Option Files → Input → Type 0
IsThere files input = (bytes : List ℕ) × FileHolds files input bytes

-- why a file is not read, by the files as they were and the counts of read faults before and after
abbrev pub IsUnread : ObservedFiles → ObservedFiles → Input → Refusal → Type 0
IsUnread before after input Missing = IfSome before.files (λ told. told input.name ≡ None)
IsUnread before after input ReadFault = HasRisen before.reads after.reads
IsUnread before after input TooLong =
    IfSome before.files (λ told. (bytes : List ℕ) × (told input.name ≡ Some bytes) × (input.limit < length bytes))
IsUnread before after input refusal = ⊥

-- a refusal, and the file that its message names
pub record Refused : Type 0 where
  pub refusal : Refusal
  pub name : List ℕ

-- these are the texts of the input files
abbrev pub AreHeld : Option Files → List Input → List (List ℕ) → Type 0
AreHeld files [] [] = Unit {0}
AreHeld files [] (text ∷ texts) = ⊥
AreHeld files (input ∷ inputs) [] = ⊥
AreHeld files (input ∷ inputs) (text ∷ texts) = FileHolds files input text × AreHeld files inputs texts

-- one of them is not read
abbrev pub IsUnreadInput : ObservedFiles → ObservedFiles → Input → Refused → Type 0
IsUnreadInput before after input refused = (refused.name ≡ input.name) × IsUnread before after input refused.refusal

-- one is not read, and each one before it is there and within its limit
abbrev pub IsFirstUnread : ObservedFiles → ObservedFiles → List Input → Refused → Type 0
IsFirstUnread before after [] refused = ⊥
IsFirstUnread before after (input ∷ inputs) refused =
    IsUnreadInput before after input refused ⊎ (IsThere before.files input × IsFirstUnread before after inputs refused)
