-- Keys as numbers in a row, each list behind its length: two rows are the same only where the keys are.
use Rattle.std.specs.Prelude.{◌≡◌, ℕ, ℤ, pos, List, [], ◌∷◌, ◌++◌, Option, Some, None, length}
use Rattle.mpi_call.specs.declared.call.Halt.{Halt}
use Rattle.mpi_call.specs.declared.call.Halt.TheVariants.{Aborted, Trapped, Truncated, Mismatched, BadRequest, Limit, Stuck}
use Rattle.mpi_call.specs.Halts.{fault_number}
use Rattle.run_model.specs.Numbers.{Origin}
use Rattle.run_model.specs.Pairs.{Name}
use Rattle.srr_entry.specs.declared.entry.Entry.{Entry}
use Rattle.srr_entry.specs.declared.entry.Entry.TheVariants.{Sent as EntrySent, Posted, Entered, Ended, Took, NotYet, PeekedInside, PeekedOutside, Stopped}
use Rattle.srr_entry.specs.declared.entry.Mark.{Mark}
use Rattle.srr_entry.specs.declared.entry.Mark.TheVariants.{Sent, Nothing, Inside, Outside, Inner, Outer, Made, MadeOutside}
use Rattle.srr_entry.specs.declared.entry.Marked.{Marked}
use Rattle.run_states.specs.Keys.{Key}

-- the codes of these, one after the other
abbrev pub codes_of : {A : Type 0} → (A → List ℤ) → List A → List ℤ
codes_of code [] = []
codes_of code (x ∷ xs) = code x ++ codes_of code xs

-- how many there are, and their codes
abbrev pub code_of_list : {A : Type 0} → (A → List ℤ) → List A → List ℤ
code_of_list code xs = pos (length xs) ∷ codes_of code xs

-- ints
abbrev pub code_of_ints : List ℤ → List ℤ
code_of_ints ints = code_of_list (λ int. int ∷ []) ints

-- numbers
abbrev pub code_of_numbers : List ℕ → List ℤ
code_of_numbers numbers = code_of_list (λ number. pos number ∷ []) numbers

-- a halt
abbrev pub code_of_halt : Halt → List ℤ
code_of_halt (Aborted rank code) = pos 1 ∷ pos rank ∷ code ∷ []
code_of_halt (Trapped rank fault) = pos 2 ∷ pos rank ∷ pos (fault_number fault) ∷ []
code_of_halt (Truncated rank start) = pos 3 ∷ pos rank ∷ pos start ∷ []
code_of_halt (Mismatched rank) = pos 4 ∷ pos rank ∷ []
code_of_halt (BadRequest rank start) = pos 5 ∷ pos rank ∷ pos start ∷ []
code_of_halt Limit = pos 6 ∷ []
code_of_halt Stuck = pos 7 ∷ []

-- what a completed start gave
abbrev pub code_of_mark : Mark → List ℤ
code_of_mark Sent = pos 1 ∷ []
code_of_mark Nothing = pos 2 ∷ []
code_of_mark (Inside source start) = pos 3 ∷ pos source ∷ pos start ∷ []
code_of_mark (Outside source start tag ints) = pos 4 ∷ pos source ∷ pos start ∷ pos tag ∷ code_of_ints ints
code_of_mark Inner = pos 5 ∷ []
code_of_mark (Outer ints) = pos 6 ∷ code_of_ints ints
code_of_mark (Made comm) = pos 7 ∷ pos comm ∷ []
code_of_mark (MadeOutside comm members) = pos 8 ∷ pos comm ∷ code_of_numbers members

-- completed starts
abbrev pub code_of_items : List Marked → List ℤ
code_of_items items = code_of_list (λ (item : Marked). pos item.index ∷ code_of_mark item.mark) items

-- an entry
abbrev pub code_of_entry : Entry → List ℤ
code_of_entry EntrySent = pos 1 ∷ []
code_of_entry Posted = pos 2 ∷ []
code_of_entry Entered = pos 3 ∷ []
code_of_entry Ended = pos 4 ∷ []
code_of_entry (Took items) = pos 5 ∷ code_of_items items
code_of_entry NotYet = pos 6 ∷ []
code_of_entry (PeekedInside source start) = pos 7 ∷ pos source ∷ pos start ∷ []
code_of_entry (PeekedOutside source start tag count) = pos 8 ∷ pos source ∷ pos start ∷ pos tag ∷ pos count ∷ []
code_of_entry (Stopped halt) = pos 9 ∷ code_of_halt halt

-- a rank's entries
abbrev pub code_of_entries : List Entry → List ℤ
code_of_entries entries = code_of_list code_of_entry entries

-- the entries of each rank
abbrev pub code_of_lists : List (List Entry) → List ℤ
code_of_lists lists = code_of_list code_of_entries lists

-- a partner, if there is one
abbrev pub code_of_partner : Option Name → List ℤ
code_of_partner None = pos 0 ∷ []
code_of_partner (Some name) = pos 1 ∷ pos name.0 ∷ pos name.1 ∷ []

-- the partners of each start of each rank
abbrev pub code_of_partners : List (List (Option Name)) → List ℤ
code_of_partners partners = code_of_list (code_of_list code_of_partner) partners

-- where a communicator comes from
abbrev pub code_of_origin : Origin → List ℤ
code_of_origin origin = pos origin.comm ∷ pos origin.instance ∷ code_of_ints origin.colour

-- the communicators that were made
abbrev pub code_of_made : List Origin → List ℤ
code_of_made made = code_of_list code_of_origin made

-- a key
abbrev pub key_code : Key → List ℤ
key_code key = code_of_lists key.entries ++ (code_of_partners key.partners ++ code_of_made key.made)

-- keys of one code are the same
abbrev pub CodesFixKeys : Type 0
CodesFixKeys = (one other : Key) → key_code one ≡ key_code other → one ≡ other
