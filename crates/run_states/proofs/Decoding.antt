-- Codes can be read again, so keys of one code are the same.
use Rattle.std.proofs.Common.{◌≡◌, ◌==◌, ◌∙◌, ◌++◌, ◌∷◌, if◌then◌else◌, ℕ, zero, suc, ℤ, pos, List, [], Option, Some, None, append_assoc, length, refl, ap, sym}
use Rattle.mpi_call.specs.declared.call.Fault.{Fault}
use Rattle.mpi_call.specs.declared.call.Fault.TheVariants.{DivideByZero, OutOfBounds, BadRank, BadTag, BadCount, BadComm, Budget, OutputFull, Depth, Cells}
use Rattle.mpi_call.specs.declared.call.Halt.{Halt}
use Rattle.mpi_call.specs.declared.call.Halt.TheVariants.{Aborted, Trapped, Truncated, Mismatched, BadRequest, Limit, Stuck}
use Rattle.mpi_call.specs.Halts.{fault_number}
use Rattle.run_model.specs.Numbers.{Origin}
use Rattle.run_model.specs.Pairs.{Name}
use Rattle.srr_entry.specs.declared.entry.Entry.{Entry}
use Rattle.srr_entry.specs.declared.entry.Entry.TheVariants.{Sent as EntrySent, Posted, Entered, Ended, Took, NotYet, PeekedInside, PeekedOutside, Stopped}
use Rattle.srr_entry.specs.declared.entry.Mark.{Mark}
use Rattle.srr_entry.specs.declared.entry.Mark.TheVariants.{Sent, Nothing, Inside, Outside, Inner, Outer, Made, MadeOutside}
use Rattle.srr_entry.specs.declared.entry.Marked.{Marked}
use Rattle.run_states.specs.Codes.{CodesFixKeys, code_of_entries, code_of_entry, code_of_halt, code_of_ints, code_of_items, code_of_list, code_of_lists, code_of_made, code_of_mark, code_of_numbers, code_of_origin, code_of_partner, code_of_partners, codes_of}
use Rattle.run_states.specs.Keys.{Key}

-- 1. readers

-- what a row begins with, and what is left of it
abbrev Reader : Type 0 → Type 0
Reader A = List ℤ → Option (A × List ℤ)

-- a reader reads a code
abbrev Reads : {A : Type 0} → (A → List ℤ) → Reader A → Type 0
Reads {A} code read = (x : A) (rest : List ℤ) → read (code x ++ rest) ≡ Some (x, rest)

read_one : {A : Type 0} (code : A → List ℤ) (read : Reader A) → Reads code read → (a b : A) (xs ys : List ℤ) → code a ++ xs ≡ code b ++ ys → (a ≡ b) × (xs ≡ ys)
read_one {A} code read reads a b xs ys e =
    let both : Some (a, xs) ≡ Some (b, ys) = sym (reads a xs) ∙ (ap read e ∙ reads b ys) in
    let pair : (a, xs) ≡ (b, ys) = cc in
    (ap (λ (p : A × List ℤ). p.0) pair, ap (λ (p : A × List ℤ). p.1) pair)

-- what was read, made into something else
abbrev made_of : {A B : Type 0} → (A → B) → Option (A × List ℤ) → Option (B × List ℤ)
made_of f None = None
made_of f (Some (x, rest)) = Some (f x, rest)

abbrev pushed : {A : Type 0} → A → Option (List A × List ℤ) → Option (List A × List ℤ)
pushed x None = None
pushed x (Some (xs, rest)) = Some (x ∷ xs, rest)

abbrev followed : {A : Type 0} → Option (A × List ℤ) → (List ℤ → Option (List A × List ℤ)) → Option (List A × List ℤ)
followed None next = None
followed (Some (x, rest)) next = pushed x (next rest)

abbrev read_many : {A : Type 0} → Reader A → ℕ → Reader (List A)
read_many read zero row = Some ([], row)
read_many read (suc count) row = followed (read row) (read_many read count)

abbrev read_list : {A : Type 0} → Reader A → Reader (List A)
read_list read (pos count ∷ row) = read_many read count row
read_list read row = None

many_read : {A : Type 0} (code : A → List ℤ) (read : Reader A) → Reads code read → (xs : List A) (rest : List ℤ)
    → read_many read (length xs) (codes_of code xs ++ rest) ≡ Some (xs, rest)
many_read code read reads [] rest = refl
many_read {A} code read reads (x ∷ xs) rest =
    let first : read ((code x ++ codes_of code xs) ++ rest) ≡ Some (x, codes_of code xs ++ rest) =
    ap read (append_assoc (code x) (codes_of code xs) rest) ∙ reads x (codes_of code xs ++ rest) in
    let F : Option (A × List ℤ) → Option (List A × List ℤ) = λ o. followed o (read_many read (length xs)) in
    ap F first ∙ ap (pushed x) (many_read code read reads xs rest)

list_read : {A : Type 0} (code : A → List ℤ) (read : Reader A) → Reads code read → Reads (code_of_list code) (read_list read)
list_read code read reads xs rest = many_read code read reads xs rest

-- 2. numbers

abbrev read_int : Reader ℤ
read_int (int ∷ row) = Some (int, row)
read_int row = None

abbrev read_number : Reader ℕ
read_number (pos number ∷ row) = Some (number, row)
read_number row = None

ints_read : Reads code_of_ints (read_list read_int)
ints_read = list_read (λ int. int ∷ []) read_int (λ x rest. refl)

numbers_read : Reads code_of_numbers (read_list read_number)
numbers_read = list_read (λ number. pos number ∷ []) read_number (λ x rest. refl)

-- 3. halts

abbrev fault_of : ℕ → Fault
fault_of number =
    if number == 1 then DivideByZero else if number == 2 then OutOfBounds else if number == 3 then BadRank else if number == 4 then BadTag
    else if number == 5 then BadCount else if number == 6 then BadComm else if number == 7 then Budget else if number == 8 then OutputFull
    else if number == 9 then Depth else Cells

fault_again : (fault : Fault) → fault_of (fault_number fault) ≡ fault
fault_again DivideByZero = refl
fault_again OutOfBounds = refl
fault_again BadRank = refl
fault_again BadTag = refl
fault_again BadCount = refl
fault_again BadComm = refl
fault_again Budget = refl
fault_again OutputFull = refl
fault_again Depth = refl
fault_again Cells = refl

abbrev read_aborted : Reader Halt
read_aborted (pos rank ∷ code ∷ row) = Some (Aborted rank code, row)
read_aborted row = None

-- a rank and a number
abbrev read_both : {A : Type 0} → (ℕ → ℕ → A) → Reader A
read_both f (pos first ∷ pos second ∷ row) = Some (f first second, row)
read_both f row = None

abbrev halt_by : ℕ → Reader Halt
halt_by kind row =
    if kind == 1 then read_aborted row else if kind == 2 then read_both (λ rank fault. Trapped rank (fault_of fault)) row
    else if kind == 3 then read_both Truncated row else if kind == 4 then made_of Mismatched (read_number row)
    else if kind == 5 then read_both BadRequest row else if kind == 6 then Some (Limit, row) else Some (Stuck, row)

abbrev read_halt : Reader Halt
read_halt (pos kind ∷ row) = halt_by kind row
read_halt row = None

halt_read : Reads code_of_halt read_halt
halt_read (Aborted rank code) rest = refl
halt_read (Trapped rank fault) rest = ap (λ f. Some (Trapped rank f, rest)) (fault_again fault)
halt_read (Truncated rank start) rest = refl
halt_read (Mismatched rank) rest = refl
halt_read (BadRequest rank start) rest = refl
halt_read Limit rest = refl
halt_read Stuck rest = refl

-- 4. marks

abbrev read_outside : Reader Mark
read_outside (pos source ∷ pos start ∷ pos tag ∷ row) = made_of (Outside source start tag) (read_list read_int row)
read_outside row = None

abbrev read_made_outside : Reader Mark
read_made_outside (pos comm ∷ row) = made_of (MadeOutside comm) (read_list read_number row)
read_made_outside row = None

abbrev mark_by : ℕ → Reader Mark
mark_by kind row =
    if kind == 1 then Some (Sent, row) else if kind == 2 then Some (Nothing, row) else if kind == 3 then read_both Inside row
    else if kind == 4 then read_outside row else if kind == 5 then Some (Inner, row) else if kind == 6 then made_of Outer (read_list read_int row)
    else if kind == 7 then made_of Made (read_number row) else read_made_outside row

abbrev read_mark : Reader Mark
read_mark (pos kind ∷ row) = mark_by kind row
read_mark row = None

mark_read : Reads code_of_mark read_mark
mark_read Sent rest = refl
mark_read Nothing rest = refl
mark_read (Inside source start) rest = refl
mark_read (Outside source start tag ints) rest = ap (made_of (Outside source start tag)) (ints_read ints rest)
mark_read Inner rest = refl
mark_read (Outer ints) rest = ap (made_of Outer) (ints_read ints rest)
mark_read (Made comm) rest = refl
mark_read (MadeOutside comm members) rest = ap (made_of (MadeOutside comm)) (numbers_read members rest)

-- 5. entries

abbrev item_of : ℕ → Mark → Marked
item_of index mark = record { index = index; mark = mark }

abbrev read_item : Reader Marked
read_item (pos index ∷ row) = made_of (item_of index) (read_mark row)
read_item row = None

item_read : Reads (λ (item : Marked). pos item.index ∷ code_of_mark item.mark) read_item
item_read item rest = ap (made_of (item_of item.index)) (mark_read item.mark rest)

items_read : Reads code_of_items (read_list read_item)
items_read = list_read (λ (item : Marked). pos item.index ∷ code_of_mark item.mark) read_item item_read

abbrev read_peeked : Reader Entry
read_peeked (pos source ∷ pos start ∷ pos tag ∷ pos count ∷ row) = Some (PeekedOutside source start tag count, row)
read_peeked row = None

abbrev entry_by : ℕ → Reader Entry
entry_by kind row =
    if kind == 1 then Some (EntrySent, row) else if kind == 2 then Some (Posted, row) else if kind == 3 then Some (Entered, row)
    else if kind == 4 then Some (Ended, row) else if kind == 5 then made_of Took (read_list read_item row) else if kind == 6 then Some (NotYet, row)
    else if kind == 7 then read_both PeekedInside row else if kind == 8 then read_peeked row else made_of Stopped (read_halt row)

abbrev read_entry : Reader Entry
read_entry (pos kind ∷ row) = entry_by kind row
read_entry row = None

entry_read : Reads code_of_entry read_entry
entry_read EntrySent rest = refl
entry_read Posted rest = refl
entry_read Entered rest = refl
entry_read Ended rest = refl
entry_read (Took items) rest = ap (made_of Took) (items_read items rest)
entry_read NotYet rest = refl
entry_read (PeekedInside source start) rest = refl
entry_read (PeekedOutside source start tag count) rest = refl
entry_read (Stopped halt) rest = ap (made_of Stopped) (halt_read halt rest)

lists_read : Reads code_of_lists (read_list (read_list read_entry))
lists_read = list_read code_of_entries (read_list read_entry) (list_read code_of_entry read_entry entry_read)

-- 6. partners and communicators

abbrev name_of : ℕ → ℕ → Option Name
name_of rank start = Some (rank, start)

abbrev partner_by : ℕ → Reader (Option Name)
partner_by kind row = if kind == 0 then Some (None, row) else read_both name_of row

abbrev read_partner : Reader (Option Name)
read_partner (pos kind ∷ row) = partner_by kind row
read_partner row = None

partner_read : Reads code_of_partner read_partner
partner_read None rest = refl
partner_read (Some name) rest = refl

partners_read : Reads code_of_partners (read_list (read_list read_partner))
partners_read = list_read (code_of_list code_of_partner) (read_list read_partner) (list_read code_of_partner read_partner partner_read)

abbrev origin_by : ℕ → ℕ → List ℤ → Origin
origin_by comm instance colour = record { comm = comm; instance = instance; colour = colour }

abbrev read_origin : Reader Origin
read_origin (pos comm ∷ pos instance ∷ row) = made_of (origin_by comm instance) (read_list read_int row)
read_origin row = None

origin_read : Reads code_of_origin read_origin
origin_read origin rest = ap (made_of (origin_by origin.comm origin.instance)) (ints_read origin.colour rest)

made_read : Reads code_of_made (read_list read_origin)
made_read = list_read code_of_origin read_origin origin_read

-- 7. keys

key_by : (one other : Key) → one.entries ≡ other.entries → one.partners ≡ other.partners → one.made ≡ other.made → one ≡ other
key_by one other entries partners made =
    let K : List (List Entry) → List (List (Option Name)) → List Origin → Key = λ e p m. record { entries = e; partners = p; made = m } in
    ap (λ e. K e one.partners one.made) entries ∙ (ap (λ p. K other.entries p one.made) partners ∙ ap (K other.entries other.partners) made)

pub codes_fix_keys : CodesFixKeys
codes_fix_keys one other e =
    let first = read_one code_of_lists (read_list (read_list read_entry)) lists_read one.entries other.entries
    (code_of_partners one.partners ++ code_of_made one.made) (code_of_partners other.partners ++ code_of_made other.made) e in
    let second = read_one code_of_partners (read_list (read_list read_partner)) partners_read one.partners other.partners (code_of_made one.made) (code_of_made other.made) first.1 in
    let ends : code_of_made one.made ++ [] ≡ code_of_made other.made ++ [] = ap (λ (l : List ℤ). l ++ []) second.1 in
    let third = read_one code_of_made (read_list read_origin) made_read one.made other.made [] [] ends in
    key_by one other first.0 second.0 third.0
