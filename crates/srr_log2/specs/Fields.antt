-- Reading field by field: a value and the rest of the text, or the first fault.
use Rattle.std.specs.Prelude.{◌≡◌, ◌<◌, ◌+◌, ℕ, zero, suc, List, [], ◌∷◌, ◌++◌, Bool, true, false, ◌&&◌, if◌then◌else◌, nat_lt, length, take, drop, Option, Some, None, Result, Ok, Err}
use Rattle.std.specs.Borrow.{Bor}
use Rattle.std.specs.Str.{bytes_eq}
use Rattle.byteorder.specs.Endian.{big_bytes, big_number}
use Rattle.srr_log.specs.declared.fault.LogWhy.{LogWhy}
use Rattle.srr_log.specs.declared.fault.LogWhy.TheVariants.{Short}
use Rattle.srr_log.specs.declared.read_error.ReadError.{ReadError}
use Rattle.srr_log.specs.declared.read_error.ReadError.TheVariants.{NoMemory, Fault}

-- what fields say and the rest of the text after them; or a fault, and how many bytes there are from its place to the
-- text's end
pub data Outcome (A : Type 0) : Type 0 where
  reads : A → List ℕ → Outcome A
  stops : LogWhy → ℕ → Outcome A

-- what each text says, read from its start
abbrev pub Reader : Type 0 → Type 0
Reader A = List ℕ → Outcome A

-- read on, unless there was a fault
abbrev pub onward : {A B : Type 0} → Outcome A → (A → Reader B) → Outcome B
onward (reads value rest) f = f value rest
onward (stops why left) f = stops why left

infixl 10 ◌>>=◌
-- one reading after another
abbrev pub ◌>>=◌ : {A B : Type 0} → Reader A → (A → Reader B) → Reader B
(r >>= f) text = onward (r text) f

-- nothing is read: this is the value
abbrev pub give : {A : Type 0} → A → Reader A
give value rest = reads value rest

-- a field that says nothing is not allowed: the fault is at its first byte, and `left` bytes are left from there on
abbrev pub allowed : {A : Type 0} → Option A → LogWhy → ℕ → List ℕ → Outcome A
allowed (Some value) why left rest = reads value rest
allowed None why left rest = stops why left

-- a field of one byte; cut off, it is Short at the text's end
abbrev pub coded_byte : {A : Type 0} → LogWhy → (ℕ → Option A) → Reader A
coded_byte why said [] = stops Short 0
coded_byte why said (byte ∷ rest) = allowed (said byte) why (length rest + 1) rest

-- a field of `width` bytes; why it is not allowed may depend on them
unfoldable pub coded_field : {A : Type 0} → ℕ → (List ℕ → LogWhy) → (List ℕ → Option A) → Reader A
coded_field width why said text =
    if nat_lt (length text) width then stops Short 0 else allowed (said (take width text)) (why (take width text)) (length text) (drop width text)

-- the number that `width` bytes are, where it is allowed. (Every list of bytes has one; a list of other numbers has none)
unfoldable pub number_of : ℕ → (ℕ → Bool) → List ℕ → Option ℕ
number_of width is_allowed bytes =
    if bytes_eq bytes (big_bytes width (big_number width bytes)) && is_allowed (big_number width bytes) then Some (big_number width bytes) else None

-- a field that is a number of four bytes
abbrev pub coded_word : LogWhy → (ℕ → Bool) → Reader ℕ
coded_word why is_allowed = coded_field 4 (λ _. why) (number_of 4 is_allowed)

-- a number of values of a kind
abbrev pub coded_many : {A : Type 0} → Reader A → ℕ → Reader (List A)
coded_many r zero = give []
coded_many r (suc count) = do
  value ← r
  values ← coded_many r count
  give (value ∷ values)

-- a value, if it passes a test
abbrev pub only_if : {A : Type 0} → Bool → A → Option A
only_if true value = Some value
only_if false value = None

-- what the code found in a text: the next byte, and how many bytes there are from it on; or that none is left
abbrev pub IsByte : List ℕ → Result (ℕ × ℕ) ReadError → List ℕ → Type 0
IsByte text (Ok found) rest = (text ≡ found.0 ∷ rest) × (found.1 ≡ length rest + 1)
IsByte text (Err NoMemory) rest = ⊥
IsByte text (Err (Fault why left)) rest = (text ≡ []) × (why ≡ Short) × (left ≡ 0)

-- the next number of four bytes, whatever is allowed there, and how many bytes there are from it on
abbrev pub IsWord : List ℕ → Result (ℕ × ℕ) ReadError → List ℕ → Type 0
IsWord text (Ok found) rest = (why : LogWhy) (is_allowed : ℕ → Bool) → coded_word why is_allowed text ≡ allowed (only_if (is_allowed found.0) found.0) why found.1 rest
IsWord text (Err NoMemory) rest = ⊥
IsWord text (Err (Fault why left)) rest = (why' : LogWhy) (is_allowed : ℕ → Bool) → coded_word why' is_allowed text ≡ stops why left

-- the next `width` bytes, and how many there are from them on
abbrev pub IsField : ℕ → List ℕ → Result (Bor (List ℕ) × ℕ) ReadError → List ℕ → Type 0
IsField width text (Ok found) rest = (text ≡ found.0.now ++ rest) × (length found.0.now ≡ width) × (found.1 ≡ length text)
IsField width text (Err NoMemory) rest = ⊥
IsField width text (Err (Fault why left)) rest = (length text < width) × (why ≡ Short) × (left ≡ 0)

-- what the code read and left is what the fields say, or it is out of memory
abbrev pub GivesFields : {A : Type 0} → Outcome A → Result A ReadError → List ℕ → Type 0
GivesFields said (Ok value) rest = said ≡ reads value rest
GivesFields said (Err NoMemory) rest = Unit {0}
GivesFields said (Err (Fault why left)) rest = said ≡ stops why left
