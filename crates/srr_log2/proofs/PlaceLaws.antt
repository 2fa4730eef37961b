-- Reading leaves no more than there was, and a fault's place is in the text.
use Rattle.std.proofs.Common.{◌≡◌, ℕ, zero, suc, ◌+◌, ◌-◌, ◌≤◌, inl, inr, Bool, true, false, List, [], ◌∷◌, length, take, drop, Option, Some, None, arith}
use Rattle.std.specs.Prelude.{Err, nat_lt}
use Rattle.std.proofs.lemmas.Bool.{cases_Bool}
use Rattle.std.proofs.lemmas.List.{length-drop}
use Rattle.srr_entry.specs.declared.log.Log.{Log}
use Rattle.srr_log.specs.declared.fault.LogWhy.{LogWhy}
use Rattle.srr_log2.specs.declared.kind.MarkKind.{MarkKind}
use Rattle.srr_log2.specs.declared.kind.MarkKind.TheVariants.{Sent as SentMark, Nothing as NothingMark, Inside as InsideMark, Outside as OutsideMark, Inner as InnerMark, Outer as OuterMark, Made as MadeMark, MadeOutside as MadeOutsideMark}
use Rattle.srr_log2.specs.declared.kind.HaltKind.{HaltKind}
use Rattle.srr_log2.specs.declared.kind.HaltKind.TheVariants.{Aborted as AbortedKind, Trapped as TrappedKind, Truncated as TruncatedKind, Mismatched as MismatchedKind, BadRequest as BadRequestKind, Limit as LimitKind, Stuck as StuckKind}
use Rattle.srr_log2.specs.declared.kind.RecordKind.{RecordKind}
use Rattle.srr_log2.specs.declared.kind.RecordKind.TheVariants.{Sent as SentKind, Posted as PostedKind, Entered as EnteredKind, Ended as EndedKind, Took as TookKind, NotYet as NotYetKind, PeekedInside as PeekedInsideKind, PeekedOutside as PeekedOutsideKind, Stopped as StoppedKind}
use Rattle.srr_log.specs.declared.read_error.ReadError.{ReadError}
use Rattle.srr_log.specs.declared.read_error.ReadError.TheVariants.{NoMemory, Fault}
use Rattle.srr_log2.specs.Fields.{Outcome, reads, stops, Reader, onward, ◌>>=◌, give, allowed, coded_byte, coded_field, number_of, coded_word, coded_many, GivesFields}
use Rattle.srr_log2.specs.EntryReading.{coded_small_number, coded_tag, coded_count, coded_int, coded_ints, coded_rank, coded_sender, coded_fault, coded_members, mark_of, coded_mark_kind, coded_mark, coded_item, coded_items, coded_some_items, halt_of, coded_halt, coded_record_kind, record_of, coded_record, coded_entries, coded_rank_list}
use Rattle.srr_log2.specs.Reading.{coded_head, coded_rank_count, coded_group, coded_program, coded_body, coded_digest, coded_end, coded_close, coded_log}
use Rattle.srr_log.specs.Refused.{IsWithin}

-- in a text of that length
abbrev pub StaysIn : {A : Type 0} → ℕ → Outcome A → Type 0
StaysIn size (reads value rest) = length rest ≤ size
StaysIn size (stops why left) = left ≤ size

pub record Stays {A : Type 0} (r : Reader A) : Type 0 where
  pub inside : (text : List ℕ) → StaysIn (length text) (r text)

longer : {A : Type 0} (o : Outcome A) (size more : ℕ) → size ≤ more → StaysIn size o → StaysIn more o
longer (reads value rest) size more less stays = omega arith
longer (stops why left) size more less stays = omega arith

step : {A B : Type 0} (o : Outcome A) (f : A → Reader B) (size : ℕ) → StaysIn size o → ((a : A) → Stays (f a)) → StaysIn size (onward o f)
step (reads a middle) f size here others = longer (f a middle) (length middle) size here ((others a).inside middle)
step (stops why left) f size here others = here

-- one reader, and then another
next : {A B : Type 0} {r : Reader A} {f : A → Reader B} → Stays r → ((a : A) → Stays (f a)) → Stays (r >>= f)
next {r = r} {f = f} here others = record { inside = λ text. step (r text) f (length text) (here.inside text) others }

none : {A : Type 0} (a : A) → Stays (give a)
none a = record { inside = λ text. omega arith }

allowed_stays : {A : Type 0} (said : Option A) (why : LogWhy) (left size : ℕ) (rest : List ℕ) → left ≤ size → length rest ≤ size → StaysIn size (allowed said why left rest)
allowed_stays (Some value) why left size rest here there = there
allowed_stays None why left size rest here there = here

a_byte : {A : Type 0} (why : LogWhy) (said : ℕ → Option A) → Stays (coded_byte why said)
a_byte why said = record { inside = byte }
  where
    byte : (text : List ℕ) → StaysIn (length text) (coded_byte why said text)
    byte [] = omega arith
    byte (first ∷ rest) = allowed_stays (said first) why (length rest + 1) (suc (length rest)) rest (omega arith) (omega arith)

a_field : {A : Type 0} (width : ℕ) (why : List ℕ → LogWhy) (said : List ℕ → Option A) → Stays (coded_field width why said)
unfolding coded_field
a_field width why said = record {
  inside = λ text.
      elim (cases_Bool (nat_lt (length text) width)) [
        | inl short ↦ rw short (omega arith)
        | inr long ↦
            let left : length (drop width text) ≤ length text = let l = length-drop width text in omega arith in
            rw long (allowed_stays (said (take width text)) (why (take width text)) (length text) (length text) (drop width text) (omega arith) left)
      ];
}

a_word : (why : LogWhy) (is_allowed : ℕ → Bool) → Stays (coded_word why is_allowed)
a_word why is_allowed = a_field 4 (λ _. why) (number_of 4 is_allowed)

many : {A : Type 0} {r : Reader A} → Stays r → (count : ℕ) → Stays (coded_many r count)
many here zero = none []
many here (suc count) = next here (λ value. next (many here count) (λ values. none (value ∷ values)))

-- numbers and ranks
small : Stays coded_small_number
unfolding coded_small_number
small = a_word _ _

tag : Stays coded_tag
unfolding coded_tag
tag = a_word _ _

count : (most : ℕ) → Stays (coded_count most)
unfolding coded_count
count most = a_word _ _

int : Stays coded_int
unfolding coded_int
int = next (a_word _ _) (λ number. none _)

ints : (most : ℕ) → Stays (coded_ints most)
unfolding coded_ints
ints most = next (count most) (λ count. many int count)

rank : (n : ℕ) → Stays (coded_rank n)
unfolding coded_rank
rank n = a_byte _ _

sender : (n : ℕ) (group : List ℕ) (inside : Bool) → Stays (coded_sender n group inside)
unfolding coded_sender
sender n group inside = a_byte _ _

fault : Stays coded_fault
unfolding coded_fault
fault = a_byte _ _

members : (n : ℕ) → Stays (coded_members n)
unfolding coded_members
members n = next (a_byte _ _) (λ count. many (rank n) count)

-- marks and items
mark_after : (n : ℕ) (group : List ℕ) (kind : MarkKind) → Stays (mark_of n group kind)
mark_after n group SentMark = none _
mark_after n group NothingMark = none _
mark_after n group InsideMark = next (sender n group true) (λ source. next small (λ start. none _))
mark_after n group OutsideMark = next (sender n group false) (λ source. next small (λ start. next tag (λ tag. next (ints 65536) (λ ints. none _))))
mark_after n group InnerMark = none _
mark_after n group OuterMark = next (ints 262144) (λ ints. none _)
mark_after n group MadeMark = next small (λ comm. none _)
mark_after n group MadeOutsideMark = next (a_word _ _) (λ comm. next (members n) (λ members. none _))

mark : (n : ℕ) (group : List ℕ) → Stays (coded_mark n group)
unfolding coded_mark coded_mark_kind
mark n group = next (a_byte _ _) (λ kind. mark_after n group kind)

item : (n : ℕ) (group : List ℕ) (least : ℕ) → Stays (coded_item n group least)
unfolding coded_item
item n group least = next (a_word _ _) (λ index. next (mark n group) (λ mark. none _))

items : (n : ℕ) (group : List ℕ) (least count : ℕ) → Stays (coded_items n group least count)
items n group least zero = none []
items n group least (suc count) = next (item n group least) (λ i. next (items n group (i.index + 1) count) (λ others. none (i ∷ others)))

some_items : (n : ℕ) (group : List ℕ) → Stays (coded_some_items n group)
unfolding coded_some_items
some_items n group = next (a_word _ _) (λ count. items n group 0 count)

-- halts
halt_after : (n : ℕ) (kind : HaltKind) → Stays (halt_of n kind)
halt_after n AbortedKind = next (rank n) (λ rank. next int (λ code. none _))
halt_after n TrappedKind = next (rank n) (λ rank. next fault (λ fault. none _))
halt_after n TruncatedKind = next (rank n) (λ rank. next small (λ start. none _))
halt_after n MismatchedKind = next (rank n) (λ rank. none _)
halt_after n BadRequestKind = next (rank n) (λ rank. next small (λ start. none _))
halt_after n LimitKind = none _
halt_after n StuckKind = none _

halt : (n : ℕ) → Stays (coded_halt n)
unfolding coded_halt
halt n = next (a_byte _ _) (λ kind. halt_after n kind)

-- records
record_after : (n : ℕ) (group : List ℕ) (others : ℕ) (kind : RecordKind) → Stays (record_of n group others kind)
record_after n group others SentKind = none _
record_after n group others PostedKind = none _
record_after n group others EnteredKind = none _
record_after n group others EndedKind = none _
record_after n group others TookKind = next (some_items n group) (λ items. none _)
record_after n group others NotYetKind = next (a_word _ _) (λ count. none _)
record_after n group others PeekedInsideKind = next (sender n group true) (λ source. next small (λ start. none _))
record_after n group others PeekedOutsideKind = next (sender n group false) (λ source. next small (λ start. next tag (λ tag. next (count 65536) (λ count. none _))))
record_after n group others StoppedKind = next (halt n) (λ halt. none _)

a_record : (n : ℕ) (group : List ℕ) (counted : Bool) (others : ℕ) → Stays (coded_record n group counted others)
unfolding coded_record coded_record_kind
a_record n group counted others = next (a_byte _ _) (λ kind. record_after n group others kind)

entries : (n : ℕ) (group : List ℕ) (counted : Bool) (more others : ℕ) → Stays (coded_entries n group counted more others)
entries n group counted zero zero = none []
entries n group counted (suc more) zero = none []
entries n group counted (suc more) (suc others) = next (entries n group true more others) (λ found. none _)
entries n group counted zero (suc others) = next (a_record n group counted others) (λ first. next (entries n group _ _ others) (λ found. none _))

list : (n : ℕ) (group : List ℕ) → Stays (coded_rank_list n group)
unfolding coded_rank_list
list n group = next (a_word _ _) (λ count. entries n group false 0 count)

-- the whole
head : Stays coded_head
unfolding coded_head
head = a_field _ _ _

ranks : Stays coded_rank_count
unfolding coded_rank_count
ranks = a_byte _ _

group_stays : (n : ℕ) → Stays (coded_group n)
unfolding coded_group
group_stays n = next (a_field _ _ _) (λ bits. none _)

program : Stays coded_program
unfolding coded_program
program = next (a_word _ _) (λ size. a_field _ _ _)

body : Stays coded_body
unfolding coded_body
body = next head (λ _. next ranks (λ n. next (group_stays n) (λ group. next program (λ program. next (many (list n group) (length group)) (λ lists. none _)))))

digest : (before : List ℕ) → Stays (coded_digest before)
unfolding coded_digest
digest before = a_field _ _ _

end_stays : Stays coded_end
end_stays = record { inside = end' }
  where
    end' : (text : List ℕ) → StaysIn (length text) (coded_end text)
    end' [] = omega arith
    end' (byte ∷ rest) = omega arith

close : (before : List ℕ) → Stays (coded_close before)
unfolding coded_close
close before = next (digest before) (λ _. end_stays)

pub log_stays : Stays coded_log
unfolding coded_log
log_stays = record {
  inside = λ text.
      let before : List ℕ → List ℕ = λ rest. take (length text - length rest) text in
      step (coded_body text) (λ log rest. onward (coded_close (before rest) rest) (λ _. give log)) (length text) (body.inside text)
      (λ log. record { inside = λ rest. step (coded_close (before rest) rest) (λ _. give log) (length rest) ((close (before rest)).inside rest) (λ u. none log) });
}

pub stop_within : (text rest : List ℕ) (stop : ReadError) → GivesFields (coded_log text) (Err stop) rest → IsWithin stop (length text)
stop_within text rest NoMemory is = tt
stop_within text rest (Fault why left) is = placed (coded_log text) (log_stays.inside text) is
  where
    placed : (o : Outcome Log) → StaysIn (length text) o → o ≡ stops why left → left ≤ length text
    placed (reads log middle) stays e = absurd cc
    placed (stops why' left') stays e = let same : left' ≡ left = cc in omega (arith, stays, same)
