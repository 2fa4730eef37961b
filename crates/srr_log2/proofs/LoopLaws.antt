-- Loops over fields: what was read so far, before what the rest says, is what all says.
use Rattle.std.proofs.Common.{◌≡◌, ℕ, zero, suc, ◌+◌, ◌-◌, ◌<◌, List, [], ◌∷◌, ◌++◌, refl, sym, ap, ◌∙◌, append_assoc, arith}
use Rattle.std.specs.Prelude.{Err}
use Rattle.std.proofs.lemmas.List.{append-nil}
use Rattle.srr_log.specs.declared.read_error.ReadError.{ReadError}
use Rattle.srr_log.specs.declared.read_error.ReadError.TheVariants.{NoMemory, Fault}
use Rattle.std.proofs.Common.{Bool, true}
use Rattle.srr_entry.specs.declared.entry.Marked.{Marked}
use Rattle.srr_entry.specs.declared.entry.Entry.{Entry}
use Rattle.srr_entry.specs.declared.entry.Entry.TheVariants.{NotYet}
use Rattle.srr_log2.specs.EntryBytes.{is_not_yet}
use Rattle.srr_log2.specs.EntryReading.{coded_item, coded_items, coded_record, coded_entries}
use Rattle.srr_log2.specs.Fields.{Outcome, reads, stops, Reader, onward, ◌>>=◌, give, coded_many, GivesFields}

abbrev pub onto : {A : Type 0} → List A → Outcome (List A) → Outcome (List A)
onto before (reads values rest) = reads (before ++ values) rest
onto before (stops why left) = stops why left

pub onto_none : {A : Type 0} (o : Outcome (List A)) → onto [] o ≡ o
onto_none (reads values rest) = refl
onto_none (stops why left) = refl

onto_more : {A : Type 0} (before : List A) (value : A) (o : Outcome (List A)) → onto before (onward o (λ values. give (value ∷ values))) ≡ onto (before ++ value ∷ []) o
onto_more before value (reads values rest) = ap (λ vs. reads vs rest) (sym (append_assoc before (value ∷ []) values))
onto_more before value (stops why left) = refl

-- one more was read
pub onward_more : {A : Type 0} (before now : List A) (value : A) (others : Reader (List A)) (text middle : List ℕ) (this : Outcome A) (whole : Outcome (List A))
    → onto before (onward this (λ v. others >>= λ values. give (v ∷ values))) ≡ whole → this ≡ reads value middle → now ≡ before ++ value ∷ [] → onto now (others middle) ≡ whole
onward_more before now value others text middle this whole is this_is now_is =
    rw now_is (sym (onto_more before value (others middle)) ∙ ap (λ o. onto before (onward o (λ v. others >>= λ values. give (v ∷ values)))) (sym this_is) ∙ is)

pub many_more : {A : Type 0} (r : Reader A) (before now : List A) (value : A) (left : ℕ) (text middle : List ℕ) (whole : Outcome (List A)) → 0 < left
    → onto before (coded_many r left text) ≡ whole → r text ≡ reads value middle → now ≡ before ++ value ∷ [] → onto now (coded_many r (left - 1) middle) ≡ whole
many_more r before now value zero text middle whole some' is this now_is = absurd (omega arith)
many_more r before now value (suc left) text middle whole some' is this now_is =
    let one : suc left - 1 ≡ left = omega arith in
    rw one (onward_more before now value (coded_many r left) text middle (r text) whole is this now_is)

-- reading stopped there
pub many_stop : {A : Type 0} (r : Reader A) (before : List A) (left : ℕ) (text middle rest : List ℕ) (stop : ReadError) (whole : Outcome (List A)) → 0 < left
    → onto before (coded_many r left text) ≡ whole → GivesFields (r text) (Err stop) middle → GivesFields whole (Err stop) rest
many_stop r before zero text middle rest stop whole some' is this = absurd (omega arith)
many_stop r before (suc left) text middle rest NoMemory whole some' is this = tt
many_stop r before (suc left) text middle rest (Fault why at) whole some' is this =
    sym is ∙ ap (λ o. onto before (onward o (λ v. coded_many r left >>= λ values. give (v ∷ values)))) this

-- all were read
pub many_end : {A : Type 0} (r : Reader A) (before : List A) (left : ℕ) (text : List ℕ) (whole : Outcome (List A)) → left ≡ 0 → onto before (coded_many r left text) ≡ whole → whole ≡ reads before text
many_end r before left text whole none is =
    sym is ∙ ap (λ k. onto before (coded_many r k text)) none ∙ ap (λ vs. reads vs text) (append-nil before)

-- completed starts, whose indices rise
pub items_more : (n : ℕ) (group : List ℕ) (least : ℕ) (before now : List Marked) (item : Marked) (left : ℕ) (text middle : List ℕ) (whole : Outcome (List Marked)) → 0 < left
    → onto before (coded_items n group least left text) ≡ whole → coded_item n group least text ≡ reads item middle → now ≡ before ++ item ∷ [] → onto now (coded_items n group (item.index + 1) (left - 1) middle) ≡ whole
items_more n group least before now item zero text middle whole some' is this now_is = absurd (omega arith)
items_more n group least before now item (suc left) text middle whole some' is this now_is =
    let one : suc left - 1 ≡ left = omega arith in
    let all : onto before (onward (coded_item n group least text) (λ v. coded_items n group (v.index + 1) left >>= λ values. give (v ∷ values))) ≡ whole = is in
    rw (one, now_is) (sym (onto_more before item (coded_items n group (item.index + 1) left middle)) ∙ ap (λ o. onto before (onward o (λ v. coded_items n group (v.index + 1) left >>= λ values. give (v ∷ values)))) (sym this) ∙ all)

-- entries: one that the record before counts, and one with a record of its own
pub counted_more : (n : ℕ) (group : List ℕ) (counted : Bool) (before now : List Entry) (more left : ℕ) (text : List ℕ) (whole : Outcome (List Entry)) → 0 < left → 0 < more
    → onto before (coded_entries n group counted more left text) ≡ whole → now ≡ before ++ NotYet ∷ [] → onto now (coded_entries n group true (more - 1) (left - 1) text) ≡ whole
counted_more n group counted before now zero left text whole some' some'' is now_is = absurd (omega arith)
counted_more n group counted before now (suc more) zero text whole some' some'' is now_is = absurd (omega arith)
counted_more n group counted before now (suc more) (suc left) text whole some' some'' is now_is =
    let one : suc left - 1 ≡ left = omega arith in
    let two : suc more - 1 ≡ more = omega arith in
    rw (one, two, now_is) (sym (onto_more before NotYet (coded_entries n group true more left text)) ∙ is)

pub record_more : (n : ℕ) (group : List ℕ) (counted : Bool) (before now : List Entry) (more left : ℕ) (first : Entry × ℕ) (text middle : List ℕ) (whole : Outcome (List Entry)) → 0 < left → more ≡ 0
    → onto before (coded_entries n group counted more left text) ≡ whole → coded_record n group counted (left - 1) text ≡ reads first middle → now ≡ before ++ first.0 ∷ []
    → onto now (coded_entries n group (is_not_yet first.0) first.1 (left - 1) middle) ≡ whole
record_more n group counted before now zero zero first text middle whole some' none is this now_is = absurd (omega arith)
record_more n group counted before now (suc more) left first text middle whole some' none is this now_is = absurd (omega arith)
record_more n group counted before now zero (suc left) first text middle whole some' none is this now_is =
    let one : suc left - 1 ≡ left = omega arith in
    let this' : coded_record n group counted left text ≡ reads first middle = ap (λ k. coded_record n group counted k text) (sym one) ∙ this in
    let all : onto before (onward (coded_record n group counted left text) (λ v. coded_entries n group (is_not_yet v.0) v.1 left >>= λ values. give (v.0 ∷ values))) ≡ whole = is in
    rw (one, now_is) (sym (onto_more before first.0 (coded_entries n group (is_not_yet first.0) first.1 left middle)) ∙ ap (λ o. onto before (onward o (λ v. coded_entries n group (is_not_yet v.0) v.1 left >>= λ values. give (v.0 ∷ values)))) (sym this') ∙ all)

pub record_stop : (n : ℕ) (group : List ℕ) (counted : Bool) (before : List Entry) (more left : ℕ) (text middle rest : List ℕ) (stop : ReadError) (whole : Outcome (List Entry)) → 0 < left → more ≡ 0
    → onto before (coded_entries n group counted more left text) ≡ whole → GivesFields (coded_record n group counted (left - 1) text) (Err stop) middle → GivesFields whole (Err stop) rest
record_stop n group counted before more left text middle rest NoMemory whole some' none is this = tt
record_stop n group counted before (suc more) left text middle rest (Fault why at) whole some' none is this = absurd (omega arith)
record_stop n group counted before zero zero text middle rest (Fault why at) whole some' none is this = absurd (omega arith)
record_stop n group counted before zero (suc left) text middle rest (Fault why at) whole some' none is this =
    let one : suc left - 1 ≡ left = omega arith in
    let this' : coded_record n group counted left text ≡ stops why at = ap (λ k. coded_record n group counted k text) (sym one) ∙ this in
    sym is ∙ ap (λ o. onto before (onward o (λ v. coded_entries n group (is_not_yet v.0) v.1 left >>= λ values. give (v.0 ∷ values)))) this'

pub entries_end : (n : ℕ) (group : List ℕ) (counted : Bool) (before : List Entry) (more left : ℕ) (text : List ℕ) (whole : Outcome (List Entry)) → left ≡ 0 → onto before (coded_entries n group counted more left text) ≡ whole → whole ≡ reads before text
entries_end n group counted before zero left text whole none is = sym is ∙ ap (λ k. onto before (coded_entries n group counted zero k text)) none ∙ ap (λ vs. reads vs text) (append-nil before)
entries_end n group counted before (suc more) left text whole none is = sym is ∙ ap (λ k. onto before (coded_entries n group counted (suc more) k text)) none ∙ ap (λ vs. reads vs text) (append-nil before)
