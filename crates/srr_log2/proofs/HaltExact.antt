-- Halts and members, both ways.
use Rattle.std.proofs.Common.{◌≡◌, ℕ, zero, suc, ◌<◌, List, [], ◌∷◌, ◌++◌, refl, ap, subst, ◌∙◌}
use Rattle.std.specs.Prelude.{nat_lt}
use Rattle.std.proofs.lemmas.Bool.{lt-ltb, ltb-true}
use Rattle.mpi_call.specs.declared.call.Fault.{Fault}
use Rattle.mpi_call.specs.declared.call.Fault.TheVariants.{DivideByZero, OutOfBounds, BadRank, BadTag, BadCount, BadComm, Budget, OutputFull, Depth, Cells}
use Rattle.mpi_call.specs.declared.call.Halt.{Halt}
use Rattle.mpi_call.specs.declared.call.Halt.TheVariants.{Aborted, Trapped, Truncated, Mismatched, BadRequest, Limit, Stuck}
use Rattle.mpi_call.specs.Halts.{fault_number}
use Rattle.srr_log.specs.declared.fault.LogWhy.TheVariants.{BadEntry}
use Rattle.srr_log.specs.Bounds.{IsHalt}
use Rattle.srr_log.specs.FaultNumbers.{fault_numbered}
use Rattle.srr_log.proofs.FaultNumbers.{fault_said}
use Rattle.srr_log2.specs.declared.kind.HaltKind.{HaltKind}
use Rattle.srr_log2.specs.declared.kind.HaltKind.TheVariants.{Aborted as AbortedKind, Trapped as TrappedKind, Truncated as TruncatedKind, Mismatched as MismatchedKind, BadRequest as BadRequestKind, Limit as LimitKind, Stuck as StuckKind}
use Rattle.srr_log2.specs.Kinds.{halt_kind_of}
use Rattle.srr_log2.specs.EntryBytes.{word_bytes, int_bytes, halt_bytes}
use Rattle.srr_log2.specs.Fields.{reads, ◌>>=◌, give, coded_byte, only_if}
use Rattle.srr_log2.specs.EntryReading.{coded_rank, coded_fault, coded_small_number, coded_int, halt_of, coded_halt}
use Rattle.srr_log2.proofs.FieldLaws.{some, onward_reads, given, byte_reads, only_if_some}
use Rattle.srr_log2.proofs.Exact.{IsExact, small_exact, int_exact, go, put}

pub rank_exact : (n : ℕ) → IsExact (coded_rank n) (λ rank. rank ∷ []) (λ rank. rank < n)
unfolding coded_rank
rank_exact n = record {
  written = λ rank rest ok. rw (lt-ltb _ _ ok) refl;
  read = λ text rest rank e.
      let b = byte_reads BadEntry (λ rank. only_if (nat_lt rank n) rank) text rest rank e in
      let w = only_if_some (nat_lt b.0 n) b.0 rank b.2 in
      let P : ℕ → Type 0 = λ r. (text ≡ r ∷ rest) × (r < n) in
      subst P w.1 (b.1, ltb-true _ _ w.0);
}

fault_says : (fault : Fault) (rest : List ℕ) → coded_fault (fault_number fault ∷ rest) ≡ reads fault rest
unfolding coded_fault
fault_says DivideByZero rest = refl
fault_says OutOfBounds rest = refl
fault_says BadRank rest = refl
fault_says BadTag rest = refl
fault_says BadCount rest = refl
fault_says BadComm rest = refl
fault_says Budget rest = refl
fault_says OutputFull rest = refl
fault_says Depth rest = refl
fault_says Cells rest = refl

pub fault_exact : IsExact coded_fault (λ fault. fault_number fault ∷ []) (λ fault. Unit {0})
unfolding coded_fault
fault_exact = record {
  written = λ fault rest ok. fault_says fault rest;
  read = λ text rest fault e. let b = byte_reads BadEntry fault_numbered text rest fault e in (b.1 ∙ ap (λ x. x ∷ rest) (fault_said b.0 fault b.2), tt);
}

abbrev kind_byte : HaltKind → ℕ
kind_byte AbortedKind = 1
kind_byte TrappedKind = 2
kind_byte TruncatedKind = 3
kind_byte MismatchedKind = 4
kind_byte BadRequestKind = 5
kind_byte LimitKind = 6
kind_byte StuckKind = 7

kind_was : (byte : ℕ) (kind : HaltKind) → halt_kind_of byte ≡ some kind → byte ≡ kind_byte kind
kind_was zero kind e = absurd cc
kind_was (suc zero) kind e = let k : AbortedKind ≡ kind = cc in ap kind_byte k
kind_was (suc (suc zero)) kind e = let k : TrappedKind ≡ kind = cc in ap kind_byte k
kind_was (suc (suc (suc zero))) kind e = let k : TruncatedKind ≡ kind = cc in ap kind_byte k
kind_was (suc (suc (suc (suc zero)))) kind e = let k : MismatchedKind ≡ kind = cc in ap kind_byte k
kind_was (suc (suc (suc (suc (suc zero))))) kind e = let k : BadRequestKind ≡ kind = cc in ap kind_byte k
kind_was (suc (suc (suc (suc (suc (suc zero)))))) kind e = let k : LimitKind ≡ kind = cc in ap kind_byte k
kind_was (suc (suc (suc (suc (suc (suc (suc zero))))))) kind e = let k : StuckKind ≡ kind = cc in ap kind_byte k
kind_was (suc (suc (suc (suc (suc (suc (suc (suc byte)))))))) kind e = absurd cc

abbrev Was : ℕ → HaltKind → List ℕ → List ℕ → Halt → Type 0
Was n kind text rest halt = (kind_byte kind ∷ text ≡ halt_bytes halt ++ rest) × IsHalt n halt

halt_was : (n : ℕ) (kind : HaltKind) (text rest : List ℕ) (halt : Halt) → halt_of n kind text ≡ reads halt rest → Was n kind text rest halt
halt_was n AbortedKind text rest halt e =
    let a = go (rank_exact n) (λ rank. coded_int >>= λ code. give (Aborted rank code)) text rest halt e in
    let b = go int_exact (λ code. give (Aborted a.0 code)) a.1 rest halt a.4 in
    let g = given (Aborted a.0 b.0) halt b.1 rest b.4 in
    subst (Was n AbortedKind text rest) g.0 (ap (λ xs. 1 ∷ xs) (a.2 ∙ ap (λ xs. a.0 ∷ xs) (b.2 ∙ ap (λ xs. int_bytes b.0 ++ xs) g.1)), (a.3, b.3))
halt_was n TrappedKind text rest halt e =
    let a = go (rank_exact n) (λ rank. coded_fault >>= λ fault. give (Trapped rank fault)) text rest halt e in
    let b = go fault_exact (λ fault. give (Trapped a.0 fault)) a.1 rest halt a.4 in
    let g = given (Trapped a.0 b.0) halt b.1 rest b.4 in
    subst (Was n TrappedKind text rest) g.0 (ap (λ xs. 2 ∷ xs) (a.2 ∙ ap (λ xs. a.0 ∷ xs) (b.2 ∙ ap (λ xs. (fault_number b.0 ∷ []) ++ xs) g.1)), a.3)
halt_was n TruncatedKind text rest halt e =
    let a = go (rank_exact n) (λ rank. coded_small_number >>= λ start. give (Truncated rank start)) text rest halt e in
    let b = go small_exact (λ start. give (Truncated a.0 start)) a.1 rest halt a.4 in
    let g = given (Truncated a.0 b.0) halt b.1 rest b.4 in
    subst (Was n TruncatedKind text rest) g.0 (ap (λ xs. 3 ∷ xs) (a.2 ∙ ap (λ xs. a.0 ∷ xs) (b.2 ∙ ap (λ xs. word_bytes b.0 ++ xs) g.1)), (a.3, b.3))
halt_was n MismatchedKind text rest halt e =
    let a = go (rank_exact n) (λ rank. give (Mismatched rank)) text rest halt e in
    let g = given (Mismatched a.0) halt a.1 rest a.4 in
    subst (Was n MismatchedKind text rest) g.0 (ap (λ xs. 4 ∷ xs) (a.2 ∙ ap (λ xs. a.0 ∷ xs) g.1), a.3)
halt_was n BadRequestKind text rest halt e =
    let a = go (rank_exact n) (λ rank. coded_small_number >>= λ start. give (BadRequest rank start)) text rest halt e in
    let b = go small_exact (λ start. give (BadRequest a.0 start)) a.1 rest halt a.4 in
    let g = given (BadRequest a.0 b.0) halt b.1 rest b.4 in
    subst (Was n BadRequestKind text rest) g.0 (ap (λ xs. 5 ∷ xs) (a.2 ∙ ap (λ xs. a.0 ∷ xs) (b.2 ∙ ap (λ xs. word_bytes b.0 ++ xs) g.1)), (a.3, b.3))
halt_was n LimitKind text rest halt e = let g = given Limit halt text rest e in subst (Was n LimitKind text rest) g.0 (ap (λ xs. 6 ∷ xs) g.1, tt)
halt_was n StuckKind text rest halt e = let g = given Stuck halt text rest e in subst (Was n StuckKind text rest) g.0 (ap (λ xs. 7 ∷ xs) g.1, tt)

pub halt_read : (n : ℕ) (text rest : List ℕ) (halt : Halt) → coded_halt n text ≡ reads halt rest → (text ≡ halt_bytes halt ++ rest) × IsHalt n halt
unfolding coded_halt
halt_read n text rest halt e =
    let a = onward_reads (coded_byte BadEntry halt_kind_of text) (halt_of n) halt rest e in
    let k = byte_reads BadEntry halt_kind_of text a.1 a.0 a.2 in
    let was = halt_was n a.0 a.1 rest halt a.3 in
    (k.1 ∙ ap (λ b. b ∷ a.1) (kind_was k.0 a.0 k.2) ∙ was.0, was.1)

pub halt_written : (n : ℕ) (halt : Halt) (rest : List ℕ) → IsHalt n halt → coded_halt n (halt_bytes halt ++ rest) ≡ reads halt rest
unfolding coded_halt
halt_written n Limit rest ok = refl
halt_written n Stuck rest ok = refl
halt_written n (Mismatched rank) rest ok = put (rank_exact n) (λ rank. give (Mismatched rank)) rank rest ok
halt_written n (Aborted rank code) rest ok = put (rank_exact n) (λ rank. coded_int >>= λ code. give (Aborted rank code)) rank (int_bytes code ++ rest) ok.0 ∙ put int_exact (λ code. give (Aborted rank code)) code rest ok.1
halt_written n (Trapped rank fault) rest ok = put (rank_exact n) (λ rank. coded_fault >>= λ fault. give (Trapped rank fault)) rank (fault_number fault ∷ rest) ok ∙ put fault_exact (λ fault. give (Trapped rank fault)) fault rest tt
halt_written n (Truncated rank start) rest ok = put (rank_exact n) (λ rank. coded_small_number >>= λ start. give (Truncated rank start)) rank (word_bytes start ++ rest) ok.0 ∙ put small_exact (λ start. give (Truncated rank start)) start rest ok.1
halt_written n (BadRequest rank start) rest ok = put (rank_exact n) (λ rank. coded_small_number >>= λ start. give (BadRequest rank start)) rank (word_bytes start ++ rest) ok.0 ∙ put small_exact (λ start. give (BadRequest rank start)) start rest ok.1
