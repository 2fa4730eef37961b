-- A mark after its kind, both ways.
use Rattle.std.proofs.Common.{◌≡◌, ℕ, zero, suc, ◌<◌, ◌≤◌, Bool, true, false, List, [], ◌∷◌, ◌++◌, length, refl, ap, subst, ◌∙◌, append_assoc, arith}
use Rattle.std.specs.Prelude.{nat_lt, ◌&&◌}
use Rattle.std.proofs.lemmas.Bool.{and_parts, lt-ltb, ltb-true}
use Rattle.mpi_call.specs.Collectives.{is_member}
use Rattle.run_model.specs.Lists.{are_below}
use Rattle.srr_entry.specs.declared.entry.Mark.{Mark}
use Rattle.srr_entry.specs.declared.entry.Mark.TheVariants.{Sent as MarkSent, Nothing, Inside, Outside, Inner, Outer, Made, MadeOutside}
use Rattle.srr_log.specs.Bounds.{IsSender, IsMark}
use Rattle.srr_log2.specs.declared.kind.MarkKind.{MarkKind}
use Rattle.srr_log2.specs.declared.kind.MarkKind.TheVariants.{Sent as SentMark, Nothing as NothingMark, Inside as InsideMark, Outside as OutsideMark, Inner as InnerMark, Outer as OuterMark, Made as MadeMark, MadeOutside as MadeOutsideMark}
use Rattle.srr_log2.specs.EntryBytes.{word_bytes, counted_bytes, mark_bytes}
use Rattle.srr_log2.specs.Fields.{reads, ◌>>=◌, give, only_if}
use Rattle.srr_log2.specs.Kinds.{mark_kind_of}
use Rattle.srr_log2.specs.EntryReading.{stands, coded_small_number, coded_tag, coded_ints, coded_sender, coded_members, mark_of, coded_mark_kind, coded_mark}
use Rattle.srr_log2.proofs.FieldLaws.{some, onward_reads, given, byte_reads, only_if_some}
use Rattle.srr_log2.proofs.Exact.{IsExact, go, put, along, numbers, small_exact, tag_exact, ints_exact}
use Rattle.srr_log.specs.declared.fault.LogWhy.TheVariants.{BadEntry}

sender_read : (n : ℕ) (group : List ℕ) (inside : Bool) (text rest : List ℕ) (source : ℕ) → coded_sender n group inside text ≡ reads source rest → (text ≡ source ∷ rest) × IsSender n group inside source
unfolding coded_sender
sender_read n group inside text rest source e =
    let b = byte_reads BadEntry (λ rank. only_if (nat_lt rank n && stands inside (is_member group rank)) rank) text rest source e in
    let w = only_if_some _ b.0 source b.2 in
    let p = and_parts _ _ w.0 in
    let P : ℕ → Type 0 = λ r. (text ≡ r ∷ rest) × IsSender n group inside r in
    subst P w.1 (b.1, (ltb-true _ _ p.0, stood inside (is_member group b.0) p.1))
  where
    stood : (inside is_in : Bool) → stands inside is_in ≡ true → is_in ≡ inside
    stood true is_in e = e
    stood false true e = absurd cc
    stood false false e = refl

sender_written : (n : ℕ) (group : List ℕ) (inside : Bool) (source : ℕ) (rest : List ℕ) → IsSender n group inside source → coded_sender n group inside (source ∷ rest) ≡ reads source rest
unfolding coded_sender
sender_written n group inside source rest ok = rw (lt-ltb _ _ ok.0, ok.1, standing inside) refl
  where
    standing : (inside : Bool) → stands inside inside ≡ true
    standing true = refl
    standing false = refl

pub sender_exact : (n : ℕ) (group : List ℕ) (inside : Bool) → IsExact (coded_sender n group inside) (λ source. source ∷ []) (IsSender n group inside)
sender_exact n group inside = record { written = λ source rest ok. sender_written n group inside source rest ok; read = λ text rest source e. sender_read n group inside text rest source e }

abbrev kind_byte : MarkKind → ℕ
kind_byte SentMark = 1
kind_byte NothingMark = 2
kind_byte InsideMark = 3
kind_byte OutsideMark = 4
kind_byte InnerMark = 5
kind_byte OuterMark = 6
kind_byte MadeMark = 7
kind_byte MadeOutsideMark = 8

module _ (n : ℕ) (group : List ℕ) (members_exact : IsExact (coded_members n) (λ ms. length ms ∷ ms) (λ ms. (0 < length ms) × (length ms ≤ 64) × (are_below n ms ≡ true))) where
  abbrev Was : MarkKind → List ℕ → List ℕ → Mark → Type 0
  Was kind text rest mark = (kind_byte kind ∷ text ≡ mark_bytes mark ++ rest) × IsMark n group mark

  mark_was : (kind : MarkKind) (text rest : List ℕ) (mark : Mark) → mark_of n group kind text ≡ reads mark rest → Was kind text rest mark
  mark_was SentMark text rest mark e = let g = given MarkSent mark text rest e in subst (Was SentMark text rest) g.0 (ap (λ xs. 1 ∷ xs) g.1, tt)
  mark_was NothingMark text rest mark e = let g = given Nothing mark text rest e in subst (Was NothingMark text rest) g.0 (ap (λ xs. 2 ∷ xs) g.1, tt)
  mark_was InnerMark text rest mark e = let g = given Inner mark text rest e in subst (Was InnerMark text rest) g.0 (ap (λ xs. 5 ∷ xs) g.1, tt)
  mark_was InsideMark text rest mark e =
      let a = go (sender_exact n group true) (λ source. coded_small_number >>= λ start. give (Inside source start)) text rest mark e in
      let b = go small_exact (λ start. give (Inside a.0 start)) a.1 rest mark a.4 in
      let g = given (Inside a.0 b.0) mark b.1 rest b.4 in
      subst (Was InsideMark text rest) g.0 (ap (λ xs. 3 ∷ xs) (a.2 ∙ ap (λ xs. a.0 ∷ xs) (b.2 ∙ ap (λ xs. word_bytes b.0 ++ xs) g.1)), (a.3, b.3))
  mark_was OutsideMark text rest mark e =
      let a = go (sender_exact n group false) (λ source. coded_small_number >>= λ start. coded_tag >>= λ tag. coded_ints 65536 >>= λ ints. give (Outside source start tag ints)) text rest mark e in
      let b = go small_exact (λ start. coded_tag >>= λ tag. coded_ints 65536 >>= λ ints. give (Outside a.0 start tag ints)) a.1 rest mark a.4 in
      let c = go tag_exact (λ tag. coded_ints 65536 >>= λ ints. give (Outside a.0 b.0 tag ints)) b.1 rest mark b.4 in
      let d = go (ints_exact 65536 (omega arith)) (λ ints. give (Outside a.0 b.0 c.0 ints)) c.1 rest mark c.4 in
      let g = given (Outside a.0 b.0 c.0 d.0) mark d.1 rest d.4 in
      let name : 4 ∷ text ≡ (4 ∷ a.0 ∷ word_bytes b.0) ++ b.1 = ap (λ xs. 4 ∷ xs) (a.2 ∙ ap (λ xs. a.0 ∷ xs) b.2) in
      let tagged = along (4 ∷ text) (4 ∷ a.0 ∷ word_bytes b.0) b.1 (word_bytes c.0) c.1 name c.2 in
      let all = along (4 ∷ text) ((4 ∷ a.0 ∷ word_bytes b.0) ++ word_bytes c.0) c.1 (counted_bytes d.0) rest tagged (d.2 ∙ ap (λ xs. counted_bytes d.0 ++ xs) g.1) in
      subst (Was OutsideMark text rest) g.0 (all, (a.3, b.3, c.3, d.3))
  mark_was OuterMark text rest mark e =
      let d = go (ints_exact 262144 (omega arith)) (λ ints. give (Outer ints)) text rest mark e in
      let g = given (Outer d.0) mark d.1 rest d.4 in
      subst (Was OuterMark text rest) g.0 (ap (λ xs. 6 ∷ xs) (d.2 ∙ ap (λ xs. counted_bytes d.0 ++ xs) g.1), d.3)
  mark_was MadeMark text rest mark e =
      let b = go small_exact (λ comm. give (Made comm)) text rest mark e in
      let g = given (Made b.0) mark b.1 rest b.4 in
      subst (Was MadeMark text rest) g.0 (ap (λ xs. 7 ∷ xs) (b.2 ∙ ap (λ xs. word_bytes b.0 ++ xs) g.1), b.3)
  mark_was MadeOutsideMark text rest mark e =
      let b = go (numbers 1 999999 (omega arith)) (λ comm. coded_members n >>= λ members. give (MadeOutside comm members)) text rest mark e in
      let d = go members_exact (λ members. give (MadeOutside b.0 members)) b.1 rest mark b.4 in
      let g = given (MadeOutside b.0 d.0) mark d.1 rest d.4 in
      let all = along text (word_bytes b.0) b.1 (length d.0 ∷ d.0) rest b.2 (d.2 ∙ ap (λ xs. (length d.0 ∷ d.0) ++ xs) g.1) in
      subst (Was MadeOutsideMark text rest) g.0 (ap (λ xs. 8 ∷ xs) all, (b.3.0, b.3.1, d.3.0, d.3.1, d.3.2))

  -- a mark: its kind, and what follows
  pub mark_read : (text rest : List ℕ) (mark : Mark) → coded_mark n group text ≡ reads mark rest → (text ≡ mark_bytes mark ++ rest) × IsMark n group mark
  unfolding coded_mark coded_mark_kind
  mark_read text rest mark e =
      let a = onward_reads (coded_mark_kind text) (mark_of n group) mark rest e in
      let k = byte_reads BadEntry mark_kind_of text a.1 a.0 a.2 in
      let was = mark_was a.0 a.1 rest mark a.3 in
      (k.1 ∙ ap (λ b. b ∷ a.1) (kind_was k.0 a.0 k.2) ∙ was.0, was.1)
    where
      kind_was : (byte : ℕ) (kind : MarkKind) → mark_kind_of byte ≡ some kind → byte ≡ kind_byte kind
      kind_was (suc zero) kind e = let k : SentMark ≡ kind = cc in ap kind_byte k
      kind_was (suc (suc zero)) kind e = let k : NothingMark ≡ kind = cc in ap kind_byte k
      kind_was (suc (suc (suc zero))) kind e = let k : InsideMark ≡ kind = cc in ap kind_byte k
      kind_was (suc (suc (suc (suc zero)))) kind e = let k : OutsideMark ≡ kind = cc in ap kind_byte k
      kind_was (suc (suc (suc (suc (suc zero))))) kind e = let k : InnerMark ≡ kind = cc in ap kind_byte k
      kind_was (suc (suc (suc (suc (suc (suc zero)))))) kind e = let k : OuterMark ≡ kind = cc in ap kind_byte k
      kind_was (suc (suc (suc (suc (suc (suc (suc zero))))))) kind e = let k : MadeMark ≡ kind = cc in ap kind_byte k
      kind_was (suc (suc (suc (suc (suc (suc (suc (suc zero)))))))) kind e = let k : MadeOutsideMark ≡ kind = cc in ap kind_byte k
      kind_was zero kind e = absurd cc
      kind_was (suc (suc (suc (suc (suc (suc (suc (suc (suc byte))))))))) kind e = absurd cc

  pub mark_written : (mark : Mark) (rest : List ℕ) → IsMark n group mark → coded_mark n group (mark_bytes mark ++ rest) ≡ reads mark rest
  unfolding coded_mark coded_mark_kind
  mark_written MarkSent rest ok = refl
  mark_written Nothing rest ok = refl
  mark_written Inner rest ok = refl
  mark_written (Inside source start) rest ok =
      put (sender_exact n group true) (λ source. coded_small_number >>= λ start. give (Inside source start)) source (word_bytes start ++ rest) ok.0 ∙ put small_exact (λ start. give (Inside source start)) start rest ok.1
  mark_written (Outside source start tag ints) rest ok =
      rw (append_assoc (word_bytes start ++ word_bytes tag) (counted_bytes ints) rest, append_assoc (word_bytes start) (word_bytes tag) (counted_bytes ints ++ rest))
      (put (sender_exact n group false) (λ source. coded_small_number >>= λ start. coded_tag >>= λ tag. coded_ints 65536 >>= λ ints. give (Outside source start tag ints)) source (word_bytes start ++ (word_bytes tag ++ (counted_bytes ints ++ rest))) ok.0
      ∙ put small_exact (λ start. coded_tag >>= λ tag. coded_ints 65536 >>= λ ints. give (Outside source start tag ints)) start (word_bytes tag ++ (counted_bytes ints ++ rest)) ok.1
      ∙ put tag_exact (λ tag. coded_ints 65536 >>= λ ints. give (Outside source start tag ints)) tag (counted_bytes ints ++ rest) ok.2
      ∙ put (ints_exact 65536 (omega arith)) (λ ints. give (Outside source start tag ints)) ints rest ok.3)
  mark_written (Outer ints) rest ok = put (ints_exact 262144 (omega arith)) (λ ints. give (Outer ints)) ints rest ok
  mark_written (Made comm) rest ok = put small_exact (λ comm. give (Made comm)) comm rest ok
  mark_written (MadeOutside comm members) rest ok =
      rw (append_assoc (word_bytes comm) (length members ∷ members) rest)
      (put (numbers 1 999999 (omega arith)) (λ comm. coded_members n >>= λ members. give (MadeOutside comm members)) comm ((length members ∷ members) ++ rest) (ok.0, ok.1)
      ∙ put members_exact (λ members. give (MadeOutside comm members)) members rest (ok.2, ok.3, ok.4))
