-- Different logs have different bytes, and none begins another: given the same of all but the digest.
use Rattle.std.proofs.Common.{◌≡◌, ℕ, ◌-◌, List, [], ◌∷◌, ◌++◌, length, take, get_or, refl, sym, ap, subst, ◌∙◌, append_assoc, arith}
use Rattle.std.specs.Str.{bytes_eq}
use Rattle.std.proofs.lemmas.Slice.Eq.{bytes_eq-Decides}
use Rattle.std.proofs.lemmas.List.{append-nil, take_at, length-append}
use Rattle.sha2.specs.Sha256.{sha256}
use Rattle.sha2.proofs.Facts256.{length-sha256}
use Rattle.srr_entry.specs.declared.log.Log.{Log}
use Rattle.srr_log.specs.declared.fault.LogWhy.TheVariants.{Digest}
use Rattle.srr_log.specs.Bounds.{IsInBounds}
use Rattle.srr_log.specs.LogText.{log_text}
use Rattle.srr_log2.specs.LogBytes.{body_bytes, log_bytes, AreLogBytes}
use Rattle.srr_log2.specs.Fields.{Outcome, reads, onward, give, only_if}
use Rattle.srr_log2.specs.Reading.{coded_body, coded_digest, coded_end, coded_close, coded_log}
use Rattle.srr_log2.proofs.FieldLaws.{onward_reads, given, field_reads, only_if_some}
use Rattle.srr_log2.proofs.TopLaws.{digest_found}

abbrev reading : Log → List ℕ → Outcome Log
reading log rest = reads log rest

-- the fifth byte is the format's number
pub no_text_is_bytes : (log other : Log) → log_text log ≡ log_bytes other → ⊥
unfolding body_bytes
no_text_is_bytes log other e = let byte : ◌≡◌ {A = ℕ} 49 50 = ap (λ xs. get_or xs 4 0) e in absurd (omega arith)

-- the digest of the bytes before
pub digest_read : (before text rest : List ℕ) (u : Unit {0}) → coded_digest before text ≡ reads u rest → text ≡ sha256 before ++ rest
unfolding coded_digest
digest_read before text rest u e =
    let f = field_reads 32 (λ _. Digest) (λ bytes. only_if (bytes_eq bytes (sha256 before)) (tt {0})) text rest u e in
    let w = only_if_some (bytes_eq f.0 (sha256 before)) (tt {0}) u f.2 in
    f.3 ∙ ap (λ xs. xs ++ rest) ((bytes_eq-Decides f.0 (sha256 before)).0 w.0)

end_read : (text rest : List ℕ) (u : Unit {0}) → coded_end text ≡ reads u rest → text ≡ []
end_read [] rest u e = refl
end_read (byte ∷ text) rest u e = absurd cc

pub close_read : (before text rest : List ℕ) (u : Unit {0}) → coded_close before text ≡ reads u rest → text ≡ sha256 before
unfolding coded_close
close_read before text rest u e =
    let a = onward_reads (coded_digest before text) (λ _. coded_end) u rest e in
    digest_read before text a.1 a.0 a.2 ∙ ap (λ xs. sha256 before ++ xs) (end_read a.1 rest u a.3) ∙ append-nil (sha256 before)

pub close_written : (before : List ℕ) → coded_close before (sha256 before) ≡ reads (tt {0}) []
unfolding coded_close
close_written before = rw (digest_found before (sha256 before) [] (sha256 before) (sym (append-nil (sha256 before))) (length-sha256 before) refl) refl

-- so many bytes before the rest
before_rest : (front rest : List ℕ) → take (length (front ++ rest) - length rest) (front ++ rest) ≡ front
before_rest front rest =
    let many : length front ≡ length (front ++ rest) - length rest = let l = length-append front rest in omega arith in
    take_at front rest (length (front ++ rest) - length rest) many

no_more : (xs more ys : List ℕ) → xs ++ more ≡ ys → length xs ≡ length ys → more ≡ []
no_more xs [] ys e long = refl
no_more xs (byte ∷ more) ys e long = let l = length-append xs (byte ∷ more) in let m = ap length e in absurd (omega arith)

module _ (body_written : (log : Log) (rest : List ℕ) → IsInBounds log → coded_body (body_bytes log ++ rest) ≡ reads log rest)
    (body_read : (text rest : List ℕ) (log : Log) → coded_body text ≡ reads log rest → (text ≡ body_bytes log ++ rest) × IsInBounds log) where
  pub no_beginning : (log other : Log) (more : List ℕ) → IsInBounds log → IsInBounds other → log_bytes log ++ more ≡ log_bytes other → (log ≡ other) × (more ≡ [])
  no_beginning log other more ok ok' e =
      let first = body_written log (sha256 (body_bytes log) ++ more) ok in
      let second = body_written other (sha256 (body_bytes other)) ok' in
      let both : reading log (sha256 (body_bytes log) ++ more) ≡ reading other (sha256 (body_bytes other)) = sym first ∙ ap coded_body (sym (append_assoc (body_bytes log) (sha256 (body_bytes log)) more) ∙ e) ∙ second in
      let same : log ≡ other = cc in
      let rests : sha256 (body_bytes log) ++ more ≡ sha256 (body_bytes other) = cc in
      (same, no_more (sha256 (body_bytes log)) more (sha256 (body_bytes other)) rests (length-sha256 (body_bytes log) ∙ sym (length-sha256 (body_bytes other))))

  pub log_written : (text : List ℕ) (log : Log) → AreLogBytes text log → coded_log text ≡ reads log []
  unfolding coded_log
  log_written text log (is, ok) =
      let digest = sha256 (body_bytes log) in
      rw (is, body_written log digest ok, before_rest (body_bytes log) digest, close_written (body_bytes log)) refl

  pub log_read : (text rest : List ℕ) (log : Log) → coded_log text ≡ reads log rest → AreLogBytes text log
  unfolding coded_log
  log_read text rest log e =
      let a = onward_reads (coded_body text) (λ log rest. onward (coded_close (take (length text - length rest) text) rest) (λ _. give log)) log rest e in
      let b = onward_reads (coded_close (take (length text - length a.1) text) a.1) (λ _. give a.0) log rest a.3 in
      let g = given a.0 log b.1 rest b.3 in
      let r = body_read text a.1 a.0 a.2 in
      let front : take (length text - length a.1) text ≡ body_bytes a.0 = ap (λ t. take (length t - length a.1) t) r.0 ∙ before_rest (body_bytes a.0) a.1 in
      let digest : a.1 ≡ sha256 (body_bytes a.0) = close_read (take (length text - length a.1) text) a.1 b.1 b.0 b.2 ∙ ap sha256 front in
      subst (AreLogBytes text) g.0 (r.0 ∙ ap (λ xs. body_bytes a.0 ++ xs) digest, r.1)
