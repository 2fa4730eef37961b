-- A loop that reads so many things: what it has read so far, and what is left.
use Rattle.std.proofs.Common.{◌≡◌, ℕ, suc, List, [], ◌∷◌, ◌++◌, Ok, Err, refl, sym, ap, ◌∙◌, append_assoc}
use Rattle.c_grammar.specs.declared.terminal.Terminal.{Terminal}
use Rattle.c_grammar.specs.Reading.{◌>>=◌, Answer, Fault, read_times}
use Rattle.c_parse.specs.declared.read.ParseError.{ParseError}
use Rattle.c_parse.specs.declared.read.ParseError.TheVariants as errors
use Rattle.c_parse.specs.inside.Gives.{FailsToRead}
use Rattle.c_parse.proofs.Loops.{after}

none_before : {A : Type 0} (read : Answer (List A)) → read ≡ after [] read
none_before (Ok x) = refl
none_before (Err f) = refl

one_more : {A : Type 0} (found : List A) (a : A) (read : Answer (List A))
    → after found (read >>= λ more. Ok (a ∷ more.0, more.1)) ≡ after (found ++ a ∷ []) read
one_more found a (Ok x) = ap (λ z. Ok (z, x.1)) (sym (append_assoc found (a ∷ []) x.0))
one_more found a (Err f) = refl

no_more : {A : Type 0} (xs : List A) → xs ++ [] ≡ xs
no_more [] = refl
no_more (x ∷ xs) = ap (λ z. x ∷ z) (no_more xs)

module _ {A : Type 0} (one : List Terminal → Answer A) (count : ℕ) (terminals : List Terminal) where
  pub record TimesSoFar (found : List A) (left : ℕ) (rest : List Terminal) : Type 0 where
    pub same : read_times one count terminals ≡ after found (read_times one left rest)

  pub times-step : (found more : List A) (left next : ℕ) (a : A) (rest behind : List Terminal)
      → left ≡ suc next → one rest ≡ Ok (a, behind) → more ≡ found ++ a ∷ [] → TimesSoFar found left rest → TimesSoFar more next behind
  times-step found more left next a rest behind is read pushed so =
      record { same = so.same ∙ rw (is, read, pushed) (one_more found a (read_times one next behind)) }

  times-fails : (found : List A) (left next : ℕ) (rest : List Terminal) (f : Fault)
      → left ≡ suc next → one rest ≡ Err f → TimesSoFar found left rest → read_times one count terminals ≡ Err f
  times-fails found left next rest f is read so = so.same ∙ rw (is, read) refl

  pub times-fault : (found : List A) (left next : ℕ) (rest : List Terminal) (error : ParseError)
      → left ≡ suc next → FailsToRead error (one rest) → TimesSoFar found left rest → FailsToRead error (read_times one count terminals)
  times-fault found left next rest errors.Memory is read so = tt
  times-fault found left next rest (errors.At why at) is read so = times-fails found left next rest _ is read so
