-- A loop that reads many things: what it has read so far, and what is left.
use Rattle.std.proofs.Common.{◌≡◌, ◌<◌, ◌≤◌, Bool, true, false, ℕ, zero, suc, List, [], ◌∷◌, ◌++◌, length, map, Ok, Err, refl, sym, ap, ◌∙◌, append_assoc, arith}
use Rattle.c_grammar.specs.declared.terminal.Terminal.{Terminal}
use Rattle.c_grammar.specs.declared.terminal.Symbol.{Symbol}
use Rattle.c_grammar.specs.Reading.{◌>>=◌, Answer, Fault, heads, many, read_while}
use Rattle.c_parse.specs.declared.read.ParseError.{ParseError}
use Rattle.c_parse.specs.declared.read.ParseError.TheVariants as errors
use Rattle.c_parse.specs.inside.Gives.{FailsToRead}

-- these before all that is read
abbrev pub after : {A : Type 0} → List A → Answer (List A) → Answer (List A)
after found read = read >>= λ more. Ok (found ++ more.0, more.1)

after_none : {A : Type 0} (read : Answer (List A)) → read ≡ after [] read
after_none (Ok x) = refl
after_none (Err f) = refl

after_more : {A : Type 0} (found : List A) (a : A) (read : Answer (List A))
    → after found (read >>= λ more. Ok (a ∷ more.0, more.1)) ≡ after (found ++ a ∷ []) read
after_more found a (Ok x) = ap (λ z. Ok (z, x.1)) (sym (append_assoc found (a ∷ []) x.0))
after_more found a (Err f) = refl

append_none : {A : Type 0} (xs : List A) → xs ++ [] ≡ xs
append_none [] = refl
append_none (x ∷ xs) = ap (λ z. x ∷ z) (append_none xs)

module _ {A : Type 0} (goes : Symbol → Bool) (one : List Terminal → Answer A) (terminals : List Terminal) where
  pub record SoFar (found : List A) (rest : List Terminal) : Type 0 where
    pub fuel : ℕ
    pub enough : length rest ≤ fuel
    pub same : many goes one terminals ≡ after found (read_while goes one fuel rest)

  pub so_far-step : (found : List A) (rest behind : List Terminal) (a : A)
      → heads goes rest ≡ true → one rest ≡ Ok (a, behind) → length behind < length rest → SoFar found rest → SoFar (found ++ a ∷ []) behind
  so_far-step found rest behind a on read short so = go so.fuel so.enough so.same
    where
      go : (n : ℕ) → length rest ≤ n → many goes one terminals ≡ after found (read_while goes one n rest) → SoFar (found ++ a ∷ []) behind
      go zero low same = absurd (omega arith)
      go (suc n) low same = record { fuel = n; enough = omega arith; same = same ∙ rw (on, read) (after_more found a (read_while goes one n behind)) }

  pub so_far-fails : (found : List A) (rest : List Terminal) (f : Fault) → heads goes rest ≡ true → one rest ≡ Err f → SoFar found rest → many goes one terminals ≡ Err f
  so_far-fails found rest f on read so = go so.fuel rest refl so.enough so.same
    where
      go : (n : ℕ) (ts : List Terminal) → rest ≡ ts → length ts ≤ n → many goes one terminals ≡ after found (read_while goes one n rest) → many goes one terminals ≡ Err f
      go zero [] is low same = absurd (let k : heads goes rest ≡ false = ap (heads goes) is in cc)
      go zero (t ∷ ts) is low same = absurd (omega arith)
      go (suc n) ts is low same = same ∙ rw (on, read) refl

  pub so_far-ends : (found : List A) (rest : List Terminal) → heads goes rest ≡ false → SoFar found rest → many goes one terminals ≡ Ok (found, rest)
  so_far-ends found rest off so = go so.fuel so.same
    where
      go : (n : ℕ) → many goes one terminals ≡ after found (read_while goes one n rest) → many goes one terminals ≡ Ok (found, rest)
      go zero same = same ∙ ap (λ z. Ok (z, rest)) (append_none found)
      go (suc n) same = same ∙ rw off (ap (λ z. Ok (z, rest)) (append_none found))

  pub so_far-fault : (found : List A) (rest : List Terminal) (error : ParseError) → heads goes rest ≡ true → FailsToRead error (one rest) → SoFar found rest → FailsToRead error (many goes one terminals)
  so_far-fault found rest errors.Memory on read so = tt
  so_far-fault found rest (errors.At why at) on read so = so_far-fails found rest _ on read so

-- one more of a list of code
map_push : {A B : Type 0} (view : A → B) (xs : List A) (x : A) → map view (xs ++ x ∷ []) ≡ map view xs ++ view x ∷ []
map_push view [] x = refl
map_push view (y ∷ xs) x = ap (λ z. view y ∷ z) (map_push view xs x)

pub so_far-push : {A B : Type 0} (view : B → A) (goes : Symbol → Bool) (one : List Terminal → Answer A) (terminals : List Terminal)
    (items more : List B) (item : B) (rest behind : List Terminal)
    → heads goes rest ≡ true → one rest ≡ Ok (view item, behind) → length behind < length rest → more ≡ items ++ item ∷ []
    → SoFar goes one terminals (map view items) rest → SoFar goes one terminals (map view more) behind
so_far-push view goes one terminals items more item rest behind on read short pushed so =
    rw pushed (rw (map_push view items item) (so_far-step goes one terminals (map view items) rest behind (view item) on read short so))
