-- Reading a list piece by piece.
use Rattle.std.proofs.Common.{◌≡◌, ℕ, ◌+◌, ◌<◌, List, [], ◌∷◌, ◌++◌, length, refl, sym, ◌∙◌, ap, arith, append_assoc, length-append}
use Rattle.std.specs.Prelude.{Option, Some, None, Ok, Err}
use Rattle.srr_log.specs.declared.read_error.Unread.{Unread}
use Rattle.srr_log.specs.declared.read_error.Unread.TheVariants.{NotAllowed, NoMemory}
use Rattle.srr_log.specs.inside.Pieces.{◌>>=◌, GivesPiece, Adds, split_once, pieces, all_of}
use Rattle.srr_log.proofs.PieceLaws.{some, split_once_some, pieces_cut, pieces_last}

-- some values, before those that are still read
abbrev pub onto : {A : Type 0} → List A → Option (List A) → Option (List A)
onto front said = said >>= λ others. Some (front ++ others)

pub onto_none : {A : Type 0} (said : Option (List A)) → onto [] said ≡ said
onto_none (Some values) = refl
onto_none None = refl

onto_step : {A : Type 0} (front now : List A) (value : A) (said : Option (List A)) → now ≡ front ++ value ∷ []
    → onto front (said >>= λ others. some (value ∷ others)) ≡ onto now said
onto_step front now value (Some others) is = ap some (sym (ap (λ xs. xs ++ others) is ∙ append_assoc front (value ∷ []) others))
onto_step front now value None is = refl

-- one piece more
pub list_onward : {A : Type 0} (said : List ℕ → Option A) (mark : ℕ) (front now : List A) (value : A) (rest piece after : List ℕ) (all : Option (List A))
    → split_once mark rest ≡ some (piece, after) → said piece ≡ some value → now ≡ front ++ value ∷ []
    → onto front (all_of said (pieces mark rest)) ≡ all → onto now (all_of said (pieces mark after)) ≡ all
list_onward said mark front now value rest piece after all is reads grown so_far =
    sym (onto_step front now value (all_of said (pieces mark after)) grown)
    ∙ ap (onto front) (sym (ap (all_of said) (pieces_cut mark rest piece after is) ∙ rw reads refl)) ∙ so_far

pub list_shorter : (mark : ℕ) (rest piece after : List ℕ) → split_once mark rest ≡ some (piece, after) → length after < length rest
list_shorter mark rest piece after is =
    let long : length rest ≡ length piece + length (mark ∷ after) = ap length (split_once_some mark rest piece after is) ∙ length-append piece (mark ∷ after) in
    omega arith

-- a piece that says nothing
none_of : {A : Type 0} (said : List ℕ → Option A) (piece : List ℕ) (others : List (List ℕ)) → said piece ≡ None → all_of said (piece ∷ others) ≡ None
none_of said piece others none = rw none refl

pub list_stops : {A : Type 0} (said : List ℕ → Option A) (mark : ℕ) (front now : List A) (rest piece after : List ℕ) (all : Option (List A)) (unread : Unread)
    → split_once mark rest ≡ some (piece, after) → Adds front now (Err unread) (said piece) → onto front (all_of said (pieces mark rest)) ≡ all → GivesPiece (Err unread) all
list_stops said mark front now rest piece after all NotAllowed is none so_far =
    sym so_far ∙ ap (λ parts. onto front (all_of said parts)) (pieces_cut mark rest piece after is) ∙ ap (onto front) (none_of said piece (pieces mark after) none)
list_stops said mark front now rest piece after all NoMemory is none so_far = tt

-- the last piece
pub list_fails : {A : Type 0} (said : List ℕ → Option A) (mark : ℕ) (front now : List A) (rest : List ℕ) (all : Option (List A)) (unread : Unread)
    → split_once mark rest ≡ None → Adds front now (Err unread) (said rest) → onto front (all_of said (pieces mark rest)) ≡ all → GivesPiece (Err unread) all
list_fails said mark front now rest all NotAllowed is none so_far =
    sym so_far ∙ ap (λ parts. onto front (all_of said parts)) (pieces_last mark rest is) ∙ ap (onto front) (none_of said rest [] none)
list_fails said mark front now rest all NoMemory is none so_far = tt

last_of : {A : Type 0} (said : List ℕ → Option A) (piece : List ℕ) (value : A) → said piece ≡ some value → all_of said (piece ∷ []) ≡ some (value ∷ [])
last_of said piece value reads = rw reads refl

pub list_ends : {A : Type 0} (said : List ℕ → Option A) (mark : ℕ) (front now : List A) (rest : List ℕ) (all : Option (List A))
    → split_once mark rest ≡ None → Adds front now (Ok tt) (said rest) → onto front (all_of said (pieces mark rest)) ≡ all → all ≡ some now
list_ends said mark front now rest all is (value, reads, grown) so_far =
    sym so_far ∙ ap (λ parts. onto front (all_of said parts)) (pieces_last mark rest is) ∙ ap (onto front) (last_of said rest value reads) ∙ ap some (sym grown)
