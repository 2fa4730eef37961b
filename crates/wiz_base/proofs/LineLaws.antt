-- Laws of lines, for readers and writers of texts.
use Rattle.std.proofs.Common.{◌≡◌, ◌≢◌, ℕ, List, [], ◌∷◌, ◌++◌, inl, inr, Option, Some, None, refl, sym, ◌∙◌, ap}
use Rattle.std.proofs.lemmas.List.Elements.{All-head, All-tail}
use Rattle.wiz_base.specs.Lines.{HasNoNewline, IsEndedLine, IsLine}

-- a text has one first line, and one rest behind its newline
pub line_and_rest : (line line' rest rest' : List ℕ) → HasNoNewline line → HasNoNewline line' → line ++ 10 ∷ rest ≡ line' ++ 10 ∷ rest' → (line ≡ line') × (rest ≡ rest')
line_and_rest [] [] rest rest' none none' e = (refl, cc)
line_and_rest [] (c ∷ cs) rest rest' none none' e = absurd (All-head (λ byte. byte ≢ 10) c cs none' (cc))
line_and_rest (c ∷ cs) [] rest rest' none none' e = absurd (All-head (λ byte. byte ≢ 10) c cs none (cc))
line_and_rest (c ∷ cs) (d ∷ ds) rest rest' none none' e =
    let same : (cs ≡ ds) × (rest ≡ rest') = line_and_rest cs ds rest rest' (All-tail (λ byte. byte ≢ 10) c cs none) (All-tail (λ byte. byte ≢ 10) d ds none') (cc) in
    let first : c ≡ d = cc in
    let others = same.0 in
    (cc, same.1)

-- and none where no newline stands in it
pub no_ended_line : (line rest text : List ℕ) → HasNoNewline text → text ≡ line ++ 10 ∷ rest → ⊥
no_ended_line [] rest [] none e = cc
no_ended_line [] rest (c ∷ cs) none e = All-head (λ byte. byte ≢ 10) c cs none (cc)
no_ended_line (c ∷ cs) rest [] none e = cc
no_ended_line (c ∷ cs) rest (d ∷ ds) none e = no_ended_line cs rest ds (All-tail (λ byte. byte ≢ 10) d ds none) (cc)

-- so a line that was written with a newline behind it is what is read back
pub ended_line-read : (text line rest left : List ℕ) (read : Option (List ℕ)) → HasNoNewline line → text ≡ line ++ 10 ∷ rest → IsEndedLine text read left → (read ≡ Some line) × (left ≡ rest)
ended_line-read text line rest left (Some found) none is (none', is') =
    let same = line_and_rest found line left rest none' none (sym is' ∙ is) in
    (ap Some same.0, same.1)
ended_line-read text line rest left None none is (none', same) = absurd (no_ended_line line rest text none' is)

pub line-read : (text line rest left : List ℕ) (read : Option (List ℕ)) → HasNoNewline line → text ≡ line ++ 10 ∷ rest → IsLine text read left → (read ≡ Some line) × (left ≡ rest)
line-read text line rest left (Some found) none is (none', inl is') =
    let same = line_and_rest found line left rest none' none (sym is' ∙ is) in
    (ap Some same.0, same.1)
line-read text line rest left (Some found) none is (none', inr (all, some, end)) = absurd (no_ended_line line rest found none' (sym all ∙ is))
line-read [] [] rest left None none is (empty, end) = absurd (cc)
line-read [] (c ∷ cs) rest left None none is (empty, end) = absurd (cc)
line-read (d ∷ ds) line rest left None none is (empty, end) = absurd (cc)

-- and a last piece without a newline is read whole
pub last_line-read : (text left : List ℕ) (read : Option (List ℕ)) → HasNoNewline text → text ≢ [] → IsLine text read left → (read ≡ Some text) × (left ≡ [])
last_line-read text left (Some found) none some (none', inl is') = absurd (no_ended_line found left text none is')
last_line-read text left (Some found) none some (none', inr (all, some', end)) = (ap Some (sym all), end)
last_line-read text left None none some (empty, end) = absurd (some empty)
