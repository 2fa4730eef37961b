-- Lines of who waits for whom.
use Rattle.std.proofs.Common.{◌≡◌, ◌∙◌, ◌<◌, ◌≤◌, ◌++◌, ◌-◌, ℕ, suc, List, [], ◌∷◌, append-nil, append_assoc, arith, drop, flat_map, get_or, length, refl, sym, take}
use Rattle.std.proofs.Math.Seq.{take-length}
use Rattle.run_model.specs.declared.event.Event.{Event}
use Rattle.explanation_text.specs.WaitsTexts.{from_ranks_text, awaited_ranks_text}

-- where there is some rank, the ranks are told
pub some_awaited : (n : ℕ) (events : List Event) (ranks : List ℕ) → 0 < length ranks → awaited_ranks_text n events ranks ≡ from_ranks_text n events ranks
some_awaited n events [] some = absurd (omega (arith, some))
some_awaited n events (rank ∷ ranks) some = refl

-- one more text, of all that are told one after the other
pub texts_more : (f : ℕ → List ℕ) (out more whole rest : List ℕ) → out ++ flat_map f rest ≡ whole → 1 ≤ length rest → more ≡ out ++ f (get_or rest 0 0)
    → more ++ flat_map f (take (length rest - 1) (drop 1 rest)) ≡ whole
texts_more f out more whole [] so_far some grown = absurd (omega (arith, some))
texts_more f out more whole (x ∷ rest) so_far some grown =
    let less : suc (length rest) - 1 ≡ length rest = omega arith in
    rw (grown, append_assoc, less, take-length rest) so_far

-- where none is left, all are told
pub all_texts : (f : ℕ → List ℕ) (out whole rest : List ℕ) → length rest < 1 → out ++ flat_map f rest ≡ whole → out ≡ whole
all_texts f out whole [] none so_far = sym (append-nil out) ∙ so_far
all_texts f out whole (x ∷ rest) none so_far = absurd (omega (arith, none))

-- the messages that were taken, and then those that are open
pub both_told : (old middle new taken whole opens : List ℕ) → middle ≡ old ++ taken → taken ≡ whole → new ≡ middle ++ opens → new ≡ old ++ (whole ++ opens)
both_told old middle new taken whole opens first same last = rw (last, first, same, append_assoc) refl

-- words, a name, a word, a tag, a word and more words, one after the other
pub seven_told : (old o1 o2 o3 o4 o5 o6 new a b c d e f g : List ℕ) → o1 ≡ old ++ a → o2 ≡ o1 ++ b → o3 ≡ o2 ++ c → o4 ≡ o3 ++ d → o5 ≡ o4 ++ e → o6 ≡ o5 ++ f → new ≡ o6 ++ g
    → new ≡ old ++ (a ++ b ++ c ++ d ++ e ++ f ++ g)
seven_told old o1 o2 o3 o4 o5 o6 new a b c d e f g s1 s2 s3 s4 s5 s6 s7 = rw (s7, s6, s5, s4, s3, s2, s1) (simp append_assoc refl)
