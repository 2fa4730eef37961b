-- Texts behind a text.
use Rattle.std.proofs.Common.{◌≡◌, ◌++◌, ℕ, List, append_assoc}

pub two_texts : (o a b : List ℕ) → (o ++ a) ++ b ≡ o ++ (a ++ b)
two_texts o a b = simp append_assoc

-- six, of which the last two came together
pub six_texts : (o a b c d e f : List ℕ) → ((((o ++ a) ++ b) ++ c) ++ d) ++ (e ++ f) ≡ o ++ (((((a ++ b) ++ c) ++ d) ++ e) ++ f)
six_texts o a b c d e f = simp append_assoc

-- those of a picture: its top, lanes and shapes, and what stands beside and below the lanes
pub picture_texts : (o t l s a c e g h z : List ℕ)
    → (((((o ++ t) ++ l) ++ s) ++ a) ++ (c ++ e)) ++ ((g ++ h) ++ z) ≡ o ++ (((t ++ l) ++ s) ++ (((((a ++ c) ++ e) ++ g) ++ h) ++ z))
picture_texts o t l s a c e g h z = simp append_assoc
