use Rattle.std.proofs.Common.{◌≡◌, ◌+◌, ◌-◌, List, ℕ, length, drop, take, ◌∙◌, ap, sym}
use Rattle.std.proofs.lemmas.List.{length-drop}
use Rattle.std.proofs.Math.Seq.{take-length}
use Rattle.srr_log.proofs.PieceLaws.{some, split_once_place, gives_cut_none}
use Rattle.srr_log.proofs.pieces.split_once.Goals as goal

pub returns-in_err-at : goal.returns-in_err-at
returns-in_err-at c = rw c.from_residual.ensures (gives_cut_none c.args.mark c.args.text.now c.in_err-at.ensures.none)

pub returns : goal.returns
returns c =
    let text = c.args.text.now in
    let at = c.in_ok-at.at in
    let rest : take (length text - (at + 1)) (drop (at + 1) text) ≡ drop (at + 1) text = rw (← length-drop (at + 1) text) (take-length (drop (at + 1) text)) in
    split_once_place c.args.mark at text c.in_ok-at.ensures.none c.in_ok-at.ensures.within c.in_ok-at.ensures.here
    ∙ ap (λ (xs : List ℕ). some (take at text, xs)) (sym rest)
