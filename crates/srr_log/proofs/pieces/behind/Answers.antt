use Rattle.std.proofs.lemmas.Bool.Decides.{Decides-eqb}
use Rattle.std.proofs.lemmas.Slice.Eq.{strip_prefix_is}
use Rattle.srr_log.proofs.PieceLaws.{gives_behind}
use Rattle.srr_log.proofs.pieces.behind.Goals as goal

pub returns : goal.returns
returns c =
    gives_behind c.args.word.now c.args.text.now c.strip_prefix.result (strip_prefix_is Decides-eqb c.args.text.now c.args.word.now c.strip_prefix.result c.strip_prefix.ensures.cases)
