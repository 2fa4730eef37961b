use Rattle.std.proofs.Common.{sym, ◌∙◌, inl, inr}
use Rattle.srr_log2.proofs.FormatLaws.{differ, is_2}
use Rattle.srr_log2.proofs.read_either.read_either.Goals as goal

pub returns-else-is_format2-clause-only_log : goal.returns-else-is_format2-clause-only_log
returns-else-is_format2-clause-only_log c = λ log is. elim is [
  | inl one ↦ c.read_log.ensures.only_log log one
  | inr two ↦ absurd (differ _ (is_2 c.args.text.now log two) (sym c.is_format2.ensures ∙ c.if-is_format2.false))
]
