use Rattle.std.specs.Cmp.Lexicographic.{pointwise}
use Rattle.std.proofs.Common.{int_eq}
use Rattle.explore.proofs.Coded.{code_inserted}
use Rattle.explore.proofs.Sameness.{ints_same}
use Rattle.explore.proofs.met.Codes.insert.Goals as goal

pub returns : goal.returns
returns c =
    rw (← c.self.view_is)
    (code_inserted (λ one other. pointwise int_eq one.numbers.items other.numbers.items) (λ one other h. ints_same one.numbers.items other.numbers.items h)
    c.self.inside.values.keys c.insert.new.self.keys c.args.code c.in_ok-is_new.is_new c.in_ok-is_new.ensures.added c.in_ok-is_new.ensures.keys)
