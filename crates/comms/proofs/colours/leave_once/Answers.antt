use Rattle.std.proofs.Common.{◌≡◌, List, ℤ, refl, sym, subst}
use Rattle.std.proofs.lemmas.Cmp.{int_cmp_total}
use Rattle.std.proofs.lemmas.List.Filters.{dedup_is}
use Rattle.std.proofs.lemmas.List.Kept.{IsStrictlySortedBy-dedup}
use Rattle.std.specs.List.{dedup}
use Rattle.std.specs.List.Sorted.{IsStrictlySortedBy}
use Rattle.std.specs.Ordering.{int_cmp, int_eq}
use Rattle.comms.proofs.colours.leave_once.Goals as goal

pub returns-clause-rising : goal.returns-clause-rising
returns-clause-rising c =
    let left : c.dedup.new.self.items ≡ dedup int_eq c.args.colours.now.items = dedup_is int_eq c.args.colours.now.items c.dedup.new.self.items c.dedup.ensures.filtered in
    let P : List ℤ → Type 0 = IsStrictlySortedBy int_cmp in
    subst P (sym left) (IsStrictlySortedBy-dedup int_cmp_total (λ x y. refl) c.args.colours.now.items c.requires)

pub returns-clause-left : goal.returns-clause-left
returns-clause-left c = dedup_is int_eq c.args.colours.now.items c.dedup.new.self.items c.dedup.ensures.filtered
