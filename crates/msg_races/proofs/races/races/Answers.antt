use Rattle.std.proofs.Common.{◌≡◌, ◌<◌, ◌∙◌, ◌++◌, Err, List, ap, arith, subst, sym}
use Rattle.std.proofs.lemmas.Result.{err_from_is_err_and}
use Rattle.msg_races.specs.declared.fault.RaceFault.TheVariants.{TooMany}
use Rattle.msg_races.specs.declared.receives.WildcardReceive.{WildcardReceive}
use Rattle.msg_races.specs.Listing.{receives_below, receives_of}
use Rattle.msg_races.specs.Names.{count_racing, most_racing}
use Rattle.msg_races.specs.Races.{AreRaces}
use Rattle.msg_races.proofs.Early.{joined_is_early}
use Rattle.msg_races.proofs.Received.{races_of}
use Rattle.msg_races.proofs.races.races.Goals as goal

pub returns-in_err-add_rank-clause-many : goal.returns-in_err-add_rank-clause-many
returns-in_err-add_rank-clause-many c = λ too_many.
    let p = err_from_is_err_and c.from_residual-in_err-add_rank.result c.from_residual-in_err-add_rank.ensures.1 in
    let out = sym p.1 ∙ too_many in
    let fault : p.0 ≡ TooMany = cc in
    let e : c.in_err-add_rank.field-0.0 ≡ TooMany = sym p.2 ∙ fault in
    let seen = c.in_ok-seen.seen.causes in
    let are = races_of seen c.args.n c.args.history.now.events c.in_ok-seen.ensures.ranks (c.in_ok-seen.ensures.events ∙ c.as_slice.ensures.events) c.tells.ensures c.requires.ranks in
    let F : List WildcardReceive → Type 0 = λ l. most_racing < count_racing (l ++ receives_of seen c.loop-rank.rank) in
    let above = subst F c.loop-rank.invariant (c.in_err-add_rank.ensures.many (ap Err e)) in
    (receives_below seen c.args.n, are, joined_is_early seen c.loop-rank.rank c.args.n most_racing c.loop-rank-test.true above)

pub returns-clause-races : goal.returns-clause-races
returns-clause-races c =
    let seen = c.in_ok-seen.seen.causes in
    let are = races_of seen c.args.n c.args.history.now.events c.in_ok-seen.ensures.ranks (c.in_ok-seen.ensures.events ∙ c.as_slice.ensures.events) c.tells.ensures c.requires.ranks in
    let last : c.loop-rank.rank ≡ c.args.n = omega arith in
    let is = c.into_receives.ensures.receives ∙ c.loop-rank.invariant ∙ ap (receives_below seen) last in
    let P : List WildcardReceive → Type 0 = λ l. AreRaces c.args.n c.args.history.now.events l in
    subst P (sym is) are
