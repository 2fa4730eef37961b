use Rattle.std.proofs.Common.{rules, arith, ◌≡◌, ◌<◌, false, length, map, sym, ap, ◌∙◌, subst, All}
use Rattle.bench_lock.specs.Players.{player_at, IsReady, turns_of}
use Rattle.std.proofs.lemmas.Result.{IfOk-weaker}
use Rattle.turn_lock.specs.Seats.{AllIdle}
use Rattle.bench_lock.proofs.Played.{AllPlayed, written, all_ready, some_players, all_played, seats_idle, seats_own, if_ok_both}
use Rattle.bench_lock.proofs.players.played.Goals as goal

pub play_all-requires-after_bounds : goal.play_all-requires-after_bounds
play_all-requires-after_bounds g c κs within =
    let lock = c.args.lock.now in let ss = c.args.seats.items in
    let players : c.as_mut_slice.result.now ≡ map player_at ss = search rules in
    subst (λ (ps : _). (0 < length ps) × All (λ p. IsReady lock p) ps) (sym players)
    ((let n = some_players lock ss c.requires.1 in let m = c.requires.0 in omega arith), all_ready lock ss c.requires.1)

pub returns-clause-idle : goal.returns-clause-idle
returns-clause-idle g c =
    let lock = c.args.lock.now in let after = c.play_all.new.players in
    let players : c.as_mut_slice.result.now ≡ map player_at c.args.seats.items = search rules in
    let all : AllPlayed lock c.args.turns after = all_played lock c.args.turns c.args.seats.items c.as_mut_slice.result.now after c.requires.1 players (search rules) c.play_all.ensures in
    IfOk-weaker c.seats_of.result _ (λ v. AllIdle lock v.items)
    (λ v is. subst (λ (l : _). AllIdle lock l) (sym (is ∙ ap (map (λ p. p.seat)) (written after _ _ (search rules)))) (seats_idle lock c.args.turns after all)) c.seats_of.ensures.seats

pub returns-clause-own : goal.returns-clause-own
returns-clause-own g c =
    let lock = c.args.lock.now in let turns = c.args.turns in let after = c.play_all.new.players in
    let players : c.as_mut_slice.result.now ≡ map player_at c.args.seats.items = search rules in
    let all : AllPlayed lock turns after = all_played lock turns c.args.seats.items c.as_mut_slice.result.now after c.requires.1 players (search rules) c.play_all.ensures in
    if_ok_both c.seats_of.result _ _ (λ v. All (λ s. s.own ≡ turns_of s.number turns) v.items)
    (λ v is ample. subst (λ (l : _). All (λ s. s.own ≡ turns_of s.number turns) l) (sym (is ∙ ap (map (λ p. p.seat)) (written after _ _ (search rules))))
    (seats_own lock turns after all (subst (λ (l : _). All (λ p. p.is_short ≡ false) l) (written after _ _ (search rules)) ample))) c.seats_of.ensures.seats c.seats_of.ensures.ample
