-- A rank that is given its replies once more.
use Rattle.std.proofs.Common.{◌≡◌, ◌∙◌, ◌<◌, ◌++◌, ◌∷◌, ℕ, suc, List, [], ap, append_assoc, arith, false, length, map, refl, subst, sym, true}
use Rattle.std.proofs.lemmas.List.{map-append}
use Rattle.std.specs.Borrow.{Bor}
use Rattle.mpi_call.specs.declared.call.Call.{Call}
use Rattle.mpi_call.specs.declared.reply.Reply.{Reply}
use Rattle.run_model.specs.declared.event.Event.{Event}
use Rattle.run_model.specs.Program.{IsNextSeen, IsViewOf, MayGive, Standing}
use Rattle.run_model.specs.Views.{Next, View}
use Rattle.run_model.proofs.Along.{Along-back, Along-front}
use Rattle.replay_views.specs.inside.Got.{HasGot}

-- what the events that are lent show
abbrev pub seen_in : List (Bor Event) → View
seen_in events = map (λ event. (event.now.call, event.now.reply)) events

pub seen_length : (events : List (Bor Event)) → length (seen_in events) ≡ length events
seen_length [] = refl
seen_length (event ∷ events) = ap suc (seen_length events)

pub map_none : {A B : Type 0} (f : A → B) (xs : List A) → length xs < 1 → map f xs ≡ []
map_none f [] none = refl
map_none f (x ∷ xs) none = absurd (omega (arith, none))

-- a rank before its first call
pub got_none : {P : Type 0} (standing : Standing P) → standing.replies ≡ [] → HasGot standing.program standing.ranks standing.rank [] standing
got_none standing fresh = record { same_program = refl; ranks = refl; rank_is = refl; replies_are = fresh }

-- the next reply may be given
pub may_give : {P : Type 0} (next : P → Next) (program : P) (n rank : ℕ) (before left view : View) (call : Call) (reply : Reply) (standing : Standing P)
    → IsViewOf (next program) n rank view → before ++ (call, reply) ∷ left ≡ view → HasGot program n rank before standing
    → MayGive (next standing.program) standing.ranks standing.rank standing.replies reply
may_give next program n rank before left view call reply standing came parts got =
    let F : View → Type 0 = λ v. IsViewOf (next program) n rank v in
    let whole : IsViewOf (next program) n rank (before ++ (call, reply) ∷ left) = subst F (sym parts) came in
    let front = Along-front (IsNextSeen (next program) n rank) [] before ((call, reply) ∷ left) whole in
    let back = Along-back (IsNextSeen (next program) n rank) [] before ((call, reply) ∷ left) whole in
    record {
      view = before;
      call = call;
      replies_are = sym got.replies_are;
      came = rw (got.same_program, got.ranks, got.rank_is) front;
      asked = rw (got.same_program, got.ranks, got.rank_is, got.replies_are) back.0.asked;
      shaped = rw (got.ranks, got.rank_is) back.0.shaped;
    }

-- a rank whose next call was handed out
pub got_asked : {P : Type 0} (program : P) (n rank : ℕ) (view : View) (before after : Standing P) → HasGot program n rank view before
    → after ≡ record before { asked = true } → HasGot program n rank view after
got_asked program n rank view before after got is =
    rw is (record { same_program = got.same_program; ranks = got.ranks; rank_is = got.rank_is; replies_are = got.replies_are })

-- and one that was given its reply
pub got_more : {P : Type 0} (program : P) (n rank : ℕ) (view : View) (call : Call) (reply : Reply) (before after : Standing P)
    → HasGot program n rank view before → after ≡ record before { replies = before.replies ++ reply ∷ []; asked = false }
    → HasGot program n rank (view ++ (call, reply) ∷ []) after
got_more program n rank view call reply before after got is =
    rw is (record {
      same_program = got.same_program;
      ranks = got.ranks;
      rank_is = got.rank_is;
      replies_are = rw (got.replies_are) (sym (map-append _ view ((call, reply) ∷ [])));
    })

pub parts_more : (before left view : View) (call : Call) (reply : Reply) → before ++ (call, reply) ∷ left ≡ view
    → (before ++ (call, reply) ∷ []) ++ left ≡ view
parts_more before left view call reply parts = append_assoc before ((call, reply) ∷ []) left ∙ parts
