-- The changes of a variable, call by call.
use Rattle.std.proofs.Common.{◌≡◌, ◌∙◌, ◌+◌, ◌≤◌, ◌++◌, ◌∷◌, ℕ, suc, ℤ, List, [], Option, None, ap, append_assoc, arith, false, flat_map, length, length-append, refl, sym, take, true}
use Rattle.std.proofs.Math.Seq.{take-append_seam}
use Rattle.std.proofs.lemmas.List.{append-nil}
use Rattle.mpi_call.specs.declared.call.Call.{Call}
use Rattle.mpi_call.specs.declared.reply.Reply.{Reply}
use Rattle.run_model.specs.Lists.{world}
use Rattle.run_model.specs.Program.{Standing}
use Rattle.run_model.specs.Views.{Next, View}
use Rattle.replay_views.specs.declared.changes.Change.{Change}
use Rattle.replay_views.specs.inside.Got.{HasGot}
use Rattle.replay_views.specs.Watching.{Values, Variables, change_at, change_between, changes_of, values_after, values_at, values_before}
use Rattle.replay_views.proofs.GivenLemmas.{got_asked, got_more, got_none, parts_more}

-- the values of a variable of a rank, by the replies that it got
abbrev pub values_in : {P : Type 0} → (P → Next) → (P → Variables) → List ℕ → Standing P → Values
values_in next variables name standing = values_after (next standing.program) (variables standing.program) standing.ranks standing.rank name

-- the changes so far: the rank got the replies of the calls before this number, and these calls are left
pub record WatchedSoFar {P : Type 0} (next : P → Next) (variables : P → Variables) (name : List ℕ) (first : Standing P) (view left : View) (number : ℕ) (last : Option (List ℤ)) (changes : List Change) (now : Standing P) : Type 0 where
  pub before : View
  pub parts : before ++ left ≡ view
  pub count : number ≡ length before
  pub got : HasGot first.program first.ranks first.rank before now
  pub last_is : last ≡ values_before (values_in next variables name first) view number
  pub changes_are :
      changes ++ flat_map (change_at (values_in next variables name first) view) (world (length left + 1) number) ≡ changes_of (values_in next variables name first) view

-- the calls before a number
pub calls_before : (before left view : View) (number : ℕ) → before ++ left ≡ view → number ≡ length before → take number view ≡ before
calls_before before left view number parts count =
    ap (λ (k : ℕ). take k view) count ∙ ap (λ (v : View). take (length before) v) (sym parts) ∙ take-append_seam before left

-- what stands now stands before the call
now_is : {P : Type 0} (next : P → Next) (variables : P → Variables) (name : List ℕ) (first : Standing P) (view before : View) (number : ℕ) (now : Standing P)
    → HasGot first.program first.ranks first.rank before now → take number view ≡ before
    → values_in next variables name now now.replies ≡ values_at (values_in next variables name first) view number
now_is next variables name first view before number now got front = rw (got.same_program, got.ranks, got.rank_is, got.replies_are, front) refl

-- the values before the next call
before_next : (values : Values) (view : View) (number more : ℕ) → more ≡ number + 1 → values_before values view more ≡ values_at values view number
before_next values view number more is =
    let next : more ≡ suc number = omega (arith, is) in
    ap (values_before values view) next

one_more_number : (j k number more : ℕ) → j ≡ suc k → more ≡ number + 1 → world j number ≡ number ∷ world k more
one_more_number j k number more is more_is = ap (λ (i : ℕ). world i number) is ∙ ap (λ (m : ℕ). number ∷ world k m) (sym more_is)

-- the change that is seen before a call
seen_change : (values : Values) (view : View) (number : ℕ) (last now : Option (List ℤ)) → last ≡ values_before values view number
    → now ≡ values_at values view number → change_between number last now ≡ change_at values view number
seen_change values view number last now last_is is =
    ap (λ (o : Option (List ℤ)). change_between number o now) last_is ∙ ap (change_between number (values_before values view number)) is

pub watched_more : {P : Type 0} (next : P → Next) (variables : P → Variables) (name : List ℕ) (first : Standing P) (view left : View) (call : Call) (reply : Reply) (number more : ℕ) (last last' : Option (List ℤ)) (changes changes' : List Change) (now asked after : Standing P)
    → WatchedSoFar next variables name first view ((call, reply) ∷ left) number last changes now → asked ≡ record now { asked = true }
    → after ≡ record asked { replies = asked.replies ++ reply ∷ []; asked = false } → last' ≡ values_in next variables name now now.replies
    → changes' ≡ changes ++ change_between number last (values_in next variables name now now.replies) → more ≡ number + 1
    → WatchedSoFar next variables name first view left more last' changes' after
watched_more next variables name first view left call reply number more last last' changes changes' now asked after so_far is_asked is_after last_is changes_is more_is =
    let values : Values = values_in next variables name first in
    let here = now_is next variables name first view so_far.before number now so_far.got
    (calls_before so_far.before ((call, reply) ∷ left) view number so_far.parts so_far.count) in
    let same = seen_change values view number last (values_in next variables name now now.replies) so_far.last_is here in
    let length_is = length-append so_far.before ((call, reply) ∷ []) in
    let count_is = so_far.count in
    let longer : length ((call, reply) ∷ left) + 1 ≡ suc (length left + 1) = omega arith in
    record {
      before = so_far.before ++ (call, reply) ∷ [];
      parts = parts_more so_far.before left view call reply so_far.parts;
      count = omega (arith, length_is, count_is, more_is);
      got = got_more first.program first.ranks first.rank so_far.before call reply asked after (got_asked first.program first.ranks first.rank so_far.before now asked so_far.got is_asked) is_after;
      last_is = last_is ∙ here ∙ sym (before_next values view number more more_is);
      changes_are =
          ap (λ (l : List Change). l ++ flat_map (change_at values view) (world (length left + 1) more)) (changes_is ∙ ap (λ (l : List Change). changes ++ l) same)
          ∙ append_assoc changes (change_at values view number) (flat_map (change_at values view) (world (length left + 1) more))
          ∙ ap (λ (l : List ℕ). changes ++ flat_map (change_at values view) l) (sym (one_more_number (length ((call, reply) ∷ left) + 1) (length left + 1) number more longer more_is))
          ∙ so_far.changes_are;
    }

-- after the last call
pub watched_all : {P : Type 0} (next : P → Next) (variables : P → Variables) (name : List ℕ) (first : Standing P) (view : View) (number : ℕ) (last : Option (List ℤ)) (changes changes' : List Change) (now : Standing P)
    → WatchedSoFar next variables name first view [] number last changes now
    → changes' ≡ changes ++ change_between number last (values_in next variables name now now.replies)
    → changes' ≡ changes_of (values_in next variables name first) view
watched_all next variables name first view number last changes changes' now so_far changes_is =
    let values : Values = values_in next variables name first in
    let here = now_is next variables name first view so_far.before number now so_far.got (calls_before so_far.before [] view number so_far.parts so_far.count) in
    let same = seen_change values view number last (values_in next variables name now now.replies) so_far.last_is here in
    changes_is
    ∙ ap (λ (l : List Change). changes ++ l) (same ∙ sym (append-nil (change_at values view number)))
    ∙ so_far.changes_are

pub watched_none : {P : Type 0} (next : P → Next) (variables : P → Variables) (name : List ℕ) (first : Standing P) (view : View) (changes : List Change)
    → first.replies ≡ [] → changes ≡ [] → WatchedSoFar next variables name first view view 0 None changes first
watched_none next variables name first view changes fresh none = record {
  before = [];
  parts = refl;
  count = refl;
  got = got_none first fresh;
  last_is = refl;
  changes_are = rw none refl;
}

-- there is room for one number more
pub room : {P : Type 0} (next : P → Next) (variables : P → Variables) (name : List ℕ) (first : Standing P) (view left : View) (number : ℕ) (last : Option (List ℤ)) (changes : List Change) (now : Standing P)
    → WatchedSoFar next variables name first view left number last changes now → number + length left ≤ length view
room next variables name first view left number last changes now so_far =
    let all = ap length so_far.parts in
    let length_is = length-append so_far.before left in
    let count_is = so_far.count in
    omega (arith, all, length_is, count_is)
