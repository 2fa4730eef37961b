-- What a history leaves to its future: what each rank has seen, which starts are paired, and which communicators were made.
use Rattle.std.specs.Prelude.{◌≡◌, ℕ, List, Option, Some, None}
use Rattle.run_model.specs.declared.event.Event.{Event}
use Rattle.run_model.specs.Views.{view_of}
use Rattle.run_model.specs.Pairs.{Name, name_at, pairs_of, partner_of}
use Rattle.run_model.specs.Numbers.{communicators_of}

-- two histories leave the same
pub record SameFuture (n : ℕ) (one other : List Event) : Type 0 where
  pub views : (rank : ℕ) → view_of one rank ≡ view_of other rank
  pub pairs : (name : Name) → partner_of (pairs_of one) name ≡ partner_of (pairs_of other) name
  pub made : communicators_of n one ≡ communicators_of n other

-- the start that a mate names
abbrev pub mate_name : List Event → Option ℕ → Option Name
mate_name before None = None
mate_name before (Some at) = name_at before at

-- two events, each after its history, are the same but for where their mates stand: these name the same start
pub record SameEvent (one other : List Event) (first second : Event) : Type 0 where
  pub rank : first.rank ≡ second.rank
  pub call : first.call ≡ second.call
  pub reply : first.reply ≡ second.reply
  pub mate : mate_name one first.mate ≡ mate_name other second.mate
  pub met : first.met ≡ second.met
