-- A rank that got the replies of a view.
use Rattle.std.specs.Prelude.{◌≡◌, ℕ}
use Rattle.run_model.specs.Program.{Standing}
use Rattle.run_model.specs.Views.{View, replies_in}

-- it is this rank of the program, and has got the replies of what it has seen
pub record HasGot {P : Type 0} (program : P) (n rank : ℕ) (view : View) (standing : Standing P) : Type 0 where
  pub same_program : standing.program ≡ program
  pub ranks : standing.ranks ≡ n
  pub rank_is : standing.rank ≡ rank
  pub replies_are : standing.replies ≡ replies_in view
