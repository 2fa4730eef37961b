-- What a drawing has.
use Rattle.std.specs.Prelude.{ℕ, List}
use Rattle.run_drawing.specs.declared.drawing.Arrow.{Arrow}
use Rattle.run_drawing.specs.declared.drawing.DrawnCollective.{DrawnCollective}
use Rattle.run_drawing.specs.declared.drawing.DrawnMark.{DrawnMark}
use Rattle.run_drawing.specs.declared.drawing.DrawnReceive.{DrawnReceive}
use Rattle.run_drawing.specs.declared.drawing.Unreceived.{Unreceived}

-- a lane for each rank, by the number of its group; how many columns; by rank and call its marks, its receives, its collectives, the probes that found a message, and the Sends
-- whose messages nobody took
pub record Drawn : Type 0 where
  pub groups : List ℕ
  pub columns : ℕ
  pub marks : List DrawnMark
  pub receives : List DrawnReceive
  pub collectives : List DrawnCollective
  pub probes : List Arrow
  pub unreceived : List Unreceived
