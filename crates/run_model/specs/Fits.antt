-- What the test of a reply's shape answers.
use Rattle.std.specs.Prelude.{Bool, true, false}
use Rattle.run_model.specs.declared.shape.Fit.{Fit}
use Rattle.run_model.specs.declared.shape.Fit.TheVariants.{Fits, Misfits}

-- a truth value as the answer
abbrev pub fit_of : Bool → Fit
fit_of true = Fits
fit_of false = Misfits
