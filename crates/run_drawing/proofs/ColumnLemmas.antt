-- Columns rise along causes.
use Rattle.std.proofs.Common.{◌≡◌, ◌<◌, ℕ, zero, suc, List, Some, true, false, inl, inr, refl, ap, sym, ◌∙◌, arith, get_or, length, slice_get}
use Rattle.run_model.specs.declared.event.Event.{Event}
use Rattle.run_model.specs.Due.{stops}
use Rattle.run_model.proofs.Views.{test_cases}
use Rattle.causes.specs.Before.{IsBefore, PrecedesDirectly}
use Rattle.causes.specs.Before.IsBefore.{step, path}
use Rattle.causes.proofs.Deciding.{below_some}
use Rattle.causes.proofs.Paths.{before-less, before-within, step-less, step-within}
use Rattle.run_drawing.specs.Basis.{Basis}
use Rattle.run_drawing.specs.Columns.{behind_all, behind_first, column, column_behind, column_by}
use Rattle.run_drawing.specs.Depths.{AreDepths}
use Rattle.run_drawing.specs.Depths.IsChain.{longer}
use Rattle.run_drawing.specs.Laws.{ColumnsRise}
use Rattle.run_drawing.proofs.DepthLemmas.{equal_or_less}

-- a step goes deeper
step_deeper : (n : ℕ) (events : List Event) (depths : List ℕ) (t u : ℕ) → AreDepths n events depths → PrecedesDirectly n events t u → get_or depths t 0 < get_or depths u 0
step_deeper n events depths t u are is =
    let less = step-less n events t u is in
    let within = step-within n events t u is in
    let chain = longer (get_or depths t 0) t u (are.each t (omega (arith, less, within))).chain is in
    let longest = (are.each u within).longest (suc (get_or depths t 0)) chain in
    omega (arith, longest)

pub before_deeper : (n : ℕ) (events : List Event) (depths : List ℕ) (t u : ℕ) → AreDepths n events depths → IsBefore n events t u → get_or depths t 0 < get_or depths u 0
before_deeper n events depths _ _ are (step t u is) = step_deeper n events depths t u are is
before_deeper n events depths _ _ are (path s t u first is) =
    let one = before_deeper n events depths s t are first in
    let other = step_deeper n events depths t u are is in
    omega (arith, one, other)

-- what stops its rank stands behind the others
pub going_behind : (events : List Event) (depths : List ℕ) (p k : ℕ) (event : Event) → slice_get events p ≡ Some event → stops event.reply ≡ false → p < k
    → get_or depths p 0 < behind_first events depths k
going_behind events depths p zero event there going low = absurd (omega (arith, low))
going_behind events depths p (suc k) event there going low = elim (equal_or_less p k (omega (arith, low))) [
  | inl e ↦ (
      let here : slice_get events k ≡ Some event = ap (slice_get events) (sym e) ∙ there in
      let value : column_behind (slice_get events k) (get_or depths k 0) ≡ suc (get_or depths k 0) = ap (λ o. column_behind o (get_or depths k 0)) here ∙ rw going refl in
      let same = ap (λ q. get_or depths q 0) e in
      omega (arith, value, same))
  | inr less ↦ (let rest = going_behind events depths p k event there going less in omega (arith, rest))
]

going_column : (basis : Basis) (p : ℕ) (event : Event) → slice_get basis.events p ≡ Some event → stops event.reply ≡ false → column basis p ≡ get_or basis.depths p 0
going_column basis p event there going =
    ap (column_by (behind_all basis.events basis.depths) (get_or basis.depths p 0)) there ∙ rw going refl

stopped_column : (basis : Basis) (p : ℕ) (event : Event) → slice_get basis.events p ≡ Some event → stops event.reply ≡ true → column basis p ≡ behind_all basis.events basis.depths
stopped_column basis p event there stopped =
    ap (column_by (behind_all basis.events basis.depths) (get_or basis.depths p 0)) there ∙ rw stopped refl

pub columns_rise : ColumnsRise
columns_rise basis t u event are there going before =
    let n : ℕ = basis.ranks in
    let events : List Event = basis.events in
    let within = before-within n events t u before in
    let less = before-less n events t u before in
    let later = below_some events u within in
    let left = going_column basis t event there going in
    elim (test_cases (stops (later.0).reply)) [
      | inl stopped ↦ (
          let right = stopped_column basis u later.0 later.1 stopped in
          let low = going_behind events basis.depths t (length events) event there going (omega (arith, less, within)) in
          omega (arith, left, right, low))
      | inr goes ↦ (
          let right = going_column basis u later.0 later.1 goes in
          let deeper = before_deeper n events basis.depths t u are before in
          omega (arith, left, right, deeper))
    ]
