use Rattle.std.proofs.Common.{subst, ap, ℕ, Ok, Err}
use Rattle.image.specs.Drafts.{plan_of}
use Rattle.std.proofs.lemmas.Result.{err_from_is_err_and}
use Rattle.project.proofs.Firstly.{first-order, first-sink, first-loose, first-severed, first-instant, lawful, idle-loose, unfed-loose, cleared-same}
use Rattle.project.proofs.Few.{few}
use Rattle.project.proofs.Delays.{instant-is}
use Rattle.line.specs.Rules.{Instant}
use Rattle.line.specs.Plan.{Plan}
use Rattle.project.specs.Flawed.{Cleared}
use Rattle.project.specs.Tables.{InstantBy}
use Rattle.fault.specs.declared.GraphCause.TheVariants.{ZeroLoop}
use Rattle.fault.specs.declared.Fault.{Fault}
use Rattle.project.proofs.records.Records.check.Goals as goal

pub returns-in_err-check_order : goal.returns-in_err-check_order
returns-in_err-check_order c =
    let p = plan_of c.args.self.now.draft.now in
    let e = err_from_is_err_and c.from_residual.result c.from_residual.ensures.1 in
    let w = c.in_err-check_order.ensures in
    rw (e.1, e.2, w.1) (first-order p w.0 (w.2, w.3))

pub returns-in_err-check_sinks : goal.returns-in_err-check_sinks
returns-in_err-check_sinks c =
    let p = plan_of c.args.self.now.draft.now in
    let e = err_from_is_err_and c.from_residual-in_err-check_sinks.result c.from_residual-in_err-check_sinks.ensures.1 in
    let w = c.in_err-check_sinks.ensures in
    rw (e.1, e.2, w.1) (first-sink p c.in_ok-check_order.ensures w.0 (w.2, w.3))

pub returns-in_err-check_sensors : goal.returns-in_err-check_sensors
returns-in_err-check_sensors c =
    let p = plan_of c.args.self.now.draft.now in
    let e = err_from_is_err_and c.from_residual-in_err-check_sensors.result c.from_residual-in_err-check_sensors.ensures.1 in
    let w = idle-loose p c.requires.sized.few_sensors c.in_err-check_sensors.field-0.0 c.in_err-check_sensors.ensures in
    rw (e.1, e.2, w.1) (first-loose p c.in_ok-check_order.ensures c.in_ok-check_sinks.ensures w.0 (w.2, w.3))

pub returns-in_err-check_actuators : goal.returns-in_err-check_actuators
returns-in_err-check_actuators c =
    let p = plan_of c.args.self.now.draft.now in
    let e = err_from_is_err_and c.from_residual-in_err-check_actuators.result c.from_residual-in_err-check_actuators.ensures.1 in
    let w = unfed-loose p (Err c.in_err-check_actuators.field-0.0) c.in_ok-check_sensors.ensures c.in_err-check_actuators.ensures in
    rw (e.1, e.2, w.1) (first-loose p c.in_ok-check_order.ensures c.in_ok-check_sinks.ensures w.0 (w.2, w.3))

pub returns-in_err-check_reach : goal.returns-in_err-check_reach
returns-in_err-check_reach c =
    let p = plan_of c.args.self.now.draft.now in
    let e = err_from_is_err_and c.from_residual-in_err-check_reach.result c.from_residual-in_err-check_reach.ensures.1 in
    let w = c.in_err-check_reach.ensures in
    rw (e.1, e.2, w.1) (first-severed p c.in_ok-check_order.ensures c.in_ok-check_sinks.ensures (unfed-loose p (Ok tt) c.in_ok-check_sensors.ensures c.in_ok-check_actuators.ensures) w.0 (w.2, w.3))

pub returns-in_err-check_loops : goal.returns-in_err-check_loops
returns-in_err-check_loops c =
    let p = plan_of c.args.self.now.draft.now in
    let e = err_from_is_err_and c.from_residual-in_err-check_loops.result c.from_residual-in_err-check_loops.ensures.1 in
    let same = instant-is p (few c.args.self.now.draft.now) c.distances-distances.result.table c.distances-distances.ensures.far in
    let f : ℕ → Fault = λ k. Fault.Graph ZeroLoop k in
    let t = c.distances-distances.result.table in
    let by_table = subst (λ (q : Plan). Cleared (InstantBy q t) f (Err c.in_err-check_loops.field-0.0)) (ap (λ d. plan_of d.now) c.distances-distances.ensures.draft) c.in_err-check_loops.ensures in
    let w = cleared-same (InstantBy p t) (Instant p) f (Err c.in_err-check_loops.field-0.0) same by_table in
    rw (e.1, e.2, w.1) (first-instant p c.in_ok-check_order.ensures c.in_ok-check_sinks.ensures (unfed-loose p (Ok tt) c.in_ok-check_sensors.ensures c.in_ok-check_actuators.ensures) c.in_ok-check_reach.ensures w.0 (w.2, w.3))

pub returns : goal.returns
returns c =
    let p = plan_of c.args.self.now.draft.now in
    let t = c.distances-distances.result.table in
    let same = instant-is p (few c.args.self.now.draft.now) t c.distances-distances.ensures.far in
    let none = subst (λ (q : Plan). (k : ℕ) → InstantBy q t k → ⊥) (ap (λ d. plan_of d.now) c.distances-distances.ensures.draft) c.in_ok-check_loops.ensures in (
      c.distances-distances.ensures.draft,
      lawful p c.requires.sized c.args.self.now.ranged c.in_ok-check_order.ensures c.in_ok-check_sinks.ensures
          (unfed-loose p (Ok tt) c.in_ok-check_sensors.ensures c.in_ok-check_actuators.ensures) c.in_ok-check_reach.ensures (λ k h. none k ((same k).1 h)),
      c.distances-distances.ensures.far,
    )
