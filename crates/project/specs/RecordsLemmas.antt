-- That the fields of a draft are in range has one proof at most.
use Rattle.std.proofs.Props.{props}
use Rattle.line.specs.Plan.{Plan}
use Rattle.line.specs.Rules.{Begins, Ends}
use Rattle.line.specs.declared.parts.Source.{Source}
use Rattle.line.specs.declared.parts.Source.TheVariants.{Sensor, Outlet}
use Rattle.line.specs.declared.parts.Sink.{Sink}
use Rattle.line.specs.declared.parts.Sink.TheVariants.{Inlet, Actuator}

pub begins-prop : (p : Plan) (x : Source) → IsProp (Begins p x)
begins-prop p (Sensor s) = hlevel props
begins-prop p (Outlet a o) = hlevel props

pub ends-prop : (p : Plan) (y : Sink) → IsProp (Ends p y)
ends-prop p (Inlet a i) = hlevel props
ends-prop p (Actuator q) = hlevel props
