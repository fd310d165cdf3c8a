-- The project that a new drawing begins with: one sensor, one pass and one actuator in a row.
use Rattle.std.specs.Prelude.{[], ◌∷◌, pos}
use Rattle.line.specs.Plan.{Plan}
use Rattle.line.specs.declared.parts.Kind.TheVariants.{Pass}
use Rattle.line.specs.declared.parts.Source.TheVariants.{Sensor, Outlet}
use Rattle.line.specs.declared.parts.Sink.TheVariants.{Inlet, Actuator}

abbrev pub fresh_plan : Plan
fresh_plan = record {
  sensors = 0 ∷ [];
  actors = record { kind = Pass; parameter = pos 0; delay = 1 } ∷ [];
  actuators = 1;
  channels = record { source = Sensor 0; sink = Inlet 0 0 } ∷ record { source = Outlet 0 0; sink = Actuator 0 } ∷ [];
}
